use Rattle.save_state.proofs.Names.{◌≡◌, ◌+◌, ◌≤◌, length, drop, row_fault, rows_size}
use Rattle.save_state.proofs.table.check_rows.Given as goal

abbrev pub invariant-loop-r : goal.invariant-loop-r
invariant-loop-r l = record {
  bytes : l.fields.bytes.now ≡ l.initial.fields.bytes.now;
  there : l.fields.place ≤ length l.fields.bytes.now;
  same : row_fault l.initial.fields.bytes.now l.initial.fields.place l.rows ≡ row_fault l.fields.bytes.now l.fields.place (drop l.r-index l.rows);
  size : l.initial.fields.place + rows_size l.rows ≡ l.fields.place + rows_size (drop l.r-index l.rows);
}
