use Rattle.std.proofs.Common.{◌≡◌, ℕ, ◌%◌, List, Option, Some, None, sym, subst, arith}
use Rattle.clock_table.specs.declared.view.View.{View}
use Rattle.clock_table.specs.Calls.{IsPass}
use Rattle.shared_board.proofs.Fields.{noted, even_read, noted_1, noted_2, noted_3, noted_4, is_reading, may_end}
use Rattle.race_tests.proofs.shared_board_tests.words.read_round_an_update.Goals as goal

-- the seat of a pass that was given up
pass : {n : ℕ} {v : View} → v.number ≡ Some n → v.meet ≡ None → IsPass v
pass number meet = record { number = (_, number); meet = meet }

-- a pass is one while it reads
reading_pass : (c n : ℕ) (fields : List (Option ℕ)) (v u : View) → u ≡ noted c n fields v → IsPass v → IsPass u
reading_pass c n fields v u is p = subst IsPass (sym is) (record { number = p.number; meet = p.meet })

pub first-first-requires-clause-pass : goal.first-first-requires-clause-pass
first-first-requires-clause-pass g c = pass c.into_seat-seat.ensures.number c.into_seat-seat.ensures.meet

pub field-requires-clause-pass : goal.field-requires-clause-pass
field-requires-clause-pass g c =
    let even : c.first-first.result % 2 ≡ 0 = omega (arith, c.if-first-ne0.false) in
    reading_pass 0 c.first-first.result _ c.into_seat-seat.result c.first-first.new.seat
    (even_read 0 c.first-first.result c.into_seat-seat.result c.first-first.new.seat even c.first-first.ensures.view)
    (pass c.into_seat-seat.ensures.number c.into_seat-seat.ensures.meet)

pub field-requires-clause-read : goal.field-requires-clause-read
field-requires-clause-read g c =
    let even : c.first-first.result % 2 ≡ 0 = omega (arith, c.if-first-ne0.false) in
    is_reading 0 c.first-first.result _ c.into_seat-seat.result c.first-first.new.seat
    (even_read 0 c.first-first.result c.into_seat-seat.result c.first-first.new.seat even c.first-first.ensures.view)

pub field-requires-2-clause-pass : goal.field-requires-2-clause-pass
field-requires-2-clause-pass g c =
    let even : c.first-first.result % 2 ≡ 0 = omega (arith, c.if-first-ne0.false) in
    reading_pass 0 c.first-first.result _ c.into_seat-seat.result c.field.new.seat
    (noted_1 0 c.first-first.result c.field.result c.into_seat-seat.result c.first-first.new.seat c.field.new.seat even c.first-first.ensures.view
    c.field.ensures)
    (pass c.into_seat-seat.ensures.number c.into_seat-seat.ensures.meet)

pub field-requires-2-clause-read : goal.field-requires-2-clause-read
field-requires-2-clause-read g c =
    let even : c.first-first.result % 2 ≡ 0 = omega (arith, c.if-first-ne0.false) in
    is_reading 0 c.first-first.result _ c.into_seat-seat.result c.field.new.seat
    (noted_1 0 c.first-first.result c.field.result c.into_seat-seat.result c.first-first.new.seat c.field.new.seat even c.first-first.ensures.view
    c.field.ensures)

pub field-requires-3-clause-pass : goal.field-requires-3-clause-pass
field-requires-3-clause-pass g c =
    let even : c.first-first.result % 2 ≡ 0 = omega (arith, c.if-first-ne0.false) in
    reading_pass 0 c.first-first.result _ c.into_seat-seat.result c.field-2.new.seat
    (noted_2 0 c.first-first.result c.field.result c.field-2.result c.into_seat-seat.result c.first-first.new.seat c.field.new.seat c.field-2.new.seat
    even c.first-first.ensures.view c.field.ensures c.field-2.ensures)
    (pass c.into_seat-seat.ensures.number c.into_seat-seat.ensures.meet)

pub field-requires-3-clause-read : goal.field-requires-3-clause-read
field-requires-3-clause-read g c =
    let even : c.first-first.result % 2 ≡ 0 = omega (arith, c.if-first-ne0.false) in
    is_reading 0 c.first-first.result _ c.into_seat-seat.result c.field-2.new.seat
    (noted_2 0 c.first-first.result c.field.result c.field-2.result c.into_seat-seat.result c.first-first.new.seat c.field.new.seat c.field-2.new.seat
    even c.first-first.ensures.view c.field.ensures c.field-2.ensures)

pub field-requires-4-clause-pass : goal.field-requires-4-clause-pass
field-requires-4-clause-pass g c =
    let even : c.first-first.result % 2 ≡ 0 = omega (arith, c.if-first-ne0.false) in
    reading_pass 0 c.first-first.result _ c.into_seat-seat.result c.field-3.new.seat
    (noted_3 0 c.first-first.result c.field.result c.field-2.result c.field-3.result c.into_seat-seat.result c.first-first.new.seat c.field.new.seat
    c.field-2.new.seat c.field-3.new.seat even c.first-first.ensures.view c.field.ensures c.field-2.ensures c.field-3.ensures)
    (pass c.into_seat-seat.ensures.number c.into_seat-seat.ensures.meet)

pub field-requires-4-clause-read : goal.field-requires-4-clause-read
field-requires-4-clause-read g c =
    let even : c.first-first.result % 2 ≡ 0 = omega (arith, c.if-first-ne0.false) in
    is_reading 0 c.first-first.result _ c.into_seat-seat.result c.field-3.new.seat
    (noted_3 0 c.first-first.result c.field.result c.field-2.result c.field-3.result c.into_seat-seat.result c.first-first.new.seat c.field.new.seat
    c.field-2.new.seat c.field-3.new.seat even c.first-first.ensures.view c.field.ensures c.field-2.ensures c.field-3.ensures)

pub second-second-requires : goal.second-second-requires
second-second-requires g c =
    let even : c.first-first.result % 2 ≡ 0 = omega (arith, c.if-first-ne0.false) in
    may_end g.N.Name.state.cpus 0 c.first-first.result c.field.result c.field-2.result c.field-3.result c.field-4.result c.into_seat-seat.result
    c.field-4.new.seat
    (noted_4 0 c.first-first.result c.field.result c.field-2.result c.field-3.result c.field-4.result c.into_seat-seat.result c.first-first.new.seat
    c.field.new.seat c.field-2.new.seat c.field-3.new.seat c.field-4.new.seat even c.first-first.ensures.view c.field.ensures c.field-2.ensures
    c.field-3.ensures c.field-4.ensures) (omega arith) (pass c.into_seat-seat.ensures.number c.into_seat-seat.ensures.meet)
