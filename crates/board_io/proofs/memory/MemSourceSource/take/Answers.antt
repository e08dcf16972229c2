use Rattle.std.proofs.Common.{rules, ◌≡◌, ◌+◌, ◌≤◌, ◌∙◌, sym, ap, ℕ, List, ◌++◌, length, length-append, length-take, take, drop, arith}
use Rattle.byte_log.specs.Calls.{Call, bytes_in}
use Rattle.std.proofs.lemmas.Grind.{common_steps}
use Rattle.std.proofs.lemmas.List.{drop_all}
use Rattle.board_io.specs.Memory.{Supply}
use Rattle.board_io.proofs.Pieces.{left_behind}
use Rattle.board_io.proofs.memory.MemSourceSource.take.Goals as goal

pub returns-clause-taken : goal.returns-clause-taken
returns-clause-taken c =
    let bytes : List ℕ = c.self.inside.bytes.items in
    let at : ℕ = c.self.inside.taken in
    let n : ℕ = c.min-n.result in
    let within : at + n ≤ length bytes = omega (arith, c.self.inside.bytes.ok.0) in
    let copied : c.copy_from_slice.new.self ≡ take n (drop at bytes) = grind (arith, common_steps) in
    let left : drop at bytes ≡ c.args.self.now.left = ap (λ (s : Supply). s.left) c.self.view_is in
    let buffer : List ℕ = c.copy_from_slice.new.self ++ drop n c.args.into.now in
    let log : length (bytes_in c.self.inside.log.calls) ≡ length (bytes_in c.args.self.now.log) = ap (λ (s : Supply). length (bytes_in s.log)) c.self.view_is in
    let grown : length (bytes_in c.add.new.self.calls) ≡ length (bytes_in c.self.inside.log.calls) + n =
    ap (λ (calls : List Call). length (bytes_in calls)) c.add.ensures ∙ length-append (bytes_in c.self.inside.log.calls) (take n buffer)
    ∙ omega (arith, length-take n buffer) in record {
      bound = search rules;
      bytes = (
        sym left ∙ left_behind bytes c.copy_from_slice.new.self (drop n c.args.into.now) at n within copied,
        λ none room. drop_all (at + n) bytes (omega (arith, c.self.inside.bytes.ok.0)),
      );
      read = search rules;
      ends = search rules;
      given = grown ∙ ap (λ (k : ℕ). k + n) log;
      before = search rules;
      done = search rules;
      late = search rules;
      limit = omega (arith, grown);
      spent = search rules;
      counted = search rules;
      well = search rules;
      failed = search rules;
    }
