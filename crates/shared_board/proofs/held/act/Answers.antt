use Rattle.std.proofs.Common.{◌≡◌, IsTrue, refl, ap, sym, ◌∙◌, subst, arith}
use Rattle.board_types.specs.Legal.{is_legal}
use Rattle.board_types.specs.declared.parts.BoardParts.{BoardParts}
use Rattle.board_core.specs.Access.{after_access}
use Rattle.board_core.specs.Pages.{with_greatest}
use Rattle.board_history.specs.Machine.{Machine, machine_of}
use Rattle.board_history.specs.History.{board_after}
use Rattle.board_history.proofs.Pages.{machine_of-access}
use Rattle.shared_board.specs.private.Seats.{AreAlike}
use Rattle.shared_board.proofs.Seats.{alike_machine, alike_reply, alike_after, alike_told, alike_refusal}
use Rattle.shared_board.proofs.held.act.Goals as goal

pub make-requires-clause-machine : goal.make-requires-clause-machine
make-requires-clause-machine g c =
    ap machine_of c.in-Ok.ensures.state ∙ (machine_of-access c.args.board.now c.args.call.asked.cpu c.args.call.asked.h c.args.call.asked.access ∙ c.requires.machine)

pub make-requires-clause-applied : goal.make-requires-clause-applied
make-requires-clause-applied g c =
    let b = c.args.board.now in
    let d : BoardParts = board_after c.args.seat.now.seen in
    let a = c.args.call.asked in
    let same : machine_of d ≡ machine_of g.N.Name.state = sym (alike_machine b d c.requires.alike) ∙ c.requires.machine in
    record {
      answered = record {
        cpu_below = (let e = ap (λ (m : Machine). m.cpus) same in let l = c.requires.cpu in omega arith);
        legal = subst (λ (m : Machine). IsTrue (is_legal m.cpus m.format a.access)) (sym same) c.requires.legal;
        taken = sym (alike_refusal b d a.cpu a.h a.access c.requires.alike) ∙ c.in-Ok.ensures.taken;
        reply = sym (alike_reply b d a.cpu a.h a.access c.requires.alike) ∙ sym c.in-Ok.ensures.reply;
      };
      after = ap (λ x. with_greatest x 0) c.in-Ok.ensures.state ∙ alike_after b d a.cpu a.h a.access c.requires.alike;
    }

pub returns-in-Ok-clause-ok : goal.returns-in-Ok-clause-ok
returns-in-Ok-clause-ok g c =
    let b = c.args.board.now in
    let d : BoardParts = board_after c.args.seat.now.seen in
    let a = c.args.call.asked in
    let after : AreAlike c.answer.new.self (after_access d a.cpu a.h a.access) =
    ap (λ x. with_greatest x 0) c.in-Ok.ensures.state ∙ alike_after b d a.cpu a.h a.access c.requires.alike in
    record {
      told = c.make.ensures;
      alike = alike_told c.args.call c.answer.new.reply c.answer.new.self c.args.seat.now c.make.new.seat after c.make.ensures;
    }

pub returns-in-Ok-clause-machine : goal.returns-in-Ok-clause-machine
returns-in-Ok-clause-machine g c =
    ap machine_of c.in-Ok.ensures.state ∙ machine_of-access c.args.board.now c.args.call.asked.cpu c.args.call.asked.h c.args.call.asked.access

pub returns-in-Err-clause-err : goal.returns-in-Err-clause-err
returns-in-Err-clause-err g c =
    let a = c.args.call.asked in record {
      refusal = sym (alike_refusal c.args.board.now (board_after c.args.seat.now.seen) a.cpu a.h a.access c.requires.alike) ∙ c.in-Err.ensures.refused;
      seat = refl;
      board = c.in-Err.ensures.unchanged;
    }
