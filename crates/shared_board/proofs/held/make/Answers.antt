use Rattle.std.proofs.Common.{◌≡◌, ◌≤◌, ℕ, refl, ap, sym, ◌∙◌, subst, arith, Some}
use Rattle.board_types.specs.declared.parts.BoardParts.{BoardParts}
use Rattle.board_core.specs.Access.{after_access}
use Rattle.board_history.specs.Machine.{Machine, page_at, page_published}
use Rattle.board_history.specs.History.{board_after}
use Rattle.board_history.proofs.Laws.{board_after-snoc}
use Rattle.board_history.proofs.Pages.{machine_of-access}
use Rattle.clock_table.specs.Calls.{entry_of}
use Rattle.shared_board.proofs.Seats.{alike_machine, alike_page}
use Rattle.board_history.proofs.Pages.{taken_table}
use Rattle.shared_board.proofs.Tables.{applied_place}
use Rattle.shared_board.proofs.held.make.Given as given
use Rattle.shared_board.proofs.held.make.Goals as goal
use Rattle.shared_board.proofs.held.make.Goals.{In-Some}

published : (g : given.Over) (c : In-Some g)
    → page_published c.args.board.now.cpus c.args.call.asked.cpu c.args.call.asked.access ≡ Some c.in-Some.index
published g c = ap (λ (n : ℕ). page_published n c.args.call.asked.cpu c.args.call.asked.access) (sym c.cpus.ensures)
    ∙ (sym c.page_published.ensures ∙ c.in-Some.is)

-- the page is there
there : (g : given.Over) (c : In-Some g) → c.in-Some.index ≤ c.args.board.now.cpus
there g c = applied_place c.args.board.now.cpus c.args.board.now (board_after c.args.seat.now.seen) c.args.call.asked c.args.reply.now c.in-Some.index refl
    c.requires.applied (published g c)

pub publish-requires-clause-there : goal.publish-requires-clause-there
publish-requires-clause-there g c = there g (goal.at.publish-requires-clause-there g c).In-Some

pub publish-requires-clause-index : goal.publish-requires-clause-index
publish-requires-clause-index g c =
    let low = there g (goal.at.publish-requires-clause-index g c).In-Some in
    let same = ap (λ (m : Machine). m.cpus) c.requires.machine in
    omega arith

pub publish-requires-clause-room : goal.publish-requires-clause-room
publish-requires-clause-room g c =
    let a = c.args.call.asked in
    let d : BoardParts = board_after c.args.seat.now.seen in
    let same : c.args.board.now.cpus ≡ d.cpus =
    ap (λ (m : Machine). m.cpus) (alike_machine c.args.board.now (after_access d a.cpu a.h a.access) c.requires.applied.after
    ∙ machine_of-access d a.cpu a.h a.access) in
    let answered = c.requires.applied.answered in
    taken_table d a.cpu a.h c.in-Some.index a.access answered.cpu_below answered.legal answered.taken
    (subst (λ (n : ℕ). page_published n a.cpu a.access ≡ Some c.in-Some.index) same (published g (goal.at.publish-requires-clause-room g c).In-Some))

pub publish-requires-clause-page : goal.publish-requires-clause-page
publish-requires-clause-page g c =
    let a = c.args.call.asked in
    let d : BoardParts = board_after c.args.seat.now.seen in
    ap (λ (b : BoardParts). page_at b c.in-Some.index) (board_after-snoc c.args.seat.now.seen (entry_of c.args.call c.args.reply.now))
    ∙ sym (alike_page c.args.board.now (after_access d a.cpu a.h a.access) c.in-Some.index c.requires.applied.after)
