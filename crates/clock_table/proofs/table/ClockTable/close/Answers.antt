use Rattle.std.proofs.Common.{refl, ◌∙◌, subst, arith}
use Rattle.std.specs.Slots.{slots_items}
use Rattle.board_types.specs.declared.parts.BoardParts.{BoardParts}
use Rattle.clock_table.specs.declared.view.View.{View}
use Rattle.clock_table.specs.Ends.{IsWhole}
use Rattle.clock_table.specs.private.Laid.{Closing}
use Rattle.clock_table.proofs.EndSteps.{closes, at_word}
use Rattle.clock_table.proofs.table.ClockTable.close.Given as given
use Rattle.clock_table.proofs.table.ClockTable.close.Goals as goal

ended : (g : given.Over) (c : goal.After-free g) → Closing g.N.Name.state c.args.seat (slots_items c.close_with-words.result.words)
ended g c =
    let w : IsWhole g.N.Name.passes c.seat.inside.seat.me.0 = rw c.seat.view_is c.requires in
    subst (λ (z : BoardParts × View). Closing z.0 z.1 (slots_items c.close_with-words.result.words)) (λ i. (c.args.self.opened i, c.seat.view_is i))
    (closes c.args.self.table.shared.key c.seat.inside.seat.id g.N.Name.passes c.seat.inside.seat.me.0 (slots_items c.close_with-words.result.words)
    (slots_items c.close_with-words.result.slots) w c.seat.invariant.2 c.seat.invariant.3 c.close_with-words.ensures.values.2)

pub returns : goal.returns
returns g c =
    let k = ended g c in
    let ws = slots_items c.close_with-words.result.words in
    let w = c.args.self.sized in
    let n = c.word_count-count.ensures in
    let m = c.requires.made in
    record {
      legal = (k.legal, k.opened);
      front = at_word ws 0 0 c.word-front.result refl c.word-front.ensures ∙ k.front;
      greatest = at_word ws 16 16 c.word-greatest.result refl c.word-greatest.ensures ∙ k.greatest;
      pages = λ cpu l small. c.pages_of-pages.ensures.pages cpu (omega arith) small ∙ k.page cpu (omega arith);
      no_pages = λ cpu l. c.pages_of-pages.ensures.no_pages cpu (omega arith);
      ended = k.ended;
      numbers = λ i l. k.numbers i (omega arith);
    }
