use Rattle.std.proofs.Common.{ap, sym, ◌∙◌, subst}
use Rattle.pvclock_page.specs.declared.page.Page.{Page}
use Rattle.clock_table.specs.declared.view.View.{View}
use Rattle.clock_table.specs.Words.{field_at}
use Rattle.clock_table.specs.Steps.{put_in, Extends}
use Rattle.clock_table.specs.Calls.{HasOpen, HasPut, MayClose, entry_of}
use Rattle.shared_board.proofs.Fields.{put_all, put_four, open_1, open_2, open_3, open_4, all_put, extends_from}
use Rattle.shared_board.proofs.pens.publish.Goals as goal

pub put-requires-clause-open : goal.put-requires-clause-open
put-requires-clause-open g c = subst (HasOpen c.args.index) (sym c.begin.ensures) (open_1 c.args.index c.args.seat.now)

pub put-requires-2-clause-open : goal.put-requires-2-clause-open
put-requires-2-clause-open g c =
    subst (HasOpen c.args.index) (sym (c.put.ensures ∙ ap (put_in 0 _) c.begin.ensures)) (open_2 c.args.index _ c.args.seat.now)

pub put-requires-3-clause-open : goal.put-requires-3-clause-open
put-requires-3-clause-open g c =
    subst (HasOpen c.args.index) (sym (c.put-2.ensures ∙ ap (put_in 1 _) (c.put.ensures ∙ ap (put_in 0 _) c.begin.ensures)))
    (open_3 c.args.index _ _ c.args.seat.now)

pub put-requires-4-clause-open : goal.put-requires-4-clause-open
put-requires-4-clause-open g c =
    subst (HasOpen c.args.index)
    (sym (c.put-3.ensures ∙ ap (put_in 2 _) (c.put-2.ensures ∙ ap (put_in 1 _) (c.put.ensures ∙ ap (put_in 0 _) c.begin.ensures))))
    (open_4 c.args.index _ _ _ c.args.seat.now)

pub finish-requires : goal.finish-requires
finish-requires g c =
    let p = c.table_page.result in
    let v = c.args.seat.now in
    let e = entry_of c.args.call.now c.args.reply.now in
    let same = put_four c.args.index c.page_words.result p c.args.seat.now c.begin.new.seat c.put.new.seat c.put-2.new.seat c.put-3.new.seat
    c.put-4.new.seat c.begin.ensures c.put.ensures c.put-2.ensures c.put-3.ensures c.put-4.ensures c.page_words.ensures.value in
    subst (MayClose g.N.Name.state.cpus c.args.index e) (sym same) (record {
      there = c.requires.index;
      pen = record { number = c.requires.pen.number; meet = c.requires.pen.meet; pen = c.requires.pen.pen };
      put = subst (λ (q : Page). HasPut c.args.index q (put_all c.args.index (field_at p 0) (field_at p 1) (field_at p 2) (field_at p 3) v))
          (c.table_page.ensures ∙ sym c.requires.page) (all_put c.args.index p v);
      publishes = c.requires.publishes;
      next = record { number = c.requires.next.number; legal = c.requires.next.legal };
    })

pub returns : goal.returns
returns g c =
    let p = c.table_page.result in
    let v = c.args.seat.now in
    extends_from c.args.index (field_at p 0) (field_at p 1) (field_at p 2) (field_at p 3) (entry_of c.args.call.now c.args.reply.now) v c.finish.new.seat
    (subst (λ (u : View). Extends (entry_of c.args.call.now c.args.reply.now) u c.finish.new.seat)
    (put_four c.args.index c.page_words.result p c.args.seat.now c.begin.new.seat c.put.new.seat c.put-2.new.seat c.put-3.new.seat
    c.put-4.new.seat c.begin.ensures c.put.ensures c.put-2.ensures c.put-3.ensures c.put-4.ensures c.page_words.ensures.value) c.finish.ensures)
