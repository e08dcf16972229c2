use Rattle.std.proofs.Common.{rules, ◌≡◌, ℕ, Bool, true, ◌&&◌, ◌==◌, not, cond, List, get_or, ◌++◌, append_assoc, ap, sym, refl, ◌∙◌, subst, zero, suc, arith}
use Rattle.std.proofs.lemmas.Bool.{eq-eqb}
use Rattle.irq_edges.specs.declared.edges.Edge.{Edge}
use Rattle.irq_edges.specs.Lines.{change}
use Rattle.rtc_registers.specs.declared.parts.RtcParts.{RtcParts}
use Rattle.rtc_registers.specs.Registers.{pf_of, irqf_of}
use Rattle.rtc_registers.specs.Parts.{IsRtc}
use Rattle.rtc_registers.specs.Access.{after_rtc_read, flagged}
use Rattle.hpet_registers.specs.Parts.{is_legacy}
use Rattle.tick_policy.specs.declared.parts.TickParts.{TickParts}
use Rattle.tick_policy.specs.Line.{goes_again}
use Rattle.board_devices.specs.declared.parts.DeviceParts.{DeviceParts}
use Rattle.board_devices.specs.declared.act.Act.TheVariants.{ClockRead}
use Rattle.board_devices.specs.Places.{each, line_at, no_line}
use Rattle.board_devices.specs.Nanosecond.{counts_rtc}
use Rattle.board_devices.specs.Act.{reads_c, acked_where, acted, act_edges}
use Rattle.board_devices.specs.private.Stretch.{flagged_where, clock_place}
use Rattle.board_devices.specs.View.{parts_of}
use Rattle.board_devices.proofs.Places.{each-at, each-same}
use Rattle.board_devices.proofs.Product.{counts-by}
use Rattle.board_devices.proofs.Masks.{due-acked}
use Rattle.board_devices.proofs.Keeps.{IsDevices-each, KeepsLines-acked}
use Rattle.board_devices.proofs.ActEdges.{edges-clock_read, shown}
use Rattle.board_devices.proofs.ClockReads.{flag-read, register_b-read}
use Rattle.board_devices.proofs.devices.Devices.read_flags.Goals as goal

valid : (c : goal.After-push_change-2) → IsRtc c.self.inside.rtc
valid c = subst IsRtc (ap (λ (d : DeviceParts). d.rtc) (sym c.self.view_is)) c.requires.valid

index : (c : goal.After-push_change-2) → (c.self.inside.rtc.index == 12) ≡ true
index c = eq-eqb c.self.inside.rtc.index 12 (ap (λ (d : DeviceParts). d.rtc.index) c.self.view_is ∙ c.requires.index)

reads : (c : goal.After-push_change-2) → c.counts_rtc-counts.result ≡ reads_c (parts_of c.self.inside) 1
reads c = rw (c.counts_rtc-counts.ensures, c.pie.ensures, c.legacy-legacy.ensures) (ap (λ (b : Bool). b && counts_rtc (parts_of c.self.inside)) (sym (index c)))

lines : (c : goal.After-push_change-2) → c.ack_clock_line.new.ticks ≡ each (λ k l. acked_where (reads_c (parts_of c.self.inside) k) l) 0 c.self.inside.ticks
lines c =
    c.ack_clock_line.ensures
    ∙ ap (λ (b : Bool). each (λ k l. acked_where (clock_place b k) l) 0 c.self.inside.ticks) (reads c)
    ∙ each-same (λ k l. acked_where (clock_place (reads_c (parts_of c.self.inside) 1) k) l) (λ k l. acked_where (reads_c (parts_of c.self.inside) k) l)
    (same (parts_of c.self.inside)) 0 c.self.inside.ticks
  where
    same : (d : DeviceParts) (k : ℕ) (l : TickParts) → acked_where (clock_place (reads_c d 1) k) l ≡ acked_where (reads_c d k) l
    same d zero l = refl
    same d (suc zero) l = refl
    same d (suc (suc k)) l = refl

rtc_is : (c : goal.After-push_change-2) → c.set_flag.new.rtc
    ≡ flagged_where (reads_c (parts_of c.self.inside) 1 && goes_again (line_at 1 (parts_of c.self.inside))) (after_rtc_read c.self.inside.rtc)
rtc_is c =
    c.set_flag.ensures
    ∙ ap (λ (r : RtcParts). flagged_where c.again_where-again.result r) c.read-byte.ensures.state
    ∙ ap (λ (b : Bool). flagged_where b (after_rtc_read c.self.inside.rtc))
    (c.again_where-again.ensures ∙ ap (λ (b : Bool). b && goes_again (line_at 1 (parts_of c.self.inside))) (reads c))

pub invariant_of-self : goal.invariant_of-self
invariant_of-self c =
    let d : DeviceParts = parts_of c.self.inside in
    let g : Bool = reads_c d 1 && goes_again (line_at 1 d) in
    let line : get_or c.ack_clock_line.new.ticks 1 no_line
    ≡ acked_where (reads_c d 1) (line_at 1 d) = ap (λ (ls : List TickParts). get_or ls 1 no_line) (lines c)
    ∙ each-at (λ k l. acked_where (reads_c d k) l) 0 1 d.ticks no_line (omega (arith, c.self.invariant.places)) in
    IsDevices-each d d.pit c.set_flag.new.rtc d.hpet c.ack_clock_line.new.ticks (λ k l. acked_where (reads_c d k) l) c.self.invariant (lines c)
    (KeepsLines-acked (reads_c d) d.hpet.timers) refl
    (ap (λ (l : TickParts). l.up) line
    ∙ flag-read d.rtc (counts_rtc d) (line_at 1 d) (valid c) c.self.invariant.flag
    ∙ ap (λ (b : Bool). b && pf_of (flagged_where g (after_rtc_read d.rtc)))
    (sym (counts-by (flagged_where g (after_rtc_read d.rtc)) d.rtc d.hpet d.hpet (register_b-read g d.rtc (valid c)) refl))
    ∙ ap (λ (r : RtcParts). counts_rtc (record d { rtc = r }) && pf_of r) (sym (rtc_is c)))

before : (c : goal.After-push_change-2) → c.where_plain-before.result ≡ shown (parts_of c.self.inside) c.self.inside.rtc
before c = rw (c.where_plain-before.ensures, c.legacy-legacy.ensures, c.irqf.ensures) refl

middle : (c : goal.After-push_change-2) → c.where_plain-middle.result ≡ shown (parts_of c.self.inside) (after_rtc_read c.self.inside.rtc)
middle c = rw (c.where_plain-middle.ensures, c.legacy-legacy.ensures, c.irqf-2.ensures)
    (ap (λ (r : RtcParts). not (is_legacy c.self.inside.hpet) && irqf_of r) c.read-byte.ensures.state)

after : (c : goal.After-push_change-2) → c.where_plain-after.result
    ≡ shown (parts_of c.self.inside)
    (cond (reads_c (parts_of c.self.inside) 1 && goes_again (line_at 1 (parts_of c.self.inside))) (flagged (after_rtc_read c.self.inside.rtc))
    (after_rtc_read c.self.inside.rtc))
unfolding flagged_where
after c = rw (c.where_plain-after.ensures, c.legacy-legacy.ensures, c.irqf-3.ensures)
    (ap (λ (r : RtcParts). not (is_legacy c.self.inside.hpet) && irqf_of r) (rtc_is c))

pub returns : goal.returns
unfolding acted flagged_where
returns c = record {
  state = ap (λ (r : RtcParts). record (parts_of c.self.inside) { rtc = r; ticks = c.ack_clock_line.new.ticks }) (rtc_is c)
      ∙ ap (λ (ls : List TickParts). record
      (parts_of c.self.inside) {
        rtc = flagged_where (reads_c (parts_of c.self.inside) 1 && goes_again (line_at 1 (parts_of c.self.inside)))
            (after_rtc_read c.self.inside.rtc);
        ticks = ls;
      }) (lines c)
      ∙ ap (acted ClockRead) c.self.view_is;
  value = search rules;
  edges = c.push_change-2.ensures.appended
      ∙ ap (λ (es : List Edge). es ++ change c.args.at 8 c.where_plain-middle.result c.where_plain-after.result) c.push_change.ensures.appended
      ∙ append_assoc c.args.edges.now (change c.args.at 8 c.where_plain-before.result c.where_plain-middle.result)
      (change c.args.at 8 c.where_plain-middle.result c.where_plain-after.result)
      ∙ ap (λ (es : List Edge). c.args.edges.now ++ es) (
      ap (λ (b : Bool). change c.args.at 8 b c.where_plain-middle.result ++ change c.args.at 8 c.where_plain-middle.result c.where_plain-after.result)
      (before c)
      ∙ ap (λ (b : Bool). change c.args.at 8 (shown (parts_of c.self.inside) c.self.inside.rtc) b ++ change c.args.at 8 b c.where_plain-after.result) (middle c)
      ∙ ap (λ (b : Bool). change c.args.at 8 (shown (parts_of c.self.inside) c.self.inside.rtc)
      (shown (parts_of c.self.inside) (after_rtc_read c.self.inside.rtc))
      ++ change c.args.at 8 (shown (parts_of c.self.inside) (after_rtc_read c.self.inside.rtc)) b) (after c)
      ∙ sym (edges-clock_read c.args.at (parts_of c.self.inside)))
      ∙ ap (λ (x : DeviceParts). c.args.edges.now ++ act_edges c.args.at ClockRead x) c.self.view_is;
  few = search rules;
  due = λ k less. rw (← c.self.view_is)
      (due-acked (reads_c (parts_of c.self.inside)) c.self.inside.ticks c.ack_clock_line.new.ticks c.self.invariant.places (lines c) k less);
}
