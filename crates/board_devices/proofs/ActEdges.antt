-- The edges of the accesses, by the lines that they move.
use Rattle.std.proofs.Common.{◌≡◌, ℕ, zero, suc, Bool, true, false, cond, eqb, ◌&&◌, ◌||◌, not, List, [], ◌∷◌, ◌++◌, length, get_or, refl, ap, sym, ◌∙◌, arith}
use Rattle.std.proofs.Math.Bool.{or-true}
use Rattle.irq_edges.specs.declared.edges.Edge.{Edge}
use Rattle.irq_edges.specs.Lines.{change, changes, line_numbers}
use Rattle.irq_edges.proofs.EdgesOf.{changes-same}
use Rattle.pit_counter.specs.Table.{has_risen}
use Rattle.pit_readback.specs.Pit.{counter_of}
use Rattle.pit_readback.specs.Ports.{port_written}
use Rattle.pit_readback.specs.declared.parts.PitParts.{PitParts}
use Rattle.rtc_registers.specs.declared.parts.RtcParts.{RtcParts}
use Rattle.rtc_registers.specs.Registers.{pf_of, irqf_of}
use Rattle.rtc_registers.specs.Access.{after_rtc_read, rtc_written, flagged}
use Rattle.hpet_registers.specs.Parts.{is_legacy}
use Rattle.tick_policy.specs.declared.parts.TickParts.{TickParts}
use Rattle.tick_policy.specs.Line.{goes_again}
use Rattle.tick_policy.specs.Stretch.{ticked_where}
use Rattle.board_devices.specs.declared.parts.DeviceParts.{DeviceParts}
use Rattle.board_devices.specs.declared.act.Act.{Act}
use Rattle.board_devices.specs.declared.act.Act.TheVariants.{PitRead, PitWrite, IndexWrite, ClockRead, ClockWrite, HpetRead}
use Rattle.board_devices.specs.Places.{each, line_at, no_line, ticked_at}
use Rattle.board_devices.specs.Lines.{output_of, levels}
use Rattle.board_devices.specs.Act.{acted, first_part, act_edges, pit_ticked, ticks_on_write, reads_c, acked_where, down_where, rtc_set}
use Rattle.board_devices.specs.Nanosecond.{counts_rtc}
use Rattle.board_devices.proofs.Places.{each-at, each-none}
use Rattle.board_devices.proofs.Masks.{ticked_none}
use Rattle.board_devices.proofs.Fronts.{SameTimers, back, levels-parts, levels-front, changes-first, changes-clock, no_second}
use Rattle.rtc_registers.proofs.Flags.{after_rtc_read-other}

-- where both parts have the levels of before there is no edge
pub none-of : (t : ℕ) (a : Act) (d : DeviceParts) → levels (first_part a d) ≡ levels d → levels (acted a d) ≡ levels d → act_edges t a d ≡ []
none-of t a d first whole =
    ap (λ (bs : List Bool). changes t line_numbers (levels d) bs ++ changes t line_numbers bs (levels (acted a d))) first
    ∙ ap (λ (bs : List Bool). changes t line_numbers (levels d) (levels d) ++ changes t line_numbers (levels d) bs) whole
    ∙ ap (λ (es : List Edge). es ++ es) (changes-same t line_numbers (levels d))

-- accesses that move no line
pub edges-pit_read : (t port : ℕ) (d : DeviceParts) → act_edges t (PitRead port) d ≡ []
unfolding acted first_part levels
edges-pit_read t port d = none-of t (PitRead port) d refl refl

pub edges-index_write : (t byte : ℕ) (d : DeviceParts) → act_edges t (IndexWrite byte) d ≡ []
unfolding acted first_part levels
edges-index_write t byte d = none-of t (IndexWrite byte) d refl refl

pub edges-hpet_read : (t offset width : ℕ) (d : DeviceParts) → act_edges t (HpetRead offset width) d ≡ []
unfolding acted first_part
edges-hpet_read t offset width d = none-of t (HpetRead offset width) d refl refl

-- a read of the clock at another index
no-mask : (b : Bool) (op : Bool → TickParts → TickParts) → ((l : TickParts) → op false l ≡ l) → (d : DeviceParts) → eqb d.rtc.index 12 ≡ false
    → each (λ k l. op (reads_c d k) l) 0 d.ticks ≡ d.ticks
no-mask b op none d other = each-none (λ k l. op (reads_c d k) l) place 0 d.ticks
  where
    place : (k : ℕ) (l : TickParts) → op (reads_c d k) l ≡ l
    place zero l = none l
    place (suc zero) l = ap (λ (x : Bool). op (x && counts_rtc d) l) other ∙ none l
    place (suc (suc k)) l = none l

pub acted-other : (d : DeviceParts) → eqb d.rtc.index 12 ≡ false → acted ClockRead d ≡ d
unfolding acted
acted-other d other =
    ap (λ (b : Bool). record d {
      rtc = cond ((b && counts_rtc d) && goes_again (line_at 1 d)) (flagged (after_rtc_read d.rtc))
          (after_rtc_read d.rtc);
      ticks = each (λ k l. acked_where (reads_c d k) l) 0 d.ticks;
    }) other
    ∙ ap (λ (r : RtcParts). record d { rtc = r; ticks = each (λ k l. acked_where (reads_c d k) l) 0 d.ticks }) (after_rtc_read-other d.rtc other)
    ∙ ap (λ (ls : List TickParts). record d { ticks = ls }) (no-mask true acked_where (λ l. refl) d other)

first_part-other : (d : DeviceParts) → eqb d.rtc.index 12 ≡ false → first_part ClockRead d ≡ d
unfolding first_part
first_part-other d other =
    ap (λ (r : RtcParts). record d { rtc = r; ticks = each (λ k l. down_where (reads_c d k) l) 0 d.ticks }) (after_rtc_read-other d.rtc other)
    ∙ ap (λ (ls : List TickParts). record d { ticks = ls }) (no-mask true down_where (λ l. refl) d other)

pub edges-clock_other : (t : ℕ) (d : DeviceParts) → eqb d.rtc.index 12 ≡ false → act_edges t ClockRead d ≡ []
edges-clock_other t d other = none-of t ClockRead d (ap levels (first_part-other d other)) (ap levels (acted-other d other))

-- a read of register C
same-timers : (f : ℕ → TickParts → TickParts) → ((k : ℕ) (l : TickParts) → f (suc (suc k)) l ≡ l) → (d : DeviceParts) → SameTimers (each f 0 d.ticks) d
same-timers f same d k = place 0 d.ticks k
  where
    from : (i : ℕ) (ls : List TickParts) (k : ℕ) → get_or (each f (suc (suc i)) ls) k no_line ≡ get_or ls k no_line
    from i [] k = refl
    from i (l ∷ ls) zero = same i l
    from i (l ∷ ls) (suc k) = from (suc i) ls k

    place : (i : ℕ) (ls : List TickParts) (k : ℕ) → get_or (each f 0 ls) (suc (suc k)) no_line ≡ get_or ls (suc (suc k)) no_line
    place i [] k = refl
    place i (l ∷ []) k = refl
    place i (l ∷ m ∷ ls) k = from 0 ls k

same-first : (f : ℕ → TickParts → TickParts) → ((l : TickParts) → (f 0 l).up ≡ l.up) → (ls : List TickParts) → (get_or (each f 0 ls) 0 no_line).up
    ≡ (get_or ls 0 no_line).up
same-first f same [] = refl
same-first f same (l ∷ ls) = same l

-- IRQF, where legacy replacement doesn't hide it
abbrev pub shown : DeviceParts → RtcParts → Bool
shown d r = not (is_legacy d.hpet) && irqf_of r

pub edges-clock_read : (t : ℕ) (d : DeviceParts) → act_edges t ClockRead d
    ≡ change t 8 (shown d d.rtc) (shown d (after_rtc_read d.rtc))
    ++ change t 8 (shown d (after_rtc_read d.rtc))
    (shown d (cond (reads_c d 1 && goes_again (line_at 1 d)) (flagged (after_rtc_read d.rtc)) (after_rtc_read d.rtc)))
unfolding acted first_part
edges-clock_read t d =
    let down : List TickParts = each (λ k l. down_where (reads_c d k) l) 0 d.ticks in
    let again : List TickParts = each (λ k l. acked_where (reads_c d k) l) 0 d.ticks in
    let r : RtcParts = cond (reads_c d 1 && goes_again (line_at 1 d)) (flagged (after_rtc_read d.rtc)) (after_rtc_read d.rtc) in
    ap (λ (es : List Edge). es ++ changes t line_numbers (levels (record d { rtc = after_rtc_read d.rtc; ticks = down }))
    (levels (record d { rtc = r; ticks = again })))
    (changes-clock t d d.rtc (after_rtc_read d.rtc) d.ticks down (λ k. refl) (same-timers (λ k l. down_where (reads_c d k) l) (λ k l. refl) d)
    (sym (same-first (λ k l. down_where (reads_c d k) l) (λ l. refl) d.ticks)))
    ∙ ap (λ (es : List Edge). change t 8 (shown d d.rtc) (shown d (after_rtc_read d.rtc)) ++ es)
    (changes-clock t d (after_rtc_read d.rtc) r down again (same-timers (λ k l. down_where (reads_c d k) l) (λ k l. refl) d)
    (same-timers (λ k l. acked_where (reads_c d k) l) (λ k l. refl) d)
    (same-first (λ k l. down_where (reads_c d k) l) (λ l. refl) d.ticks ∙ sym (same-first (λ k l. acked_where (reads_c d k) l) (λ l. refl) d.ticks)))

-- a write of the clock
pub edges-clock_write : (t byte : ℕ) (d : DeviceParts) → act_edges t (ClockWrite byte) d ≡ change t 8 (shown d d.rtc) (shown d (rtc_written byte d.rtc))
unfolding acted first_part
edges-clock_write t byte d =
    let f : ℕ → TickParts → TickParts = rtc_set (counts_rtc (record d { rtc = rtc_written byte d.rtc }) && pf_of (rtc_written byte d.rtc)) in
    no_second t (changes t line_numbers (levels d) (levels (acted (ClockWrite byte) d))) (levels (acted (ClockWrite byte) d))
    ∙ changes-clock t d d.rtc (rtc_written byte d.rtc) d.ticks (each f 0 d.ticks) (λ k. refl) (same-timers f (λ k l. refl) d)
    (sym (same-first f (λ l. refl) d.ticks))

-- a write of the 8254
pub edges-pit_write : (t port byte : ℕ) (d : DeviceParts) → length d.ticks ≡ 10 → act_edges t (PitWrite port byte) d
    ≡ change t 0 (line_at 0 d).up ((line_at 0 d).up || ticks_on_write port byte d)
unfolding acted first_part
edges-pit_write t port byte d long =
    no_second t (changes t line_numbers (levels d) (levels (acted (PitWrite port byte) d))) (levels (acted (PitWrite port byte) d))
    ∙ by_tick (has_risen (counter_of d.pit 0) (counter_of (port_written port byte d.pit) 0)) (is_legacy d.hpet) refl
  where
    or-false : (a : Bool) → change t 0 a (a || false) ≡ []
    or-false true = refl
    or-false false = refl

    p : PitParts
    p = port_written port byte d.pit

    same_levels : levels (record d { pit = p; ticks = d.ticks }) ≡ levels d
    same_levels = levels-front d p d.rtc d.ticks (λ k. refl) ∙ sym (levels-parts d)

    quiet : changes t line_numbers (levels d) (levels (record d { pit = p; ticks = ticked_at (pit_ticked false) d.ticks }))
        ≡ change t 0 (line_at 0 d).up ((line_at 0 d).up || false)
    quiet =
        ap (λ (ks : List TickParts). changes t line_numbers (levels d) (levels (record d { pit = p; ticks = ks }))) (sym (ticked_none d.ticks))
        ∙ ap (changes t line_numbers (levels d)) same_levels
        ∙ changes-same t line_numbers (levels d) ∙ sym (or-false (line_at 0 d).up)

    up : (get_or (each (λ k l. ticked_where (pit_ticked true k) l) 0 d.ticks) 0 no_line).up ≡ true
    up = ap (λ (l : TickParts). l.up) (each-at (λ k l. ticked_where (pit_ticked true k) l) 0 0 d.ticks no_line (omega (arith, long)))

    rises : is_legacy d.hpet ≡ false → changes t line_numbers (levels d) (levels (record d { pit = p; ticks = ticked_at (pit_ticked true) d.ticks }))
        ≡ change t 0 (line_at 0 d).up ((line_at 0 d).up || true)
    rises plain =
        ap (λ (bs : List Bool). changes t line_numbers bs (levels (record d { pit = p; ticks = ticked_at (pit_ticked true) d.ticks }))) (levels-parts d)
        ∙ ap (changes t line_numbers (cond (is_legacy d.hpet) (output_of 0 d) (line_at 0 d).up ∷ cond (is_legacy d.hpet) (output_of 1 d) (irqf_of d.rtc)
        ∷ back d)) (levels-front d p d.rtc (ticked_at (pit_ticked true) d.ticks) (same-timers (λ k l. ticked_where (pit_ticked true k) l) (λ k l. refl) d))
        ∙ changes-first t (cond (is_legacy d.hpet) (output_of 0 d) (line_at 0 d).up) (cond (is_legacy d.hpet) (output_of 1 d) (irqf_of d.rtc))
        (cond (is_legacy d.hpet) (output_of 0 d) (get_or (ticked_at (pit_ticked true) d.ticks) 0 no_line).up) d
        ∙ ap (λ (l : Bool). change t 0 (cond l (output_of 0 d) (line_at 0 d).up)
        (cond l (output_of 0 d) (get_or (ticked_at (pit_ticked true) d.ticks) 0 no_line).up)) plain
        ∙ ap (change t 0 (line_at 0 d).up) (up ∙ sym (or-true (line_at 0 d).up))

    by_tick : (rose legacy : Bool) → is_legacy d.hpet ≡ legacy
        → changes t line_numbers (levels d) (levels (record d { pit = p; ticks = ticked_at (pit_ticked (rose && not legacy)) d.ticks }))
        ≡ change t 0 (line_at 0 d).up ((line_at 0 d).up || (rose && not legacy))
    by_tick true true e = quiet
    by_tick true false e = rises e
    by_tick false legacy e = quiet
