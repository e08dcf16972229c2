-- Deadlines in a span, by its two ends.
use Rattle.std.proofs.Common.{◌≡◌, ℕ, ◌+◌, ◌%◌, ◌^◌, ◌<◌, ◌≤◌, Bool, true, false, cond, List, length, get_or, refl, sym, ap, subst, ◌∙◌, arith}
use Rattle.std.proofs.lemmas.List.{get_or-map}
use Rattle.board_types.specs.declared.parts.ProcessorParts.{ProcessorParts}
use Rattle.tsc_scale.specs.declared.Tsc.{Tsc}
use Rattle.tsc_scale.specs.Tsc.{difference}
use Rattle.lapic_timer.specs.declared.parts.ApicParts.{ApicParts}
use Rattle.lapic_timer.specs.Parts.{mode_of, ticks_of}
use Rattle.lapic_timer.specs.Stretch.{nanoseconds}
use Rattle.lapic_timer.specs.Deadline.{is_reached, looked, count_at, guest_count_at}
use Rattle.lapic_timer.proofs.Waits.{tsc_at-offset, reached-ends, reached-far}
use Rattle.local_apics.specs.declared.span.Span.{Span}
use Rattle.local_apics.specs.Places.{no_tsc}
use Rattle.local_apics.specs.Nanosecond.{tscs_of, tsc_in}
use Rattle.local_apics.specs.private.Span.{IsSpan, ratio_in, length_of}
use Rattle.local_apics.specs.private.Stretch.{ticks_in}
use Rattle.local_apics.proofs.Ticks.{reached-none, reached-some, reached-is, looked-some, looked-quiet}

module _ (span : Span) (tsc : Tsc) (is : IsSpan span) where
  -- the TSC at a nanosecond
  abbrev pub tsc_then : ℕ → ℕ
  tsc_then = tsc_in span.clock tsc

  -- the TSC by the guest's count
  pub tsc-by_count : (count t : ℕ) → count ≡ guest_count_at span.clock.anchor (ratio_in span.clock) t → (count + tsc.offset) % 2 ^ 64 ≡ tsc_then t
  tsc-by_count count t e = ap (λ (x : ℕ). (x + tsc.offset) % 2 ^ 64) e ∙ tsc_at-offset tsc (count_at span.clock.anchor t) (ratio_in span.clock)

  -- reached in some nanosecond
  reached-in : (t : ℕ) (p : ApicParts) → mode_of p.lvt ≡ 2 → span.from < t → t ≤ span.to → is_reached p.deadline (tsc_then t) ≡ true
      → (nanoseconds tsc_then span.from (length_of span) p ≡ record p { deadline = 0 })
      × (ticks_in tsc_then span.from p (length_of span) ≡ ticks_of (record p { deadline = 0 }) 1)
  reached-in t p deadline after within reached =
      reached-some tsc_then span.from (length_of span) t p deadline after (omega (arith, within, is.run.order)) reached

  -- .. at the first, or at the last
  pub reached-first : (p : ApicParts) → mode_of p.lvt ≡ 2 → is_reached p.deadline (tsc_then (span.from + 1)) ≡ true
      → (nanoseconds tsc_then span.from (length_of span) p ≡ record p { deadline = 0 })
      × (ticks_in tsc_then span.from p (length_of span) ≡ ticks_of (record p { deadline = 0 }) 1)
  reached-first p deadline reached = reached-in (span.from + 1) p deadline (omega arith) (omega (arith, is.run.order)) reached

  pub reached-last : (p : ApicParts) → mode_of p.lvt ≡ 2 → is_reached p.deadline (tsc_then span.to) ≡ true
      → (nanoseconds tsc_then span.from (length_of span) p ≡ record p { deadline = 0 })
      × (ticks_in tsc_then span.from p (length_of span) ≡ ticks_of (record p { deadline = 0 }) 1)
  reached-last p deadline reached = reached-in span.to p deadline is.run.order (omega arith) reached

  -- .. or nowhere
  pub reached-nowhere : (p : ApicParts) → mode_of p.lvt ≡ 2 → is_reached p.deadline (tsc_then (span.from + 1)) ≡ false
      → is_reached p.deadline (tsc_then span.to) ≡ false
      → (nanoseconds tsc_then span.from (length_of span) p ≡ p) × (ticks_in tsc_then span.from p (length_of span) ≡ 0)
  reached-nowhere p deadline first last =
      reached-none tsc_then span.from (length_of span) p deadline (λ t after within.
      sym (reached-is span.clock.anchor (ratio_in span.clock) tsc p.deadline t)
      ∙ reached-ends span.clock.anchor span.clock.guest_khz tsc p.deadline span.from span.to t is.run.ranges.guest
      is.run.ranges.host is.run.anchored (omega (arith, is.run.ranges.in_range)) after
      (omega (arith, within, is.run.order))
      (reached-is span.clock.anchor (ratio_in span.clock) tsc p.deadline (span.from + 1) ∙ first)
      (reached-is span.clock.anchor (ratio_in span.clock) tsc p.deadline span.to ∙ last))

  -- .. as where it is far from that at the last of few
  pub reached-nowhere_far : (p : ApicParts) → mode_of p.lvt ≡ 2 → length_of span < 2 ^ 40 → 2 ^ 63 + 2 ^ 60 ≤ difference (tsc_then span.to) p.deadline
      → (nanoseconds tsc_then span.from (length_of span) p ≡ p) × (ticks_in tsc_then span.from p (length_of span) ≡ 0)
  reached-nowhere_far p deadline short far =
      reached-none tsc_then span.from (length_of span) p deadline (λ t after within.
      sym (reached-is span.clock.anchor (ratio_in span.clock) tsc p.deadline t)
      ∙ reached-far span.clock.anchor span.clock.guest_khz tsc p.deadline span.from span.to t is.run.ranges.guest is.run.ranges.host short after
      (omega (arith, within, is.run.order)) far)

  -- where the last doesn't, the first decides
  pub first-decides : (p : ApicParts) → mode_of p.lvt ≡ 2 → is_reached p.deadline (tsc_then span.to) ≡ false
      → (nanoseconds tsc_then span.from (length_of span) p ≡ looked (tsc_then (span.from + 1)) p)
      × (ticks_in tsc_then span.from p (length_of span)
      ≡ cond (is_reached p.deadline (tsc_then (span.from + 1))) (ticks_of (looked (tsc_then (span.from + 1)) p) 1) 0)
  first-decides p deadline last = by (is_reached p.deadline (tsc_then (span.from + 1))) refl
    where
      by : (b : Bool) → is_reached p.deadline (tsc_then (span.from + 1)) ≡ b
          → (nanoseconds tsc_then span.from (length_of span) p ≡ looked (tsc_then (span.from + 1)) p)
          × (ticks_in tsc_then span.from p (length_of span) ≡ cond b (ticks_of (looked (tsc_then (span.from + 1)) p) 1) 0)
      by true first =
          let disarmed : looked (tsc_then (span.from + 1)) p ≡ record p { deadline = 0 } = looked-some (tsc_then (span.from + 1)) p first in (
            (reached-first p deadline first).0 ∙ sym disarmed,
            (reached-first p deadline first).1 ∙ ap (λ (q : ApicParts). ticks_of q 1) (sym disarmed),
          )
      by false first = (
        (reached-nowhere p deadline first last).0 ∙ sym (looked-quiet (tsc_then (span.from + 1)) p first),
        (reached-nowhere p deadline first last).1,
      )

-- a look at the TSC x of the last nanosecond makes q of p, and b tells whether it reaches the deadline
module _ (span : Span) (tsc : Tsc) (is : IsSpan span) (p : ApicParts) (deadline : mode_of p.lvt ≡ 2) (x : ℕ)
    (by_count : x ≡ (span.last + tsc.offset) % 2 ^ 64) (q : ApicParts) (b : Bool) (state : q ≡ looked x p) (test : b ≡ is_reached p.deadline x) where
  last-tsc : x ≡ tsc_in span.clock tsc span.to
  last-tsc = by_count ∙ tsc-by_count span tsc is span.last span.to is.last

  reaches : is_reached p.deadline (tsc_in span.clock tsc span.to) ≡ b
  reaches = ap (is_reached p.deadline) (sym last-tsc) ∙ sym test

  looks_then : q ≡ looked (tsc_in span.clock tsc span.to) p
  looks_then = state ∙ ap (λ (y : ℕ). looked y p) last-tsc

  pub last-reached : b ≡ true → (q ≡ nanoseconds (tsc_in span.clock tsc) span.from (length_of span) p)
      × (ticks_in (tsc_in span.clock tsc) span.from p (length_of span) ≡ ticks_of q 1)
  last-reached e =
      let disarmed : q ≡ record p { deadline = 0 } = looks_then ∙ looked-some (tsc_in span.clock tsc span.to) p (reaches ∙ e) in
      let all = reached-last span tsc is p deadline (reaches ∙ e) in
      (disarmed ∙ sym all.0, all.1 ∙ ap (λ (r : ApicParts). ticks_of r 1) (sym disarmed))

  pub last-unreached : b ≡ false → (q ≡ p) × (is_reached p.deadline (tsc_in span.clock tsc span.to) ≡ false)
  last-unreached e = (looks_then ∙ looked-quiet (tsc_in span.clock tsc span.to) p (reaches ∙ e), reaches ∙ e)

  pub last-far : b ≡ false → length_of span < 2 ^ 40 → (d : ℕ) → d ≡ q.deadline → 2 ^ 63 + 2 ^ 60 ≤ difference x d
      → (nanoseconds (tsc_in span.clock tsc) span.from (length_of span) p ≡ p) × (ticks_in (tsc_in span.clock tsc) span.from p (length_of span) ≡ 0)
  last-far e short d same far =
      let armed : d ≡ p.deadline = same ∙ ap (λ (r : ApicParts). r.deadline) (last-unreached e).0 in
      reached-nowhere_far span tsc is p deadline short
      (subst (λ (y : ℕ). 2 ^ 63 + 2 ^ 60 ≤ difference y p.deadline) last-tsc (subst (λ (y : ℕ). 2 ^ 63 + 2 ^ 60 ≤ difference x y) armed far))

-- the TSC of a processor
pub tscs_at : (ps : List ProcessorParts) (k : ℕ) (p : ProcessorParts) → k < length ps
    → get_or (tscs_of ps) k no_tsc ≡ record { offset = (get_or ps k p).offset; adjust = (get_or ps k p).adjust }
tscs_at ps k p less = get_or-map (λ (p : ProcessorParts). record { offset = p.offset; adjust = p.adjust }) ps k p no_tsc less
