-- A line that no tick and no catch-up point moves.
use Rattle.std.specs.Option.{is_some}
use Rattle.std.proofs.Common.{◌≡◌, ℕ, zero, suc, ◌%◌, ◌^◌, ◌<◌, Bool, true, false, cond, eqb, leb, ltb, ◌&&◌, ◌||◌}
use Rattle.std.proofs.Common.{List, Option, Some, None, refl, ap, sym, ◌∙◌, inl, inr, arith}
use Rattle.std.proofs.Math.Bool.{or-true}
use Rattle.std.proofs.lemmas.Bool.{cases_lt, lt-ltb, lt-leb, true≢false}
use Rattle.std.proofs.Math.Nat.{zero-div}
use Rattle.clk_units.specs.Bits.{bit}
use Rattle.clk_units.specs.Events.{first_at}
use Rattle.hpet_comparator.specs.declared.stretch.Matches.{Matches}
use Rattle.hpet_comparator.specs.Parts.{is_level, is_enabled}
use Rattle.hpet_registers.specs.declared.hpet.TheConstants.{HPET_HZ}
use Rattle.hpet_registers.specs.declared.parts.HpetParts.{HpetParts}
use Rattle.hpet_registers.specs.Parts.{timer_at}
use Rattle.hpet_registers.specs.Outputs.{has_ticks, is_message}
use Rattle.tick_policy.specs.declared.parts.TickParts.{TickParts}
use Rattle.tick_policy.specs.Line.{is_waiting, ticked_times}
use Rattle.tick_policy.specs.Stretch.{caught_up_where, line_end, is_caught, up_from}
use Rattle.tick_policy.proofs.Ticks.{ticked_times-zero, caught_up-still, is_waiting-up}
use Rattle.board_devices.specs.declared.stretch.Ticks.{Ticks}
use Rattle.board_devices.specs.declared.stretch.Span.{Span}
use Rattle.board_devices.specs.private.Stretch.{counted, moves, end_of, flag_from, output_up, slot_of, with_rise, slots_from}

-- without a tick, and with a catch-up point that finds nothing
still : (point to count : ℕ) (first : Option ℕ) (l : TickParts) → (ltb 0 count || (is_some first || (leb point to && is_waiting l))) ≡ false
    → line_end point to first count l ≡ l
still point to count (Some at) l e = absurd (true≢false (sym (or-true (ltb 0 count)) ∙ e))
still point to count None l e = elim (cases_lt 0 count) [
  | inl some ↦ absurd (true≢false (sym (ap (λ (b : Bool). b || (leb point to && is_waiting l)) (lt-ltb 0 count some)) ∙ e))
  | inr few ↦
      let none : count ≡ 0 = omega arith in
      ap (λ (n : ℕ). ticked_times n (caught_up_where (leb point to) l)) none
      ∙ ticked_times-zero (caught_up_where (leb point to) l)
      ∙ by_point (leb point to) (last (ltb 0 count) (leb point to && is_waiting l) e)
]
  where
    last : (a b : Bool) → (a || b) ≡ false → b ≡ false
    last true b h = absurd (true≢false h)
    last false b h = h

    by_point : (b : Bool) → (b && is_waiting l) ≡ false → caught_up_where b l ≡ l
    by_point true h = caught_up-still l h
    by_point false h = refl

pub end-still : (point to : ℕ) (s : Ticks) (l : TickParts) → moves point to s l ≡ false → end_of point to s l ≡ l
end-still point to s l e = by_seen s.seen e
  where
    by_seen : (b : Bool) → (b && (ltb 0 s.count || (is_some s.first || (leb point to && is_waiting l)))) ≡ false
        → cond b (line_end point to s.first s.count l) l ≡ l
    by_seen true h = still point to s.count s.first l h
    by_seen false h = refl

-- no tick, and no catch-up point by the end
pub no_ticks : (n : ℕ) (l : TickParts) → n ≡ 0 → ticked_times n l ≡ l
no_ticks n l none = ap (λ (m : ℕ). ticked_times m l) none ∙ ticked_times-zero l

pub end-early : (point to count : ℕ) (b : Bool) (first : Option ℕ) (l : TickParts) → to < point
    → end_of point to (counted true b count first) l ≡ ticked_times (cond b count 0) l
end-early point to count b first l early =
    ap (λ (c : Bool). ticked_times (cond b count 0) (caught_up_where c l)) (later (cond b first None) (lt-leb point to early))
  where
    later : (f : Option ℕ) → leb point to ≡ false → is_caught point to f ≡ false
    later None e = e
    later (Some at) e = ap (λ (c : Bool). c && ltb point at) e

pub end-unseen : (point to count : ℕ) (b : Bool) (first : Option ℕ) (l : TickParts) → to < point → count ≡ 0 → end_of point to (counted b b count first) l ≡ l
end-unseen point to count true first l early none = end-early point to count true first l early ∙ no_ticks count l none
end-unseen point to count false first l early none = refl

-- a line that is up stays up, and its ticks are counted alone
end-up : (point to count : ℕ) (b : Bool) (first : Option ℕ) (l : TickParts) → l.up ≡ true
    → end_of point to (counted true b count first) l ≡ ticked_times (cond b count 0) l
end-up point to count b first l up = ap (ticked_times (cond b count 0)) (by_point (is_caught point to (cond b first None)))
  where
    by_point : (caught : Bool) → caught_up_where caught l ≡ l
    by_point true = caught_up-still l (is_waiting-up l up)
    by_point false = refl

pub end-up_where : (point to count : ℕ) (b : Bool) (first : Option ℕ) (l : TickParts) → l.up ≡ true
    → end_of point to (counted b b count first) l ≡ ticked_times (cond b count 0) l
end-up_where point to count true first l up = end-up point to count true first l up
end-up_where point to count false first l up = sym (ticked_times-zero l)

-- a timer that rests: its line stays, and its output is down
pub rest-end : (point to hz from : ℕ) (b : Bool) (m : Matches) (l : TickParts) → m.count ≡ 0 → m.first ≡ None → (leb point to && is_waiting l) ≡ false
    → end_of point to (counted true b m.count (first_at hz from m.first)) l ≡ l
rest-end point to hz from b m l none never idle =
    end-still point to (counted true b m.count (first_at hz from m.first)) l
    (ap (λ (n : ℕ). moves point to (counted true b n (first_at hz from m.first)) l) none
    ∙ ap (λ (f : Option ℕ). moves point to (counted true b 0 (first_at hz from f)) l) never
    ∙ quiet b)
  where
    quiet : (x : Bool) → moves point to (counted true x 0 None) l ≡ false
    quiet true = idle
    quiet false = idle

pub rest-output : (span : Span) (k : ℕ) (h : HpetParts) (set : Bool) (m : Matches) (l : TickParts) → m.first ≡ None → l.up ≡ false → set ≡ false
    → (leb span.point span.to && is_waiting l) ≡ false → output_up span k h set m l ≡ None
rest-output span k h set m l never down clear idle =
    ap (λ (b : Bool). output_up span k h b m l) clear
    ∙ ap (λ (f : Option ℕ). with_first f) never
    ∙ by_type (is_level (timer_at k h)) (is_enabled (timer_at k h)) (is_message k h) (has_ticks k h)
  where
    with_first : Option ℕ → Option ℕ
    with_first f =
        cond (is_level (timer_at k h))
        (flag_from (is_enabled (timer_at k h)) false span.from (first_at HPET_HZ span.from f))
        (cond (is_message k h) None (up_from span.from span.point span.to (cond (has_ticks k h) (first_at HPET_HZ span.from f) None) l))

    by_line : (up waits : Bool) → up ≡ false → waits ≡ false → cond up (Some span.from) (cond waits (Some span.point) None) ≡ None
    by_line true waits e f = absurd (true≢false e)
    by_line false true e f = absurd (true≢false f)
    by_line false false e f = refl

    by_type : (level enabled sends ticks : Bool)
        → cond level (flag_from enabled false span.from None) (cond sends None (up_from span.from span.point span.to (cond ticks None None) l)) ≡ None
    by_type true true sends ticks = refl
    by_type true false sends ticks = refl
    by_type false enabled true ticks = refl
    by_type false enabled false true = by_line l.up (leb span.point span.to && is_waiting l) down idle
    by_type false enabled false false = by_line l.up (leb span.point span.to && is_waiting l) down idle

-- .. where no status bit is set
pub no_bit : (k status : ℕ) → status ≡ 0 → bit k status ≡ false
no_bit k status none = ap (bit k) none ∙ ap (λ (n : ℕ). eqb (n % 2) 1) (zero-div (2 ^ k))

-- outputs that are down add no time
pub slots-down : (n : ℕ) (h : HpetParts) (us : ℕ → Option ℕ) (times : List (Option ℕ)) → ((k : ℕ) → k < n → us k ≡ None) → slots_from n h us times ≡ times
slots-down zero h us times down = refl
slots-down (suc n) h us times down =
    ap (λ (u : Option ℕ). with_rise u (slot_of n h) (slots_from n h us times)) (down n (omega arith))
    ∙ slots-down n h us times (λ k less. down k (omega (arith, less)))
