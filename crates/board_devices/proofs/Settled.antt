-- Outputs that stay as they are bring no edge.
use Rattle.std.proofs.Common.{◌≡◌, ℕ, zero, suc, ◌<◌, Bool, true, false, cond, leb, ◌&&◌, ◌||◌, not, ◌⊎◌, List, [], ◌∷◌, get_or, ◌+◌, Option, Some, None}
use Rattle.std.proofs.Common.{inl, inr, arith}
use Rattle.std.specs.Prelude.{Contains}
use Rattle.std.proofs.lemmas.Bool.{false≢true}
use Rattle.clk_units.specs.Bits.{bit}
use Rattle.irq_edges.specs.Rises.{IsNextRise}
use Rattle.irq_edges.proofs.UpFrom.{Contains-cons_cases}
use Rattle.hpet_comparator.specs.Parts.{is_level, is_enabled}
use Rattle.hpet_registers.specs.declared.hpet.TheConstants.{HPET_HZ}
use Rattle.hpet_registers.specs.declared.parts.HpetParts.{HpetParts}
use Rattle.hpet_registers.specs.Parts.{timer_at}
use Rattle.hpet_registers.specs.Outputs.{is_message}
use Rattle.hpet_registers.specs.Stretch.{matches_of}
use Rattle.tick_policy.specs.Line.{is_waiting}
use Rattle.tick_policy.specs.Stretch.{is_caught}
use Rattle.board_devices.specs.declared.parts.DeviceParts.{DeviceParts}
use Rattle.board_devices.specs.declared.stretch.Span.{Span}
use Rattle.board_devices.specs.Lines.{drives}
use Rattle.board_devices.specs.Places.{line_at}
use Rattle.board_devices.specs.private.Stretch.{either_from, routed_from}
use Rattle.board_devices.specs.private.Ahead.{first_in, timer_up, IsSettled, is_settled}

none-settled : (t : ℕ) → IsSettled t None
none-settled t = λ at e. cc

now-settled : (t : ℕ) → IsSettled t (Some t)
now-settled t = λ at e. let same : t ≡ at = cc in omega arith

-- such an output is up, or never will be
by_parts : (level enabled set sends up waits : Bool) (from point to : ℕ) (matched : Option ℕ)
    → cond level (not enabled || set) (up || cond enabled sends (not waits)) ≡ true
    → IsSettled from (cond level (cond enabled (cond set (Some from) matched) None)
    (cond sends None (cond up (Some from) (cond (is_caught point to (cond ((enabled && not level) && not sends) matched None) && waits) (Some point)
    (cond ((enabled && not level) && not sends) matched None)))))
by_parts true true true sends up waits from point to matched h = now-settled from
by_parts true true false sends up waits from point to matched h = absurd (false≢true h)
by_parts true false set sends up waits from point to matched h = none-settled from
by_parts false enabled set true true waits from point to matched h = none-settled from
by_parts false enabled set false true waits from point to matched h = now-settled from
by_parts false true set true false waits from point to matched h = none-settled from
by_parts false true set false false waits from point to matched h = absurd (false≢true h)
by_parts false false set sends false true from point to matched h = absurd (false≢true h)
by_parts false false set true false false from point to matched h = none-settled from
by_parts false false set false false false from point to matched h = by_point (leb point to)
  where
    by_point : (b : Bool) → IsSettled from (cond (b && false) (Some point) None)
    by_point true = none-settled from
    by_point false = none-settled from

pub settled-up : (s : Span) (d : DeviceParts) (k : ℕ) → is_settled k d ≡ true → IsSettled s.from (timer_up s d k)
settled-up s d k h = by_parts (is_level (timer_at k d.hpet)) (is_enabled (timer_at k d.hpet)) (bit k d.hpet.status) (is_message k d.hpet) (line_at (k + 2) d).up
    (is_waiting (line_at (k + 2) d)) s.from s.point s.to (first_in HPET_HZ (matches_of k d.hpet) s) h

-- .. and so is a line that such outputs drive
either-settled : (t : ℕ) (a b : Option ℕ) → IsSettled t a → IsSettled t b → IsSettled t (either_from a b)
unfolding either_from
either-settled t None b first second = second
either-settled t (Some a) None first second = first
either-settled t (Some a) (Some b) first second = earlier (leb a b)
  where
    earlier : (c : Bool) → IsSettled t (cond c (Some a) (Some b))
    earlier true = first
    earlier false = second

driven-settled : (t : ℕ) (b : Bool) (u : Option ℕ) → IsSettled t u → IsSettled t (cond b u None)
driven-settled t true u settled = settled
driven-settled t false u settled = none-settled t

pub routed-settled : (t line n : ℕ) (h : HpetParts) (us : List (Option ℕ))
    → ((k : ℕ) → k < n → IsSettled t (get_or us k None)) → IsSettled t (routed_from line n h us)
routed-settled t line zero h us settled = none-settled t
routed-settled t line (suc k) h us settled =
    either-settled t (routed_from line k h us) (cond (drives line k h) (get_or us k None) None)
    (routed-settled t line k h us (λ j less. settled j (omega (arith, less))))
    (driven-settled t (drives line k h) (get_or us k None) (settled k (omega arith)))

-- of six lines of which the last four stay as they are, one of the first two goes up
six : (t at : ℕ) (p q x y z w : Option ℕ) → IsSettled t x → IsSettled t y → IsSettled t z → IsSettled t w → t < at
    → Contains (p ∷ q ∷ x ∷ y ∷ z ∷ w ∷ []) (Some at) → (p ≡ Some at) ⊎ (q ≡ Some at)
six t at p q x y z w hx hy hz hw later has = elim (Contains-cons_cases p (Some at) (q ∷ x ∷ y ∷ z ∷ w ∷ []) has) [
  | inl e ↦ inl e
  | inr has1 ↦ elim (Contains-cons_cases q (Some at) (x ∷ y ∷ z ∷ w ∷ []) has1) [
    | inl e ↦ inr e
    | inr has2 ↦ elim (Contains-cons_cases x (Some at) (y ∷ z ∷ w ∷ []) has2) [
      | inl e ↦ absurd (omega (arith, hx at e, later))
      | inr has3 ↦ elim (Contains-cons_cases y (Some at) (z ∷ w ∷ []) has3) [
        | inl e ↦ absurd (omega (arith, hy at e, later))
        | inr has4 ↦ elim (Contains-cons_cases z (Some at) (w ∷ []) has4) [
          | inl e ↦ absurd (omega (arith, hz at e, later))
          | inr has5 ↦ elim (Contains-cons_cases w (Some at) [] has5) [
            | inl e ↦ absurd (omega (arith, hw at e, later))
            | inr none ↦ absurd (omega (arith, none.1))
          ]
        ]
      ]
    ]
  ]
]

-- the same later times, the same next rise
same-next : (us vs : List (Option ℕ)) (t to : ℕ) (next : Option ℕ) → ((at : ℕ) → t < at → Contains vs (Some at) → Contains us (Some at))
    → ((at : ℕ) → t < at → Contains us (Some at) → Contains vs (Some at)) → IsNextRise us t to next → IsNextRise vs t to next
same-next us vs t to None back forth is = λ at has later. is at (back at later has) later
same-next us vs t to (Some r) back forth is = (is.0, is.1, forth r is.0 is.2, λ at has later. is.3 at (back at later has) later)

-- so the next rise is one of lines 0 and 8, where legacy replacement doesn't give them to timers
pub next-settled : (t to : ℕ) (l : Bool) (pit irq a b x y z w next : Option ℕ) → IsSettled t a → IsSettled t b
    → IsSettled t x → IsSettled t y → IsSettled t z → IsSettled t w
    → IsNextRise (cond l None pit ∷ cond l None irq ∷ None ∷ None ∷ None ∷ None ∷ []) t to next
    → IsNextRise (cond l a pit ∷ cond l b irq ∷ x ∷ y ∷ z ∷ w ∷ []) t to next
next-settled t to true pit irq a b x y z w next ha hb hx hy hz hw is =
    same-next (None ∷ None ∷ None ∷ None ∷ None ∷ None ∷ []) (a ∷ b ∷ x ∷ y ∷ z ∷ w ∷ []) t to next
    (λ at later has. elim (six t at a b x y z w hx hy hz hw later has) [
      | inl e ↦ absurd (omega (arith, ha at e, later))
      | inr e ↦ absurd (omega (arith, hb at e, later))
    ])
    (λ at later has. elim (six t at None None None None None None (none-settled t) (none-settled t) (none-settled t) (none-settled t) later has) [
      | inl e ↦ cc
      | inr e ↦ cc
    ]) is
next-settled t to false pit irq a b x y z w next ha hb hx hy hz hw is =
    same-next (pit ∷ irq ∷ None ∷ None ∷ None ∷ None ∷ []) (pit ∷ irq ∷ x ∷ y ∷ z ∷ w ∷ []) t to next
    (λ at later has. elim (six t at pit irq x y z w hx hy hz hw later has) [
      | inl e ↦ (0, omega arith, e)
      | inr e ↦ (1, omega arith, e)
    ])
    (λ at later has. elim (six t at pit irq None None None None (none-settled t) (none-settled t) (none-settled t) (none-settled t) later has) [
      | inl e ↦ (0, omega arith, e)
      | inr e ↦ (1, omega arith, e)
    ]) is
