-- What an upgrade does to the timers, their message registers and their tick lines.
use Rattle.std.proofs.Common.{◌≡◌, ℕ, zero, suc, ◌+◌, ◌≤◌, Bool, true, false, cond, ltb, ◌||◌, List, [], ◌∷◌, get_or, refl, ap, sym, ◌∙◌, inl, inr, arith}
use Rattle.std.proofs.lemmas.Bool.{cases_lt, le-leb, lt-leb}
use Rattle.board_types.specs.Setup.{has_messages}
use Rattle.board_types.specs.declared.setup.TheConstants.{MESSAGE_FORMAT}
use Rattle.board_core.specs.Upgrade.{has_eight_timers}
use Rattle.tick_policy.specs.declared.parts.TickParts.{TickParts}
use Rattle.tick_policy.specs.Line.{line_at_power_on}
use Rattle.board_devices.specs.declared.parts.DeviceParts.{DeviceParts}
use Rattle.board_devices.specs.Places.{each, no_line, line_at}
use Rattle.board_devices.specs.Parts.{line_upgraded, devices_upgraded}

pub timers-later : (more messages : Bool) (d : DeviceParts) → (cond more (devices_upgraded messages d).hpet d.hpet).timers ≡ cond more 8 d.hpet.timers
unfolding devices_upgraded
timers-later true messages d = refl
timers-later false messages d = refl

-- a format that has message registers is after one that has none
pub messages-later : (format to : ℕ) (d : DeviceParts) → format ≤ to → d.hpet.messages ≡ has_messages format
    → (cond (has_eight_timers to) (devices_upgraded (has_messages to) d).hpet d.hpet).messages ≡ has_messages to
unfolding devices_upgraded
messages-later format to d later has = elim (cases_lt to 2) [
  | inl old ↦
      ap (λ (b : Bool). (cond b (devices_upgraded (has_messages to) d).hpet d.hpet).messages) (lt-leb 2 to old)
      ∙ has ∙ lt-leb MESSAGE_FORMAT format (omega arith) ∙ sym (lt-leb MESSAGE_FORMAT to (omega arith))
  | inr new ↦
      ap (λ (b : Bool). (cond b (devices_upgraded (has_messages to) d).hpet d.hpet).messages) (le-leb 2 to new)
      ∙ ap (λ (b : Bool). b || has_messages to) has
      ∙ elim (cases_lt format MESSAGE_FORMAT) [
        | inl before ↦ ap (λ (b : Bool). b || has_messages to) (lt-leb MESSAGE_FORMAT format before)
        | inr since ↦
            ap (λ (b : Bool). b || has_messages to) (le-leb MESSAGE_FORMAT format since)
            ∙ sym (le-leb MESSAGE_FORMAT to (omega (arith, since, later)))
      ]
]

due-where : (b : Bool) (l m : TickParts) → m.counts.due ≡ 0 → (cond b l m).counts.due ≤ l.counts.due
due-where true l m none = omega arith
due-where false l m none = omega arith

due-each : (f : ℕ → TickParts → TickParts) (k i : ℕ) (ls : List TickParts) → ((j : ℕ) (l : TickParts) → (f j l).counts.due ≤ l.counts.due)
    → (get_or (each f k ls) i no_line).counts.due ≤ (get_or ls i no_line).counts.due
due-each f k i [] fewer = omega arith
due-each f k zero (l ∷ ls) fewer = fewer k l
due-each f k (suc i) (l ∷ ls) fewer = due-each f (suc k) i ls fewer

pub due-later : (more messages : Bool) (d : DeviceParts) (k : ℕ) → (get_or (cond more (devices_upgraded messages d).ticks d.ticks) k no_line).counts.due
    ≤ (line_at k d).counts.due
unfolding devices_upgraded
due-later false messages d k = omega arith
due-later true messages d k = due-each (line_upgraded d) 0 k d.ticks
    (λ j l. due-where (ltb j (d.hpet.timers + 2)) l (line_at_power_on (line_at 2 d).policy) refl)
