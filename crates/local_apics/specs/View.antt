-- How the fields are seen.
use Rattle.std.specs.Prelude.{◌≡◌, ℕ}
use Rattle.std.proofs.Common.{ap, ◌∙◌}
use Rattle.local_apics.specs.declared.parts.ApicsParts.{ApicsParts}
use Rattle.local_apics.specs.declared.apics.LocalApics.TheInside.{Inside}
use Rattle.local_apics.specs.Parts.{AreApicPlaces}
use Rattle.local_apics.specs.private.Mask.{armed_in, waiting_in}

-- the fields are seen without the masks ..
abbrev pub parts_of : Inside → ApicsParts
parts_of a = record { timers = a.timers; lines = a.lines }

-- .. which they give
abbrev pub stored : ApicsParts → Inside
stored p = record {
  armed = armed_in p.timers;
  waiting = waiting_in p.timers;
  timers = p.timers;
  lines = p.lines;
}

-- the masks are those of the timers that aren't idle, and of those that wait for a deadline
pub record IsStored (a : Inside) : Type 0 where
  pub armed : armed_in a.timers ≡ a.armed
  pub waiting : waiting_in a.timers ≡ a.waiting
  pub joined : AreApicPlaces (parts_of a)

pub stored-parts_of : (a : Inside) → IsStored a → stored (parts_of a) ≡ a
stored-parts_of a is =
    ap (λ (m : ℕ). record a { armed = m; waiting = waiting_in a.timers }) is.armed
    ∙ ap (λ (m : ℕ). record a { waiting = m }) is.waiting
