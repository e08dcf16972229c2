use Rattle.std.proofs.Common.{refl, sym, subst, ◌∙◌}
use Rattle.std.proofs.lemmas.Bool.{false≢true}
use Rattle.board_devices.specs.Parts.{IsDevices, AreDevices}
use Rattle.board_devices.proofs.Product.{same_parts}
use Rattle.board_devices.proofs.devices.Devices.of_parts.Goals as goal

pub invariant_of-result : goal.invariant_of-result
invariant_of-result c = (c.are_joined.ensures c.in_ok-pit.pit).0 c.if-are_joined.true

pub returns-then-are_joined-clause-valid : goal.returns-then-are_joined-clause-valid
returns-then-are_joined-clause-valid c = (
  λ _. record {
    pit = c.in_ok-pit.ensures.valid.0 refl;
    rtc = c.in_ok-rtc.ensures.valid.0 refl;
    hpet = c.in_ok-hpet.ensures.valid.0 refl;
    lines = c.in_ok-ticks.ensures.valid.0 refl;
    joined = subst IsDevices
        (same_parts c.args.parts c.in_ok-pit.ensures.value c.in_ok-rtc.ensures.value c.in_ok-hpet.ensures.value c.in_ok-ticks.ensures.value)
        ((c.are_joined.ensures c.in_ok-pit.pit).0 c.if-are_joined.true);
  },
  λ _. refl,
)

pub returns-else-are_joined-clause-valid : goal.returns-else-are_joined-clause-valid
returns-else-are_joined-clause-valid c = (
  λ e. absurd (false≢true e),
  λ (all : AreDevices c.args.parts). sym c.if-are_joined.false
      ∙ (c.are_joined.ensures c.in_ok-pit.pit).1
      (subst IsDevices
      (sym (same_parts c.args.parts c.in_ok-pit.ensures.value c.in_ok-rtc.ensures.value c.in_ok-hpet.ensures.value c.in_ok-ticks.ensures.value))
      all.joined),
)
