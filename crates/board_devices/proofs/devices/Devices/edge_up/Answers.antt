use Rattle.std.proofs.Common.{◌+◌, refl, arith}
use Rattle.std.proofs.lemmas.List.{get_or_default}
use Rattle.board_devices.specs.Places.{no_line}
use Rattle.board_devices.proofs.devices.Devices.edge_up.Goals as goal

pub returns : goal.returns
returns c =
    rw (← c.self.view_is, ← c.has_ticks.ensures, c.if-not-has_ticks.false, ← c.is_message.ensures, c.if-is_message.false)
    (rw (
      c.up_by.ensures,
      c.first_match.ensures.value,
      c.requires.pulses,
      get_or_default c.self.inside.ticks (c.args.k + 2) c.index-self-k.result no_line (omega (arith, c.self.invariant.places)),
    ) refl)
