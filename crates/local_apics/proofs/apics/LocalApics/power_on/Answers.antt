use Rattle.std.proofs.Common.{length, get_or, ap, ◌∙◌, List}
use Rattle.tick_policy.specs.declared.parts.TickParts.{TickParts}
use Rattle.local_apics.specs.Places.{no_line}
use Rattle.local_apics.specs.Parts.{is_idle}
use Rattle.local_apics.specs.private.Mask.{armed_in, waiting_in, no_deadline}
use Rattle.local_apics.proofs.Mask.{bits_below-none}
use Rattle.local_apics.proofs.PowerOn.{power_on-length, power_on-idle, power_on-unset, no_lines-policy}
use Rattle.local_apics.proofs.apics.LocalApics.power_on.Goals as goal

pub invariant_of-result : goal.invariant_of-result
invariant_of-result c = record {
  armed = ap armed_in c.timers_at_power_on.ensures ∙ bits_below-none is_idle 64 _ (λ k less. power_on-idle c.args.cpus k);
  waiting = ap waiting_in c.timers_at_power_on.ensures ∙ bits_below-none no_deadline 64 _ (λ k less. power_on-unset c.args.cpus k);
  joined = record {
    timers = ap length c.timers_at_power_on.ensures ∙ power_on-length c.args.cpus c.requires;
    lines = ap length c.no_lines.ensures;
    policy = λ k less. ap (λ (ls : List TickParts). (get_or ls k no_line).policy) c.no_lines.ensures ∙ no_lines-policy 64 k;
  };
}
