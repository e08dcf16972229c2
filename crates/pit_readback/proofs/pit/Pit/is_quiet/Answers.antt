use Rattle.std.proofs.Common.{◌<◌, true, length, ap, sym, ◌∙◌, arith}
use Rattle.std.proofs.lemmas.Bool.{leb-true}
use Rattle.std.proofs.lemmas.List.{get_or_default}
use Rattle.pit_counter.specs.declared.parts.CounterParts.{CounterParts}
use Rattle.pit_counter.specs.Programming.{counter_at_power_on}
use Rattle.pit_counter.specs.Table.{rises_in}
use Rattle.pit_readback.specs.Pit.{counter_of}
use Rattle.pit_readback.specs.declared.parts.PitParts.{PitParts}
use Rattle.pit_readback.proofs.pit.Pit.is_quiet.Goals as goal

pub returns : goal.returns
returns c = λ within.
    let n = c.args.n in
    let some : 0 < length c.self.inside.counters = omega (arith, c.self.invariant.three) in
    ap (λ (p : PitParts). rises_in (counter_of p 0) n) (sym c.self.view_is)
    ∙ ap (λ (d : CounterParts). rises_in d n) (sym (get_or_default c.self.inside.counters 0 _ (counter_at_power_on true) some))
    ∙ c.quiet.ensures n (leb-true n c.quiet.result within)
