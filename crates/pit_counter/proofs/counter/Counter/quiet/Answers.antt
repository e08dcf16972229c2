use Rattle.std.proofs.Common.{ap, ◌∙◌, sym}
use Rattle.pit_counter.specs.Table.{rises_in}
use Rattle.pit_counter.specs.declared.parts.CounterParts.{CounterParts}
use Rattle.pit_counter.proofs.Keeps.{IsCounter-ce}
use Rattle.pit_counter.proofs.Planned.{rises_in-of_plan}
use Rattle.pit_counter.proofs.counter.Counter.quiet.Goals as goal

pub returns : goal.returns
returns c = λ n h.
    let p : CounterParts = c.self.inside.parts in
    ap (λ (d : CounterParts). rises_in d n) (sym c.self.view_is)
    ∙ rises_in-of_plan p n c.self.inside.plan c.self.invariant.planned (IsCounter-ce p c.self.invariant.valid) h
