use Rattle.std.proofs.Common.{cond, sym, ap, ◌∙◌}
use Rattle.lapic_timer.specs.Parts.{is_masked}
use Rattle.lapic_timer.specs.Stretch.{fires_in}
use Rattle.lapic_timer.proofs.Nanoseconds.{lvt-passed_times}
use Rattle.clk_units.specs.Bits.{bit}
use Rattle.local_apics.proofs.Ticks.{ticks_in-counting}
use Rattle.local_apics.proofs.span.run_counts.Goals as goal

pub returns-clause-ticks : goal.returns-clause-ticks
returns-clause-ticks c = λ tsc from.
    c.ticks.ensures.value
    ∙ ap (λ n. cond (is_masked c.run-fires.new.self) 0 n) c.run-fires.ensures.count
    ∙ ap (λ v. cond (bit 16 v) 0 (fires_in c.args.timer.now c.args.n))
    (ap (λ p. p.lvt) c.run-fires.ensures.state ∙ lvt-passed_times c.args.n c.args.timer.now)
    ∙ sym (ticks_in-counting tsc from c.args.n c.args.timer.now c.requires.mode)
