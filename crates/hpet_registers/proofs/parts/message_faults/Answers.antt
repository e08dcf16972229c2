use Rattle.std.proofs.Common.{◌+◌, Some, None, sym, ◌∙◌, arith}
use Rattle.hpet_registers.specs.Parts.{message_fault_at}
use Rattle.hpet_registers.proofs.Faults.{first_below-more, first_below-stays, first_below-nothing, none-some}
use Rattle.hpet_registers.proofs.parts.message_faults.Goals as goal

pub loop-k-init : goal.loop-k-init
loop-k-init c = first_below-nothing (message_fault_at c.args.parts.now)

pub returns-in-Some : goal.returns-in-Some
returns-in-Some c =
    sym (first_below-stays (message_fault_at c.args.parts.now) 8 (c.loop-k.k + 1) c.in-Some.field
    (first_below-more (message_fault_at c.args.parts.now) c.loop-k.k (Some c.in-Some.field) c.loop-k.invariant (sym c.message_fault.ensures
    ∙ c.in-Some.is)) (omega arith))

pub loop-k-preserved : goal.loop-k-preserved
loop-k-preserved c = first_below-more (message_fault_at c.args.parts.now) c.loop-k.k None c.loop-k.invariant (sym c.message_fault.ensures
    ∙ none-some c.message_fault.result c.in_default.not-Some)
