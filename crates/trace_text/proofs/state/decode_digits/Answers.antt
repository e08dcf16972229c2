use Rattle.std.proofs.Common.{length}
use Rattle.trace_text.proofs.States.{not_decoded}
use Rattle.trace_text.proofs.state.decode_digits.Goals as goal

pub returns-in-Err-clause-none : goal.returns-in-Err-clause-none
returns-in-Err-clause-none c =
    not_decoded c.args.digits.now (length c.args.bytes.now) c.requires
    (λ bytes e. let v = rw e at c.in-Err.ensures.value in cc v.0)
