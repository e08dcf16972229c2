use Rattle.std.proofs.Common.{eqb, take, w8, arith}
use Rattle.std.proofs.lemmas.List.{length-take-le}
use Rattle.std.proofs.lemmas.Simd.{bitmask_splat}
use Rattle.trace_loop.proofs.lines.ends_in.Goals as goal

pub returns : goal.returns
returns c = bitmask_splat w8 eqb (take 32 c.args.rest.now) 32 10 (length-take-le 32 c.args.rest.now c.requires) (omega arith)
