use Rattle.std.proofs.Common.{◌≡◌, ◌-◌, refl, arith}
use Rattle.trace_gen.specs.Text.{gen_text}
use Rattle.trace_gen.proofs.generator.Generator.new.Goals as goal

pub returns : goal.returns
unfolding gen_text
returns c =
    let all : c.args.cpus - 0 ≡ c.args.cpus = omega arith in
    rw (c.empty.ensures, c.new.ensures, all) refl
