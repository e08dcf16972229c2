use Rattle.std.proofs.Common.{◌≡◌, ◌-◌, ◌≤◌, ◌++◌, length, take, drop}
use Rattle.trace_gen.proofs.generator.Generator.fill.Given as goal

-- the first bytes are in the first places
abbrev pub invariant-loop-put : goal.invariant-loop-put
invariant-loop-put l = record {
  within : l.put ≤ length l.fn.into;
  short : l.put ≤ length l.fn.self;
  bytes : l.into ≡ take l.put l.fn.self ++ drop l.put l.fn.into;
  rest : l.self ≡ drop l.put l.fn.self;
}

abbrev pub decreases-loop-put : goal.decreases-loop-put
decreases-loop-put l = length l.fn.into - l.put
