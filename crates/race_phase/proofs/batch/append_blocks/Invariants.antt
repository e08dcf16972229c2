use Rattle.std.proofs.Common.{◌≡◌, ◌++◌, take}
use Rattle.race_phase.specs.private.Workers.{places_text}
use Rattle.race_phase.proofs.batch.append_blocks.Given as goal

-- the blocks of the places so far are after the text
abbrev pub invariant-loop-k : goal.invariant-loop-k
invariant-loop-k l = l.out.items ≡ l.fn.out.items ++ places_text l.deliveries (take l.k l.records) (take l.k l.places)
