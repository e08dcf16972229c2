-- A small row that pins what a soak counts.
use Rattle.std.proofs.Common.{◌≡◌, [], ◌∷◌, map, refl}
use Rattle.std.specs.Prelude.{codes}
use Rattle.trace_replay.specs.Soak.{edges_in}

-- the edges of a block, and none in a reply
edges : map edges_in (codes "edge 4191 0 up\nedge 4200 8 down\n6 4\n" ∷ codes "7 5 ed\n" ∷ codes "" ∷ []) ≡ 2 ∷ 0 ∷ 0 ∷ []
unfolding edges_in
edges = refl
