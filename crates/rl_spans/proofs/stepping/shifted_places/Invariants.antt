use Rattle.std.proofs.Common.{◌≡◌, map, suc, take}
use Rattle.rl_spans.proofs.stepping.shifted_places.Given as goal

abbrev pub invariant-loop-place : goal.invariant-loop-place
invariant-loop-place l = l.list ≡ map suc (take l.place-index l.places)
