use Rattle.std.proofs.Common.{◌≡◌, ◌++◌}
use Rattle.std.proofs.Math.ListN.{drop}
use Rattle.rl_why.specs.Shown.{shown}
use Rattle.rl_why.proofs.shown.show.Given as goal

abbrev pub invariant-loop-item : goal.invariant-loop-item
invariant-loop-item l = l.steps ++ shown l.sources.nodes (drop l.item-index l.way) ≡ shown l.sources.nodes l.way
