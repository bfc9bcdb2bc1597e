use Rattle.std.proofs.Common.{◌≡◌, ◌++◌, filter}
use Rattle.std.proofs.Math.ListN.{drop}
use Rattle.rl_why.specs.Shown.{reads}
use Rattle.rl_why.proofs.shown.sources_of.Given as goal

abbrev pub invariant-loop-origin : goal.invariant-loop-origin
invariant-loop-origin l = l.places ++ filter reads (drop l.origin-index l.list) ≡ filter reads l.list
