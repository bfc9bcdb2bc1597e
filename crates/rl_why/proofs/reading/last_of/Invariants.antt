use Rattle.std.proofs.Common.{◌≡◌}
use Rattle.std.proofs.Math.ListN.{drop}
use Rattle.rl_ways.specs.Ways.{last_code, last_of}
use Rattle.rl_why.proofs.reading.last_of.Given as goal

abbrev pub invariant-loop-code : goal.invariant-loop-code
invariant-loop-code l = last_code l.last (drop l.code-index l.text) ≡ last_of l.text
