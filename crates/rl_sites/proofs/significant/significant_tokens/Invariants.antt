-- The significant tokens so far, followed by those of the rest, are all significant tokens.
use Rattle.std.proofs.Common.{◌≡◌, ◌++◌, drop}
use Rattle.rl_sites.specs.Significant.{significant_from}
use Rattle.rl_sites.proofs.significant.significant_tokens.Given as goal

abbrev pub invariant-loop-number : goal.invariant-loop-number
invariant-loop-number l = significant_from 0 l.tokens ≡ l.significant.items ++ significant_from l.number (drop l.number l.tokens)
