use Rattle.rl_ranges.specs.declared.universe.Universe.TheVariants.{Str}
use Rattle.rl_ranges.specs.Text.{IsText}
use Rattle.rl_reach.proofs.tests.codes_of.Given as goal

abbrev pub invariant-loop-byte : goal.invariant-loop-byte
invariant-loop-byte l = IsText Str l.codes
