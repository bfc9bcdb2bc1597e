-- The universe of a pattern is the universe of its code points.
use Rattle.std.proofs.Common.{◌≡◌, ℕ, List, Ok}
use Rattle.rl_ranges.specs.declared.universe.Universe.{Universe}
use Rattle.rl_syntax.specs.declared.pattern.Pattern.{Pattern}
use Rattle.rl_syntax.specs.Pattern.{universe_of}
use Rattle.rl_pattern.specs.declared.flags.Flags.{Flags}
use Rattle.rl_pattern.specs.Parsed.{IsParsed}

pub parsed_universe : (flags : Flags) (u : Universe) (codes : List ℕ) (p : Pattern) → IsParsed flags u codes (Ok p) → universe_of p ≡ u
parsed_universe flags u codes p h = h.1.pattern.universe

pub ruleset parsing = (parsed_universe)
