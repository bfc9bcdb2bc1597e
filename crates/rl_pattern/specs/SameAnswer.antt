-- When two results of parsing are the same. Sets are compared by the codes that they hold. The outer anchors of a pattern are
-- its leading and its trailing anchor.
use Rattle.std.specs.Prelude.{◌≡◌, Result, Ok, Err}
use Rattle.rl_syntax.specs.declared.pattern.Pattern.{Pattern}
use Rattle.rl_syntax.specs.Pattern.{body_of, is_anchored, trail_of, universe_of}
use Rattle.rl_pattern.specs.declared.parsing.PatError.{PatError}

-- Holds if both patterns have the same body, outer anchors and universe.
pub record IsSamePattern (p q : Pattern) : Type 0 where
  pub body : body_of p ≡ body_of q
  pub leading : is_anchored p ≡ is_anchored q
  pub trailing : trail_of p ≡ trail_of q
  pub universe : universe_of p ≡ universe_of q

-- Holds if both results are patterns and these are the same, or if both are errors and these are equal.
abbrev pub IsSameAnswer : Result Pattern PatError → Result Pattern PatError → Type 0
IsSameAnswer (Ok p) (Ok q) = IsSamePattern p q
IsSameAnswer (Ok p) (Err f) = ⊥
IsSameAnswer (Err e) (Ok q) = ⊥
IsSameAnswer (Err e) (Err f) = e ≡ f
