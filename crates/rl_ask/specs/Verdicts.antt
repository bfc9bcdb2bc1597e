-- Verdicts: what is promised of an answer that says how the cost of a pattern grows. A live pair is a state of the pattern's
-- automaton with the set of states that were tried before it. Where the cost of a search is undecided, bounds of its growth are
-- told that the cost of the pattern's match gives (`specs/Bounds.antt` of `rl_reach`).
use Rattle.std.specs.Prelude.{◌≡◌, ℕ, None, IfSome}
use Rattle.rl_ranges.specs.declared.universe.Universe.{Universe}
use Rattle.rl_syntax.specs.Pattern.{pattern_ending, pattern_tree, universe_of}
use Rattle.rl_syntax.specs.declared.pattern.Pattern.{Pattern}
use Rattle.rl_syntax.specs.declared.re.Mode.{Mode}
use Rattle.rl_syntax.specs.declared.re.Mode.TheVariants.{Search, Match, Fullmatch}
use Rattle.rl_syntax.specs.declared.verdict.Family.{Family}
use Rattle.rl_syntax.specs.declared.verdict.Verdict.{Verdict}
use Rattle.rl_syntax.specs.declared.verdict.Verdict.TheVariants.{Degree, Expo, Undecided}
use Rattle.rl_pairs.specs.RightVerdict.{Question, RightVerdict}
use Rattle.rl_reach.specs.Bounds.{IsAtLeast, IsAtMost, IsOfMatch, question_in}
use Rattle.rl_reach.specs.declared.bounds.AtLeast.{AtLeast}
use Rattle.rl_reach.specs.declared.bounds.Bounds.{Bounds}
use Rattle.rl_report.specs.Verdicts.{IsFamilyOf, IsVerdictOf}
use Rattle.rl_ask.specs.declared.answer.Answer.{Answer}
use Rattle.rl_ask.specs.declared.answer.Answer.TheVariants as answer

-- The question how the cost of matching a pattern in a mode grows, with at most `pairs` live pairs.
abbrev pub verdict_question : Mode → ℕ → Pattern → Question
verdict_question mode pairs p = record {
  tree = pattern_tree p mode;
  ending = pattern_ending p mode;
  universe = universe_of p;
  max_pairs = pairs;
}

-- Holds if there are no bounds.
pub record HasNone (b : Bounds) : Type 0 where
  pub at_least : b.at_least ≡ None
  pub at_most : b.at_most ≡ None

-- Holds if the bounds are right for the cost of the pattern's search, and are all that its match tells of them.
pub record AreSearchBounds (pairs : ℕ) (p : Pattern) (b : Bounds) : Type 0 where
  pub at_least : IfSome b.at_least (IsAtLeast (question_in Search p pairs))
  pub at_most : IfSome b.at_most (IsAtMost (question_in Search p pairs))
  pub whole : IsOfMatch p pairs b

-- Holds if the bounds are those of the search if the verdict on it is undecided; for any other verdict, and in the other modes,
-- there are none.
abbrev pub AreBounds : Verdict → Mode → ℕ → Pattern → Bounds → Type 0
AreBounds (Degree d f) mode pairs p b = HasNone b
AreBounds (Expo f) mode pairs p b = HasNone b
AreBounds (Undecided limit) Search pairs p b = AreSearchBounds pairs p b
AreBounds (Undecided limit) Match pairs p b = HasNone b
AreBounds (Undecided limit) Fullmatch pairs p b = HasNone b

-- The family that shows a lower bound.
abbrev pub least_family : AtLeast → Family
least_family (AtLeast.Degree d f) = f
least_family (AtLeast.Expo f) = f

-- The family of the lower bound, if there is one, has only codes of the universe.
abbrev pub IsLeastOf : Universe → Bounds → Type 0
IsLeastOf universe b = IfSome b.at_least (λ l. IsFamilyOf universe (least_family l))

-- Holds if the answer is a right verdict on the pattern, whose family has only codes of the pattern's universe, with the bounds
-- that are told beside it.
abbrev pub IsClass : Mode → ℕ → Pattern → Answer → Type 0
IsClass mode pairs p (answer.Class verdict bounds) =
    RightVerdict (verdict_question mode pairs p) verdict × IsVerdictOf (universe_of p) verdict × AreBounds verdict mode pairs p bounds
IsClass mode pairs p _ = ⊥
