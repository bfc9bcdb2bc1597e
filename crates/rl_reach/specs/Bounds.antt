-- What the verdict on a pattern in the mode `match` says of the cost of its `search`, whether or not the search itself exceeds
-- a limit. The cost of a text is one more than the number of steps that a match of it takes. A family has heads and pumps: its
-- text for `k` is the heads in order, with each pump, repeated `k` times, after its head. A verdict is right in the sense of
-- `RightVerdict` of `rl_pairs`; a guard looks behind in the sense of `specs/Behind.antt`.
use Rattle.std.specs.Prelude.{◌≡◌, ℕ, zero, suc, ◌^◌, ◌≤◌, max, true, false, Option, None, Some}
use Rattle.rl_syntax.specs.declared.re.Mode.{Mode}
use Rattle.rl_syntax.specs.declared.re.Mode.TheVariants.{Match}
use Rattle.rl_syntax.specs.declared.pattern.Pattern.{Pattern}
use Rattle.rl_syntax.specs.declared.verdict.Verdict.{Verdict}
use Rattle.rl_syntax.specs.declared.verdict.Verdict.TheVariants.{Degree, Expo, Undecided}
use Rattle.rl_syntax.specs.Cost.{cost}
use Rattle.rl_syntax.specs.Family.{family_text, IsFamily, IsExpoFamily}
use Rattle.rl_syntax.specs.Pattern.{pattern_tree, pattern_ending, universe_of}
use Rattle.rl_pairs.specs.RightVerdict.{Question, IsBounded, RightVerdict}
use Rattle.rl_reach.specs.declared.bounds.AtLeast.{AtLeast}
use Rattle.rl_reach.specs.declared.bounds.Bounds.{Bounds}
use Rattle.rl_reach.specs.Behind.{looks_behind}
use Rattle.rl_reach.specs.Places.{after_one}

-- The question about the pattern in the mode, for the texts of its universe, with at most `max_pairs` live pairs. Costs don't
-- depend on the number of pairs.
abbrev pub question_in : Mode → Pattern → ℕ → Question
question_in mode p max_pairs =
    record { tree = pattern_tree p mode; ending = pattern_ending p mode; universe = universe_of p; max_pairs = max_pairs }

-- The question about the tree of `q` behind one character of its universe.
abbrev pub behind_one : Question → Question
behind_one q = record { tree = after_one q.universe q.tree; ending = q.ending; universe = q.universe; max_pairs = q.max_pairs }

-- The lower bound is right: for each `k`, the family's text costs at least `k^d`, for a degree `d` of at least 1, or at least
-- `2^k`. This is what a right verdict says of its family, except that a limit may be exceeded.
abbrev pub IsAtLeast : Question → AtLeast → Type 0
IsAtLeast q (AtLeast.Degree d f) = (1 ≤ d) × IsFamily q.universe d f × ((k : ℕ) → k ^ d ≤ cost q.tree q.ending (family_text f k))
IsAtLeast q (AtLeast.Expo f) = IsExpoFamily q.universe f × ((k : ℕ) → 2 ^ k ≤ cost q.tree q.ending (family_text f k))

-- The upper bound is right: the cost of every text is at most a constant, which depends only on the size of the tree and on
-- `d`, times the `d`-th power of its length plus one. This is the upper bound of a right verdict.
abbrev pub IsAtMost : Question → ℕ → Type 0
IsAtMost q d = IsBounded q d

-- The lower bound for the search that the verdict on the match gives: the same growth with the same family. There is none if
-- the cost of a match doesn't grow, or if the verdict is undecided.
abbrev pub least_of : Verdict → Option AtLeast
least_of (Degree zero f) = None
least_of (Degree (suc d) f) = Some (AtLeast.Degree (suc d) f)
least_of (Expo f) = Some (AtLeast.Expo f)
least_of (Undecided limit) = None

-- The upper bound for the search that two degrees give: that of the match, and that of the match behind one character. It is
-- one more than the greater degree. There is none if one of the verdicts isn't a degree.
abbrev pub most_of : Verdict → Verdict → Option ℕ
most_of (Degree d f) (Degree e g) = Some (suc (max d e))
most_of (Degree d f) (Expo g) = None
most_of (Degree d f) (Undecided limit) = None
most_of (Expo f) behind = None
most_of (Undecided limit) behind = None

-- The upper bound for the search is what the verdict on the question of the match, and a right verdict on the match behind one
-- character, give. If no guard looks behind, the verdict on the match counts for both.
pub record IsMostOf (q : Question) (verdict : Verdict) (most : Option ℕ) : Type 0 where
  pub behind : Verdict
  pub right : looks_behind q.tree ≡ true → RightVerdict (behind_one q) behind
  pub same : looks_behind q.tree ≡ false → behind ≡ verdict
  pub is : most ≡ most_of verdict behind

-- The bounds are all that right verdicts on the pattern's match, and on its match behind one character, give.
pub record IsOfMatch (p : Pattern) (max_pairs : ℕ) (b : Bounds) : Type 0 where
  pub verdict : Verdict
  pub right : RightVerdict (question_in Match p max_pairs) verdict
  pub least : b.at_least ≡ least_of verdict
  pub most : IsMostOf (question_in Match p max_pairs) verdict b.at_most
