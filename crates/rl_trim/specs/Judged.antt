-- The result of a trial of a branch, stated by the set pairs of the tree with the branch and the tree without it. A set pair
-- shows a difference if the end letter leads exactly one of its two sets to the accepting state. The set pairs `d` are looked
-- at breadth first, in the order in which they are found; the first ones are the first `limit` of them. A list of set pairs is
-- a closed relation if it has the pair of the two starts and the next pairs of each of its pairs, the sets of its pairs are
-- well formed, and none of its pairs shows a difference.
use Rattle.std.specs.Prelude.{◌≡◌, ℕ, ◌≤◌, true, List, length, Any}
use Rattle.rl_equiv.specs.declared.pair.SetPair.{SetPair}
use Rattle.rl_equiv.specs.SetPairs.{SetPairs, differs}
use Rattle.rl_equiv.specs.Numbering.{found_after, first_ones, NoneDiffers, AreAll, AreMore}
use Rattle.rl_ranges.specs.declared.universe.Universe.{Universe}
use Rattle.rl_syntax.specs.Tree.{Tree}
use Rattle.rl_equiv.specs.Languages.{SameLanguage}
use Rattle.rl_trim.specs.declared.judgement.Judgement.{Judgement}
use Rattle.rl_trim.specs.declared.judgement.Judgement.TheVariants.{Equal, Apart, Exceeded}

-- Holds if the judgement is right for the set pairs `d` and a limit: `Equal` if at most `limit` set pairs are found, none of
-- them shows a difference, and the list of them is a closed relation; `Apart` if one of the first `limit` set pairs shows a
-- difference; and `Exceeded` if more than `limit` are found and none of the first `limit` shows a difference.
abbrev pub IsJudged : SetPairs → ℕ → Judgement → Type 0
IsJudged d limit Equal = (relation : List SetPair) × AreAll d limit relation
IsJudged d limit Apart = Any (λ p. differs d p ≡ true) (first_ones d limit)
IsJudged d limit Exceeded = AreMore d limit

-- Holds if the judgement is right for a limit, as in `IsJudged`, except that `Equal` doesn't demand that the set pairs found
-- are a closed relation.
abbrev pub IsFound : SetPairs → ℕ → Judgement → Type 0
IsFound d limit Equal = (length (found_after d limit) ≤ limit) × NoneDiffers d limit
IsFound d limit Apart = Any (λ p. differs d p ≡ true) (first_ones d limit)
IsFound d limit Exceeded = AreMore d limit

-- Holds if what a judgement says about the languages of two trees is true. Only `Equal` says something: the trees span the
-- same texts of the universe.
abbrev pub IsTrueJudgement : Universe → Tree → Tree → Judgement → Type 0
IsTrueJudgement u s t Equal = SameLanguage u s t
IsTrueJudgement u s t Apart = Unit {0}
IsTrueJudgement u s t Exceeded = Unit {0}
