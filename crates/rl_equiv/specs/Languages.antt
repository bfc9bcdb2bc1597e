-- The language of a tree: the texts of a universe that the tree spans from start to end, that is, matches whole.
use Rattle.std.specs.Prelude.{ℕ, ◌⊎◌, ◌↔◌, List, length}
use Rattle.rl_ranges.specs.declared.universe.Universe.{Universe}
use Rattle.rl_ranges.specs.Text.{IsText}
use Rattle.rl_syntax.specs.Tree.{Tree}
use Rattle.rl_syntax.specs.Language.{Spans}
use Rattle.rl_equiv.specs.declared.sameness.Sameness.{Sameness}
use Rattle.rl_equiv.specs.declared.sameness.Sameness.TheVariants.{Equal, Apart, Passed}

-- The text is in the tree's language: the tree spans all of it.
abbrev pub IsIn : Tree → List ℕ → Type 0
IsIn t w = Spans t w 0 (length w)

-- The trees `s` and `t` have the same language: they span the same whole texts of the universe.
abbrev pub SameLanguage : Universe → Tree → Tree → Type 0
SameLanguage u s t = (w : List ℕ) → IsText u w → IsIn s w ↔ IsIn t w

-- The text is one of the universe, and exactly one of the two trees spans all of it.
pub record IsOfOne (u : Universe) (s t : Tree) (w : List ℕ) : Type 0 where
  pub text : IsText u w
  pub one : (IsIn s w × (IsIn t w → ⊥)) ⊎ ((IsIn s w → ⊥) × IsIn t w)

-- What an answer says about the languages of the trees `s` and `t` is true: `Equal` that they are the same, and `Apart` that
-- its text is in exactly one of them. `Passed`, which means that the limit on the comparison is exceeded, says nothing about
-- them.
abbrev pub IsTrueAnswer : Universe → Tree → Tree → Sameness → Type 0
IsTrueAnswer u s t (Equal relation) = SameLanguage u s t
IsTrueAnswer u s t (Apart text) = IsOfOne u s t text
IsTrueAnswer u s t Passed = Unit {0}
