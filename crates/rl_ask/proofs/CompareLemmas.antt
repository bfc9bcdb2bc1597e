-- The comparison of two patterns.
use Rattle.std.proofs.Common.{ℕ, ◌≤◌, Bool, List, Option, Some, None, inl, inr, refl, arith}
use Rattle.std.specs.Prelude.{IfSome}
use Rattle.rl_ranges.specs.Text.{IsText}
use Rattle.rl_ranges.specs.declared.universe.Universe.{Universe}
use Rattle.rl_syntax.specs.Pattern.{universe_of}
use Rattle.rl_syntax.specs.Tree.{Tree, size}
use Rattle.rl_syntax.specs.declared.pattern.Pattern.{Pattern}
use Rattle.rl_syntax.specs.declared.re.Ending.{Ending}
use Rattle.rl_syntax.specs.declared.re.Ending.TheVariants.{AtEnd, Anywhere}
use Rattle.rl_syntax.specs.declared.re.Mode.{Mode}
use Rattle.rl_equiv.specs.declared.compared.Compared.{Compared}
use Rattle.rl_compare.specs.Comparison.{IsOfRegion}
use Rattle.rl_compare.specs.Exceeded.{IsCompareExceeded}
use Rattle.rl_compare.specs.Matched.{matched_tree}
use Rattle.rl_compare.specs.declared.error.CompareError.{CompareError}
use Rattle.rl_compare.specs.declared.error.CompareError.TheVariants as error
use Rattle.rl_ask.specs.Comparisons.{AreTexts, IsComparison}
use Rattle.rl_ask.specs.internal.Sizes.{ExceedsSize}

-- What follows a tree doesn't make it smaller.
matched-larger : (u : Universe) (t : Tree) (at : Ending) → size t ≤ size (matched_tree u t at)
matched-larger u t AtEnd = omega arith
matched-larger u t Anywhere = omega arith

module _ (u : Universe) (s : Tree) (e : Ending) (t : Tree) (f : Ending) where
  pub first-passes : (passed : CompareError) → ExceedsSize s passed → IsCompareExceeded u (matched_tree u s e) (matched_tree u t f) passed
  first-passes error.Size large = inl (omega (arith, large, matched-larger u s e))
  first-passes error.Letters large = absurd large
  first-passes error.Moves large = absurd large
  first-passes error.OutOfMemory large = tt

  pub second-passes : (passed : CompareError) → ExceedsSize t passed → IsCompareExceeded u (matched_tree u s e) (matched_tree u t f) passed
  second-passes error.Size large = inr (omega (arith, large, matched-larger u t f))
  second-passes error.Letters large = absurd large
  second-passes error.Moves large = absurd large
  second-passes error.OutOfMemory large = tt

-- The texts of regions are texts of the universe.
text_of : (u : Universe) (test : List ℕ → Bool) (more : Bool) (o : Option (List ℕ)) → IsOfRegion u test more o → IfSome o (IsText u)
text_of u test more None told = tt
text_of u test more (Some w) told = (told.some w refl).0

pub are-texts : (u : Universe) (mode : Mode) (most : ℕ) (p q : Pattern) (c : Compared) → IsComparison mode most p q c → AreTexts (universe_of p) c
are-texts u mode most p q c found = record {
  first = text_of (universe_of p) _ c.more c.first found.told.first;
  second = text_of (universe_of p) _ c.more c.second found.told.second;
  both = text_of (universe_of p) _ c.more c.both found.told.both;
}
