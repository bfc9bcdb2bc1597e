-- The comparison of two patterns.
use Rattle.std.proofs.Common.{◌≡◌, ℕ, ◌≤◌, Bool, false, List, Option, Some, None, Result, Ok, Err, IfOk, inl, inr, refl, subst, arith}
use Rattle.std.specs.Prelude.{IfSome}
use Rattle.rl_ranges.specs.Text.{IsText}
use Rattle.rl_ranges.specs.declared.universe.Universe.TheVariants.{Str}
use Rattle.rl_syntax.specs.Tree.{Tree, size}
use Rattle.rl_syntax.specs.declared.re.Ending.{Ending as MatchEnd}
use Rattle.rl_syntax.specs.declared.re.Ending.TheVariants.{AtEnd, Anywhere}
use Rattle.rl_equiv.specs.declared.compared.Compared.{Compared}
use Rattle.rl_compare.specs.Matched.{matched_tree}
use Rattle.rl_compare.specs.Exceeded.{IsCompareExceeded}
use Rattle.rl_compare.specs.Comparison.{IsOfRegion}
use Rattle.rl_compare.specs.declared.error.CompareError.{CompareError}
use Rattle.rl_compare.specs.declared.error.CompareError.TheVariants as error
use Rattle.rl_lint.specs.CompareEnding.{CompareEnds, compared_text, exceeded_line, relation_of, is_difference}
use Rattle.rl_lint.specs.Endings.{writes}
use Rattle.rl_lint.specs.internal.Plans.{ending_of}
use Rattle.rl_report.specs.Names.{Text}
use Rattle.rl_lint.specs.declared.plan.Plan.{Plan}
use Rattle.rl_lint.specs.internal.Compared.{AreTexts, IsFound, ExceedsSize}

-- What follows a tree doesn't make it smaller.
matched-larger : (t : Tree) (at : MatchEnd) → size t ≤ size (matched_tree Str t at)
matched-larger t AtEnd = omega arith
matched-larger t Anywhere = omega arith

module _ (s : Tree) (e : MatchEnd) (t : Tree) (f : MatchEnd) where
  pub first-passes : (passed : CompareError) → ExceedsSize s passed → IsCompareExceeded Str (matched_tree Str s e) (matched_tree Str t f) passed
  first-passes error.Size large = inl (omega (arith, large, matched-larger s e))
  first-passes error.Letters large = absurd large
  first-passes error.Moves large = absurd large
  first-passes error.OutOfMemory large = tt

  pub second-passes : (passed : CompareError) → ExceedsSize t passed → IsCompareExceeded Str (matched_tree Str s e) (matched_tree Str t f) passed
  second-passes error.Size large = inr (omega (arith, large, matched-larger t f))
  second-passes error.Letters large = absurd large
  second-passes error.Moves large = absurd large
  second-passes error.OutOfMemory large = tt

  pub writes-regions : {E : Type 0} (result : Result Plan E) (c : Compared) → IsFound s e t f c
      → IfOk result (λ plan. ending_of plan ≡ writes (compared_text c) (is_difference (relation_of c)) false)
      → IfOk result (λ plan. CompareEnds s e t f (ending_of plan))
  writes-regions (Ok plan) c found ends =
      inr (c, found.within, found.regions, found.told, ends)
  writes-regions (Err failed) c found ends = tt

  pub names-passed : {E : Type 0} (result : Result Plan E) (found limit : CompareError) (line : Text)
      → found ≡ limit → IsCompareExceeded Str (matched_tree Str s e) (matched_tree Str t f) found → exceeded_line limit ≡ Some line
      → IfOk result (λ plan. ending_of plan ≡ writes line false false) → IfOk result (λ plan. CompareEnds s e t f (ending_of plan))
  names-passed (Ok plan) found limit line is passed named ends =
      inl (limit, line, subst (IsCompareExceeded Str (matched_tree Str s e) (matched_tree Str t f)) is passed, named, ends)
  names-passed (Err failed) found limit line is passed named ends = tt

-- The texts of regions are texts of code points.
text_of : (test : List ℕ → Bool) (more : Bool) (o : Option (List ℕ)) → IsOfRegion Str test more o → IfSome o (IsText Str)
text_of test more None told = tt
text_of test more (Some w) told = (told.some w refl).0

pub are-texts : (s : Tree) (e : MatchEnd) (t : Tree) (f : MatchEnd) (c : Compared) → IsFound s e t f c → AreTexts c
are-texts s e t f c found = record {
  first = text_of _ c.more c.first found.told.first;
  second = text_of _ c.more c.second found.told.second;
  both = text_of _ c.more c.both found.told.both;
}
