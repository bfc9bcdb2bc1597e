-- The error of a comparison names the limit that the comparison of the trees named.
use Rattle.std.proofs.Common.{◌≡◌, Result, Ok, Err, IfErr, sym, subst}
use Rattle.std.specs.Result.{IsErrAnd}
use Rattle.rl_ranges.specs.declared.universe.Universe.{Universe}
use Rattle.rl_syntax.specs.Tree.{Tree}
use Rattle.rl_equiv.specs.declared.compared.Compared.{Compared}
use Rattle.rl_equiv.specs.declared.error.SameError.{SameError}
use Rattle.rl_equiv.specs.declared.error.SameError.TheVariants.{Size, Letters, Moves, OutOfMemory}
use Rattle.rl_equiv.specs.Limits.{IsExceeded}
use Rattle.rl_compare.specs.declared.error.CompareError.{CompareError}
use Rattle.rl_compare.specs.Exceeded.{compare_error, IsCompareExceeded}

named : (u : Universe) (s t : Tree) (e : SameError) → IsExceeded u s t e → IsCompareExceeded u s t (compare_error e)
named u s t Size h = h
named u s t Letters h = h
named u s t Moves h = h
named u s t OutOfMemory h = h

-- The limit that two trees exceed is that of two equal trees.
pub told-exceeded : (u : Universe) (s t s' t' : Tree) (e : SameError) (r : Result Compared CompareError) → s ≡ s' → t ≡ t' → IsExceeded u s t e → IsErrAnd r (λ x. x ≡ compare_error e)
    → IfErr r (IsCompareExceeded u s' t')
told-exceeded u s t s' t' e (Ok found) p q h k = tt
told-exceeded u s t s' t' e (Err x) p q h k =
    let first : IsExceeded u s' t e = subst (λ (y : Tree). IsExceeded u y t e) p h in
    let both : IsExceeded u s' t' e = subst (λ (y : Tree). IsExceeded u s' y e) q first in
    subst (IsCompareExceeded u s' t') (sym k) (named u s' t' e both)
