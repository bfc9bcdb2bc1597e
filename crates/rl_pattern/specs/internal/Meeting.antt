-- For private contracts: codes from which some are removed, in such a way that the codes that become neighbors may be
-- neighbors.
use Rattle.std.specs.Prelude.{◌≡◌, ◌≢◌, ℕ, suc, Bool, true, false, ◌||◌, List, length, Some, slice_get}
use Rattle.rl_pattern.specs.Codes.{code_of, is_in, is_digit}

-- Whether a further code could belong to what ends with this code: a number, a repeat count or a quantifier.
unfoldable pub is_open : ℕ → Bool
is_open c = is_digit c || is_in "*+?{}," c

-- Whether the code could continue what ends before it: a number, a repeat count or a quantifier.
unfoldable pub goes_on : ℕ → Bool
goes_on c = is_digit c || is_in "+?}," c

-- Holds if the code `d` may follow `c` once the codes between them are removed: it doesn't continue what ends with `c`, and it
-- isn't a `?` after a `(`.
pub record MayMeet (c d : ℕ) : Type 0 where
  pub apart : is_open c ≡ true → goes_on d ≡ false
  pub no_head : c ≡ code_of "(" → d ≢ code_of "?"

-- Holds if the codes `v` are the codes of `w` whose positions are kept, `g` maps each position of `w` to the number of kept
-- codes before it, and codes that become neighbors may be neighbors (`MayMeet`).
pub record Thinned (w v : List ℕ) (kept : ℕ → Bool) (g : ℕ → ℕ) : Type 0 where
  pub first : g 0 ≡ 0
  pub one_more : (i : ℕ) → kept i ≡ true → g (suc i) ≡ suc (g i)
  pub no_more : (i : ℕ) → kept i ≡ false → g (suc i) ≡ g i
  pub same : (i : ℕ) → kept i ≡ true → slice_get v (g i) ≡ slice_get w i
  pub last : g (length w) ≡ length v
  pub seams : (i c d : ℕ) → kept i ≡ true → kept (suc i) ≡ false → slice_get w i ≡ Some c → slice_get v (g (suc i)) ≡ Some d → MayMeet c d
