-- Codes from which some are removed, without any condition on the codes that become neighbors.
use Rattle.std.proofs.Common.{◌≡◌, ℕ, zero, suc, Bool, true, false, if◌then◌else◌, List, length, slice_get}

pub record Sifted (w v : List ℕ) (kept : ℕ → Bool) (g : ℕ → ℕ) : Type 0 where
  pub first : g 0 ≡ 0
  pub one_more : (i : ℕ) → kept i ≡ true → g (suc i) ≡ suc (g i)
  pub no_more : (i : ℕ) → kept i ≡ false → g (suc i) ≡ g i
  pub same : (i : ℕ) → kept i ≡ true → slice_get v (g i) ≡ slice_get w i
  pub last : g (length w) ≡ length v

-- How many of `n` codes are kept, if the first one has position `k`.
abbrev pub count_from : (ℕ → Bool) → ℕ → ℕ → ℕ
count_from kept k zero = zero
count_from kept k (suc i) = if kept k then suc (count_from kept (suc k) i) else count_from kept (suc k) i
