-- The pairs of an inner and an outer quantifier in `(t*)*`, `(t+)*`, `(t?)*` and `(t+)+`. In each of them the inner quantifier
-- is redundant: without it, the tree matches between the same positions of each text. Greedy and lazy quantifiers aren't
-- distinguished.
use Rattle.std.specs.Prelude.{ℕ, Option, None, Some}

-- Holds for the bounds of exactly these four pairs of nested quantifiers, in the order above. The arguments are the minimum
-- and the maximum of the inner one, then those of the outer one. A maximum of `None` means that there is none.
pub data AllowedPair : ℕ → Option ℕ → ℕ → Option ℕ → Type 0 where
  any_in_any : AllowedPair 0 None 0 None
  some_in_any : AllowedPair 1 None 0 None
  option_in_any : AllowedPair 0 (Some 1) 0 None
  some_in_some : AllowedPair 1 None 1 None
