-- The list of ranges that stands for a set. A set given by the test of its codes has one list of ranges that are in ascending
-- order and don't touch. A range is a pair: its first code and its last code.
use Rattle.std.specs.Prelude.{ℕ, ◌+◌, suc, zero, Bool, ◌==◌, List, [], ◌∷◌, if◌then◌else◌}

-- The ranges, with the code added. A range that ends just before the code is extended by it; if there is none, the code is a
-- new range at the end.
abbrev pub extended : List (ℕ × ℕ) → ℕ → List (ℕ × ℕ)
extended [] code = (code, code) ∷ []
extended (r ∷ rs) code = if r.1 + 1 == code then (r.0, code) ∷ rs else r ∷ extended rs code

-- The ranges of the codes below `n` that satisfy the test, in ascending order. Each range is as long as possible, so there is
-- a code that fails the test between any two of them.
unfoldable pub ranges_below : ℕ → (ℕ → Bool) → List (ℕ × ℕ)
ranges_below zero test = []
ranges_below (suc n) test = if test n then extended (ranges_below n test) n else ranges_below n test
