-- The first path from one state to another along a word, in a graph that is given by the function `next` from a state and a
-- letter to the list of the targets of its moves.
use Rattle.std.specs.Prelude.{◌≡◌, ℕ, ◌<◌, Bool, false, ◌==◌, List, [], ◌∷◌, length, slice_index, slice_index_or}
use Rattle.std.specs.List.{list_any}
use Rattle.rl_ranges.specs.Letters.{place_where}

-- Whether the word leads from a state to the state `to`.
abbrev pub is_led : (ℕ → ℕ → List ℕ) → ℕ → List ℕ → ℕ → Bool
is_led next to [] q = q == to
is_led next to (l ∷ w) q = list_any (is_led next to w) (next q l)

-- The path that takes the first move with which the rest of the word leads to the state `to`, again and again.
abbrev pub path_to : (ℕ → ℕ → List ℕ) → ℕ → List ℕ → ℕ → List ℕ
path_to next to [] q = []
path_to next to (l ∷ w) q =
    place_where (is_led next to w) (next q l) ∷ path_to next to w (slice_index (next q l) (place_where (is_led next to w) (next q l)))

-- The flag with the index, or false if there is none.
abbrev pub flag : List Bool → ℕ → Bool
flag flags q = slice_index_or flags q false

-- Holds if the flags tell for each state below `n` what the test says.
pub record AreFlags (n : ℕ) (test : ℕ → Bool) (flags : List Bool) : Type 0 where
  pub size : length flags ≡ n
  pub right : (q : ℕ) → q < n → flag flags q ≡ test q
