-- The states along a path, and the conditions on a graph in the bounds on its paths. A graph is given by the function
-- `next` from a state and a letter to the list of the targets of its moves. A split is two different states `r` and `q`
-- with paths from `r` to `r`, from `r` to `q` and from `q` to `q` along one word. The numbers and ranks that the
-- functions `level` and `rank` give to states can be any numbers.
use Rattle.std.specs.Prelude.{◌≡◌, ℕ, suc, ◌<◌, ◌≤◌, List, [], ◌∷◌}
use Rattle.rl_graph.specs.Paths.{Has}
use Rattle.rl_graph.specs.Twins.{IsSplit}

-- Holds if the states `at 0`, `at 1` and so on are the states of a path along the word: each letter has a move from its
-- state to the next one.
abbrev pub Runs : (ℕ → ℕ → List ℕ) → List ℕ → (ℕ → ℕ) → Type 0
Runs next [] at = Unit {0}
Runs next (l ∷ w) at = Has (at 1) (next (at 0) l) × Runs next w (λ j. at (suc j))

-- Holds if no move of a state below `n` leads to a state with a greater number. `level` gives each state its number.
abbrev pub NeverRises : (ℕ → ℕ → List ℕ) → ℕ → (ℕ → ℕ) → Type 0
NeverRises next n level = (q l m : ℕ) → q < n → Has m (next q l) → level m ≤ level q

-- Holds if no split has its first state below `n`.
abbrev pub HasNoSplit : (ℕ → ℕ → List ℕ) → ℕ → Type 0
HasNoSplit next n = (r q : ℕ) (y : List ℕ) → r < n → IsSplit next r q y → ⊥

-- Holds if no split has its first state below `n` and a second state of the same rank. `rank` gives each state its
-- rank.
abbrev pub HasNoEqualSplit : (ℕ → ℕ → List ℕ) → ℕ → (ℕ → ℕ) → Type 0
HasNoEqualSplit next n rank = (r q : ℕ) (y : List ℕ) → r < n → rank r ≡ rank q → IsSplit next r q y → ⊥
