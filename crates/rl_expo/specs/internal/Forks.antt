-- For the contracts of private functions: forks. A fork is two different moves of a state on one letter such that one
-- word leads back to the state from both targets. A twin is a state with two different paths to itself along one word.
-- A graph has a twin if and only if it has a fork. A graph is given by the function `next` from a state and a letter to
-- the list of the targets of its moves.
use Rattle.std.specs.Prelude.{◌≡◌, ◌≢◌, ℕ, ◌≤◌, List, slice_get, Some}
use Rattle.rl_graph.specs.Paths.{paths}

-- Holds if the state `r` has a fork: two different moves on the letter `l`, with the numbers `i` and `j`, lead to `x`
-- and to `y`, and the word `w` leads from both of these states back to `r`.
pub record IsFork (next : ℕ → ℕ → List ℕ) (r l i j x y : ℕ) (w : List ℕ) : Type 0 where
  pub apart : i ≢ j
  pub one_move : slice_get (next r l) i ≡ Some x
  pub other_move : slice_get (next r l) j ≡ Some y
  pub one_back : 1 ≤ paths next x r w
  pub other_back : 1 ≤ paths next y r w

-- A fork of the graph: the state, the letter, the numbers of the two moves (`first` and `second`), their targets (`one`
-- and `other`), and a word that leads back from both.
pub record AnyFork (next : ℕ → ℕ → List ℕ) : Type 0 where
  pub state : ℕ
  pub letter : ℕ
  pub first : ℕ
  pub second : ℕ
  pub one : ℕ
  pub other : ℕ
  pub word : List ℕ
  pub forks : IsFork next state letter first second one other word
