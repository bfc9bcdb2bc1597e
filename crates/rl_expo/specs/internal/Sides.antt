-- For the contracts of private functions: building a twin from a path of the product of two copies of a graph with `n`
-- states. The pair of the states `p` and `q` is the state `p * n + q` of the product. `next` gives the moves of the
-- graph. A twin is a state with two different paths to itself along one word.
use Rattle.std.specs.Prelude.{◌≡◌, ℕ, ◌+◌, ◌*◌, ◌<◌, List, ◌∷◌, slice_get, drop, Some}
use Rattle.rl_graph.specs.Paths.{IsPath}
use Rattle.rl_graph.specs.Product.{pair_moves}
use Rattle.rl_expo.specs.declared.twins.TwinPaths.{TwinPaths}

-- Holds if the move with the number `number` of the pair of `one` and `other` on the letter `l` consists of the move
-- `i` of `one` to `x` and the move `j` of `other` to `y`.
pub record AreSides (next : ℕ → ℕ → List ℕ) (n one other l number i j x y : ℕ) : Type 0 where
  pub one_in : x < n
  pub other_in : y < n
  pub one_move : slice_get (next one l) i ≡ Some x
  pub other_move : slice_get (next other l) j ≡ Some y
  pub both : slice_get (pair_moves next n (one * n + other) l) number ≡ Some (x * n + y)

-- Holds if `t` is a right beginning of a twin. Its two paths begin with the moves `i` and `j`, and lead from its state
-- to `one` and to `other` along its word. The moves of the path of the product from the index `k` on lead from the pair
-- of `one` and `other` to the pair of the state of `t` with itself.
pub record IsOnWay (next : ℕ → ℕ → List ℕ) (n i j : ℕ) (moves word : List ℕ) (k one other : ℕ) (t : TwinPaths) : Type 0 where
  pub home : t.state < n
  pub one_in : one < n
  pub other_in : other < n
  pub one_way : IsPath next t.state one t.first t.word
  pub other_way : IsPath next t.state other t.second t.word
  pub first : (u : List ℕ) × (t.first ≡ i ∷ u)
  pub second : (u : List ℕ) × (t.second ≡ j ∷ u)
  pub rest : IsPath (pair_moves next n) (one * n + other) (t.state * n + t.state) (drop k moves) (drop k word)
