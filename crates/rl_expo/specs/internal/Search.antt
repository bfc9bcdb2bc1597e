-- For the contracts of private functions: the search for a fork in the product of two copies of a graph with `n`
-- states. A fork is two different moves of a state on one letter such that one word leads back to the state from both
-- targets. The program's `Fork` only names two moves of a state on a letter. The pair of the states `p` and `q` is the
-- state `p * n + q` of the product. A row lists the targets of the moves of a state on a letter.
use Rattle.std.specs.Prelude.{[], ◌≡◌, ℕ, ◌+◌, ◌*◌, ◌<◌, List, ◌∷◌, ◌++◌, length, slice_index}
use Rattle.rl_graph.specs.Paths.{Reaches}
use Rattle.rl_graph.specs.Graph.{Graph, edges_of}
use Rattle.rl_graph.specs.Product.{pair_moves}
use Rattle.rl_graph.specs.Parts.{PartTable, number_of}
use Rattle.rl_expo.specs.declared.forks.Fork.{Fork}
use Rattle.rl_expo.specs.declared.twins.TwinPaths.{TwinPaths}

-- The number, in a graph of `n` states, of the pair of the targets of the moves `i` and `j`, counted from 0, in the list of
-- targets `row`. A target that isn't in the list counts as state 0.
abbrev pub pair_at : ℕ → List ℕ → ℕ → ℕ → ℕ
pair_at n row i j = slice_index row i * n + slice_index row j

-- Holds if `f` names two moves of a state of the graph on a letter by their numbers, the smaller one first.
pub record AreMoves (g : Graph) (f : Fork) : Type 0 where
  pub state_in : f.state < g.states
  pub letter_in : f.letter < g.letters
  pub order : f.first < f.second
  pub number_in : f.second < length (edges_of g f.state f.letter)

-- The pair of the targets of the two moves that `f` names.
abbrev pub targets_of : Graph → Fork → ℕ
targets_of g f = pair_at g.states (edges_of g f.state f.letter) f.first f.second

-- Holds if, in the product, the pair of the targets of the two moves of `f` reaches the pair of their state with
-- itself.
abbrev pub LeadsBack : Graph → Fork → Type 0
LeadsBack g f = Reaches (pair_moves (edges_of g) g.states) (targets_of g f) (f.state * g.states + f.state)

-- Holds if `new` is `old` with the letter `l` appended to the word, the move number `i` to the first path and the move
-- number `j` to the second path.
pub record IsLonger (l i j : ℕ) (old new : TwinPaths) : Type 0 where
  pub state : new.state ≡ old.state
  pub word : new.word ≡ old.word ++ l ∷ []
  pub first : new.first ≡ old.first ++ i ∷ []
  pub second : new.second ≡ old.second ++ j ∷ []

-- Holds if the move with the number `i` of the row leads to the component `own`.
abbrev pub Stays : PartTable → ℕ → List ℕ → ℕ → Type 0
Stays p own row i = number_of p (slice_index row i) ≡ own

-- Holds if at most one of the first `k` moves of the row leads to the component `own`.
abbrev pub NoTwoStay : PartTable → ℕ → List ℕ → ℕ → Type 0
NoTwoStay p own row k = (i j : ℕ) → i < j → j < k → Stays p own row i → Stays p own row j → ⊥

-- Holds if at most one move of the state `r` on the letter `l` stays in the state's component.
abbrev pub NoneStay : Graph → PartTable → ℕ → ℕ → Type 0
NoneStay g p r l = NoTwoStay p (number_of p r) (edges_of g r l) (length (edges_of g r l))
