-- For the contracts of private functions: which pairs of states are splits. A split is two different states `r` and `q`
-- with paths from `r` to `r`, from `r` to `q` and from `q` to `q` along one word. The pairs are states of the product
-- of two copies of the graph of inner moves, whose states are places in the kernel, the list of the states on cycles;
-- the pair of the places `i` and `j` has the number `i * m + j`, where `m` is the number of places. A pair is wanted if
-- it lies on a cycle of the product and its second state is in a component with a smaller number than its first. A part
-- is a strongly connected component of the product.
use Rattle.std.specs.Prelude.{◌≡◌, ℕ, ◌*◌, ◌/◌, ◌%◌, ◌<◌, ◌↔◌, Bool, true, IsTrue, Option, Some, None, List, length, slice_index_or}
use Rattle.rl_graph.specs.Graph.{Graph, edges_of}
use Rattle.rl_graph.specs.Twins.{IsSplit}
use Rattle.rl_graph.specs.Parts.{number_of}
use Rattle.rl_kernel.specs.Seats.{seats_of, state_at}
use Rattle.rl_degree.specs.internal.Pairs.{is_wanted}
use Rattle.rl_degree.specs.declared.pairs.PairTable.{PairTable}

-- Holds if the states `r` and `q` are a split on some word.
abbrev pub HasSplit : (ℕ → ℕ → List ℕ) → ℕ → ℕ → Type 0
HasSplit next r q = (y : List ℕ) × IsSplit next r q y

-- Holds if, for each wanted pair of the part `k`, `b` is true if and only if the pair is a split. If the part has no
-- wanted pair, any `b` is right.
abbrev pub IsMark : Graph → PairTable → ℕ → Bool → Type 0
IsMark g t k b =
    (x : ℕ) → x < t.inner.states * t.inner.states → is_wanted t.kernel.levels.items t.parts t.inner.states x ≡ true → number_of t.parts x ≡ k → IsTrue b ↔ HasSplit (edges_of g) (state_at (seats_of t.kernel) (x / t.inner.states)) (state_at (seats_of t.kernel) (x % t.inner.states))

-- Holds if there is a mark for each part, and each mark that is known says whether the wanted pairs of its part are
-- splits.
pub record AreMarks (g : Graph) (t : PairTable) (marks : List (Option Bool)) : Type 0 where
  pub size : length marks ≡ t.inner.states * t.inner.states
  pub right : (k : ℕ) (b : Bool) → slice_index_or marks k None ≡ Some b → IsMark g t k b

-- Holds if `x` is the number of a wanted pair whose places have the states `r` and `q`, in this order.
pub record IsPairFor (t : PairTable) (r q x : ℕ) : Type 0 where
  pub within : x < t.inner.states * t.inner.states
  pub wanted : is_wanted t.kernel.levels.items t.parts t.inner.states x ≡ true
  pub from : state_at (seats_of t.kernel) (x / t.inner.states) ≡ r
  pub to : state_at (seats_of t.kernel) (x % t.inner.states) ≡ q
