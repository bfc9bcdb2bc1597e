-- For the contracts of private functions: the components that may be reached from each component, as rows of bits. The
-- row of a component has a bit for each component; the bits of all components that it reaches are true, and others may
-- be. `p` has the number of each state's component. A component that is reached from another one has the smaller
-- number. A component is a strongly connected component of the graph. The row of hopeless states for a component has a
-- bit for each state, which is true if the row of the state's component doesn't have that component, so that the state
-- can't reach it. `next q l` lists the targets of the state `q` on the letter `l`. The graph has `n` states, so at most
-- `n` components, and each row has `n` bits.
use Rattle.std.specs.Prelude.{◌≡◌, ℕ, ◌<◌, Bool, true, false, not, List, [], length, slice_index, slice_index_or}
use Rattle.rl_lanes.specs.Rows.{IsSubset}
use Rattle.rl_graph.specs.Paths.{Has}
use Rattle.rl_graph.specs.Parts.{PartTable, number_of}

-- The row of the component `k`, or an empty row if there is none.
abbrev pub reached_from : List (List Bool) → ℕ → List Bool
reached_from rows k = slice_index_or rows k []

-- True if the row of the component of the state `q` has the component `k`.
abbrev pub leads_to : PartTable → List (List Bool) → ℕ → ℕ → Bool
leads_to p rows q k = slice_index_or (reached_from rows (number_of p q)) k false

-- True if the row of the component of the state `r` has the component of the state `q`. If it is false, `r` doesn't
-- reach `q`.
abbrev pub reaches : PartTable → List (List Bool) → ℕ → ℕ → Bool
reaches p rows r q = leads_to p rows r (number_of p q)

-- Holds if `row` includes the row of each component to which a move of the state `q` leads, except for components that
-- have no row yet.
abbrev pub HasTargets : (ℕ → ℕ → List ℕ) → PartTable → List (List Bool) → ℕ → List Bool → Type 0
HasTargets next p rows q row = (l m : ℕ) → Has m (next q l) → number_of p m < length rows → IsSubset (reached_from rows (number_of p m)) row

-- Holds if `row` may be the row of the component, given the rows of the components with smaller numbers in `rows`: it has
-- `n` bits, its own bit is true, and it includes the row of each component in `rows` to which a move of its states leads.
pub record IsReachedRow (next : ℕ → ℕ → List ℕ) (n : ℕ) (p : PartTable) (rows : List (List Bool)) (component : ℕ) (row : List Bool) : Type 0 where
  pub wide : length row ≡ n
  pub own : slice_index_or row component false ≡ true
  pub joined : (q : ℕ) → q < n → number_of p q ≡ component → HasTargets next p rows q row

-- Holds if `rows` has the rows of the components below `end`. Each has `n` bits, its own bit is true, and it includes
-- the row of each component to which a move of its states leads.
pub record AreReachedUpTo (next : ℕ → ℕ → List ℕ) (n : ℕ) (p : PartTable) (end : ℕ) (rows : List (List Bool)) : Type 0 where
  pub size : length rows ≡ end
  pub wide : (k : ℕ) → k < end → length (reached_from rows k) ≡ n
  pub own : (k : ℕ) → k < end → slice_index_or (reached_from rows k) k false ≡ true
  pub moves : (q l m : ℕ) → q < n → number_of p q < end → Has m (next q l) → IsSubset (reached_from rows (number_of p m)) (reached_from rows (number_of p q))

-- Holds if `rows` has the rows of the components below `n`. Each has `n` bits, its own bit is true, and it includes the
-- row of each component to which a move of its states leads.
abbrev pub AreReached : (ℕ → ℕ → List ℕ) → ℕ → PartTable → List (List Bool) → Type 0
AreReached next n p rows = AreReachedUpTo next n p n rows

-- Holds if `row` has `n` bits, and the bit of each state below `end` is true if and only if the row of the state's
-- component in `rows` doesn't have the component `k`. Such a state can't reach `k`.
pub record IsHopelessUpTo (n : ℕ) (p : PartTable) (rows : List (List Bool)) (k end : ℕ) (row : List Bool) : Type 0 where
  pub wide : length row ≡ n
  pub right : (m : ℕ) → m < end → slice_index_or row m false ≡ not (leads_to p rows m k)

-- Holds if `row` has `n` bits, and the bit of each state below `n` is true if and only if the row of the state's
-- component in `rows` doesn't have the component `k`. Such a state can't reach `k` and is called hopeless.
abbrev pub IsHopeless : ℕ → PartTable → List (List Bool) → ℕ → List Bool → Type 0
IsHopeless n p rows k row = IsHopelessUpTo n p rows k n row

-- Holds if the row of `hopeless` for the component `k` has been made, that is, isn't empty. It doesn't hold if `hopeless` has
-- no such row.
abbrev pub IsFilled : List (List Bool) → ℕ → Type 0
IsFilled hopeless k = 0 < length (slice_index_or hopeless k [])

-- Holds if `hopeless` has a row for each component below `n`, and each row that isn't empty has the hopeless states for
-- its component.
pub record AreFilled (n : ℕ) (p : PartTable) (rows hopeless : List (List Bool)) : Type 0 where
  pub size : length hopeless ≡ n
  pub right : (k : ℕ) → k < n → IsFilled hopeless k → IsHopeless n p rows k (slice_index_or hopeless k [])

-- Holds if `hopeless` has a row for each component below `n`, and the rows for the components in `listed` have the
-- hopeless states for them.
pub record AreHopeless (n : ℕ) (p : PartTable) (rows : List (List Bool)) (listed : List ℕ) (hopeless : List (List Bool)) : Type 0 where
  pub size : length hopeless ≡ n
  pub right : (i : ℕ) → i < length listed → IsHopeless n p rows (slice_index listed i) (slice_index_or hopeless (slice_index listed i) [])
