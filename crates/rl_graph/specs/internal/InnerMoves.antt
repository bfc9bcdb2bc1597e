-- For the contracts of private functions: moves within one part, and the numbering of parts. `numbers` has a part
-- number for each state.
use Rattle.std.specs.Prelude.{◌≡◌, ℕ, ◌<◌, ◌≤◌, ◌↔◌, Bool, false, IsTrue, List, length, slice_index, slice_index_or}
use Rattle.rl_graph.specs.Paths.{Has, Reaches}

-- Holds if the state `q` has a move on the letter `l` to a state with the same part number, which can be `q` itself.
abbrev pub HasInnerOn : (ℕ → ℕ → List ℕ) → List ℕ → ℕ → ℕ → Type 0
HasInnerOn next numbers q l = (m : ℕ) × Has m (next q l) × (slice_index numbers m ≡ slice_index numbers q)

-- Holds if the state `q` has a move to a state with the same part number, which can be `q` itself.
abbrev pub HasInner : (ℕ → ℕ → List ℕ) → List ℕ → ℕ → Type 0
HasInner next numbers q = (l : ℕ) × HasInnerOn next numbers q l

-- Holds if the numbers are right for the parts of a graph of `n` states. Two states have the same number if and only if
-- each reaches the other. Numbers are less than `n`, and a part that is reached from another one has the smaller
-- number.
pub record IsNumbered (next : ℕ → ℕ → List ℕ) (n : ℕ) (numbers : List ℕ) : Type 0 where
  pub size : length numbers ≡ n
  pub below : (q : ℕ) → q < n → slice_index numbers q < n
  pub same : (q r : ℕ) → q < n → r < n → (slice_index numbers q ≡ slice_index numbers r) ↔ (Reaches next q r × Reaches next r q)
  pub order : (q r : ℕ) → q < n → r < n → Reaches next q r → slice_index numbers r ≤ slice_index numbers q

-- Holds if `marks` has a flag for each of the `n` states, which says whether the state has a move to a state with the
-- same part number.
pub record AreInner (next : ℕ → ℕ → List ℕ) (n : ℕ) (numbers : List ℕ) (marks : List Bool) : Type 0 where
  pub size : length marks ≡ n
  pub inner : (q : ℕ) → q < n → IsTrue (slice_index_or marks q false) ↔ HasInner next numbers q

-- Holds if at least two states have the part number `part`.
pub record IsShared (numbers : List ℕ) (part : ℕ) : Type 0 where
  pub first : ℕ
  pub second : ℕ
  pub before : first < second
  pub within : second < length numbers
  pub first_is : slice_index numbers first ≡ part
  pub second_is : slice_index numbers second ≡ part

-- Holds if `marks` has as many flags as there are states, only part numbers that at least two states have are marked,
-- and each part number that two of the states below `end` have is marked.
pub record AreSharedUpTo (numbers : List ℕ) (end : ℕ) (marks : List Bool) : Type 0 where
  pub size : length marks ≡ length numbers
  pub shared : (part : ℕ) → IsTrue (slice_index_or marks part false) → IsShared numbers part
  pub all : (q r : ℕ) → q < r → r < end → slice_index numbers q ≡ slice_index numbers r → IsTrue (slice_index_or marks (slice_index numbers r) false)

-- Holds if `marks` marks exactly the part numbers that at least two states have.
abbrev pub AreShared : List ℕ → List Bool → Type 0
AreShared numbers marks = AreSharedUpTo numbers (length numbers) marks
