-- For the contracts of private functions: the product of two copies of a graph by half steps. The row of a state on a
-- letter lists the targets of its moves. Rows are numbered such that rows with the same number are equal. At a pair,
-- the second state moves first, to a half node: the number of the first state's row on the same letter, together with
-- the second state's new state. From there, on letter 0, the first state moves to a target of that row. With `n`
-- states, the pair of `p` and `q` is the node `p * n + q`, and the half node of the row number `r` and the state `u` is
-- the node `(n + r) * n + u`.
use Rattle.std.specs.Prelude.{◌≡◌, ℕ, ◌+◌, ◌-◌, ◌*◌, ◌/◌, ◌%◌, ◌^◌, ◌<◌, ◌≤◌, Bool, false, not, nat_lt, nat_eq, ◌&&◌, if◌then◌else◌, List, [], map, length, slice_index, slice_index_or}
use Rattle.rl_graph.specs.Graph.{Graph, edges_of}

-- The row with the index `i`, or an empty row past the end. The row of the state `q` and the letter `l` has the index
-- `q * letters + l`.
abbrev pub row_at : Graph → ℕ → List ℕ
row_at g i = slice_index_or g.rows i []

-- Holds if `number` is the number of the row with the index `place`: the number has an owner, which is the index of a
-- row, and the owner's row equals this one.
pub record IsOwned (g : Graph) (owners : List ℕ) (place number : ℕ) : Type 0 where
  pub within : number < length owners
  pub same : row_at g (slice_index owners number) ≡ row_at g place

-- Holds if `numbers` has a row number for each of the first `end` rows, and each is right for its row.
pub record AreNumbered (g : Graph) (end : ℕ) (numbers owners : List ℕ) : Type 0 where
  pub size : length numbers ≡ end
  pub owned : (i : ℕ) → i < end → IsOwned g owners i (slice_index numbers i)

-- Holds if every row of the graph has a right row number, there is at least one letter, and the number of states plus
-- the number of row numbers is below 2^32, so that the number of a node fits a `u64`.
pub record AreRows (g : Graph) (numbers owners : List ℕ) : Type 0 where
  pub some : 0 < g.letters
  pub numbered : AreNumbered g (g.states * g.letters) numbers owners
  pub few : g.states + length owners < 2 ^ 32

-- Holds if the list of owners `new` begins with all of `old`.
pub record AreMore (old new : List ℕ) : Type 0 where
  pub longer : length old ≤ length new
  pub same : (r : ℕ) → r < length old → slice_index new r ≡ slice_index old r

-- True if the node `x` is a pair of states, and false if it is a half node.
abbrev pub is_pair : ℕ → ℕ → Bool
is_pair n x = nat_lt (x / n) n

-- The moves by half steps of the node `x` on the letter `l`. `number p l` is the number of the row of the state `p` on
-- the letter `l`, and `row r` is the row with the number `r`. A pair has moves only if it is marked and its first state
-- has a move on `l`. A half node has moves only on letter 0.
abbrev pub half_moves : (ℕ → ℕ → List ℕ) → ℕ → List Bool → (ℕ → ℕ → ℕ) → (ℕ → List ℕ) → ℕ → ℕ → List ℕ
half_moves next n marks number row x l =
    if is_pair n x
    then (if slice_index_or marks x false && not (nat_eq (length (next (x / n) l)) 0) then map (λ u. (n + number (x / n) l) * n + u) (next (x % n) l) else [])
    else (if nat_eq l 0 then map (λ t. t * n + x % n) (row (x / n - n)) else [])

-- The moves by half steps in the graph `g`. `numbers` has the number of each row, and `owners` has the index of a row
-- for each row number.
abbrev pub halves : Graph → List Bool → List ℕ → List ℕ → ℕ → ℕ → List ℕ
halves g marks numbers owners =
    half_moves (edges_of g) g.states marks (λ p l. slice_index numbers (p * g.letters + l)) (λ r. row_at g (slice_index owners r))
