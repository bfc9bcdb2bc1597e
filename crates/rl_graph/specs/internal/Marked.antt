-- For the contracts of private functions: the letters on which a graph has moves, and the moves of marked pairs on a
-- list of letters. The row of a state on a letter lists the targets of its moves. The pair of the states `p` and `q` of
-- a graph with `n` states has the number `p * n + q`.
use Rattle.std.specs.Prelude.{◌≡◌, ℕ, ◌+◌, ◌-◌, ◌*◌, ◌/◌, ◌%◌, ◌<◌, ◌≤◌, ◌↔◌, IsTrue, Bool, false, nat_lt, not, ◌&&◌, if◌then◌else◌, List, [], length, slice_index, slice_index_or}
use Rattle.rl_graph.specs.Paths.{Has}
use Rattle.rl_graph.specs.Graph.{Graph, edges_of}
use Rattle.rl_graph.specs.Product.{pair_moves}

-- Holds if some state has a move on the letter `l`.
abbrev pub HasMoves : Graph → ℕ → Type 0
HasMoves g l = (q : ℕ) × (m : ℕ) × Has m (edges_of g q l)

-- Holds if the list has only letters below `end`, at most `end` of them, and includes each letter below `end` on which
-- some state has a move.
pub record AreLettersUpTo (g : Graph) (end : ℕ) (letters : List ℕ) : Type 0 where
  pub few : length letters ≤ end
  pub below : (k : ℕ) → k < length letters → slice_index letters k < end
  pub all : (l : ℕ) → l < end → HasMoves g l → Has l letters

-- Holds if the list has only letters of the graph, at most as many as the graph has, and includes each letter on which
-- some state has a move.
abbrev pub AreLetters : Graph → List ℕ → Type 0
AreLetters g letters = AreLettersUpTo g g.letters letters

-- Holds if the state `q` has the same row on the letter with the index `k` in the list as on the letter before it in
-- the list. The first letter is never a repeat.
abbrev pub IsRepeat : (ℕ → ℕ → List ℕ) → List ℕ → ℕ → ℕ → Type 0
IsRepeat next letters q k = (0 < k) × (next q (slice_index letters k) ≡ next q (slice_index letters (k - 1)))

-- Holds if `repeats` has `end` flags, and each is right: the flag of the state `q` and the letter with the index `k` in
-- the list, at `q * length letters + k`, says whether the state's row repeats on that letter.
pub record AreRepeatsUpTo (next : ℕ → ℕ → List ℕ) (end : ℕ) (letters : List ℕ) (repeats : List Bool) : Type 0 where
  pub size : length repeats ≡ end
  pub same : (q k : ℕ) → k < length letters → q * length letters + k < end
      → IsTrue (slice_index_or repeats (q * length letters + k) false) ↔ IsRepeat next letters q k

-- Holds if `repeats` has a right flag for each of the first `n` states and each letter of the list.
abbrev pub AreRepeats : (ℕ → ℕ → List ℕ) → ℕ → List ℕ → List Bool → Type 0
AreRepeats next n letters repeats = AreRepeatsUpTo next (n * length letters) letters repeats

-- Holds if the state `q` has a move to itself.
abbrev pub HasLoop : (ℕ → ℕ → List ℕ) → ℕ → Type 0
HasLoop next q = (l : ℕ) × Has q (next q l)

-- Holds if `loops` has a flag for each of the first `n` states, which says whether the state has a move to itself.
pub record AreLoops (next : ℕ → ℕ → List ℕ) (n : ℕ) (loops : List Bool) : Type 0 where
  pub size : length loops ≡ n
  pub same : (q : ℕ) → q < n → IsTrue (slice_index_or loops q false) ↔ HasLoop next q

-- True if the flags say that the rows of both states of the pair `x` repeat on the letter with the index `k` in a list
-- of `width` letters.
abbrev pub both_repeat : ℕ → ℕ → List Bool → ℕ → ℕ → Bool
both_repeat n width repeats x k =
    slice_index_or repeats (x / n * width + k) false && slice_index_or repeats (x % n * width + k) false

-- True if the flags say that both states of the pair `x` have a move to themselves.
abbrev pub both_loop : ℕ → List Bool → ℕ → Bool
both_loop n loops x = slice_index_or loops (x / n) false && slice_index_or loops (x % n) false

-- The moves of the pair `x` on the letter with the index `k` in the list. There are none if the pair isn't marked, if
-- the list has no such letter, or if the rows of both states repeat on it.
abbrev pub listed_moves : (ℕ → ℕ → List ℕ) → ℕ → List Bool → List ℕ → List Bool → ℕ → ℕ → List ℕ
listed_moves next n marks letters repeats x k =
    if slice_index_or marks x false && (nat_lt k (length letters) && not (both_repeat n (length letters) repeats x k))
    then pair_moves next n x (slice_index letters k) else []
