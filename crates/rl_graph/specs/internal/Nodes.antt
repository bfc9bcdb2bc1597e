-- For the contracts of private functions: the breadth-first search for a shortest word, called a walk. The nodes are
-- the states found so far, in the order in which they were found; a node's index counts from 0. Each node except the
-- first has the index of its parent, and the letter and the number of the move from there. Its depth is its distance
-- from the first node, in moves. `least` is 1 if the word must have a letter, and 0 otherwise: the node 0 isn't a
-- result if `least` is 1.
use Rattle.std.specs.Prelude.{[], ◌≡◌, ◌≢◌, ℕ, ◌+◌, ◌<◌, ◌≤◌, ◌⊎◌, Bool, true, false, nat_eq, if◌then◌else◌, List, ◌∷◌, ◌++◌, length, replicate, slice_get, slice_index_or, slice_set, Some}
use Rattle.rl_graph.specs.declared.walks.Node.{Node}
use Rattle.rl_graph.specs.declared.walks.Walk.{Walk}
use Rattle.rl_graph.specs.Paths.{total, one, IsPath}

-- The state of a walk: the nodes, a flag for each state that says whether it was found at a node with an index of at
-- least `least` (`seen`), and `least`, the least length of the word.
pub record Steps : Type 0 where
  pub nodes : List Node
  pub seen : List Bool
  pub least : ℕ

-- The state of the program's walk.
abbrev pub steps_of : Walk → Steps
steps_of w = record { nodes = w.nodes.items; seen = w.seen.items; least = w.least }

-- The first node of a walk that starts at the state `q`.
abbrev pub root_node : ℕ → Node
root_node q = record { state = q; parent = 0; letter = 0; number = 0; depth = 0 }

-- The node with the index `k`, or a node with the state 0 and the depth 0 if there is none.
abbrev pub node_of : Steps → ℕ → Node
node_of s k = slice_index_or s.nodes k (root_node 0)

-- The flag of the state `q`, or false if `q` is out of range.
abbrev pub seen_of : Steps → ℕ → Bool
seen_of s q = slice_index_or s.seen q false

-- Holds if the node `x`, which has the index `k`, is one move away from its parent: the parent has a smaller index and
-- a depth less by 1, and the move with the letter and the number of `x` leads from there to the state of `x`.
pub record IsStep (next : ℕ → ℕ → List ℕ) (s : Steps) (k : ℕ) (x : Node) : Type 0 where
  pub earlier : x.parent < k
  pub move : slice_get (next (node_of s x.parent).state x.letter) x.number ≡ Some x.state
  pub deeper : x.depth ≡ (node_of s x.parent).depth + 1

-- The invariant of a walk over a graph of `n` states. Each node except the first is one move away from its parent, and
-- the depths never fall from one node to the next. A state's flag is true if and only if the state belongs to a node
-- with an index of `least` or more. There are at most as many of these nodes as flags that are true.
pub record IsWalk (next : ℕ → ℕ → List ℕ) (n : ℕ) (s : Steps) : Type 0 where
  pub size : length s.seen ≡ n
  pub least_one : s.least ≤ 1
  pub some : 0 < length s.nodes
  pub few : length s.nodes ≤ s.least + total one s.seen
  pub flat : (node_of s 0).depth ≡ 0
  pub steps : (k : ℕ) → 0 < k → k < length s.nodes → IsStep next s k (node_of s k)
  pub within : (k : ℕ) → k < length s.nodes → (node_of s k).state < n
  pub low : (k : ℕ) → k < length s.nodes → (node_of s k).depth ≤ k
  pub marked : (k : ℕ) → s.least ≤ k → k < length s.nodes → seen_of s (node_of s k).state ≡ true
  pub listed : (q : ℕ) → seen_of s q ≡ true → (k : ℕ) × (s.least ≤ k) × (k < length s.nodes) × ((node_of s k).state ≡ q)
  pub rises : (j k : ℕ) → j ≤ k → k < length s.nodes → (node_of s j).depth ≤ (node_of s k).depth

-- Holds if the state `m` was found at the depth `d` or less, at a node with an index of `least` or more.
abbrev pub Near : Steps → ℕ → ℕ → Type 0
Near s m d = (k : ℕ) × (s.least ≤ k) × (k < length s.nodes) × ((node_of s k).state ≡ m) × ((node_of s k).depth ≤ d)

-- Holds if the move with the number `e` on the letter `c` of the node `k` comes after the move with the number `i` on
-- the letter `l` of the node `j`: the order is by node, then by letter, then by number.
abbrev pub ComesAfter : ℕ → ℕ → ℕ → ℕ → ℕ → ℕ → Type 0
ComesAfter k c e j l i = (j < k) ⊎ ((j ≡ k) × ((l < c) ⊎ ((l ≡ c) × (i < e))))

-- Holds if the targets of all moves before the move with the number `e` on the letter `c` of the node `k` were found,
-- at most one level deeper than the move's node, and, if there is a node `k`, no node is more than one level deeper
-- than it.
pub record IsAt (next : ℕ → ℕ → List ℕ) (k c e : ℕ) (s : Steps) : Type 0 where
  pub near : (j l i m : ℕ) → ComesAfter k c e j l i → j < length s.nodes → slice_get (next (node_of s j).state l) i ≡ Some m → Near s m ((node_of s j).depth + 1)
  pub top : (j : ℕ) → j < length s.nodes → k < length s.nodes → (node_of s j).depth ≤ (node_of s k).depth + 1

-- Holds if none of the nodes from `least` to `k - 1` has the state `to`.
abbrev pub Missed : ℕ → ℕ → Steps → Type 0
Missed k to s = (j : ℕ) → s.least ≤ j → j < k → (node_of s j).state ≢ to

-- Holds if there is a node, and the parent of each node except the first has a smaller index than the node.
abbrev pub IsRooted : Steps → Type 0
IsRooted s = (0 < length s.nodes) × ((k : ℕ) → 0 < k → k < length s.nodes → (node_of s k).parent < k)

-- The start of a walk from the state `from` in a graph of `n` states: its only node is the first one. The flag of
-- `from` is true if `least` is 0. All other flags are false.
abbrev pub start_steps : ℕ → ℕ → ℕ → Steps
start_steps n from least =
    record {
      nodes = root_node from ∷ [];
      seen = if nat_eq least 0 then slice_set (replicate n false) from true else replicate n false;
      least = least;
    }

-- The walk with the node `x` appended and the flag of its state set.
abbrev pub reached : Steps → Node → Steps
reached s x = record { nodes = s.nodes ++ x ∷ []; seen = slice_set s.seen x.state true; least = s.least }

-- Holds if `new` is `old` with the node `x` appended and the flag of its state set, or if that flag was already set in
-- `old` and `new` is `old`.
abbrev pub IsReached : Node → Steps → Steps → Type 0
IsReached x old new = ((seen_of old x.state ≡ true) × (new ≡ old)) ⊎ ((seen_of old x.state ≡ false) × (new ≡ reached old x))

-- Holds if the nodes of `new` begin with all nodes of `old`, and `least` is the same.
pub record Extends (old new : Steps) : Type 0 where
  pub least : new.least ≡ old.least
  pub longer : length old.nodes ≤ length new.nodes
  pub same : (k : ℕ) → k < length old.nodes → node_of new k ≡ node_of old k

-- Holds if `new` is a walk over a graph of `n` states that extends `old`, and the targets of all moves before the move
-- with the number `e` on the letter `c` of the node `k` were found.
pub record IsFurther (next : ℕ → ℕ → List ℕ) (n k c e : ℕ) (old new : Steps) : Type 0 where
  pub walk : IsWalk next n new
  pub stands : IsAt next k c e new
  pub extends : Extends old new

-- Holds if `moves` are the move numbers of a path along `word` from the state of the first node to the state of the
-- node `k`, and `word` has as many letters as the node's depth. This holds for every graph `next` for which `s` is a
-- walk.
pub record IsWayTo (s : Steps) (k : ℕ) (moves word : List ℕ) : Type 0 where
  pub path : (next : ℕ → ℕ → List ℕ) (n : ℕ) → IsWalk next n s → IsPath next (node_of s 0).state (node_of s k).state moves word
  pub long : (next : ℕ → ℕ → List ℕ) (n : ℕ) → IsWalk next n s → length word ≡ (node_of s k).depth
