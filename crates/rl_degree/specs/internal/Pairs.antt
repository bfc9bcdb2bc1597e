-- For the contracts of private functions: the pairs of states that may be splits. The graph of inner moves, `inner`,
-- has the states on cycles (the kernel) and those of their moves that stay within a component; its states are the
-- places in the kernel. In the product of two copies of it, the pair of the states `r` and `q` has the number
-- `r * n + q`, where `n` is the number of states of `inner`. `levels` has the number of each state's component. A pair
-- falls if its second state is in the component with the smaller number. Pairs that fall and lie on a cycle of the
-- product are wanted. A part is a strongly connected component of the product. A component is a strongly connected
-- component of the whole graph, not of `inner`.
use Rattle.std.specs.Prelude.{◌≡◌, ◌≢◌, ℕ, ◌*◌, ◌<◌, ◌≤◌, ◌⊎◌, Bool, true, ◌&&◌, List, [], ◌∷◌, ◌++◌, length, slice_index, slice_index_or, slice_set}
use Rattle.rl_graph.specs.Graph.{Graph, edges_of, IsWhole}
use Rattle.rl_graph.specs.Parts.{PartTable, IsParts, number_of, cycle_of}
use Rattle.rl_kernel.specs.Seats.{seats_of}
use Rattle.rl_degree.specs.internal.Kernel.{IsKernel}
use Rattle.rl_kernel.specs.Inner.{IsInner}
use Rattle.rl_degree.specs.internal.Moves.{AreMoveTables}
use Rattle.rl_degree.specs.internal.Reached.{AreReached, AreHopeless}
use Rattle.rl_degree.specs.internal.FallingPairs.{falls, falling_moves, IsParted}
use Rattle.rl_degree.specs.declared.pairs.Placed.{Placed}
use Rattle.rl_degree.specs.declared.pairs.PairTable.{PairTable}
use Rattle.rl_degree.specs.declared.pairs.Walked.{Walked}

-- True if the pair `x` lies on a cycle of the product and falls.
abbrev pub is_wanted : List ℕ → PartTable → ℕ → ℕ → Bool
is_wanted levels parts n x = cycle_of parts x && falls levels n x

-- The wanted pairs, sorted by parts: `numbers` has the index of each part's list in `members`, and `places` has the
-- index of each wanted pair in the list of its part.
pub record Lists : Type 0 where
  pub numbers : List ℕ
  pub members : List (List ℕ)
  pub places : List ℕ

-- The lists of the program's `Placed`.
abbrev pub lists_of : Placed → Lists
lists_of p = record { numbers = p.numbers.items; members = p.members.items; places = p.places.items }

-- The index of the list of the part `k` in `members`.
abbrev pub list_of : Lists → ℕ → ℕ
list_of p k = slice_index p.numbers k

-- The list of the part `k`, which has the part's wanted pairs.
abbrev pub row_of : Lists → ℕ → List ℕ
row_of p k = slice_index_or p.members (list_of p k) []

-- Holds if the list with the index 0 is empty, each part has the index of a list, and no two parts have the same list
-- except for the list 0, which is for parts without a wanted pair.
pub record HaveOwnLists (p : Lists) : Type 0 where
  pub none : slice_index_or p.members 0 [] ≡ []
  pub within : (k : ℕ) → list_of p k < length p.members
  pub own : (j k : ℕ) → list_of p j ≡ list_of p k → (list_of p j ≡ 0) ⊎ (j ≡ k)

-- Holds if in `new` the part has the list with the index `number`, which is not the list 0, and every part has the same
-- pairs in its list as in `old`.
pub record IsOwnList (part number : ℕ) (old new : Lists) : Type 0 where
  pub is : list_of new part ≡ number
  pub some : 0 < number
  pub within : number < length new.members
  pub size : length new.numbers ≡ length old.numbers
  pub rows : (k : ℕ) → row_of new k ≡ row_of old k
  pub places : new.places ≡ old.places
  pub lists : HaveOwnLists new

-- Holds if `new` is `old` after the pair `x` was put: in `new`, the list of the part `part` has the same pairs as in
-- `old` and then `x`, the lists of all other parts have the same pairs as in `old`, and the entry of `x` in `places`,
-- if there is one, is its index in that list, from 0. All other entries of `places` and the number of parts are
-- unchanged, and no two parts share a list other than the empty list 0.
pub record IsPut (part x : ℕ) (old new : Lists) : Type 0 where
  pub here : row_of new part ≡ row_of old part ++ x ∷ []
  pub elsewhere : (k : ℕ) → k ≢ part → row_of new k ≡ row_of old k
  pub places : new.places ≡ slice_set old.places x (length (row_of old part))
  pub size : length new.numbers ≡ length old.numbers
  pub lists : HaveOwnLists new

-- Holds if there are `count` parts and `count` places, and the list of each part is empty.
pub record IsBarePlaced (count : ℕ) (p : Lists) : Type 0 where
  pub numbered : length p.numbers ≡ count
  pub size : length p.places ≡ count
  pub empty : (k : ℕ) → row_of p k ≡ []
  pub lists : HaveOwnLists p

-- Holds if the list of the pair's part has the pair `x` at the pair's place.
pub record IsListed (parts : PartTable) (p : Lists) (x : ℕ) : Type 0 where
  pub within : slice_index p.places x < length (row_of p (number_of parts x))
  pub here : slice_index (row_of p (number_of parts x)) (slice_index p.places x) ≡ x

-- Holds if each wanted pair below `end` is in the list of its part in the table `parts`, at its place, and the list of
-- each part has only wanted pairs of that part, at most `end` of them. There are `n * n` entries for parts and for
-- places, and no two parts share a list other than the empty list 0.
pub record IsPlacedUpTo (levels : List ℕ) (parts : PartTable) (n end : ℕ) (p : Lists) : Type 0 where
  pub numbered : length p.numbers ≡ n * n
  pub size : length p.places ≡ n * n
  pub lists : HaveOwnLists p
  pub held : (x : ℕ) → x < end → is_wanted levels parts n x ≡ true → IsListed parts p x
  pub pairs : (k i : ℕ) → i < length (row_of p k) → slice_index (row_of p k) i < n * n
  pub of_part : (k i : ℕ) → i < length (row_of p k) → number_of parts (slice_index (row_of p k) i) ≡ k
  pub are_wanted : (k i : ℕ) → i < length (row_of p k) → is_wanted levels parts n (slice_index (row_of p k) i) ≡ true
  pub short : (k : ℕ) → length (row_of p k) ≤ end

-- Holds if the list of each part in the table `parts` has exactly the wanted pairs of that part, with each wanted pair
-- at its place, and no list is longer than `n * n`. There are `n * n` entries for parts and for places, and no two
-- parts share a list other than the empty list 0.
abbrev pub IsPlaced : List ℕ → PartTable → ℕ → Lists → Type 0
IsPlaced levels parts n p = IsPlacedUpTo levels parts n (n * n) p

-- Holds if there is a list besides the list 0, so that some part may have a wanted pair.
abbrev pub HasOwnList : Lists → Type 0
HasOwnList p = 1 < length p.members

-- Holds if `w` has the parts of the product in which only pairs that fall have moves, the wanted pairs in the lists of
-- their parts, and, if there is a wanted pair, a table of the moves of `g` for each letter on which `inner` has a move.
pub record IsWalked (g inner : Graph) (levels : List ℕ) (w : Walked) : Type 0 where
  pub parts : IsParted (falling_moves (edges_of inner) levels inner.states) (inner.states * inner.states) w.parts
  pub placed : IsPlaced levels w.parts inner.states (lists_of w.placed)
  pub moves : (x : ℕ) → x < inner.states * inner.states → is_wanted levels w.parts inner.states x ≡ true → AreMoveTables g inner w.moves.items

-- Holds if every field of the table is right for the graph `g`: its components, the components that each may reach, the
-- states that can't reach a component of the kernel, the kernel, the graph of inner moves, the parts of its product,
-- and the wanted pairs in the lists of their parts. The tables of moves are right if there is a wanted pair.
pub record IsTable (g : Graph) (t : PairTable) : Type 0 where
  pub whole : IsWhole g
  pub components : IsParts (edges_of g) g.states t.components
  pub reached : AreReached (edges_of g) g.states t.components t.reached.items
  pub hopeless : AreHopeless g.states t.components t.reached.items t.kernel.levels.items t.hopeless.items
  pub kernel : IsKernel t.components g.states (seats_of t.kernel)
  pub inner : IsInner g t.components (seats_of t.kernel) t.inner
  pub parts : IsParted (falling_moves (edges_of t.inner) t.kernel.levels.items t.inner.states) (t.inner.states * t.inner.states) t.parts
  pub placed : IsPlaced t.kernel.levels.items t.parts t.inner.states (lists_of t.placed)
  pub moves : (x : ℕ) → x < t.inner.states * t.inner.states → is_wanted t.kernel.levels.items t.parts t.inner.states x ≡ true → AreMoveTables g t.inner t.moves.items
