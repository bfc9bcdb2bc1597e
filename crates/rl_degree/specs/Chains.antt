-- A longest chain of splits with the ranks and a loop, as `degree` returns them. A graph is given by the function
-- `next` from a state and a letter to the list of the targets of its moves. A split is two different states `r` and `q`
-- with paths from `r` to `r`, from `r` to `q` and from `q` to `q` along one word. In a chain of splits from a state,
-- the state reaches the first state of the first split, and the second state of each split reaches the first state of
-- the next one. The rank of a state is the number of splits in a longest chain from it.
use Rattle.std.specs.Prelude.{◌≡◌, ℕ, ◌<◌, ◌≤◌, List, [], ◌∷◌, length, map, slice_index}
use Rattle.rl_graph.specs.Paths.{paths}
use Rattle.rl_graph.specs.Twins.{Link, ChainFrom, IsRank}
use Rattle.rl_degree.specs.declared.chains.Split.{Split}
use Rattle.rl_degree.specs.declared.chains.Loop.{Loop}

-- The split as a link of a chain. The word `lead`, which leads to the split, is left empty.
abbrev pub link_of : Split → Link
link_of s = record { lead = []; from = s.from; to = s.to; word = s.word }

-- The splits as the links of a chain, in the same order, with empty words `lead`.
abbrev pub links_of : List Split → List Link
links_of l = map link_of l

-- Holds if both states of the split are below `n`.
pub record IsSplitIn (n : ℕ) (s : Split) : Type 0 where
  pub from_in : s.from < n
  pub to_in : s.to < n

-- Holds if the list is a chain of splits: each is a split of the graph, and its second state reaches the first state of
-- the next one. The empty list is a chain.
abbrev pub IsChain : (ℕ → ℕ → List ℕ) → List Split → Type 0
IsChain next [] = Unit {0}
IsChain next (s ∷ l) = ChainFrom next s.from (links_of (s ∷ l))

-- Holds if `ranks` has the rank of each state below `n`, which is the number of links of a longest chain of splits from
-- it.
pub record AreRanks (next : ℕ → ℕ → List ℕ) (n : ℕ) (ranks : List ℕ) : Type 0 where
  pub size : length ranks ≡ n
  pub right : (q : ℕ) → q < n → IsRank next q (slice_index ranks q)

-- Holds if the loop's state is below `n`, and its word has at least one letter and leads from the state back to it.
pub record IsLoop (next : ℕ → ℕ → List ℕ) (n : ℕ) (l : Loop) : Type 0 where
  pub state_in : l.state < n
  pub some : 1 ≤ length l.word
  pub back : 1 ≤ paths next l.state l.state l.word

-- Holds if no state lies on a cycle: no non-empty word leads from a state back to it.
abbrev pub HasNoCycle : (ℕ → ℕ → List ℕ) → Type 0
HasNoCycle next = (q l : ℕ) (w : List ℕ) → paths next q q (l ∷ w) ≡ 0
