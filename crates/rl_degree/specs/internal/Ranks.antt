-- For the contracts of private functions: the longest chains of splits, found component by component. `p` has the
-- number of each state's component. A component that is reached from another one has the smaller number and is called
-- lower. `bests` has the best chain of each component, at the component's number: the number of links of a longest
-- chain from its states (`rank`), and the two states of the first link, `from` and `to`, if the rank isn't 0. A split
-- is two different states `r` and `q` with paths from `r` to `r`, from `r` to `q` and from `q` to `q` along one word. A
-- component is a strongly connected component of the graph.
use Rattle.std.specs.Prelude.{◌≡◌, ℕ, ◌+◌, ◌<◌, ◌≤◌, ◌⊎◌, List, length, slice_index_or}
use Rattle.rl_graph.specs.Paths.{Has, Reaches}
use Rattle.rl_graph.specs.Parts.{PartTable, number_of}
use Rattle.rl_degree.specs.internal.Splits.{HasSplit}
use Rattle.rl_degree.specs.declared.ranks.Best.{Best}

-- A best chain without links.
abbrev pub no_best : Best
no_best = record { rank = 0; from = 0; to = 0 }

-- The best chain of the component `k`, or a chain without links if the list has none.
abbrev pub best_at : List Best → ℕ → Best
best_at bests k = slice_index_or bests k no_best

-- Holds if `b` is a chain from the state `q`: `q` reaches `b.from`, the states `b.from` and `b.to` are below `n` and a
-- split, and the chain has one link more than the best chain of the component of `b.to`.
pub record IsFirst (next : ℕ → ℕ → List ℕ) (n : ℕ) (p : PartTable) (bests : List Best) (q : ℕ) (b : Best) : Type 0 where
  pub from_in : b.from < n
  pub to_in : b.to < n
  pub reached : Reaches next q b.from
  pub split : HasSplit next b.from b.to
  pub rest : (best_at bests (number_of p b.to)).rank + 1 ≡ b.rank

-- Holds if `b` is a chain from the state `q` or has no links, and its number of links is at most the number of the
-- component of `q`.
pub record IsGood (next : ℕ → ℕ → List ℕ) (n : ℕ) (p : PartTable) (bests : List Best) (q : ℕ) (b : Best) : Type 0 where
  pub small : b.rank ≤ number_of p q
  pub chain : (b.rank ≡ 0) ⊎ IsFirst next n p bests q b

-- Holds if the best chain of each lower component to which a move of the state `q` on the letter `l` leads has at most
-- `d` links.
abbrev pub BeatsLetter : (ℕ → ℕ → List ℕ) → PartTable → List Best → ℕ → ℕ → ℕ → Type 0
BeatsLetter next p bests q l d =
    (m : ℕ) → Has m (next q l) → number_of p m < number_of p q → (best_at bests (number_of p m)).rank ≤ d

-- Holds if the best chain of each lower component to which a move of the state `q` leads has at most `d` links.
abbrev pub BeatsMoves : (ℕ → ℕ → List ℕ) → PartTable → List Best → ℕ → ℕ → Type 0
BeatsMoves next p bests q d = (l : ℕ) → BeatsLetter next p bests q l d

-- Holds if, for each split from the state `q` to a state `t` below `end`, the best chain of the component of `t` with
-- this split before it has at most `d` links.
abbrev pub BeatsSplits : (ℕ → ℕ → List ℕ) → ℕ → PartTable → List Best → ℕ → ℕ → Type 0
BeatsSplits next end p bests q d =
    (t : ℕ) → t < end → HasSplit next q t → (best_at bests (number_of p t)).rank + 1 ≤ d

-- Holds if, for each state below `n` of the component `k`, `b` is a chain from that state or has no links, and its
-- number of links is at most `k`.
abbrev pub IsGoodIn : (ℕ → ℕ → List ℕ) → ℕ → PartTable → List Best → ℕ → Best → Type 0
IsGoodIn next n p bests k b = (q : ℕ) → q < n → number_of p q ≡ k → IsGood next n p bests q b

-- Holds if the best chain of each lower component to which a move of a state below `end` of the component `k` leads has
-- at most `d` links.
abbrev pub BeatsMovesIn : (ℕ → ℕ → List ℕ) → ℕ → PartTable → List Best → ℕ → ℕ → Type 0
BeatsMovesIn next end p bests k d = (q : ℕ) → q < end → number_of p q ≡ k → BeatsMoves next p bests q d

-- Holds if, for each split from a state below `end` of the component `k` to a state `t` below `n`, the best chain of
-- the component of `t` with this split before it has at most `d` links.
abbrev pub BeatsSplitsIn : (ℕ → ℕ → List ℕ) → ℕ → ℕ → PartTable → List Best → ℕ → ℕ → Type 0
BeatsSplitsIn next n end p bests k d = (q : ℕ) → q < end → number_of p q ≡ k → BeatsSplits next n p bests q d

-- Holds if `b` is a chain from the state `q` or has no links, and no chain that begins with a split from `q`, or with a
-- move from `q` to a lower component, has more links.
pub record IsBest (next : ℕ → ℕ → List ℕ) (n : ℕ) (p : PartTable) (bests : List Best) (q : ℕ) (b : Best) : Type 0 where
  pub good : IsGood next n p bests q b
  pub moves : BeatsMoves next p bests q b.rank
  pub splits : BeatsSplits next n p bests q b.rank

-- Holds if `bests` has the best chains of the components below `end`: each is right for all states below `n` of its
-- component.
pub record AreBests (next : ℕ → ℕ → List ℕ) (n : ℕ) (p : PartTable) (end : ℕ) (bests : List Best) : Type 0 where
  pub size : length bests ≡ end
  pub right : (q : ℕ) → q < n → number_of p q < end → IsBest next n p bests q (best_at bests (number_of p q))
