-- Chains of splits by their places, and the words along them. A split is two different states with paths along one word from
-- the first to itself, from the first to the second, and from the second to itself.
use Rattle.std.specs.Prelude.{◌≡◌, ℕ, ◌-◌, ◌<◌, ◌≤◌, List, [], ◌∷◌, map, take, length, slice_index_or, nat_eq, if◌then◌else◌, IfNone}
use Rattle.rl_graph.specs.Paths.{paths, Reaches}
use Rattle.rl_graph.specs.Twins.{IsSplit, Link, ChainFrom, IsRank}
use Rattle.rl_degree.specs.declared.chains.Split.{Split}
use Rattle.rl_degree.specs.declared.chains.Chain.{Chain}
use Rattle.rl_degree.specs.Chains.{links_of}
use Rattle.rl_pairs.specs.Families.{Chained}

-- The split at the place `k`, counted from 0. If there is none, it is one of the state 0 to itself on the empty word.
abbrev pub split_at : List Split → ℕ → Split
split_at splits k = slice_index_or splits k (record { from = 0; to = 0; word = [] })

-- The state before the split at the place `k`: the state 0, or the end of the split before it.
abbrev pub state_before : List Split → ℕ → ℕ
state_before splits k = if nat_eq k 0 then 0 else (split_at splits (k - 1)).to

-- The end of the last split, or `q` if there are no splits.
abbrev pub state_after : List Split → ℕ → ℕ
state_after [] q = q
state_after (s ∷ splits) q = state_after splits s.to

-- The link, which is a split with a word that leads to it, with the empty word in place of that word.
abbrev pub bare : Link → Link
bare m = record { lead = []; from = m.from; to = m.to; word = m.word }

-- A chain of splits in a graph of `n` states, with `n` at least 1: the states of the splits are below `n`, the first split is
-- reached from the state 0, and each later one from the end of the split before it.
pub record IsRoute (next : ℕ → ℕ → List ℕ) (n : ℕ) (splits : List Split) : Type 0 where
  pub some : 0 < n
  pub from_in : (k : ℕ) → k < length splits → (split_at splits k).from < n
  pub to_in : (k : ℕ) → k < length splits → (split_at splits k).to < n
  pub reached : (k : ℕ) → k < length splits → Reaches next (state_before splits k) (split_at splits k).from
  pub split : (k : ℕ) → k < length splits → IsSplit next (split_at splits k).from (split_at splits k).to (split_at splits k).word

-- The words along the first `k` splits: the heads lead from split to split, and the pumps are the words of these splits.
pub record IsWay (next : ℕ → ℕ → List ℕ) (splits : List Split) (k : ℕ) (heads pumps : List (List ℕ)) : Type 0 where
  pub links : List Link
  pub chained : Chained next 0 links [] (state_before splits k)
  pub leads : heads ≡ map (λ m. m.lead) links
  pub rounds : pumps ≡ map (λ m. m.word) links
  pub count : length links ≡ k
  pub ends : map bare links ≡ links_of (take k splits)

-- `c` has a chain of splits from the state 0 that is a longest one from any of the `n` states, and the rank of each state,
-- which is the length of a longest chain of splits from it. `c` has no cycle only if the graph has none.
pub record IsLongest (next : ℕ → ℕ → List ℕ) (n : ℕ) (c : Chain) : Type 0 where
  pub route : IsRoute next n c.links
  pub longest : (s : ℕ) (ms : List Link) → s < n → ChainFrom next s ms → length ms ≤ length c.links
  pub long : length c.ranks ≡ n
  pub ranked : (q : ℕ) → q < n → IsRank next q (slice_index_or c.ranks q 0)
  pub no_cycle : IfNone c.cycle ((q letter : ℕ) (w : List ℕ) → paths next q q (letter ∷ w) ≡ 0)
