-- For the contracts of private functions: the product of two copies of a graph in which only pairs that fall have
-- moves. The pair of the states `r` and `q` of a graph with `n` states has the number `r * n + q`. `levels` has the
-- number of each state's component. A pair falls if the number for its second state is smaller than the one for its
-- first. `entries` has, for each state, a number whose bits are the letters on which moves lead to the state; letters
-- whose difference is a multiple of 64 share a bit.
use Rattle.std.specs.Prelude.{◌≡◌, ℕ, ◌*◌, ◌/◌, ◌%◌, ◌<◌, ◌↔◌, Bool, false, not, ◌&&◌, nat_lt, nat_eq, if◌then◌else◌, IsTrue, List, [], length, slice_index, slice_index_or}
use Rattle.std.specs.Int.Bits.{bit_and}
use Rattle.rl_graph.specs.Paths.{Reaches, OnCycle}
use Rattle.rl_graph.specs.Product.{pair_moves}
use Rattle.rl_graph.specs.Parts.{PartTable, number_of, cycle_of}

-- True if the pair `x` falls.
abbrev pub falls : List ℕ → ℕ → ℕ → Bool
falls levels n x = nat_lt (slice_index levels (x % n)) (slice_index levels (x / n))

-- The moves of the pair `x` on the letter `l` in the product if the pair falls, and no moves otherwise.
abbrev pub falling_moves : (ℕ → ℕ → List ℕ) → List ℕ → ℕ → ℕ → ℕ → List ℕ
falling_moves next levels n x l = if falls levels n x then pair_moves next n x l else []

-- True if the entries of both states of the pair `x` have a bit in common. If they don't, no move of the product leads
-- to `x`.
abbrev pub shares : List ℕ → ℕ → ℕ → Bool
shares entries n x = not (nat_eq (bit_and (slice_index entries (x / n)) (slice_index entries (x % n))) 0)

-- True if the pair `x` falls and the entries of its two states have a bit in common.
abbrev pub is_walked : List ℕ → List ℕ → ℕ → ℕ → Bool
is_walked levels entries n x = falls levels n x && shares entries n x

-- Holds if there is a flag for each pair with a number below `end`, which says whether the pair falls and the entries
-- of its states have a bit in common.
pub record AreFlagsUpTo (levels entries : List ℕ) (n end : ℕ) (flags : List Bool) : Type 0 where
  pub size : length flags ≡ end
  pub right : (x : ℕ) → x < end → slice_index_or flags x false ≡ is_walked levels entries n x

-- Holds if there is a flag for each pair, which says whether the pair falls and the entries of its states have a bit in
-- common.
abbrev pub AreFlags : List ℕ → List ℕ → ℕ → List Bool → Type 0
AreFlags levels entries n flags = AreFlagsUpTo levels entries n (n * n) flags

-- Holds if the table lists the strongly connected components of a graph of `n` states: two states have the same part
-- number if and only if each reaches the other, and a state's flag says whether it lies on a cycle. Part numbers are
-- less than `n`, in any order.
pub record IsParted (next : ℕ → ℕ → List ℕ) (n : ℕ) (p : PartTable) : Type 0 where
  pub size : length p.numbers ≡ n
  pub below : (q : ℕ) → q < n → number_of p q < n
  pub same : (q r : ℕ) → q < n → r < n → (number_of p q ≡ number_of p r) ↔ (Reaches next q r × Reaches next r q)
  pub on_cycle : (q : ℕ) → q < n → IsTrue (cycle_of p q) ↔ OnCycle next q
