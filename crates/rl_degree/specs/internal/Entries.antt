-- For the contracts of private functions: the letters on which moves lead to each state, its entries. They are the bits
-- of one number for each state: the letter `l` has the bit `l % 64`, so letters whose difference is a multiple of 64
-- share a bit.
use Rattle.std.specs.Prelude.{◌≡◌, ℕ, ◌%◌, ◌<◌, List, length, slice_index}
use Rattle.std.specs.Int.{bit_at}
use Rattle.rl_graph.specs.Paths.{Has}
use Rattle.rl_graph.specs.Graph.{Graph, edges_of}

-- Holds if the bit of the letter `l` is set in the entries of the state `q`.
abbrev pub HasLetter : List ℕ → ℕ → ℕ → Type 0
HasLetter entries q l = bit_at (slice_index entries q) (l % 64) ≡ 1

-- Holds if each bit that is set in `old` is also set in `new`.
abbrev pub KeepsLetters : List ℕ → List ℕ → Type 0
KeepsLetters old new = (q l : ℕ) → HasLetter old q l → HasLetter new q l

-- Holds if each state has entries, and if a move of a state below `end` on the letter `l` leads to `m`, the bit of `l`
-- is set in the entries of `m`. Other bits may be set too.
pub record AreEntriesUpTo (g : Graph) (end : ℕ) (entries : List ℕ) : Type 0 where
  pub size : length entries ≡ g.states
  pub entered : (q l m : ℕ) → q < end → Has m (edges_of g q l) → HasLetter entries m l

-- Holds if each state has entries, and if any move on the letter `l` leads to `m`, the bit of `l` is set in the entries
-- of `m`. Other bits may be set too.
pub record AreEntries (g : Graph) (entries : List ℕ) : Type 0 where
  pub size : length entries ≡ g.states
  pub entered : (q l m : ℕ) → Has m (edges_of g q l) → HasLetter entries m l
