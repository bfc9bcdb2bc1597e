-- For the contracts of private functions: restricting a table of parts to the first states, and renumbering the parts
-- so that the numbers stay below the number of these states.
use Rattle.std.specs.Prelude.{◌≡◌, ℕ, ◌<◌, ◌≤◌, Bool, true, false, List, length, take, slice_index, slice_index_or}
use Rattle.rl_graph.specs.Paths.{total, one}
use Rattle.rl_graph.specs.Parts.{PartTable, number_of, cycle_of}

-- Holds if `marks` has `size` flags, one for each part number, the part numbers of the states below `end` are marked,
-- and at most `end` flags are true.
pub record AreUsed (p : PartTable) (size end : ℕ) (marks : List Bool) : Type 0 where
  pub size_is : length marks ≡ size
  pub used : (q : ℕ) → q < end → slice_index_or marks (number_of p q) false ≡ true
  pub few : total one marks ≤ end

-- The rank of the part number `c`: the number of marked part numbers below `c`.
abbrev pub rank_in : List Bool → ℕ → ℕ
rank_in marks c = total one (take c marks)

-- Holds if `ranks` lists the ranks of the part numbers below `end`.
pub record AreRanks (marks : List Bool) (end : ℕ) (ranks : List ℕ) : Type 0 where
  pub size : length ranks ≡ end
  pub rank : (c : ℕ) → c < end → slice_index ranks c ≡ rank_in marks c

-- Holds if `numbers` lists, for each state below `end`, the rank of its part number.
pub record AreRanked (p : PartTable) (ranks : List ℕ) (end : ℕ) (numbers : List ℕ) : Type 0 where
  pub size : length numbers ≡ end
  pub rank : (q : ℕ) → q < end → slice_index numbers q ≡ slice_index ranks (number_of p q)

-- Holds if `cycles` lists the cycle flags of the states below `end`.
pub record AreCut (p : PartTable) (end : ℕ) (cycles : List Bool) : Type 0 where
  pub size : length cycles ≡ end
  pub same : (q : ℕ) → q < end → slice_index_or cycles q false ≡ cycle_of p q

-- Holds if `d` is the table `p` restricted to the states below `end`, with new part numbers: these are less than `end`,
-- and of two states, one has a smaller number in `d` if and only if it has a smaller number in `p`. The cycle flags are
-- the same.
pub record IsDense (p : PartTable) (end : ℕ) (d : PartTable) : Type 0 where
  pub size : length d.numbers ≡ end
  pub below : (q : ℕ) → q < end → number_of d q < end
  pub order : (q r : ℕ) → q < end → r < end → number_of p q ≤ number_of p r → number_of d q ≤ number_of d r
  pub apart : (q r : ℕ) → q < end → r < end → number_of p q < number_of p r → number_of d q < number_of d r
  pub cycle : (q : ℕ) → q < end → cycle_of d q ≡ cycle_of p q
