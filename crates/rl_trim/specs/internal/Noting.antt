-- For the functions that find which sets have a state of a branch. They fill a table that has a row for each state, with an
-- entry for each of the first sets of a walk, which is a list of sets, numbered from 0. A state of the branch is one that
-- isn't kept; `keep` has a flag for each place of the tree, which says whether it is kept.
use Rattle.std.specs.Prelude.{◌≡◌, ℕ, ◌<◌, Bool, true, false, List, length, slice_index_or, All}
use Rattle.rl_sets.specs.Live.{holds}
use Rattle.rl_sets.specs.Walk.{Walk, set_at}
use Rattle.rl_trim.specs.internal.Trims.{trimmed}
use Rattle.rl_trim.specs.Reached.{IsNoted}

-- Holds if all rows of the table have the same length, which is more than `place`.
pub record IsWide (place : ℕ) (table : List (List Bool)) : Type 0 where
  pub count : ℕ
  pub each : All (λ row. length row ≡ count) table
  pub inside : place < count

-- Holds if the table `new` has the size of the table `old` and all its true entries, and also a true entry for each of
-- `states` and the set with the number `set`.
pub record IsNoting (old new : List (List Bool)) (states : List ℕ) (set : ℕ) : Type 0 where
  pub high : length new ≡ length old
  pub wide : (count : ℕ) → All (λ row. length row ≡ count) old → All (λ row. length row ≡ count) new
  pub kept : (q k : ℕ) → IsNoted old q k → IsNoted new q k
  pub noted : (q : ℕ) → holds states q ≡ true → IsNoted new q set

-- Holds if the row has an entry for each of the first `count` sets of the walk, which is true if the set has a state that
-- isn't kept. Other entries may be true too.
pub record AreTouched (keep : List Bool) (w : Walk) (count : ℕ) (row : List Bool) : Type 0 where
  pub wide : length row ≡ count
  pub whole : (k : ℕ) → k < count → slice_index_or row k false ≡ false → trimmed keep (set_at w k) ≡ set_at w k
