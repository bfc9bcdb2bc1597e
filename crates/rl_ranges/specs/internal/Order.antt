-- For private contracts: the order in which the sets of a list are taken. A set is a list of ranges, and a range is a pair:
-- its first code and its last code. There are three passes over the list, each of which takes the sets of one size. Sets with
-- many ranges come last.
use Rattle.std.specs.Prelude.{◌≡◌, ℕ, ◌<◌, Bool, ◌&&◌, not, List, [], ◌∷◌, length, nat_le, nat_lt, slice_index_or, if◌then◌else◌}
use Rattle.rl_ranges.specs.Codes.{has}
use Rattle.rl_ranges.specs.declared.letters.Pass.{Pass}
use Rattle.rl_ranges.specs.declared.letters.Pass.TheVariants.{Narrow, Middle, Wide}

-- Whether the pass takes the set: `Narrow` takes sets of at most 32 ranges, `Middle` those of 33 to 256, and `Wide` those of
-- more.
abbrev pub is_taken : Pass → List (ℕ × ℕ) → Bool
is_taken Narrow ranges = nat_le (length ranges) 32
is_taken Middle ranges = not (nat_le (length ranges) 32) && not (nat_lt 256 (length ranges))
is_taken Wide ranges = not (nat_le (length ranges) 32) && nat_lt 256 (length ranges)

-- The membership tests of those sets of the list that satisfy `taken`, in order.
abbrev pub picked : (List (ℕ × ℕ) → Bool) → List (List (ℕ × ℕ)) → List (ℕ → Bool)
picked taken [] = []
picked taken (s ∷ sets) = if taken s then (has s ∷ picked taken sets) else picked taken sets

-- Holds if the set occurs in the list at an index below `count`. Beyond its end, the list counts as having empty sets.
abbrev pub OccursBefore : List (List (ℕ × ℕ)) → ℕ → List (ℕ × ℕ) → Type 0
OccursBefore sets count set = (k : ℕ) × (k < count) × (slice_index_or sets k [] ≡ set)
