-- Languages. A tree is a lowered pattern. A text is a list of codes. Positions in it are counted from 0: position `i` is
-- before the character with the index `i`, and the last position is the length of the text. A tree spans two positions of a
-- text if it can match the characters between them. A text is in the tree's language if the tree spans its start and its end.
-- These are the regular languages of any textbook, with guards added. A guard tests a position by the characters next to it.
use Rattle.std.specs.Prelude.{◌≡◌, ℕ, suc, ◌<◌, ◌⊎◌, IsTrue, List, slice_get}
use Rattle.rl_syntax.specs.Guards.{is_in, holds_at}
use Rattle.rl_syntax.specs.Tree.{Tree, empty, one, guard, both, either, many}

-- Holds for positions `i` and `j` if `i` is `j`, or if `j` can be reached from `i` in rounds that each lead from some position
-- `k` to a greater position `l` with `R k l`.
pub data Rounds (R : ℕ → ℕ → Type 0) : ℕ → ℕ → Type 0 where
  stop : {i : ℕ} → Rounds R i i
  again : {i k j : ℕ} → i < k → R i k → Rounds R k j → Rounds R i j

-- Holds if the tree can match the characters of the text `w` from position `i` up to, but not including, position `j`. `many`
-- spans each position with itself; otherwise each of its rounds matches at least one character. Positions greater than the
-- length of the text aren't excluded: `empty` spans each of them with itself.
abbrev pub Spans : Tree → List ℕ → ℕ → ℕ → Type 0
Spans empty w i j = i ≡ j
Spans (one set) w i j = IsTrue (is_in set (slice_get w i)) × (suc i ≡ j)
Spans (guard g) w i j = IsTrue (holds_at g w i) × (i ≡ j)
Spans (both e f) w i j = (k : ℕ) × Spans e w i k × Spans f w k j
Spans (either e f) w i j = Spans e w i j ⊎ Spans f w i j
Spans (many e greedy) w i j = Rounds (Spans e w) i j
