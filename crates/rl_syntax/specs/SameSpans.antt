-- Three ways in which trees (lowered patterns) can be equivalent: they span the same positions of every text, the same
-- positions of every text of a universe, or the same whole texts of a universe (one language). A tree spans two positions of a
-- text if it can match the characters between them. The texts of a universe are those of `str` or those of `bytes`.
use Rattle.std.specs.Prelude.{ℕ, List, length, ◌↔◌}
use Rattle.rl_ranges.specs.declared.universe.Universe.{Universe}
use Rattle.rl_ranges.specs.Text.{IsText}
use Rattle.rl_syntax.specs.Tree.{Tree, empty, one, guard, both, either, many}
use Rattle.rl_syntax.specs.Language.{Spans}

-- Holds if the trees span the same pairs of positions of every text.
abbrev pub SameSpans : Tree → Tree → Type 0
SameSpans s t = (w : List ℕ) (i j : ℕ) → Spans s w i j ↔ Spans t w i j

-- Holds if the trees span the same pairs of positions of every text of the universe.
abbrev pub SamePlaces : Universe → Tree → Tree → Type 0
SamePlaces u s t = (w : List ℕ) → IsText u w → (i j : ℕ) → Spans s w i j ↔ Spans t w i j

-- Holds if the trees have the same language over the universe: they match the same whole texts, from the start to the end.
abbrev pub OneLanguage : Universe → Tree → Tree → Type 0
OneLanguage u s t = (w : List ℕ) → IsText u w → Spans s w 0 (length w) ↔ Spans t w 0 (length w)

-- Holds if the tree contains no guard, that is, no anchor, no word boundary and no lookaround.
abbrev pub Unguarded : Tree → Type 0
Unguarded empty = Unit {0}
Unguarded (one set) = Unit {0}
Unguarded (guard g) = ⊥
Unguarded (both e f) = Unguarded e × Unguarded f
Unguarded (either e f) = Unguarded e × Unguarded f
Unguarded (many e greedy) = Unguarded e
