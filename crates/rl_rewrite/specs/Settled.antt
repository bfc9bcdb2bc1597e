-- What becomes of each branch of a body without a guard, which is an anchor, a word boundary or a lookaround. A branch is
-- identified by its span. A trial of a branch compares the language of the body with and without it, up to a limit.
use Rattle.std.specs.Prelude.{◌≡◌, ℕ, true, false, List, ◌∷◌, ◌++◌}
use Rattle.rl_ranges.specs.declared.universe.Universe.{Universe}
use Rattle.rl_syntax.specs.declared.span.Span.{Span}
use Rattle.rl_syntax.specs.PatTree.{PatTree}
use Rattle.rl_equiv.specs.Languages.{IsOfOne}
use Rattle.rl_pattern.specs.Suggested.{among, may_go, without}

-- Holds if the branch with the span `b` is settled in one of four ways. `dropped` and `passed` are the spans of the branches
-- that were dropped and of those whose trials exceeded the limit. Branches are tried from last to first, so `b` was tried on
-- the body without the dropped branches behind it: their list is `later`.
pub data IsSettled (u : Universe) (body : PatTree) (dropped passed : List Span) (b : Span) : Type 0 where
  -- It is dropped.
  is_dropped : among dropped b ≡ true → IsSettled u body dropped passed b
  -- Its trial exceeded the limit.
  is_passed : among passed b ≡ true → IsSettled u body dropped passed b
  -- It is left alone, because the rules don't allow it to go: it contains a capturing group or is the last remaining branch of
  -- its choice.
  is_left_alone : (earlier later : List Span) → dropped ≡ earlier ++ later → may_go (among (b ∷ later)) body ≡ false → IsSettled u body dropped passed b
  -- It is needed: some text is in the language of the body with it or without it, but not in both.
  is_needed : (earlier later : List Span) (w : List ℕ) → dropped ≡ earlier ++ later → IsOfOne u (without later body) (without (b ∷ later) body) w → IsSettled u body dropped passed b
