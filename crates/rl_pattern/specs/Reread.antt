-- The result of parsing the text of a suggestion, which is the text of a pattern without some branches and quantifiers. These
-- are selected by their spans. The lowered tree of a body is the tree of operators that `rl_syntax` makes of it.
use Rattle.std.specs.Prelude.{◌≡◌, ◌⊎◌, Bool, Result, Ok, Err}
use Rattle.rl_syntax.specs.declared.span.Span.{Span}
use Rattle.rl_syntax.specs.declared.pattern.Pattern.{Pattern}
use Rattle.rl_syntax.specs.Pattern.{body_of, is_anchored, trail_of, universe_of}
use Rattle.rl_syntax.specs.Lowering.{lowered}
use Rattle.rl_pattern.specs.declared.parsing.PatError.{PatError}
use Rattle.rl_pattern.specs.declared.parsing.PatError.TheVariants as error
use Rattle.rl_pattern.specs.Cut.{remaining}

-- Holds if `new` is the pattern `found` without the branches that `drop` selects and the quantifiers that `out` selects: its
-- body has the lowered tree of what is left of the body of `found`, and the outer anchors and the universe are the same. Spans
-- aren't compared.
pub record IsRemaining (drop out : Span → Bool) (found new : Pattern) : Type 0 where
  pub tree : lowered (body_of new) ≡ lowered (remaining drop out (body_of found))
  pub leading : is_anchored new ≡ is_anchored found
  pub trailing : trail_of new ≡ trail_of found
  pub universe : universe_of new ≡ universe_of found

-- Holds if the result of parsing is the pattern that remains by `IsRemaining`, unless the parser ran out of memory.
abbrev pub IsReread : (Span → Bool) → (Span → Bool) → Pattern → Result Pattern PatError → Type 0
IsReread drop out found r = (r ≡ Err error.OutOfMemory) ⊎ ((new : Pattern) × (r ≡ Ok new) × IsRemaining drop out found new)
