-- The limits that errors name.
use Rattle.std.specs.Prelude.{Option, None, Some}
use Rattle.rl_spans.specs.declared.error.SpansError.{SpansError}
use Rattle.rl_spans.specs.declared.error.SpansError.TheVariants as error
use Rattle.rl_ask.specs.declared.answer.Limit.{Limit}
use Rattle.rl_ask.specs.declared.answer.Limit.TheVariants as limit

-- The limit that the error names, or `None`. Out of memory is no limit, and no comparison ends with the error `Text`.
abbrev pub limit_named : SpansError → Option Limit
limit_named error.Size = Some limit.Size
limit_named error.Letters = Some limit.Letters
limit_named error.Moves = Some limit.Moves
limit_named error.Text = None
limit_named error.OutOfMemory = None
