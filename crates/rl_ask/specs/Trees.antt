-- Trees: what is promised of an answer that gives the parts of a pattern. The letters of a pattern are the classes of codes
-- that none of its sets tells apart.
use Rattle.std.specs.Prelude.{◌≡◌, ◌<◌, length, false}
use Rattle.serde_json.specs.View.{view}
use Rattle.serde_json.specs.Written.{has_float}
use Rattle.rl_ranges.specs.Letters.{classes}
use Rattle.rl_ranges.specs.Text.{code_count}
use Rattle.rl_ranges.specs.declared.letters.TheConstants.{MOST_LETTERS}
use Rattle.rl_syntax.specs.Pattern.{body_of, universe_of}
use Rattle.rl_syntax.specs.declared.pattern.Pattern.{Pattern}
use Rattle.rl_marks.specs.Marking.{groups_in}
use Rattle.rl_parts.specs.Reply.{IsTreeReply}
use Rattle.rl_parts.specs.Sets.{sets_in}
use Rattle.rl_parts.specs.declared.error.TheConstants.{MOST_NUMBERS}
use Rattle.rl_ask.specs.declared.answer.Answer.{Answer}
use Rattle.rl_ask.specs.declared.answer.Answer.TheVariants as answer
use Rattle.rl_ask.specs.declared.answer.Limit.{Limit}
use Rattle.rl_ask.specs.declared.answer.Limit.TheVariants as limit

-- Holds if the pattern exceeds a limit of the reply: its sets have too many letters, or it has more capturing groups than have
-- numbers, and so far more than the number that the answer names.
abbrev pub ExceedsReply : Pattern → Limit → Type 0
ExceedsReply p limit.Letters = MOST_LETTERS < length (classes (sets_in (body_of p)) (code_count (universe_of p)))
ExceedsReply p limit.Groups = MOST_NUMBERS < groups_in (body_of p)
ExceedsReply p limit.Size = ⊥
ExceedsReply p limit.Moves = ⊥

-- Holds if the answer is the reply that gives the parts of the pattern, without a floating-point number, or names a limit that
-- the pattern exceeds.
abbrev pub IsTree : Pattern → Answer → Type 0
IsTree p (answer.Tree reply) = IsTreeReply p (view reply) × (has_float (view reply) ≡ false)
IsTree p (answer.Undecided exceeded) = ExceedsReply p exceeded
IsTree p _ = ⊥
