-- Replies, as the program keeps them.
use Rattle.std.specs.Prelude.{◌≡◌, Option, codes}
use Rattle.rl_asked.specs.Questions.{Asked}
use Rattle.rl_asked.specs.Words.{Text}
use Rattle.rl_ask.specs.Answers.{IsRight}
use Rattle.rl_ask.specs.Beyond.{IsTold}
use Rattle.rl_ask.specs.Document.{error_text, reply_text}
use Rattle.rl_ask.specs.Runs.{WritesAllReplies, WritesPart, WritesReplies}
use Rattle.rl_ask.specs.Sinks.{SinkChange}
use Rattle.rl_ask.specs.declared.answer.Answer.{Answer}
use Rattle.rl_ask.specs.declared.beyond.Beyond.{Beyond}
use Rattle.rl_ask.specs.declared.replies.Reply.{Reply}
use Rattle.rl_ask.specs.declared.replies.Reply.TheVariants.{NoMemory, Made}
use Rattle.rl_ask.specs.declared.replies.RepliesEnd.{RepliesEnd}
use Rattle.rl_ask.specs.declared.replies.RepliesEnd.TheVariants.{AtEnd, Unreadable, WriteFault, OutOfMemory}

-- The bytes of the program's `Reply`.
abbrev pub reply_bytes : Reply → Text
reply_bytes NoMemory = error_text (codes "out of memory")
reply_bytes (Made line) = line

-- Holds if the line is that of a right answer to the question, with what is told beside it.
pub record AnswersWell (q : Asked) (line : Text) : Type 0 where
  pub found : Answer
  pub beyond : Beyond
  pub right : IsRight q found
  pub told : IsTold q found beyond
  pub is : line ≡ reply_text q beyond found

-- What the output gained, by how the replies ended.
abbrev pub RepliesUntil : Option Text → SinkChange → RepliesEnd → Type 0
RepliesUntil input out AtEnd = WritesAllReplies input out
RepliesUntil input out Unreadable = WritesReplies input out
RepliesUntil input out WriteFault = WritesPart input out
RepliesUntil input out OutOfMemory = WritesReplies input out
