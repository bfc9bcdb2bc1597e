-- Runs: what a whole run writes and how it ends, by its words and by what its input gives. An input or an output is seen by
-- its bytes, if it tells them; `None` means that it doesn't, and then nothing is said of them. These definitions speak of the
-- outputs after a run. So they don't say when a reply is written, only that each line has one.
use Rattle.std.specs.Prelude.{◌≡◌, ◌≢◌, ℕ, List, [], Option, codes}
use Rattle.std.specs.Io.KnownBytes.{Appends, IsAtEnd, Keeps}
use Rattle.rl_source.specs.Faults.{Rose}
use Rattle.rl_source.specs.Written.{GainsLess}
use Rattle.rl_asked.specs.Words.{Text}
use Rattle.rl_ask.specs.Lines.{IsNextLine, IsReply, Replies}
use Rattle.rl_ask.specs.Sinks.{GainsMessage, SinkChange}

-- ---- the lines

-- The output gained a right reply to each line that was read from the start of the input, each whole.
pub record WritesReplies (input : Option Text) (out : SinkChange) : Type 0 where
  pub rest : Option Text
  pub output : Text
  pub replies : Replies input rest output
  pub written : Appends out.old out.new output

-- The output gained a right reply to each line of the input, and nothing is left of the input.
pub record WritesAllReplies (input : Option Text) (out : SinkChange) : Type 0 where
  pub rest : Option Text
  pub output : Text
  pub replies : Replies input rest output
  pub at_end : IsAtEnd rest
  pub written : Appends out.old out.new output

-- The output gained a right reply to each line that was read, except that of the last of these lines it gained only a part,
-- since a write failed.
pub record WritesPart (input : Option Text) (out : SinkChange) : Type 0 where
  pub rest : Option Text
  pub after : Option Text
  pub output : Text
  pub line : Text
  pub reply : Text
  pub held : Option Text
  pub replies : Replies input rest output
  pub written : Appends out.old held output
  pub is_next : IsNextLine rest after line
  pub right : IsReply line reply
  pub part : GainsLess held out.new reply
  pub cause : Rose out.faults_old out.faults_new

-- How a run without words ends, by its status: 0 with all lines replied to; 3 where the input couldn't be read; 4 where a reply
-- couldn't be written; 5 at a line for which there was no memory. With 3 and 5 each line before has its reply.
pub data EndsLines (input : Option Text) (out err : SinkChange) : ℕ → Type 0 where
  at_end : WritesAllReplies input out → GainsMessage [] err → EndsLines input out err 0
  unreadable : WritesReplies input out → GainsMessage (codes "relint: input unreadable\n") err → EndsLines input out err 3
  write_fault : WritesPart input out → GainsMessage (codes "relint: write fault\n") err → EndsLines input out err 4
  no_memory : WritesReplies input out → GainsMessage (codes "relint: want of memory\n") err → EndsLines input out err 5

-- ---- the run

-- What is written on `err` if there are words.
abbrev pub usage_text : Text
usage_text = codes "usage: relint-ask\n"

-- What a run does, by its status (the last argument). If there are words, nothing is written but the usage text on `err`.
-- Otherwise the lines of the input have their replies.
pub data Runs (words : List Text) (input : Option Text) (out err : SinkChange) : ℕ → Type 0 where
  invalid : words ≢ [] → Keeps out.old out.new → GainsMessage usage_text err → Runs words input out err 2
  replies : {status : ℕ} → words ≡ [] → EndsLines input out err status → Runs words input out err status
