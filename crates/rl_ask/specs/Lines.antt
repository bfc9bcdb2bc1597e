-- Lines: what is replied to a line of the input. A line is its bytes up to its line feed, which is one of them; the last line
-- of an input may have none.
use Rattle.std.specs.Prelude.{◌≡◌, ◌<◌, ◌+◌, ◌++◌, Bool, true, false, [], length, nat_lt, Option, None, Some, Ok, Err, codes, IfSome, IsUtf8, if◌then◌else◌}
use Rattle.std.specs.Fmt.{decimal}
use Rattle.std.specs.Io.BufRead.{DropsThrough, ends_with_byte, take_through}
use Rattle.serde_json.specs.Data.{Data}
use Rattle.serde_json.specs.Read.{read}
use Rattle.rl_asked.specs.Questions.{Asked}
use Rattle.rl_asked.specs.Reading.{question_read}
use Rattle.rl_asked.specs.Words.{Text}
use Rattle.rl_ask.specs.Answers.{IsRight}
use Rattle.rl_ask.specs.Beyond.{IsTold}
use Rattle.rl_ask.specs.Document.{error_text, reply_text}
use Rattle.rl_ask.specs.declared.answer.Answer.{Answer}
use Rattle.rl_ask.specs.declared.beyond.Beyond.{Beyond}
use Rattle.rl_ask.specs.declared.limits.TheConstants.{MOST_LINE_BYTES}

-- ---- one line

-- Holds if the text is a right reply to the value: the message on why it asks no question, or the line of a right answer to its
-- question, with what is told of its patterns beside it.
pub data IsReplyTo (d : Data) : Text → Type 0 where
  mistaken : {message : Text} → question_read d ≡ Err message → IsReplyTo d (error_text message)
  answered : {q : Asked} (given : Answer) (told : Beyond) → question_read d ≡ Ok q → IsRight q given → IsTold q given told
      → IsReplyTo d (reply_text q told given)

-- Whether the line has more than `MOST_LINE_BYTES` bytes. Its line feed, if it has one, isn't counted.
abbrev pub is_over : Text → Bool
is_over line = if ends_with_byte 10 line then nat_lt (MOST_LINE_BYTES + 1) (length line) else nat_lt MOST_LINE_BYTES (length line)

-- Holds if the text is a right reply to the line: that there was no memory for another reply, that the line is too long, that
-- it isn't JSON, or a right reply to its value. Nothing is said of when there is no memory.
pub data IsReply (line : Text) : Text → Type 0 where
  no_memory : IsReply line (error_text (codes "out of memory"))
  too_long : is_over line ≡ true → IsReply line (error_text (codes "line over " ++ (decimal MOST_LINE_BYTES ++ codes " bytes")))
  no_json : is_over line ≡ false → (IsUtf8 line → read line ≡ None) → IsReply line (error_text (codes "no JSON"))
  of_value : {d : Data} {text : Text} → is_over line ≡ false → IsUtf8 line → read line ≡ Some d → IsReplyTo d text → IsReply line text

-- ---- many lines

-- `line` is the next line of an input of which `old` was left, and `new` is what is left behind it. It isn't empty: at the end
-- of the input there is no next line. An input may not tell what is left of it (`None`); then nothing else is said.
pub record IsNextLine (old new : Option Text) (line : Text) : Type 0 where
  pub some : 0 < length line
  pub is_first : IfSome old (λ bytes. line ≡ take_through 10 bytes)
  pub is_left : DropsThrough old new 10

-- Holds if some lines were read from the start of the input, of which `rest` is left (the second argument), and the text is a
-- right reply to each of these lines in turn, one behind the other.
pub data Replies (input : Option Text) : Option Text → Text → Type 0 where
  none : Replies input input []
  next : {rest after : Option Text} {output line reply : Text} → Replies input rest output → IsNextLine rest after line → IsReply line reply
      → Replies input after (output ++ reply)
