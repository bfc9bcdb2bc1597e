-- A whole run of the program. The words are those of the command line after the program's name, and `out` and `err` are the
-- standard output and the standard error. The tree of files is the file system that the run reads. A moment is this tree at
-- one point in time: what it reveals about itself (its map of paths and the trail of the calls made on it, if it reveals them)
-- and the number of its calls that failed. An ending says what the run does: it refuses with a message, it reports an
-- unreadable file with a message, or it writes a text.
use Rattle.std.specs.Prelude.{◌≡◌, ◌⊎◌, ℕ, List, codes}
use Rattle.std.specs.Io.KnownBytes.{Keeps}
use Rattle.rl_walk.specs.Visits.{Moment}
use Rattle.rl_words.specs.Given.{given_by}
use Rattle.rl_lint.specs.Endings.{Ending, EndsBy}
use Rattle.rl_lint.specs.RunEnding.{IsRunEnding}
use Rattle.rl_lint.specs.Sinks.{GainsMessage, SinkChange}
use Rattle.rl_report.specs.Names.{Text}

-- The run came to its ending, which is right for the words and for what the tree answered between the moments `old` and `new`.
-- Its status and the changes of `out` and `err` are those of this ending.
pub record Completes (words : List Text) (old new : Moment) (out err : SinkChange) (status : ℕ) : Type 0 where
  pub ending : Ending
  pub right : IsRunEnding (given_by words) old new ending
  pub ends : EndsBy ending out err status

-- Memory ran out before anything was written to `out`. The status is 5, `out` keeps its bytes, and the message on it is
-- written to `err`, as far as no write to `err` fails.
pub record IsOutOfMemory (out err : SinkChange) (status : ℕ) : Type 0 where
  pub code : status ≡ 5
  pub nothing : Keeps out.old out.new
  pub message : GainsMessage (codes "relint: want of memory\n") err

-- A run with these words: it completes or runs out of memory. `old` and `new` are the tree before and after the run.
abbrev pub Runs : List Text → Moment → Moment → SinkChange → SinkChange → ℕ → Type 0
Runs words old new out err status = Completes words old new out err status ⊎ IsOutOfMemory out err status
