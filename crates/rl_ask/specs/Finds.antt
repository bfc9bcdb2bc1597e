-- Finds: what is promised of an answer that says what a pattern finds on a text. Positions count codes from 0.
use Rattle.std.specs.Prelude.{◌≡◌, ℕ, Bool, true, List, Option, option_map}
use Rattle.rl_syntax.specs.declared.pattern.Pattern.{Pattern}
use Rattle.rl_syntax.specs.declared.re.Mode.{Mode}
use Rattle.rl_syntax.specs.declared.re.Mode.TheVariants as mode
use Rattle.rl_marks.specs.SameFinds.{matcher_in}
use Rattle.rl_marks.specs.Searches.{Match, search_from}
use Rattle.rl_marks.specs.declared.asked.How.TheVariants as how
use Rattle.rl_marks.specs.declared.pattern.MarkedPattern.{MarkedPattern}
use Rattle.rl_spans.specs.Limits.{IsCauseAlone}
use Rattle.rl_spans.specs.Sights.{found_in, sight_of}
use Rattle.rl_spans.specs.declared.error.SpansError.TheVariants as error
use Rattle.rl_ask.specs.Patterns.{IsMarkedAs, ExceedsItself}
use Rattle.rl_ask.specs.declared.answer.Answer.{Answer}
use Rattle.rl_ask.specs.declared.answer.Answer.TheVariants as answer
use Rattle.rl_ask.specs.declared.answer.Limit.{Limit}
use Rattle.rl_ask.specs.declared.answer.Limit.TheVariants as limit

-- The match that the pattern finds on the text `w`, or `None`. By `fullmatch` and `match` it is the match that begins at
-- position `i`, and by `search` the first one that begins there or later. If `advance` is true, a match that begins at `i` must
-- not be empty.
abbrev pub found_as : Mode → MarkedPattern → List ℕ → Bool → ℕ → Option Match
found_as mode.Fullmatch m w advance i = found_in how.Fullmatch m w advance i
found_as mode.Match m w advance i = found_in how.Match m w advance i
found_as mode.Search m w advance i = search_from (matcher_in how.Match m) w advance i

-- Holds if the pattern alone exceeds the limit when it is run: at a point of its tree too many items are tried.
abbrev pub ExceedsAlone : MarkedPattern → List ℕ → Limit → Type 0
ExceedsAlone m w limit.Size = IsCauseAlone m w error.Size
ExceedsAlone m w limit.Letters = IsCauseAlone m w error.Letters
ExceedsAlone m w limit.Moves = IsCauseAlone m w error.Moves
ExceedsAlone m w limit.Groups = ⊥

-- Holds if the answer is right for a pattern with its groups: what it finds, with the values of its groups, or a limit that it
-- exceeds.
abbrev pub IsSight : Mode → MarkedPattern → List ℕ → Bool → ℕ → Answer → Type 0
IsSight mode m w advance i (answer.Found sight) = sight ≡ option_map (sight_of m.groups) (found_as mode m w advance i)
IsSight mode m w advance i (answer.Undecided exceeded) = ExceedsAlone m w exceeded
IsSight mode m w advance i _ = ⊥

-- Holds if the answer is right for a pattern: it names a limit that the pattern exceeds itself, or it is right for the pattern
-- with its groups.
pub data IsFoundOn (mode : Mode) (w : List ℕ) (advance : Bool) (i : ℕ) (p : Pattern) : Answer → Type 0 where
  exceeds : {exceeded : Limit} → ExceedsItself p exceeded → IsFoundOn mode w advance i p (answer.Undecided exceeded)
  runs : {m : MarkedPattern} {found : Answer} → IsMarkedAs true p m → IsSight mode m w advance i found → IsFoundOn mode w advance i p found
