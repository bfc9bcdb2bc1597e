-- Spans: what is promised of an answer that says whether two patterns find the same spans and groups.
use Rattle.std.specs.Prelude.{◌≡◌, Bool, option_map, ⊤}
use Rattle.rl_syntax.specs.declared.pattern.Pattern.{Pattern}
use Rattle.rl_marks.specs.SameFinds.{FindAlike}
use Rattle.rl_marks.specs.declared.asked.How.{How}
use Rattle.rl_marks.specs.declared.pattern.MarkedPattern.{MarkedPattern}
use Rattle.rl_spans.specs.Answers.{DifferOn}
use Rattle.rl_spans.specs.Limits.{IsCause}
use Rattle.rl_spans.specs.Sights.{found_in, sight_of}
use Rattle.rl_spans.specs.declared.error.SpansError.TheVariants as error
use Rattle.rl_ask.specs.Patterns.{IsMarkedAs, ExceedsItself}
use Rattle.rl_ask.specs.declared.answer.Answer.{Answer}
use Rattle.rl_ask.specs.declared.answer.Answer.TheVariants as answer
use Rattle.rl_ask.specs.declared.answer.Difference.{Difference}
use Rattle.rl_ask.specs.declared.answer.Limit.{Limit}
use Rattle.rl_ask.specs.declared.answer.Limit.TheVariants as limit

-- Holds if the two patterns, asked as `how` says, find different matches on the text of `d` from its position on, and the rest
-- of `d` is what each of them finds there: its match with the values of its groups, or `None`. If `d.advance` is true, only
-- matches that aren't empty count; nothing is said of whether the patterns differ if others count too.
pub record Shows (how : How) (a b : MarkedPattern) (d : Difference) : Type 0 where
  pub differ : DifferOn how a b d.text d.from d.advance
  pub first : d.first ≡ option_map (sight_of a.groups) (found_in how a d.text d.advance d.from)
  pub second : d.second ≡ option_map (sight_of b.groups) (found_in how b d.text d.advance d.from)

-- Holds if the comparison of the two patterns, asked as `how` says, exceeds the limit: a tree that is compared has too many
-- nodes, both trees tell too many letters apart, or in one of them too many items are tried at one point. The limit on groups
-- is never exceeded here, since `ExceedsItself` settles it before.
abbrev pub ExceedTogether : How → MarkedPattern → MarkedPattern → Limit → Type 0
ExceedTogether how a b limit.Size = IsCause how a b error.Size
ExceedTogether how a b limit.Letters = IsCause how a b error.Letters
ExceedTogether how a b limit.Moves = IsCause how a b error.Moves
ExceedTogether how a b limit.Groups = ⊥

-- What is promised of two patterns with their groups, or without them. Nothing is of `Exceeded`.
abbrev pub IsDecided : How → MarkedPattern → MarkedPattern → Answer → Type 0
IsDecided how a b answer.Same = FindAlike how a b
IsDecided how a b (answer.Differ d) = Shows how a b d
IsDecided how a b answer.Exceeded = ⊤
IsDecided how a b (answer.Undecided exceeded) = ExceedTogether how a b exceeded
IsDecided how a b _ = ⊥

-- Holds if the answer is right for the pattern `a`, with its groups or without them, and the pattern `q`: it names a limit that
-- `q` exceeds itself, or it is right for both.
pub data IsFoundWith (how : How) (groups : Bool) (a : MarkedPattern) (q : Pattern) : Answer → Type 0 where
  second_exceeds : {exceeded : Limit} → ExceedsItself q exceeded → IsFoundWith how groups a q (answer.Undecided exceeded)
  decided : {b : MarkedPattern} {found : Answer} → IsMarkedAs groups q b → IsDecided how a b found → IsFoundWith how groups a q found

-- Holds if the answer is right for two patterns, `p` and `q`: it names a limit that one of them exceeds itself, or it is right
-- for both with their groups, or without them if the flag is false.
pub data AreFound (how : How) (groups : Bool) (p q : Pattern) : Answer → Type 0 where
  first_exceeds : {exceeded : Limit} → ExceedsItself p exceeded → AreFound how groups p q (answer.Undecided exceeded)
  first_marked : {a : MarkedPattern} {found : Answer} → IsMarkedAs groups p a → IsFoundWith how groups a q found → AreFound how groups p q found
