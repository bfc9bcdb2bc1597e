-- Readings: how the pumps of a verdict's family, which are the texts that it repeats, are read. A way reads a text code by code,
-- from a place of the pattern's tree to another one; ways, places and origins are defined in `rl_ways`, families and verdicts in
-- `rl_syntax`.
use Rattle.std.specs.Prelude.{◌≡◌, ℕ, zero, suc, ◌+◌, ◌<◌, List, [], length, Option, None, Some, IsSome, slice_get, slice_index_or}
use Rattle.rl_syntax.specs.declared.re.Mode.{Mode}
use Rattle.rl_syntax.specs.declared.pattern.Pattern.{Pattern}
use Rattle.rl_syntax.specs.declared.verdict.Verdict.{Verdict}
use Rattle.rl_syntax.specs.declared.verdict.Verdict.TheVariants.{Degree, Expo, Undecided}
use Rattle.rl_syntax.specs.Tree.{Tree}
use Rattle.rl_syntax.specs.Pattern.{pattern_tree, pattern_ending, universe_of, is_anchored, trail_of, body_of}
use Rattle.rl_pairs.specs.RightVerdict.{Question}
use Rattle.rl_ways.specs.declared.item.ToldItem.{ToldItem}
use Rattle.rl_ways.specs.Ways.{text_way, Leads, last_code, last_of}
use Rattle.rl_ways.specs.declared.origin.Origin.{Origin}
use Rattle.rl_ways.specs.Origins.{origins_in}
use Rattle.rl_why.specs.Shown.{Step, shown, PartAt}
use Rattle.rl_why.specs.Loops.{loop_of}
pub use Rattle.rl_why.specs.declared.reading.TwinReading.{TwinReading}
pub use Rattle.rl_why.specs.declared.reading.SplitReading.{SplitReading}
pub use Rattle.rl_why.specs.declared.reading.ChainReading.{ChainReading}
pub use Rattle.rl_why.specs.declared.reading.Reading.{Reading}
pub use Rattle.rl_why.specs.declared.reading.Reading.TheVariants.{Nothing, Twin, Chain}

-- The way of a list of move numbers along a text that is repeated: it begins after a place, with the last code of the text in
-- front.
abbrev pub way_again : Tree → List ℕ → Option ℕ → List ℕ → List ToldItem
way_again t text place numbers = text_way t place (last_of text) text numbers

-- Holds if the steps show a way along the text, which is repeated, from one place to another: the way of the move numbers, one
-- for each code.
pub record IsWay (t : Tree) (nodes : List Origin) (text : List ℕ) (from to : Option ℕ) (numbers : List ℕ) (steps : List Step) : Type 0 where
  pub leads : Leads from to text (way_again t text from numbers)
  pub long : length numbers ≡ length text
  pub same : steps ≡ shown nodes (way_again t text from numbers)

-- Holds if a way along the head leads from one place, with the code `before` in front, to another one, and if whatever follows
-- there is read behind the head as it is behind the pump: no guard tells their last codes apart. So the pump can be read any
-- number of times behind the head (`pumps_are_read_again` in `src/laws.rt`).
pub record IsEntered (t : Tree) (from before : Option ℕ) (head pump : List ℕ) (to : Option ℕ) : Type 0 where
  pub numbers : List ℕ
  pub long : length numbers ≡ length head
  pub leads : Leads from to head (text_way t from before head numbers)
  pub alike : (text others : List ℕ) → text_way t to (last_code before head) text others ≡ text_way t to (last_of pump) text others

-- Two ways of the text, each from the place back to itself. They part at the step that the reading names.
pub record AreTwinWays (t : Tree) (nodes : List Origin) (text : List ℕ) (place : Option ℕ) (r : TwinReading) : Type 0 where
  pub one : List ℕ
  pub other : List ℕ
  pub first : IsWay t nodes text place place one r.first
  pub second : IsWay t nodes text place place other r.second
  pub parts : PartAt r.parts r.first r.second

-- Two ways of the first pump, from a place back to itself. The first head leads from the start of the tree to this place.
pub record IsTwinReading (t : Tree) (nodes : List Origin) (heads pumps : List (List ℕ)) (r : TwinReading) : Type 0 where
  pub place : Option ℕ
  pub entered : IsEntered t None None (slice_index_or heads 0 []) (slice_index_or pumps 0 []) place
  pub ways : AreTwinWays t nodes (slice_index_or pumps 0 []) place r

-- Three ways of the text: from a place back to itself, from there to another place, and from this back to itself; with the
-- loops that the first and the last of them go round, which are named. The first two, which begin at one place, part at some
-- step.
pub record AreSplitWays (t : Tree) (nodes : List Origin) (text : List ℕ) (from to : Option ℕ) (r : SplitReading) : Type 0 where
  pub stays : List ℕ
  pub goes : List ℕ
  pub follows : List ℕ
  pub before : IsWay t nodes text from from stays r.before
  pub over : IsWay t nodes text from to goes r.over
  pub behind : IsWay t nodes text to to follows r.behind
  pub step : ℕ
  pub parts : PartAt step r.before r.over
  pub first_loop : r.first_loop ≡ loop_of t nodes (way_again t text from stays)
  pub second_loop : r.second_loop ≡ loop_of t nodes (way_again t text to follows)
  pub first_named : IsSome r.first_loop
  pub second_named : IsSome r.second_loop

-- The loop that a way of the text goes round, from the place back to itself. It is named.
pub record IsCycle (t : Tree) (nodes : List Origin) (text : List ℕ) (place : Option ℕ) (o : Option Origin) : Type 0 where
  pub numbers : List ℕ
  pub leads : Leads place place text (way_again t text place numbers)
  pub long : length numbers ≡ length text
  pub same : o ≡ loop_of t nodes (way_again t text place numbers)
  pub named : IsSome o

-- A split for each pump but the last one, in order, and a cycle for the last one. The pump `k` is read from the place `from k`,
-- and its split goes over to the place `to k`.
pub record AreChainWays (t : Tree) (nodes : List Origin) (pumps : List (List ℕ)) (from to : ℕ → Option ℕ) (r : ChainReading) : Type 0 where
  pub count : length r.splits + 1 ≡ length pumps
  pub splits : (k : ℕ) (s : SplitReading) → slice_get r.splits k ≡ Some s → AreSplitWays t nodes (slice_index_or pumps k []) (from k) (to k) s
  pub cycle : IsCycle t nodes (slice_index_or pumps (length r.splits) []) (from (length r.splits)) r.cycle

-- The ways of a chain, and heads that lead to them: the first head from the start of the tree to the place of the first pump,
-- and each later one from the place to which the split before it goes over.
pub record IsChainReading (t : Tree) (nodes : List Origin) (heads pumps : List (List ℕ)) (r : ChainReading) : Type 0 where
  pub from : ℕ → Option ℕ
  pub to : ℕ → Option ℕ
  pub ways : AreChainWays t nodes pumps from to r
  pub first : IsEntered t None None (slice_index_or heads 0 []) (slice_index_or pumps 0 []) (from 0)
  pub later : (k : ℕ) → k < length r.splits
      → IsEntered t (to k) (last_of (slice_index_or pumps k [])) (slice_index_or heads (suc k) []) (slice_index_or pumps (suc k) []) (from (suc k))

-- Holds if the reading is that of a chain for the heads and pumps.
abbrev pub IsChainOf : Tree → List Origin → List (List ℕ) → List (List ℕ) → Reading → Type 0
IsChainOf t nodes heads pumps Nothing = ⊥
IsChainOf t nodes heads pumps (Twin r) = ⊥
IsChainOf t nodes heads pumps (Chain r) = IsChainReading t nodes heads pumps r

-- Holds if the reading is that of a twin for the first head and the first pump.
abbrev pub IsTwinOf : Tree → List Origin → List (List ℕ) → List (List ℕ) → Reading → Type 0
IsTwinOf t nodes heads pumps Nothing = ⊥
IsTwinOf t nodes heads pumps (Twin r) = IsTwinReading t nodes heads pumps r
IsTwinOf t nodes heads pumps (Chain r) = ⊥

-- Holds if the reading is one of the verdict's family: for exponential growth two ways of its pump, for a degree of 1 or more the
-- ways of each pump, and otherwise nothing.
abbrev pub IsReadingOf : Tree → List Origin → Verdict → Reading → Type 0
IsReadingOf t nodes (Degree zero f) reading = reading ≡ Nothing
IsReadingOf t nodes (Degree (suc d) f) reading = IsChainOf t nodes f.heads f.pumps reading
IsReadingOf t nodes (Expo f) reading = IsTwinOf t nodes f.heads f.pumps reading
IsReadingOf t nodes (Undecided limit) reading = reading ≡ Nothing

-- The origins of the nodes of the pattern's tree in the mode.
abbrev pub nodes_of : Pattern → Mode → List Origin
nodes_of p mode = origins_in mode (is_anchored p) (trail_of p) (body_of p)

-- The question about a pattern in a mode, with at most `max_pairs` live pairs.
abbrev pub question_about : Pattern → Mode → ℕ → Question
question_about p mode max_pairs =
    record { tree = pattern_tree p mode; ending = pattern_ending p mode; universe = universe_of p; max_pairs = max_pairs }
