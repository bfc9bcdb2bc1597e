-- What is known of the states of one side of a comparison. State 0 is the start of its tree, and state `p + 1` is behind the
-- place `p` of it; the places of a tree are its tests of a code, numbered from 0 on from left to right.
use Rattle.std.specs.Prelude.{◌≡◌, ℕ, suc, ◌<◌, ◌≤◌, Bool, List, length, map, slice_index_or, []}
use Rattle.rl_syntax.specs.Tree.{sets_in}
use Rattle.rl_syntax.specs.declared.limits.TheConstants.{MOST_NODES}
use Rattle.rl_marks.specs.Marked.{Marked, marked_of, plain}
use Rattle.rl_marks.specs.Hits.{Matcher}
use Rattle.rl_marks.specs.declared.threads.MarkItem.{MarkItem}
use Rattle.rl_marks.specs.internal.MarkItems.{places}
use Rattle.rl_marks.specs.internal.Threads.{items_at}
use Rattle.rl_spans.specs.declared.side.Side.{Side}

-- There is a row for each state of the tree `m`, and it has the state's items.
pub record HasItems (m : Marked) (rows : List (List MarkItem)) : Type 0 where
  pub count : length rows ≡ suc (places m)
  pub items : (q : ℕ) → q < length rows → slice_index_or rows q [] ≡ items_at m q

-- `tests` has a list for each code of `codes`: for each place of the tree `m`, whether its test takes the code.
abbrev pub HasTests : Marked → List ℕ → List (List Bool) → Type 0
HasTests m codes tests = tests ≡ map (λ code. map (λ (set : ℕ → Bool). set code) (sets_in (plain m))) codes

-- The side knows the items of its states and the tests of the codes, and its tree has at most `MOST_NODES` places.
pub record IsSide (codes : List ℕ) (side : Side) : Type 0 where
  pub items : HasItems (marked_of side.tree) side.rows
  pub tests : HasTests (marked_of side.tree) codes side.tests
  pub few : places (marked_of side.tree) ≤ MOST_NODES

-- The matcher of a side: its tree, and where a match may end.
abbrev pub matcher_of : Side → Matcher
matcher_of side = record { tree = marked_of side.tree; ending = side.ending }

-- For each place of the tree `m`, whether its test takes the code.
abbrev pub tests_at : Marked → ℕ → List Bool
tests_at m code = map (λ (set : ℕ → Bool). set code) (sets_in (plain m))
