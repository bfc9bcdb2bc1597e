-- For the contracts of private functions: plans, from which the rows of an automaton are made. A plan has the attempts at the
-- start (`first`) and after each place (`after`); for each place, whether its set holds each letter (`members`); the kind of
-- each letter (`kinds_of`); what is shown before the start and by each kind (`before`); what is shown by each letter and the
-- end letter (`next`); and where a match may end (`ending`). An attempt is a test of a place's set, or an end, each with the
-- set of its guards; the places of a tree are its sets, numbered from left to right. A guard is an anchor, a word boundary or
-- a lookaround of one character; codes of one kind look alike to all guards of the tree. The state of a place and a kind is
-- the one after the test of the place has succeeded on a letter of that kind. States are numbered in this order: the start,
-- the states of places by place and then by kind, the accepting state, the dead state. The end letter is read at the end of a
-- text.
use Rattle.std.specs.Prelude.{◌≡◌, ℕ, zero, suc, ◌+◌, ◌*◌, ◌-◌, ◌/◌, ◌%◌, ◌<◌, ◌≤◌, Bool, true, false, ◌==◌, ◌&&◌, nat_lt, List, [], ◌∷◌, ◌++◌, length, map, All, slice_index_or, if◌then◌else◌}
use Rattle.std.specs.List.{flat_map, range_with_len}
use Rattle.rl_ranges.specs.Letters.{LetterTable, letter_at}
use Rattle.rl_ranges.specs.declared.letters.TheConstants.{MOST_LETTERS}
use Rattle.rl_syntax.specs.declared.re.Ending.{Ending}
use Rattle.rl_syntax.specs.declared.re.Ending.TheVariants.{AtEnd, Anywhere}
use Rattle.rl_syntax.specs.Tree.{Tree, sets_in}
use Rattle.rl_syntax.specs.declared.limits.TheConstants.{MOST_NODES}
use Rattle.rl_prio.specs.Items.{first}
use Rattle.rl_prio.specs.internal.GuardSets.{met, nothing_shown, code_shown, holding}
use Rattle.rl_prio.specs.internal.Attempts.{attempts, guards_of, lists_of}
use Rattle.rl_prio.specs.declared.build.guards.Guards.{Guards}
use Rattle.rl_prio.specs.declared.build.guards.Shown.{Shown}
use Rattle.rl_prio.specs.declared.build.attempts.Attempt.{Attempt}
use Rattle.rl_prio.specs.declared.build.attempts.Attempt.TheVariants.{Test, End}
use Rattle.rl_prio.specs.declared.build.plan.Plan.{Plan}

-- The number of letters of a plan. It is also the number of the end letter.
abbrev pub plan_letters : Plan → ℕ
plan_letters p = length p.kinds_of.items

-- The number of kinds of a plan. It is one less than the length of `before`, which also has what is shown before the start, or
-- 0 if `before` is empty.
abbrev pub plan_kinds : Plan → ℕ
plan_kinds p = length p.before.items - 1

-- The number of states of places: one for each place and kind.
abbrev pub plan_place_states : Plan → ℕ
plan_place_states p = length p.after.items * plan_kinds p

-- The number of states, including the start, the accepting state and the dead state.
abbrev pub plan_states : Plan → ℕ
plan_states p = plan_place_states p + 3

-- Whether the set of a place holds a letter, both given by their numbers. No set holds the end letter or a greater number, and
-- a place that the plan doesn't have holds nothing.
unfoldable pub holds_at : Plan → ℕ → ℕ → Bool
holds_at p place letter = nat_lt letter (plan_letters p) && slice_index_or (slice_index_or p.members.items place []) letter false

-- The target of the test of a place on a letter: the state of the place and the letter's kind if the set of the place holds
-- the letter, and the dead state otherwise.
unfoldable pub test_goes : Plan → ℕ → ℕ → ℕ
test_goes p place letter = if holds_at p place letter then suc (place * plan_kinds p + slice_index_or p.kinds_of.items letter 0) else plan_place_states p + 2

-- Whether a match may end before a letter: always for `Anywhere`, and only before the end letter, which has the number
-- `count`, for `AtEnd`.
abbrev pub may_end : Ending → ℕ → ℕ → Bool
may_end AtEnd letter count = letter == count
may_end Anywhere letter count = true

-- The target of an end on a letter: the accepting state if a match may end before the letter, and the dead state otherwise.
unfoldable pub end_goes : Plan → ℕ → ℕ
end_goes p letter = if may_end p.ending letter (plan_letters p) then plan_place_states p + 1 else plan_place_states p + 2

-- The target of an attempt on a letter. Its guards aren't considered.
abbrev pub target_of : Plan → ℕ → Attempt → ℕ
target_of p letter (Test gs place) = test_goes p place letter
target_of p letter (End gs) = end_goes p letter

-- The list of the target of an attempt on a letter if all its guards are in `held`, the set of the guards that hold, and
-- otherwise the empty list.
abbrev pub move_of : Plan → Guards → ℕ → Attempt → List ℕ
move_of p held letter a = if met (guards_of a) held then target_of p letter a ∷ [] else []

-- The moves of a list of attempts on a letter, in order. `held` is the set of the guards that hold.
abbrev pub moves_of : Plan → Guards → ℕ → List Attempt → List ℕ
moves_of p held letter l = flat_map (move_of p held letter) l

-- The attempts of a state: at the start, or after its place has succeeded. The accepting state, the dead state and any number
-- past them have none.
unfoldable pub attempts_at : Plan → ℕ → List Attempt
attempts_at p zero = p.first
attempts_at p (suc r) = if nat_lt r (plan_place_states p) then slice_index_or p.after.items (r / plan_kinds p) [] else []

-- What is shown before a state, as an entry of `before`: the first one for the start, and the one of its kind for the state of
-- a place. If there is no such entry, no code is shown. For the accepting state and the dead state it means nothing.
unfoldable pub before_at : Plan → ℕ → Shown
before_at p zero = slice_index_or p.before.items 0 nothing_shown
before_at p (suc r) = slice_index_or p.before.items (suc (r % plan_kinds p)) nothing_shown

-- The row of a list of attempts on a letter, given what is shown before the letter: the targets of those attempts whose guards
-- all hold between that and the letter, in order.
abbrev pub row_of : Plan → Shown → List Attempt → ℕ → List ℕ
row_of p before l letter = moves_of p (holding before (slice_index_or p.next.items letter nothing_shown)) letter l

-- The row of a state and a letter, that is, the states to which the automaton moves: the targets of those of the state's
-- attempts whose guards all hold before the letter, in order.
abbrev pub row_at : Plan → ℕ → ℕ → List ℕ
row_at p state letter = row_of p (before_at p state) (attempts_at p state) letter

-- The list of one row for each letter, in the order of their numbers, with the end letter last. `row` gives the row of a
-- letter.
abbrev pub each_letter : Plan → (ℕ → List ℕ) → List (List ℕ)
each_letter p row = map row (range_with_len 0 (suc (plan_letters p)))

-- The rows of a state, one for each letter, with the end letter last.
abbrev pub rows_of_state : Plan → ℕ → List (List ℕ)
rows_of_state p state = each_letter p (row_at p state)

-- The rows of all states with smaller numbers than the given one, state by state from the start on. Those of each state are in
-- the order of the letters, with the end letter last.
abbrev pub rows_before : Plan → ℕ → List (List ℕ)
rows_before p zero = []
rows_before p (suc state) = rows_before p state ++ rows_of_state p state

-- Holds if the attempt is an end, or the test of a place whose number is less than `n`.
abbrev pub IsPlaced : ℕ → Attempt → Type 0
IsPlaced n (Test gs place) = place < n
IsPlaced n (End gs) = Unit {0}

-- Holds if the parts of the plan fit together: there is at least one kind, the numbers of places, kinds and letters are within
-- the limits, `next` has an entry for each letter and the end letter, `members` has a flag for each place and letter, the
-- kinds of letters are in range, and each test in an attempt is the test of a place of the plan.
pub record IsSound (p : Plan) : Type 0 where
  pub few_places : length p.after.items ≤ MOST_NODES
  pub some_kind : 1 ≤ plan_kinds p
  pub few_kinds : plan_kinds p ≤ MOST_LETTERS
  pub few_letters : plan_letters p ≤ MOST_LETTERS
  pub next_count : length p.next.items ≡ suc (plan_letters p)
  pub same_places : length p.members.items ≡ length p.after.items
  pub same_letters : (k : ℕ) → k < length p.members.items → length (slice_index_or p.members.items k []) ≡ plan_letters p
  pub kinds_below : (letter : ℕ) → letter < plan_letters p → slice_index_or p.kinds_of.items letter 0 < plan_kinds p
  pub placed : (state : ℕ) → All (IsPlaced (length p.after.items)) (attempts_at p state)

-- Holds if `rows` has the row of each state and letter, state by state, with the end letter last.
pub record AreRows (p : Plan) (rows : List (List ℕ)) : Type 0 where
  pub count : length rows ≡ plan_states p * suc (plan_letters p)
  pub each : (state letter : ℕ) → state < plan_states p → letter ≤ plan_letters p → slice_index_or rows (state * suc (plan_letters p) + letter) [] ≡ row_at p state letter

-- Holds if `p` is the plan of the tree `t` and the ending, over the given `letters` and `kinds`: its attempts at the start are
-- those of the items on entering the tree, and those after each place are those of the items after it; `members` says whether
-- each set of the tree holds the sample code of each letter; `kinds_of` has the kind of each letter's sample code; `before`
-- has what is shown by no code and then by the sample code of each kind, and `next` what is shown by the sample code of each
-- letter and then by no code; and its ending is the given one.
pub record IsPlan (p : Plan) (t : Tree) (letters kinds : LetterTable) (ending : Ending) : Type 0 where
  pub same_first : p.first ≡ attempts kinds (first t 0)
  pub same_after : p.after.items ≡ map (attempts kinds) (lists_of t 0)
  pub same_members : p.members.items ≡ map (λ set. map set letters.samples) (sets_in t)
  pub same_kinds : p.kinds_of.items ≡ map (letter_at kinds) letters.samples
  pub same_before : p.before.items ≡ nothing_shown ∷ map (code_shown kinds) kinds.samples
  pub same_next : p.next.items ≡ map (code_shown kinds) letters.samples ++ nothing_shown ∷ []
  pub same_ending : p.ending ≡ ending
