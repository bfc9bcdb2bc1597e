-- States and moves. The states are the start, one state for each place and kind of letter, the accepting state and the dead
-- state. The automaton is in the state of a place and a kind after the test of the place has succeeded on a letter of that
-- kind. The moves of a state on a letter come from its items whose guards all hold, in order, with repetitions. A test moves
-- to the state of its place and the letter's kind if the set of the place holds the letter, and to the dead state otherwise.
-- An end moves to the accepting state if the match may end there, and to the dead state otherwise. A letter is represented by
-- its least code, and the end letter by no code. In all definitions, `n` is the number of codes. An item is what a matcher
-- tries next: the test of a place, or the end of the tree, after a list of guards (anchors, word boundaries and lookarounds of
-- one character). The places of a tree are its sets, numbered from left to right. Codes of one kind look alike to all guards of
-- the tree.
use Rattle.std.specs.Prelude.{ℕ, zero, suc, ◌+◌, ◌*◌, ◌/◌, ◌%◌, Bool, true, false, nat_lt, List, [], ◌∷◌, ◌++◌, length, Option, None, Some, slice_get, if◌then◌else◌}
use Rattle.rl_ranges.specs.Letters.{classes}
use Rattle.rl_syntax.specs.declared.re.Ending.{Ending}
use Rattle.rl_syntax.specs.declared.re.Ending.TheVariants.{AtEnd, Anywhere}
use Rattle.rl_syntax.specs.Tree.{Tree, places}
use Rattle.rl_prio.specs.Items.{Item, test_at, pass, first, after, set_of, all_hold}
use Rattle.rl_prio.specs.Letters.{all_sets, kinds, kind_of}

-- The number of states of places: one for each place and kind.
abbrev pub place_states : Tree → ℕ → ℕ
place_states t n = places t * length (kinds t n)

-- The number of the state of the place `p` and the given kind. The start has the number 0.
abbrev pub state_of : Tree → ℕ → ℕ → ℕ → ℕ
state_of t n p kind = suc (p * length (kinds t n) + kind)

-- The number of the accepting state, which follows the states of the places.
abbrev pub accepting : Tree → ℕ → ℕ
accepting t n = suc (place_states t n)

-- The number of the dead state, which is the last one.
abbrev pub dead : Tree → ℕ → ℕ
dead t n = suc (suc (place_states t n))

-- The number of states.
abbrev pub state_count : Tree → ℕ → ℕ
state_count t n = suc (suc (suc (place_states t n)))

-- The target of the test of the place `p` on the code `next`: the state of the place and the code's kind if the set of the
-- place holds the code, and the dead state otherwise. A test always fails at the end of the text, where there is no code.
abbrev pub test_target : Tree → ℕ → ℕ → Option ℕ → ℕ
test_target t n p None = dead t n
test_target t n p (Some code) = if set_of t 0 p code then state_of t n p (kind_of t n code) else dead t n

-- Whether a match may end before the code `next`, or at the end of the text if there is no code.
abbrev pub ends_here : Ending → Option ℕ → Bool
ends_here AtEnd None = true
ends_here AtEnd (Some code) = false
ends_here Anywhere next = true

-- The target of an end before the code `next`, or at the end of the text: the accepting state if the match may end there, and
-- the dead state otherwise.
abbrev pub end_target : Tree → Ending → ℕ → Option ℕ → ℕ
end_target t ending n next = if ends_here ending next then accepting t n else dead t n

-- The targets of those items whose guards hold between the code before and the next one, in order. Either code may be missing.
abbrev pub moves_on : Tree → Ending → ℕ → Option ℕ → Option ℕ → List Item → List ℕ
moves_on t ending n before next [] = []
moves_on t ending n before next (test_at gs p ∷ l) =
    (if all_hold gs before next then test_target t n p next ∷ [] else []) ++ moves_on t ending n before next l
moves_on t ending n before next (pass gs ∷ l) =
    (if all_hold gs before next then end_target t ending n next ∷ [] else []) ++ moves_on t ending n before next l

-- The items of a state: for the start the ones of entering the tree, and for the state of a place the ones after that place.
-- The accepting state, the dead state and any number past them have none.
abbrev pub items_of : Tree → ℕ → ℕ → List Item
items_of t n zero = first t 0
items_of t n (suc r) = if nat_lt r (place_states t n) then after t 0 (r / length (kinds t n)) else []

-- The code before a state: for the state of a place, the least code of its kind. The start has none (`None`). For the
-- accepting state and the dead state it means nothing.
abbrev pub kind_before : Tree → ℕ → ℕ → Option ℕ
kind_before t n zero = None
kind_before t n (suc r) = slice_get (kinds t n) (r % length (kinds t n))

-- The moves of the state `q` on the code `next`, or at the end of the text if there is no code. The accepting state, the dead
-- state and any number past them have none.
abbrev pub moves_before : Tree → Ending → ℕ → ℕ → Option ℕ → List ℕ
moves_before t ending n q next = moves_on t ending n (kind_before t n q) next (items_of t n q)

-- The moves of the state `q` on a letter of the given sets. The number after the last letter is the end letter.
abbrev pub moves_over : List (ℕ → Bool) → Tree → Ending → ℕ → ℕ → ℕ → List ℕ
moves_over sets t ending n q letter = moves_before t ending n q (slice_get (classes sets n) letter)

-- The moves of the state `q` on a letter of the tree. The number after the last letter is the end letter.
abbrev pub moves : Tree → Ending → ℕ → ℕ → ℕ → List ℕ
moves t ending n q letter = moves_over (all_sets t) t ending n q letter
