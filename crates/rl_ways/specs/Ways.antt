-- Ways: how a list of moves of the automaton of a tree reads a word, told. A way has, for each letter, the told item that is
-- the move: the place whose set takes the letter, and the decisions on the way to it. Moves are numbered as in the automaton:
-- from 0, among the moves of a state on a letter.
use Rattle.std.specs.Prelude.{◌≡◌, ℕ, zero, suc, ◌/◌, ◌<◌, nat_lt, List, [], ◌∷◌, ◌++◌, length, map, Option, None, Some, slice_get, if◌then◌else◌}
use Rattle.rl_syntax.specs.declared.re.Ending.{Ending}
use Rattle.rl_syntax.specs.Tree.{Tree, places}
use Rattle.rl_prio.specs.Items.{Item, test_at, pass, all_hold, set_of}
use Rattle.rl_prio.specs.Letters.{letters, kinds, kind_of}
use Rattle.rl_prio.specs.States.{place_states, state_of, dead, test_target, end_target, kind_before}
use Rattle.rl_ways.specs.Told.{ToldItem, Decision, item_of, told_first, told_after}
use Rattle.rl_ways.specs.Apart.{Part}

-- The told items whose guards hold between the code before a position and the next one, in order. Either may be missing.
abbrev pub open_ones : Option ℕ → Option ℕ → List ToldItem → List ToldItem
open_ones before next [] = []
open_ones before next (m ∷ l) = (if all_hold m.guards before next then m ∷ [] else []) ++ open_ones before next l

-- The state to which an item moves before the code `next`, or at the end of the text. `n` is the number of codes.
abbrev pub target_of : Tree → Ending → ℕ → Option ℕ → Item → ℕ
target_of t ending n next (test_at gs p) = test_target t n p next
target_of t ending n next (pass gs) = end_target t ending n next

-- The told items of entering the tree, or after one of its places.
abbrev pub told_at : Tree → Option ℕ → List ToldItem
told_at t None = told_first t 0 0
told_at t (Some p) = told_after t 0 0 p

-- The told items of a state. The accepting state, the dead state and any number past them have none.
abbrev pub told_of : Tree → ℕ → ℕ → List ToldItem
told_of t n zero = told_at t None
told_of t n (suc r) = if nat_lt r (place_states t n) then told_at t (Some (r / length (kinds t n))) else []

-- The moves of the state `q` on a letter, told.
abbrev pub told_moves : Tree → ℕ → ℕ → ℕ → List ToldItem
told_moves t n q letter = open_ones (kind_before t n q) (slice_get (letters t n) letter) (told_of t n q)

-- The told item, if there is one, and what follows it.
abbrev pub going_on : (ToldItem → List ToldItem) → Option ToldItem → List ToldItem
going_on next None = []
going_on next (Some m) = m ∷ next m

-- The way of a list of move numbers from the state `q` along a word. It ends early where there is no move with the number.
abbrev pub way : Tree → Ending → ℕ → ℕ → List ℕ → List ℕ → List ToldItem
way t ending n q [] numbers = []
way t ending n q (letter ∷ word) [] = []
way t ending n q (letter ∷ word) (k ∷ numbers) =
    going_on (λ m. way t ending n (target_of t ending n (slice_get (letters t n) letter) (item_of m)) word numbers)
    (slice_get (told_moves t n q letter) k)

-- The decisions of a way, letter by letter.
abbrev pub decisions_of : List ToldItem → List (List Decision)
decisions_of l = map (λ m. m.decisions) l

-- The told item `m`, whose place is given, and what follows it, if the set of the place takes the code. Nothing otherwise, nor
-- at the end of the tree, where there is no place.
abbrev pub if_taken : Tree → ℕ → ToldItem → (ℕ → List ToldItem) → Option ℕ → List ToldItem
if_taken t code m next None = []
if_taken t code m next (Some p) = if set_of t 0 p code then m ∷ next p else []

-- What the function gives for the told item, if there is one.
abbrev pub if_any : (ToldItem → List ToldItem) → Option ToldItem → List ToldItem
if_any f None = []
if_any f (Some m) = f m

-- The way of a list of move numbers along a text, from the start of the tree or after a place, with the code `before` in front
-- of the text: for each code the told item that takes it. It ends early where there is no move with the number, or one that
-- doesn't take the code.
abbrev pub text_way : Tree → Option ℕ → Option ℕ → List ℕ → List ℕ → List ToldItem
text_way t place before [] numbers = []
text_way t place before (code ∷ text) [] = []
text_way t place before (code ∷ text) (k ∷ numbers) =
    if_any (λ m. if_taken t code m (λ p. text_way t (Some p) (Some code) text numbers) m.place)
    (slice_get (open_ones before (Some code) (told_at t place)) k)

-- The last place of a way that begins after a place, or at the start of the tree (`None`).
abbrev pub last_place : Option ℕ → List ToldItem → Option ℕ
last_place place [] = place
last_place place (m ∷ l) = last_place m.place l

-- Holds if the way, which begins at the place `from`, reads the whole text, and ends at the place `to`.
pub record Leads (from to : Option ℕ) (text : List ℕ) (l : List ToldItem) : Type 0 where
  pub whole : length l ≡ length text
  pub ends : last_place from l ≡ to

-- The state of an automaton of the tree after a place, on the code that was read there. Without a place it is the start. `n` is
-- the number of codes.
abbrev pub state_after : Tree → ℕ → Option ℕ → Option ℕ → ℕ
state_after t n None before = 0
state_after t n (Some p) None = dead t n
state_after t n (Some p) (Some code) = state_of t n p (kind_of t n code)

-- Holds if the tree can be left off there: at the start, where no code was read, or after one of its places, on a code.
abbrev pub IsPoint : Tree → ℕ → Option ℕ → Option ℕ → Type 0
IsPoint t n None None = Unit {0}
IsPoint t n None (Some code) = ⊥
IsPoint t n (Some p) None = ⊥
IsPoint t n (Some p) (Some code) = (p < places t) × (code < n)

-- The place of a state, or none for the start: each place has a state for each kind of letters. For the accepting state, the
-- dead state and any number past them it means nothing. `n` is the number of codes.
abbrev pub place_of_state : Tree → ℕ → ℕ → Option ℕ
place_of_state t n zero = None
place_of_state t n (suc r) = Some (r / length (kinds t n))

-- The last code of a text, or the code before it if the text is empty.
abbrev pub last_code : Option ℕ → List ℕ → Option ℕ
last_code before [] = before
last_code before (code ∷ text) = last_code (Some code) text

-- The last code of a text, if the text has any.
abbrev pub last_of : List ℕ → Option ℕ
last_of text = last_code None text

-- Holds if the two ways are the same up to the told item with the index `k`, and there the decisions part.
pub record PartsAt (k : ℕ) (l m : List ToldItem) : Type 0 where
  pub common : List ToldItem
  pub one : ToldItem
  pub other : ToldItem
  pub rest : List ToldItem
  pub others : List ToldItem
  pub first : l ≡ common ++ one ∷ rest
  pub second : m ≡ common ++ other ∷ others
  pub index : length common ≡ k
  pub part : Part one.decisions other.decisions
