-- Threads. A matcher that reads a text once keeps an ordered list of threads. A thread is a state with what is known of the
-- groups. The state is the start, or a place of the tree whose test has just succeeded. At a position of the text each thread
-- tries its items. What is tried after the first end that counts is left out, and so is a later thread in the same state. An
-- item is a list of acts, which are guards to check and groups to open or close, and then the test of a place or the end of
-- the tree. Ends count if a match may end at the position; `accepts` says so.
use Rattle.std.specs.Prelude.{ℕ, zero, suc, Bool, ◌==◌, List, [], ◌∷◌, ◌++◌, map, Option, None, Some, if◌then◌else◌}
pub use Rattle.rl_marks.specs.declared.threads.Thread.{Thread}
use Rattle.rl_marks.specs.Marked.{Marked}
use Rattle.rl_marks.specs.Finds.{followed}
use Rattle.rl_marks.specs.internal.Caps.{Caps, caps_named}
use Rattle.rl_marks.specs.internal.MarkItems.{MarkItem, set_of, first, after}
use Rattle.rl_marks.specs.internal.Walk.{Try, goes, stops, tries, Ended, walk}

-- The thread in the state `q` with what is known of the groups.
abbrev pub thread : ℕ → Caps → Thread
thread q c = record { state = q; caps = c }

-- The items that a thread in a state tries, in order of preference: for state 0, the start, those at the entry of the tree;
-- for state `p + 1`, those after the place `p`.
abbrev pub items_at : Marked → ℕ → List MarkItem
items_at m zero = first m 0
items_at m (suc p) = after m 0 p

-- What the threads try at position `i`, between the code before and the next one, thread by thread in order.
abbrev pub spread : Marked → Option ℕ → Option ℕ → ℕ → List Thread → List Try
spread m before next i threads = followed threads (λ (t : Thread). tries before next i (items_at m t.state) t.caps)

-- The threads after the code: one for each test of a place whose set holds the code, in order. If `accepts` is `true`, what is
-- tried after the first end is left out; otherwise ends are skipped.
abbrev pub taken : Marked → Bool → ℕ → List Try → List Thread
taken m accepts code [] = []
taken m accepts code (goes p c ∷ l) = (if set_of m 0 p code then thread (suc p) c ∷ [] else []) ++ taken m accepts code l
taken m accepts code (stops c ∷ l) = if accepts then [] else taken m accepts code l

-- What is known of the groups at the first end that is tried, or `None` if there is none or if `accepts` is `false`.
abbrev pub stopped : Bool → List Try → Option Caps
stopped accepts [] = None
stopped accepts (goes p c ∷ l) = stopped accepts l
stopped accepts (stops c ∷ l) = if accepts then Some c else stopped accepts l

-- The threads that aren't in the state `q`, in order.
abbrev pub without : ℕ → List Thread → List Thread
without q [] = []
without q (t ∷ l) = if q == t.state then without q l else t ∷ without q l

-- The first thread in each state, in order.
abbrev pub distinct : List Thread → List Thread
distinct [] = []
distinct (t ∷ l) = t ∷ without t.state (distinct l)

-- The threads after `code`, which is at position `i`, with only the first one in each state. `before` is the code before, and
-- `accepts` says whether ends count: if they do, what is tried after the first end is left out.
abbrev pub moved : Marked → Bool → Option ℕ → ℕ → ℕ → List Thread → List Thread
moved m accepts before code i threads = distinct (taken m accepts code (spread m before (Some code) i threads))

-- What is known of the groups at the first end that the threads reach at position `i`, or `None` if they reach none or if
-- `accepts` is `false`.
abbrev pub halted : Marked → Bool → Option ℕ → Option ℕ → ℕ → List Thread → Option Caps
halted m accepts before next i threads = stopped accepts (spread m before next i threads)

-- The thread with `f` applied to each position in what is known of the groups.
abbrev pub thread_named : (ℕ → ℕ) → Thread → Thread
thread_named f t = record { state = t.state; caps = caps_named f t.caps }

-- The threads with `f` applied to each position in what is known of the groups.
abbrev pub named : (ℕ → ℕ) → List Thread → List Thread
named f threads = map (thread_named f) threads

-- The first end whose position satisfies `hit`, or `None` if there is none.
abbrev pub first_ended : (ℕ → Bool) → List Ended → Option Ended
first_ended hit [] = None
first_ended hit (x ∷ l) = if hit x.place then Some x else first_ended hit l

-- The ends that the threads reach in the text `w` from position `i` on, by walking the items of their states: thread by
-- thread, and for each in the order in which they are tried.
abbrev pub walks : Marked → List ℕ → List Thread → ℕ → List Ended
walks m w threads i = followed threads (λ (t : Thread). walk m w (items_at m t.state) i t.caps)
