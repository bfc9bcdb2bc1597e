-- What guards see of a code, and what threads try by it. Guards are anchors, word boundaries and lookarounds of one character.
use Rattle.std.specs.Prelude.{◌≡◌, ℕ, suc, slice_index_or, Bool, true, false, not, ◌||◌, ◌&&◌, List, [], ◌∷◌, ◌++◌, if◌then◌else◌, is_none}
use Rattle.std.proofs.Math.Bool.{beq}
use Rattle.rl_ranges.specs.Codes.{has}
use Rattle.rl_syntax.specs.declared.anchors.Guard.{Guard}
use Rattle.rl_syntax.specs.declared.anchors.Guard.TheVariants.{Start, LineStart, LineEnd, TextEnd, Word, NotWord, Look}
use Rattle.rl_syntax.specs.Guards.{is_in, is_line_feed, is_word, sees}
use Rattle.rl_marks.specs.internal.MarkItems.{performed}
use Rattle.rl_marks.specs.internal.Threads.{thread}
use Rattle.rl_spans.specs.declared.shown.Shown.{Shown}
use Rattle.rl_marks.specs.declared.threads.Caps.{Caps}
use Rattle.rl_marks.specs.declared.threads.Act.{Act}
use Rattle.rl_marks.specs.declared.threads.MarkItem.{MarkItem}
use Rattle.rl_marks.specs.declared.threads.Try.{Try}
use Rattle.rl_marks.specs.declared.threads.Thread.{Thread}
use Rattle.rl_marks.specs.declared.threads.Act.TheVariants.{Check as check, OpenGroup as open_group, CloseGroup as close_group}
use Rattle.rl_marks.specs.declared.threads.MarkItem.TheVariants.{Test as test_at, Pass as pass}
use Rattle.rl_marks.specs.declared.threads.Try.TheVariants.{Goes as goes, Stops as stops}

-- `s` is what guards see of its code, if it has one, and otherwise of the start or the end of the text.
pub record IsShown (s : Shown) : Type 0 where
  pub line_feed : s.line_feed ≡ is_in is_line_feed s.code
  pub word : s.word ≡ is_in (is_word false) s.code
  pub ascii_word : s.ascii_word ≡ is_in (is_word true) s.code

-- Whether what guards see is a word character. The flag says that only ASCII characters count.
abbrev pub sees_word : Bool → Shown → Bool
sees_word true s = s.ascii_word
sees_word false s = s.word

-- Whether the guard holds at a place, by what guards see of the code before the place and of the next one.
abbrev pub met : Guard → Shown → Shown → Bool
met Start before next = is_none before.code
met LineStart before next = is_none before.code || before.line_feed
met LineEnd before next = is_none next.code || next.line_feed
met TextEnd before next = is_none next.code
met (Word ascii) before next = not (beq (sees_word ascii before) (sees_word ascii next))
met (NotWord ascii) before next = beq (sees_word ascii before) (sees_word ascii next)
met (Look behind negated ranges) before next = sees negated (has ranges) (if behind then before.code else next.code)

-- Whether each guard among the acts holds at a place. The other acts, which open and close groups, are passed over.
abbrev pub all_met : List Act → Shown → Shown → Bool
all_met [] before next = true
all_met (check g ∷ acts) before next = met g before next && all_met acts before next
all_met (open_group ∷ acts) before next = all_met acts before next
all_met (close_group n ∷ acts) before next = all_met acts before next

-- What a thread tries at the place named `i`, in order: each of its items whose guards hold, by what guards see of the code
-- before and of the next one. `c` is what is known of the groups so far; each try has what is known of them after the item's
-- acts.
abbrev pub shown_tries : Shown → Shown → ℕ → List MarkItem → Caps → List Try
shown_tries before next i [] c = []
shown_tries before next i (test_at acts p ∷ l) c =
    (if all_met acts before next then goes p (performed acts i c) ∷ [] else []) ++ shown_tries before next i l c
shown_tries before next i (pass acts ∷ l) c =
    (if all_met acts before next then stops (performed acts i c) ∷ [] else []) ++ shown_tries before next i l c

-- What the threads try at the place named `i`, one thread after another. `rows` has the items of each state; a state past it
-- has none.
abbrev pub shown_spread : List (List MarkItem) → Shown → Shown → ℕ → List Thread → List Try
shown_spread rows before next i [] = []
shown_spread rows before next i (t ∷ l) = shown_tries before next i (slice_index_or rows t.state []) t.caps ++ shown_spread rows before next i l

-- The threads after a letter, for tries in order: one for each test that takes the letter, in the state behind it. `takes`
-- says for each place whether its test takes the letter. If `accepts` says that a match may end here, tries behind the first
-- end are dropped.
abbrev pub taken_by : List Bool → Bool → List Try → List Thread
taken_by takes accepts [] = []
taken_by takes accepts (goes p c ∷ l) = (if slice_index_or takes p false then thread (suc p) c ∷ [] else []) ++ taken_by takes accepts l
taken_by takes accepts (stops c ∷ l) = if accepts then [] else taken_by takes accepts l
