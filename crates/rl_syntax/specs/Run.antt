-- Runs: what a backtracking matcher does on a text from a position on, in order. It tests characters against sets, and it
-- notes each position at which the tree (the lowered pattern) has ended. This is the matcher of Weideman, van der Merwe,
-- Berglund and Watson (2016), written as a recursion on the tree. A round of `many` that consumed no character isn't followed
-- by another. A text is a list of codes. Positions in it are counted from 0: position `i` is before the character with the
-- index `i`, and the last position is the length of the text.
use Rattle.std.specs.Prelude.{ℕ, zero, suc, ◌-◌, Bool, true, false, nat_lt, List, [], ◌∷◌, ◌++◌, length, slice_get, if◌then◌else◌}
use Rattle.rl_syntax.specs.Guards.{is_in, holds_at}
use Rattle.rl_syntax.specs.Tree.{Tree, empty, one, guard, both, either, many}

-- A step of a run.
pub data Step : Type 0 where
  -- The character at the current position, or the end of the text, is tested against a set.
  test : Step
  -- The tree has ended at this position.
  end : ℕ → Step

-- The steps, with each end at a position `j` replaced by the steps `next j`. Tests are kept.
abbrev pub onward : List Step → (ℕ → List Step) → List Step
onward [] next = []
onward (test ∷ steps) next = test ∷ onward steps next
onward (end j ∷ steps) next = next j ++ onward steps next

-- The list with one more item: at the end if the flag is `true`, in front if it is `false`.
abbrev pub one_more : {A : Type 0} → Bool → A → List A → List A
one_more true x l = l ++ x ∷ []
one_more false x l = x ∷ l

-- The run of a loop from position `i` on, with at most `n` + 1 rounds of the body in a row. `body j` is the run of the body
-- from position `j` on. A greedy loop (the flag is `true`) tries a round before it ends, a lazy one ends first. No round
-- follows one that doesn't move forward.
abbrev pub rounds : (ℕ → List Step) → Bool → ℕ → ℕ → List Step
rounds body greedy zero i = one_more greedy (end i) (body i)
rounds body greedy (suc n) i =
    one_more greedy (end i) (onward (body i) (λ j. if nat_lt i j then rounds body greedy n j else end j ∷ []))

-- The run of the tree on the text `w` from position `i` on: its steps in order. Each round of `many` that is followed by
-- another consumes a character, so the number of rounds in a row is at most one more than the number of characters left.
abbrev pub run : Tree → List ℕ → ℕ → List Step
run empty w i = end i ∷ []
run (one set) w i = test ∷ (if is_in set (slice_get w i) then end (suc i) ∷ [] else [])
run (guard g) w i = if holds_at g w i then end i ∷ [] else []
run (both e f) w i = onward (run e w i) (run f w)
run (either e f) w i = run e w i ++ run f w i
run (many e greedy) w i = rounds (run e w) greedy (length w - i) i
