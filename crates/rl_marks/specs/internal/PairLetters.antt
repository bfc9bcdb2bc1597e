-- Closed relations by letters. Two codes belong to the same letter if each set of both trees, and each set that their guards
-- use, holds both or neither. They are of the same kind if each set that the guards use holds both or neither. A relation is
-- closed if the steps of its pairs on one code of each letter are right, and in place of the code before, its pairs may keep
-- any code of the same kind. A pair has the thread lists of two matchers that have read the same codes. In it, positions have
-- names: in each step they become one greater, and the current position gets the name 0.
use Rattle.std.specs.Prelude.{◌≡◌, ℕ, suc, ◌<◌, Bool, true, ◌||◌, List, ◌++◌, Option, None, Some}
use Rattle.rl_ranges.specs.declared.universe.Universe.{Universe}
use Rattle.rl_ranges.specs.Letters.{alike}
use Rattle.rl_ranges.specs.Text.{code_count}
use Rattle.rl_syntax.specs.Tree.{guard_sets}
use Rattle.rl_prio.specs.Letters.{all_sets}
use Rattle.rl_marks.specs.declared.threads.Origin.{Origin}
use Rattle.rl_marks.specs.Marked.{plain}
use Rattle.rl_marks.specs.Hits.{MatchEnding, Matcher}
use Rattle.rl_marks.specs.internal.Threads.{moved, named}
use Rattle.rl_marks.specs.internal.Seeking.{IsAsked}
use Rattle.rl_marks.specs.internal.Pairs.{ThreadPair, begin, tells_last, stops_at, AgreesBefore, KeepsLast, IsCode}

-- The sets that distinguish codes: the sets of both trees, and the sets that their guards use.
abbrev pub sets_of_both : Matcher → Matcher → List (ℕ → Bool)
sets_of_both s t = all_sets (plain s.tree) ++ all_sets (plain t.tree)

-- The sets that the guards of both trees use.
abbrev pub guards_of_both : Matcher → Matcher → List (ℕ → Bool)
guards_of_both s t = guard_sets (plain s.tree) ++ guard_sets (plain t.tree)

-- Holds if both are `None`, or if both are codes that none of the sets distinguishes.
abbrev pub SameKind : List (ℕ → Bool) → Option ℕ → Option ℕ → Type 0
SameKind sets None None = Unit {0}
SameKind sets (Some c) (Some d) = alike sets c d ≡ true
SameKind sets None (Some d) = ⊥
SameKind sets (Some c) None = ⊥

-- Holds if the pair that follows `p` on `code` is `q` with `f` applied to its names. The code before `q` need only be of the
-- same kind as `code`. If `q` says that both sides agree, they do so before `code`. `stops` says for an ending whether ends
-- count before `code`.
pub record StepsTo (s t : Matcher) (stops : MatchEnding → Bool) (p : ThreadPair) (code : ℕ) (f : ℕ → ℕ) (q : ThreadPair) : Type 0 where
  pub same_left : named f q.left ≡ moved s.tree (stops s.ending) p.before code 0 (named suc p.left)
  pub same_right : named f q.right ≡ moved t.tree (stops t.ending) p.before code 0 (named suc p.right)
  pub same_kind : SameKind (guards_of_both s t) (Some code) q.before
  pub agrees : q.agree ≡ true → AgreesBefore s t stops p (Some code)

-- Holds if both sides of the pair `p` agree at the end of the text, also after a last line feed if an ending distinguishes it,
-- and if for each code of the universe, the step on some code of its letter is a pair of the relation by `StepsTo`. `accepts`
-- says whether ends count at the current position.
pub record KeepsLetters (u : Universe) (s t : Matcher) (R : ThreadPair → Type 0) (accepts : Bool) (p : ThreadPair) : Type 0 where
  pub at_end : AgreesBefore s t (stops_at accepts None) p None
  pub at_last : (tells_last s.ending || tells_last t.ending) ≡ true → (agree : Bool) × KeepsLast s t accepts p agree
  pub on : (code : ℕ) → code < code_count u
      → (like : ℕ) × (alike (sets_of_both s t) code like ≡ true) × (f : ℕ → ℕ) × (q : ThreadPair) × R q × StepsTo s t (stops_at accepts (Some like)) p like f q

-- Holds if `KeepsLetters` holds for each pair of the relation, and for each pair at which a match begins that is asked for
-- from `origin` (`IsAsked`). In place of the code before such a match, some code of the same kind is enough.
pub record IsClosedOver (u : Universe) (origin : Origin) (s t : Matcher) (R : ThreadPair → Type 0) : Type 0 where
  pub begins : (before : Option ℕ) → IsCode u before → (accepts : Bool) → IsAsked origin before accepts
      → (o : Option ℕ) × SameKind (guards_of_both s t) before o × KeepsLetters u s t R accepts (begin o)
  pub kept : (p : ThreadPair) → R p → KeepsLetters u s t R true p
