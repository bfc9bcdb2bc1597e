-- Both sides of a comparison, and what is checked of a pair of their thread lists. A pair is kept if its step on each code
-- leads to a pair of the list again, up to the names of places, and if both sides agree wherever a match ends.
use Rattle.std.specs.Prelude.{◌≡◌, ℕ, ◌<◌, Bool, true, false, ◌||◌, List, length, map, Option, None, Some, slice_index_or, Contains}
use Rattle.rl_ranges.specs.Codes.{has}
use Rattle.rl_syntax.specs.Guards.{is_word}
use Rattle.rl_marks.specs.Hits.{Matcher}
use Rattle.rl_marks.specs.declared.threads.ThreadPair.{ThreadPair}
use Rattle.rl_marks.specs.declared.threads.Origin.{Origin}
use Rattle.rl_marks.specs.internal.Pairs.{begin, stops_at, tells_last, AgreesBefore, KeepsLast}
use Rattle.rl_marks.specs.internal.Seeking.{IsAsked}
use Rattle.rl_marks.specs.internal.PairLetters.{StepsTo}
use Rattle.rl_spans.specs.declared.machine.Machine.{Machine}
use Rattle.rl_spans.specs.internal.Looks.{looks_of_both}
use Rattle.rl_spans.specs.internal.Sides.{IsSide, matcher_of}

-- Both sides know the items of their states and the tests of the machine's codes, `words` has the word characters of guards,
-- and `looks` the sets of the lookarounds.
pub record IsMachine (m : Machine) : Type 0 where
  pub first : IsSide m.codes m.first
  pub second : IsSide m.codes m.second
  pub all : (c : ℕ) → has m.words.all c ≡ is_word false c
  pub ascii : (c : ℕ) → has m.words.ascii c ≡ is_word true c
  pub looks : map has m.looks ≡ looks_of_both (matcher_of m.first) (matcher_of m.second)

-- The step of the pair `p` on the code is one of `pairs`, up to the names of places. `accepts` says whether a match may end at
-- the place of the pair.
abbrev pub IsMove : Matcher → Matcher → List ThreadPair → Bool → ThreadPair → ℕ → Type 0
IsMove s t pairs accepts p code = (f : ℕ → ℕ) × (q : ThreadPair) × Contains pairs q × StepsTo s t (stops_at accepts (Some code)) p code f q

-- The pair `p` is kept by `pairs` on the codes of a list: its step on each of them is one of `pairs`, and both sides agree if
-- the text ends here, and also if it ends with one line feed more, provided that a side treats a last line feed unlike other
-- codes. `accepts` says whether a match may end here.
pub record KeepsCodes (s t : Matcher) (pairs : List ThreadPair) (codes : List ℕ) (accepts : Bool) (p : ThreadPair) : Type 0 where
  pub at_end : AgreesBefore s t (stops_at accepts None) p None
  pub at_last : (tells_last s.ending || tells_last t.ending) ≡ true → (agree : Bool) × KeepsLast s t accepts p agree
  pub on : (k : ℕ) → k < length codes → IsMove s t pairs accepts p (slice_index_or codes k 0)

-- It is no code, or one of the list.
abbrev pub IsOneOf : List ℕ → Option ℕ → Type 0
IsOneOf codes None = Unit {0}
IsOneOf codes (Some code) = (k : ℕ) × (k < length codes) × (slice_index_or codes k 0 ≡ code)

-- The list `pairs` keeps each of its own pairs, and each pair at which a match that is asked for begins: at the start of the
-- text (`before` is `None`) or behind a code of the list. `origin` says which of these are asked for.
pub record IsClosedOn (origin : Origin) (s t : Matcher) (pairs : List ThreadPair) (codes : List ℕ) : Type 0 where
  pub begins : (before : Option ℕ) → IsOneOf codes before → (accepts : Bool) → IsAsked origin before accepts → KeepsCodes s t pairs codes accepts (begin before)
  pub kept : (p : ThreadPair) → Contains pairs p → KeepsCodes s t pairs codes true p
