-- Pairs of thread lists. Two matchers read a text side by side. In a pair, positions have names: in a step on a code, each
-- name becomes one greater, and the current position gets the name 0. A pair represents each pair that results if its names
-- are replaced, in the same way on both sides. A relation on pairs is closed if the step of each of its pairs on each code is
-- one of its pairs with other names, and if both sides agree at the end of the text. A line feed that is the last code counts
-- twice: as a code like any other, and as one before which a match may end. A thread is a state of a tree with what is known
-- of the groups. Ends of a tree count at a position if a match may end there; `accepts` is false only where a match would be
-- empty and must not be.
use Rattle.std.specs.Prelude.{◌≡◌, ℕ, suc, ◌<◌, Bool, true, false, ◌&&◌, ◌||◌, [], ◌∷◌, Option, None, Some}
use Rattle.rl_ranges.specs.declared.universe.Universe.{Universe}
use Rattle.rl_ranges.specs.Text.{code_count}
pub use Rattle.rl_marks.specs.declared.threads.ThreadPair.{ThreadPair}
use Rattle.rl_marks.specs.declared.threads.Origin.{Origin}
use Rattle.rl_marks.specs.Hits.{MatchEnding, AtEnd, AtLastLine, Anywhere, Matcher}
use Rattle.rl_marks.specs.internal.Caps.{Caps, no_caps, SameCaps}
use Rattle.rl_marks.specs.internal.Threads.{thread, moved, halted, named}
use Rattle.rl_marks.specs.internal.Seeking.{IsAsked}

-- The pair at which a match begins: each side has one thread, in the start, and nothing is known of the groups. Both sides
-- agree, since nothing was found yet. `before` is the code before, or `None` at the start of the text.
abbrev pub begin : Option ℕ → ThreadPair
begin before = record { left = thread 0 no_caps ∷ []; right = thread 0 no_caps ∷ []; agree = true; before = before }

-- Whether a match may end before the code `next`, or at the end of the text if there is none. If the code is a line feed, it
-- isn't taken as the last code of the text: that case is `ends_before_last`.
abbrev pub ends_before : MatchEnding → Option ℕ → Bool
ends_before AtEnd None = true
ends_before AtEnd (Some code) = false
ends_before AtLastLine None = true
ends_before AtLastLine (Some code) = false
ends_before Anywhere next = true

-- Whether a match may end before a line feed that is the last code of the text.
abbrev pub ends_before_last : MatchEnding → Bool
ends_before_last AtEnd = false
ends_before_last AtLastLine = true
ends_before_last Anywhere = true

-- Whether the ending distinguishes a line feed that is the last code of the text from other codes.
abbrev pub tells_last : MatchEnding → Bool
tells_last AtEnd = false
tells_last AtLastLine = true
tells_last Anywhere = false

-- Whether ends count before the code `next`, or at the end of the text if there is none: `accepts` is `true`, and a match may
-- end there.
abbrev pub stops_at : Bool → Option ℕ → MatchEnding → Bool
stops_at accepts next ending = accepts && ends_before ending next

-- Whether ends count before a line feed that is the last code of the text: `accepts` is `true`, and a match may end there.
abbrev pub stops_last : Bool → MatchEnding → Bool
stops_last accepts ending = accepts && ends_before_last ending

-- Holds if both sides have found the same. If both reach an end at this position (`Some`), the last spans of all groups and
-- the group that was closed last must be the same there. If neither does (`None`), `agree` must be true, which says that they
-- have found the same before. It doesn't hold if only one of them reaches an end.
abbrev pub Agrees : Bool → Option Caps → Option Caps → Type 0
Agrees agree None None = agree ≡ true
Agrees agree (Some c) (Some d) = SameCaps c d
Agrees agree None (Some d) = ⊥
Agrees agree (Some c) None = ⊥

-- Holds if both sides of the pair have found the same once their items were tried at the current position, before the code
-- `next` or at the end of the text. `stops` says for an ending whether ends count there.
abbrev pub AgreesBefore : Matcher → Matcher → (MatchEnding → Bool) → ThreadPair → Option ℕ → Type 0
AgreesBefore s t stops p next =
    Agrees p.agree
    (halted s.tree (stops s.ending) p.before next 0 (named suc p.left))
    (halted t.tree (stops t.ending) p.before next 0 (named suc p.right))

-- Holds if the pair that follows `p` on `code` is `q` with `f` applied to its names. If `q` says that both sides agree, they
-- do so before `code`. `stops` says for an ending whether ends count before `code`.
pub record Follows (s t : Matcher) (stops : MatchEnding → Bool) (p : ThreadPair) (code : ℕ) (f : ℕ → ℕ) (q : ThreadPair) : Type 0 where
  pub same_left : named f q.left ≡ moved s.tree (stops s.ending) p.before code 0 (named suc p.left)
  pub same_right : named f q.right ≡ moved t.tree (stops t.ending) p.before code 0 (named suc p.right)
  pub same_before : q.before ≡ Some code
  pub agrees : q.agree ≡ true → AgreesBefore s t stops p (Some code)

-- The pair that follows `p` on a line feed that is the last code. `accepts` says whether ends count before the line feed, and
-- `agree` whether both sides have found the same by then.
abbrev pub last_pair : Matcher → Matcher → Bool → ThreadPair → Bool → ThreadPair
last_pair s t accepts p agree = record {
  left = moved s.tree (stops_last accepts s.ending) p.before 10 0 (named suc p.left);
  right = moved t.tree (stops_last accepts t.ending) p.before 10 0 (named suc p.right);
  agree = agree;
  before = Some 10;
}

-- Holds if both sides of the pair `p` agree at the end of the text, after a line feed that is the last code. If `agree` is
-- `true`, they have to agree before the line feed, too.
pub record KeepsLast (s t : Matcher) (accepts : Bool) (p : ThreadPair) (agree : Bool) : Type 0 where
  pub agrees : agree ≡ true → AgreesBefore s t (stops_last accepts) p (Some 10)
  pub at_end : AgreesBefore s t (stops_at true None) (last_pair s t accepts p agree) None

-- Holds if both sides of the pair `p` agree at the end of the text, also after a last line feed if an ending distinguishes it,
-- and if the step on each code of the universe is a pair of the relation with other names. `accepts` says whether ends count
-- at the current position.
pub record Keeps (u : Universe) (s t : Matcher) (R : ThreadPair → Type 0) (accepts : Bool) (p : ThreadPair) : Type 0 where
  pub at_end : AgreesBefore s t (stops_at accepts None) p None
  pub at_last : (tells_last s.ending || tells_last t.ending) ≡ true → (agree : Bool) × KeepsLast s t accepts p agree
  pub on : (code : ℕ) → code < code_count u → (f : ℕ → ℕ) × (q : ThreadPair) × R q × Follows s t (stops_at accepts (Some code)) p code f q

-- Holds if there is no code (`None`), or if the code is one of the universe.
abbrev pub IsCode : Universe → Option ℕ → Type 0
IsCode u None = Unit {0}
IsCode u (Some code) = code < code_count u

-- Holds if `Keeps` holds for each pair of the relation, and for each pair at which a match begins that is asked for from
-- `origin` (`IsAsked`).
pub record IsClosed (u : Universe) (origin : Origin) (s t : Matcher) (R : ThreadPair → Type 0) : Type 0 where
  pub begins : (before : Option ℕ) → IsCode u before → (accepts : Bool) → IsAsked origin before accepts → Keeps u s t R accepts (begin before)
  pub kept : (p : ThreadPair) → R p → Keeps u s t R true p
