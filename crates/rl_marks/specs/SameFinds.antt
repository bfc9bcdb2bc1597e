-- When two patterns find the same spans and groups, for each way of asking them (`How`): by `fullmatch` or `match` from each
-- position of a text, or by one `search` from its start. The patterns may have different numbers of groups: a group that a
-- pattern doesn't have has no value in it. A matcher is a tree with groups, and where its matches may end. Two matchers find
-- the same from a position if neither has a match there, or both have matches with the same end, the same values of all
-- groups, and the same group closed last.
use Rattle.std.specs.Prelude.{◌≡◌, ℕ, ◌≤◌, Bool, false, List, length}
use Rattle.rl_ranges.specs.declared.universe.Universe.{Universe}
use Rattle.rl_ranges.specs.Text.{IsText}
use Rattle.rl_syntax.specs.declared.anchors.Trail.{Trail}
use Rattle.rl_syntax.specs.declared.anchors.Trail.TheVariants.{None, Dollar, End}
use Rattle.rl_marks.specs.declared.asked.How.{How}
use Rattle.rl_marks.specs.declared.asked.How.TheVariants.{Fullmatch, Match, OneSearch}
use Rattle.rl_marks.specs.Hits.{MatchEnding, AtEnd, AtLastLine, Anywhere, Matcher, match_at, SameHit}
use Rattle.rl_marks.specs.Searches.{search_from, SameSearch}
use Rattle.rl_marks.specs.Marked.{marked_of}
use Rattle.rl_marks.specs.declared.pattern.MarkedPattern.{MarkedPattern}

-- Holds if both matchers find the same from each position of each text of the universe, the end of the text included, both
-- when the match may be empty and when it must not be.
abbrev pub SameFinds : Universe → Matcher → Matcher → Type 0
SameFinds u s t = (w : List ℕ) → IsText u w → (i : ℕ) → i ≤ length w → (advance : Bool) → SameHit (match_at s w advance i) (match_at t w advance i)

-- Holds if a search from the start of each text of the universe finds the same with both matchers.
abbrev pub SameFirstSearch : Universe → Matcher → Matcher → Type 0
SameFirstSearch u s t = (w : List ℕ) → IsText u w → SameSearch (search_from s w false 0) (search_from t w false 0)

-- Where a match of a pattern with this trailing anchor may end, except by `fullmatch`: anywhere if there is none; for `$` at
-- the end of the text or before a line feed that is its last code; for `\Z` only at the end of the text.
abbrev pub ending_at : Trail → MatchEnding
ending_at None = Anywhere
ending_at Dollar = AtLastLine
ending_at End = AtEnd

-- Where a match of a pattern with this trailing anchor may end, by how it is asked. By `fullmatch` it is only the end of the
-- text.
abbrev pub ending_in : How → Trail → MatchEnding
ending_in Fullmatch trailing = AtEnd
ending_in Match trailing = ending_at trailing
ending_in OneSearch trailing = ending_at trailing

-- The matcher of a pattern, by how it is asked: its tree, and where its matches may end.
abbrev pub matcher_in : How → MarkedPattern → Matcher
matcher_in how p = record { tree = marked_of p.tree; ending = ending_in how p.trailing }

-- Holds if the patterns `p` and `q` find the same in all texts of the universe of `p`; that of `q` isn't considered.
-- `Fullmatch` compares fullmatches from each position, `Match` compares matches from each position, and so all searches, and
-- `OneSearch` compares the search from the start of each text.
abbrev pub FindAlike : How → MarkedPattern → MarkedPattern → Type 0
FindAlike Fullmatch p q = SameFinds p.universe (matcher_in Fullmatch p) (matcher_in Fullmatch q)
FindAlike Match p q = SameFinds p.universe (matcher_in Match p) (matcher_in Match q)
FindAlike OneSearch p q = SameFirstSearch p.universe (matcher_in OneSearch p) (matcher_in OneSearch q)

-- Holds if `w` is a text of the universe and the matches of the two matchers from its position `i` differ. If `advance` is
-- `true`, these matches must not be empty.
pub record DifferFrom (u : Universe) (s t : Matcher) (w : List ℕ) (advance : Bool) (i : ℕ) : Type 0 where
  pub text : IsText u w
  pub within : i ≤ length w
  pub differ : SameHit (match_at s w advance i) (match_at t w advance i) → ⊥

-- Holds if `w` is a text of the universe and the searches of the two matchers from its start differ.
pub record DifferInSearch (u : Universe) (s t : Matcher) (w : List ℕ) : Type 0 where
  pub text : IsText u w
  pub differ : SameSearch (search_from s w false 0) (search_from t w false 0) → ⊥

-- Holds if `w` is a text of the universe of `p`, and `p` and `q` find different matches in it from position `i`, either when
-- empty matches are allowed or when they aren't. The universe of `q` isn't considered. For `OneSearch` the searches from the
-- start of `w` are different, in which empty matches are allowed, and `i` is 0.
abbrev pub FindDifferently : How → MarkedPattern → MarkedPattern → List ℕ → ℕ → Type 0
FindDifferently Fullmatch p q w i = (advance : Bool) × DifferFrom p.universe (matcher_in Fullmatch p) (matcher_in Fullmatch q) w advance i
FindDifferently Match p q w i = (advance : Bool) × DifferFrom p.universe (matcher_in Match p) (matcher_in Match q) w advance i
FindDifferently OneSearch p q w i = DifferInSearch p.universe (matcher_in OneSearch p) (matcher_in OneSearch q) w × (i ≡ 0)
