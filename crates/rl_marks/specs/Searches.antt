-- Searches. A search from a position takes the match from the first position, there or later, that has one. `finditer`,
-- `findall`, `split` and `sub` search again and again. Each search begins where the match before ended. If that match was
-- empty, a match at the same position must not be empty. A matcher is a tree with groups, and where its matches may end. What
-- a match finds is its end, with the spans of its groups. Positions count codes from 0.
use Rattle.std.specs.Prelude.{◌≡◌, ℕ, zero, suc, ◌-◌, Bool, false, ◌==◌, List, [], ◌∷◌, length, Option, None, Some}
use Rattle.rl_marks.specs.Finds.{Found}
use Rattle.rl_marks.specs.Hits.{Matcher, match_at, SameFound}

-- A match: the position at which it begins, and what it finds (its end, and the spans of the groups).
pub record Match : Type 0 where
  pub start : ℕ
  pub found : Found

-- The match that begins at position `i` if it finds something, otherwise `other`.
abbrev pub begun : ℕ → Option Found → Option Match → Option Match
begun i None other = other
begun i (Some x) other = Some (record { start = i; found = x })

-- The match from the first of the `n + 1` positions from `i` on that has one, or `None` if none has one. If `advance` is
-- `true`, a match at `i` must not be empty. At later positions it may be.
abbrev pub sought : Matcher → List ℕ → ℕ → Bool → ℕ → Option Match
sought m w zero advance i = begun i (match_at m w advance i) None
sought m w (suc n) advance i = begun i (match_at m w advance i) (sought m w n false (suc i))

-- What a search in the text `w` from position `i` on finds, or `None` if there is no match. If `advance` is `true`, a match
-- that begins at `i` must not be empty.
abbrev pub search_from : Matcher → List ℕ → Bool → ℕ → Option Match
search_from m w advance i = sought m w (length w - i) advance i

-- The match followed by the matches of the next searches, or no matches if there is none. `next` gives the matches from a
-- position on. Its flag is `true` if a match at that position must not be empty, which is so after an empty match.
abbrev pub with_next : (Bool → ℕ → List Match) → Option Match → List Match
with_next next None = []
with_next next (Some x) = x ∷ next (x.start == x.found.end) x.found.end

-- The first `n` matches of a sequence of searches in the text `w` from position `i` on, or all of them if there are fewer. If
-- `advance` is `true`, a match that begins at `i` must not be empty.
abbrev pub matches : Matcher → List ℕ → ℕ → Bool → ℕ → List Match
matches m w zero advance i = []
matches m w (suc n) advance i = with_next (matches m w n) (search_from m w advance i)

-- Holds if both matches begin at the same position and find the same.
pub record SameMatch (x y : Match) : Type 0 where
  pub same_start : x.start ≡ y.start
  pub same_found : SameFound x.found y.found

-- Holds if both are `None`, or if both are matches that are the same by `SameMatch`.
abbrev pub SameSearch : Option Match → Option Match → Type 0
SameSearch None None = Unit {0}
SameSearch (Some x) (Some y) = SameMatch x y
SameSearch None (Some y) = ⊥
SameSearch (Some x) None = ⊥

-- Holds if both lists have the same length and their matches are the same, in order.
abbrev pub SameMatches : List Match → List Match → Type 0
SameMatches [] [] = Unit {0}
SameMatches (x ∷ l) (y ∷ m) = SameMatch x y × SameMatches l m
SameMatches [] (y ∷ m) = ⊥
SameMatches (x ∷ l) [] = ⊥
