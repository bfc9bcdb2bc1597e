-- Hits. A matcher is a tree with groups, and where its matches may end. A match from a position takes the first find that is a
-- hit: one that ends where a match may end and, if the match must not be empty, after that position. A find is a position at
-- which the tree has ended, with the spans of the groups that were closed on the way. Positions count codes from 0.
use Rattle.std.specs.Prelude.{◌≡◌, ℕ, suc, Bool, true, not, ◌&&◌, ◌||◌, ◌==◌, nat_lt, List, [], ◌∷◌, length, slice_get, Option, None, Some, if◌then◌else◌}
use Rattle.rl_syntax.specs.Guards.{is_in, is_line_feed}
pub use Rattle.rl_marks.specs.declared.asked.MatchEnding.{MatchEnding}
pub use Rattle.rl_marks.specs.declared.asked.MatchEnding.TheVariants.{AtEnd, AtLastLine, Anywhere}
use Rattle.rl_marks.specs.Marked.{Marked}
use Rattle.rl_marks.specs.Finds.{Found, finds, group, last_group}

-- A matcher: its tree with groups, and where its matches may end.
pub record Matcher : Type 0 where
  pub tree : Marked
  pub ending : MatchEnding

-- Whether a match may end at position `j` of the text `w`. `AtEnd` allows only the end of the text, `AtLastLine` also the
-- position before a line feed that is the last code, and `Anywhere` each position.
abbrev pub may_end : MatchEnding → List ℕ → ℕ → Bool
may_end AtEnd w j = j == length w
may_end AtLastLine w j = j == length w || (suc j == length w && is_in is_line_feed (slice_get w j))
may_end Anywhere w j = true

-- Whether a match that begins at position `i` may end at position `j` of the text `w`: `may_end` allows it, and, if `advance`
-- is `true`, `j` is greater than `i`, so that the match isn't empty.
abbrev pub is_hit_from : MatchEnding → Bool → List ℕ → ℕ → ℕ → Bool
is_hit_from ending advance w i j = may_end ending w j && (not advance || nat_lt i j)

-- The first find whose position satisfies `hit`, or `None` if there is none.
abbrev pub first_hit : (ℕ → Bool) → List Found → Option Found
first_hit hit [] = None
first_hit hit (x ∷ l) = if hit x.end then Some x else first_hit hit l

-- What a match of the matcher from position `i` of the text `w` finds, or `None` if there is no match. If `advance` is `true`,
-- the match must not be empty.
unfoldable pub match_at : Matcher → List ℕ → Bool → ℕ → Option Found
match_at m w advance i = first_hit (is_hit_from m.ending advance w i) (finds m.tree w i)

-- Holds if both finds are at the same position, each group has the same value in both, and the same group was closed last.
pub record SameFound (x y : Found) : Type 0 where
  pub same_end : x.end ≡ y.end
  pub same_groups : (n : ℕ) → group n x.spans ≡ group n y.spans
  pub same_last : last_group x.spans ≡ last_group y.spans

-- Holds if both are `None`, or if both are finds that are the same by `SameFound`.
abbrev pub SameHit : Option Found → Option Found → Type 0
SameHit None None = Unit {0}
SameHit (Some x) (Some y) = SameFound x y
SameHit None (Some y) = ⊥
SameHit (Some x) None = ⊥
