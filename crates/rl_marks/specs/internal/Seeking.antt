-- The positions from which matches are asked for, called their origin: each position of each text (`EachPlace`), or only its
-- start (`TextStart`). A matcher is a tree with groups, and where its matches may end.
use Rattle.std.specs.Prelude.{◌≡◌, ℕ, Bool, true, false, List, Option, None}
use Rattle.rl_ranges.specs.declared.universe.Universe.{Universe}
use Rattle.rl_ranges.specs.Text.{IsText}
use Rattle.rl_marks.specs.declared.asked.How.{How}
use Rattle.rl_marks.specs.declared.asked.How.TheVariants.{Fullmatch, Match, OneSearch}
use Rattle.rl_marks.specs.declared.threads.Origin.{Origin}
use Rattle.rl_marks.specs.declared.threads.Origin.TheVariants.{EachPlace, TextStart}
use Rattle.rl_marks.specs.Hits.{Matcher, match_at, SameHit}
use Rattle.rl_marks.specs.SameFinds.{SameFinds}
pub use Rattle.rl_marks.specs.Seeking.{seeking, asked_in}

-- The positions from which matches are compared, by how the patterns are asked: for one search only the start of a text,
-- otherwise each position.
abbrev pub origin_in : How → Origin
origin_in Fullmatch = EachPlace
origin_in Match = EachPlace
origin_in OneSearch = TextStart

-- Holds if a match may be asked for after the code `before`, or at the start of the text if there is none. `accepts` says
-- whether the match may be empty. `EachPlace` allows every match. `TextStart` allows only a match at the start of the text
-- that may be empty.
abbrev pub IsAsked : Origin → Option ℕ → Bool → Type 0
IsAsked EachPlace before accepts = Unit {0}
IsAsked TextStart before accepts = (before ≡ None) × (accepts ≡ true)

-- Holds if a match may be asked for from position `i` of a text. `advance` says that the match must not be empty. `TextStart`
-- allows only position 0 and matches that may be empty.
abbrev pub IsFrom : Origin → Bool → ℕ → Type 0
IsFrom EachPlace advance i = Unit {0}
IsFrom TextStart advance i = (i ≡ 0) × (advance ≡ false)

-- Holds if both matchers find the same in all texts of the universe, from each position for `EachPlace`, and from the start
-- with empty matches allowed for `TextStart`.
abbrev pub SameFrom : Origin → Universe → Matcher → Matcher → Type 0
SameFrom EachPlace u s t = SameFinds u s t
SameFrom TextStart u s t = (w : List ℕ) → IsText u w → SameHit (match_at s w false 0) (match_at t w false 0)
