-- Sights: what a pattern finds, and limits, as texts. Positions are counted in codes from 0, and numbers are written in
-- decimal.
use Rattle.std.specs.Prelude.{ℕ, ◌+◌, List, [], ◌∷◌, ◌++◌, Option, Some, None, codes}
use Rattle.std.specs.Fmt.{decimal}
use Rattle.rl_ranges.specs.declared.letters.TheConstants.{MOST_LETTERS}
use Rattle.rl_syntax.specs.declared.limits.TheConstants.{MOST_MOVES, MOST_NODES}
use Rattle.rl_marks.specs.declared.limits.TheConstants.{MOST_GROUPS}
use Rattle.rl_spans.specs.declared.finding.Sight.{Sight}
use Rattle.rl_asked.specs.Words.{Text}
use Rattle.rl_ask.specs.declared.answer.Limit.{Limit}
use Rattle.rl_ask.specs.declared.answer.Limit.TheVariants.{Size, Letters, Moves, Groups}

-- A span, from its start and its end: `(0, 2)`.
abbrev pub span_text : ℕ × ℕ → Text
span_text s = codes "(" ++ (decimal s.0 ++ (codes ", " ++ (decimal s.1 ++ codes ")")))

-- The value of a group: its span, or `none`.
abbrev pub value_text : Option (ℕ × ℕ) → Text
value_text None = codes "none"
value_text (Some s) = span_text s

-- A group: a space, its number and its value, as in ` 1=(0, 2)` and ` 2=none`.
abbrev pub group_text : ℕ → Option (ℕ × ℕ) → Text
group_text n value = codes " " ++ (decimal n ++ (codes "=" ++ value_text value))

-- The groups with these values, one behind the other, numbered from `n` on.
abbrev pub groups_text : ℕ → List (Option (ℕ × ℕ)) → Text
groups_text n [] = []
groups_text n (value ∷ values) = group_text n value ++ groups_text (n + 1) values

-- The number of the group that was closed last, as in ` last=1`; nothing if no group was closed.
abbrev pub last_text : Option ℕ → Text
last_text None = []
last_text (Some n) = codes " last=" ++ decimal n

-- A match: its span, its groups, and the group that was closed last, as in `(0, 2) 1=(0, 2) last=1`.
abbrev pub match_text : Sight → Text
match_text s = span_text (s.start, s.end) ++ (groups_text 1 s.groups ++ last_text s.last)

-- What a pattern finds: its match, or `none`.
abbrev pub sight_text : Option Sight → Text
sight_text None = codes "none"
sight_text (Some s) = match_text s

-- A limit that is exceeded, with its number, as in `size over 4000`.
abbrev pub limit_text : Limit → Text
limit_text Size = codes "size over " ++ decimal MOST_NODES
limit_text Letters = codes "letters over " ++ decimal MOST_LETTERS
limit_text Moves = codes "moves over " ++ decimal MOST_MOVES
limit_text Groups = codes "groups over " ++ decimal MOST_GROUPS
