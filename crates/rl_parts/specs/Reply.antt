-- The reply that gives the parts of a pattern. It says which outer anchors were removed from the pattern (those at its start
-- and at its end), has a sample of each letter of the pattern's sets (`Sets.antt`), and the tree of its parts (`Nodes.antt`).
--
-- The pattern that `parse` of `rl_pattern` returns is that of the syntax tree that the codes spell (`IsPatternOf` in its
-- `specs/Parsed.antt`), and each part keeps the span of its node. `specs/Grammar.antt` there says which codes a node spans. So
-- the spans in the reply are positions in the codes that were parsed.
use Rattle.std.specs.Prelude.{◌≡◌, ℕ, List, map, codes, if◌then◌else◌}
use Rattle.std.specs.Char.{encode_utf8}
use lib.Utf8.{scalar}
use Rattle.serde_json.specs.Data.{Data, null, boolean, string, object, no_members, put}
use Rattle.rl_ranges.specs.Letters.{LetterTable}
use Rattle.rl_syntax.specs.declared.anchors.Trail.{Trail}
use Rattle.rl_syntax.specs.declared.anchors.Trail.TheVariants.{None, Dollar, End}
use Rattle.rl_syntax.specs.declared.pattern.Pattern.{Pattern}
use Rattle.rl_syntax.specs.Pattern.{body_of, is_anchored, trail_of}
use Rattle.rl_parts.specs.Sets.{AreLettersOf}
use Rattle.rl_parts.specs.Members.{list_data}
use Rattle.rl_parts.specs.Nodes.{node_data}

-- The name of the outer anchors at the end of a pattern: `end` for `\Z`, possibly along with `$`.
abbrev pub trail_name : Trail → List ℕ
trail_name None = codes "none"
trail_name Dollar = codes "dollar"
trail_name End = codes "end"

-- The sample of a letter as a string of one character. It is `null` for a surrogate, which no text of JSON in UTF-8 has.
abbrev pub sample_data : ℕ → Data
sample_data sample = if scalar sample then string (encode_utf8 sample) else null

-- The object of a letter: its sample.
abbrev pub letter_data : ℕ → Data
letter_data sample = object (put (codes "sample") (sample_data sample) no_members)

-- The reply for the pattern, given its letters and the tree of its parts: both, and the outer anchors that were removed.
abbrev pub reply_data : Pattern → Data → Data → Data
reply_data p letters tree =
    object (put (codes "tree") tree
    (put (codes "letters") letters
    (put (codes "trailing") (string (trail_name (trail_of p)))
    (put (codes "leading") (boolean (is_anchored p)) (put (codes "answer") (string (codes "tree")) no_members)))))

-- The reply for the pattern, given the samples of its letters, by their numbers. Groups are numbered from 1.
abbrev pub tree_data : List ℕ → Pattern → Data
tree_data samples p = reply_data p (list_data (map letter_data samples)) (node_data samples (body_of p) 1)

-- Holds if the value is the reply for the pattern, with the samples of the letters of its sets.
abbrev pub IsTreeReply : Pattern → Data → Type 0
IsTreeReply p reply = (table : LetterTable) × AreLettersOf p table × (reply ≡ tree_data table.samples p)
