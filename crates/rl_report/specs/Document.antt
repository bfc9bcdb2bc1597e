-- The layout of a report in JSON. `max_degree` is the highest degree that isn't a finding, `max_pairs` the limit of live
-- pairs, and `report` the version of the report, 1 or 2. An entry is one result of a report: for a call of `re` whose pattern
-- is a literal, for a source that can't be cut into tokens, or for a path without a source. Its outcome is a verdict, the
-- cause of a refusal, or what is wrong with the path. A verdict says how the cost of matching a pattern grows with the length
-- of the text: with a degree, exponentially, or `undecided`, because a limit was exceeded. A live pair, whose number one of
-- the limits bounds, is a state of the pattern's automaton with the set of states that were tried before it. A family is the
-- parts of texts that show the verdict: heads and pumps that alternate, first a head, then each pump with the next head. The
-- pumps are repeated. A suggestion says what can be left out of a pattern: it has the simpler pattern, if there is one, and
-- mentions parts (branches and quantifiers) of the old one. A mark is such a part, with its line and column. The universe of
-- an entry says whether its texts are of type `str` or `bytes`.
use Rattle.std.specs.Prelude.{ℕ, ◌==◌, List, ◌++◌, map, Option, Some, None, option_and_then, codes, if◌then◌else◌}
use Rattle.std.specs.List.{count_by}
use Rattle.std.specs.Option.{option_map_or}
use Rattle.serde_json.specs.Data.{Data, Members, number, unsigned, string, array, object, no_members, put}
use Rattle.serde_json.specs.View.{items_of}
use Rattle.serde_json.specs.Written.{compact_text}
use Rattle.rl_ranges.specs.declared.universe.Universe.{Universe}
use Rattle.rl_sites.specs.Names.{call_word}
use Rattle.rl_syntax.specs.declared.verdict.Family.{Family}
use Rattle.rl_syntax.specs.declared.verdict.Suggestion.{Suggestion}
use Rattle.rl_syntax.specs.declared.verdict.Verdict.{Verdict}
use Rattle.rl_syntax.specs.declared.verdict.Verdict.TheVariants.{Degree, Expo, Undecided}
use Rattle.rl_report.specs.declared.places.Place.{Place}
use Rattle.rl_report.specs.declared.report.Entry.{Entry}
use Rattle.rl_report.specs.declared.report.Mark.{Mark}
use Rattle.rl_report.specs.declared.report.Marks.{Marks}
use Rattle.rl_report.specs.Names.{Text, cause_name, kind_name, limit_name, limit_number}
use Rattle.rl_report.specs.Findings.{verdict_of, suggestion_of, becomes_of, is_finding, is_refused, is_undecided}
use Rattle.rl_report.specs.Verdicts.{family_of, quoted_text}

-- Each definition with `Members` takes the members that an object already has, and returns them with its own members added.
-- `put` keeps the keys in the order of their bytes.

-- Adds the member `key` with `value`, as `data_of` turns it into JSON. Adds nothing if there is no value.
abbrev pub put_some : {X : Type 0} → Text → (X → Data) → Option X → Members → Members
put_some key data_of value ms = option_map_or (λ x. put key (data_of x) ms) value ms

-- A natural number as a JSON number.
abbrev pub whole : ℕ → Data
whole n = number (unsigned n)

-- Adds the line and the column of a place, as `line` and `column`.
abbrev pub place_members : Place → Members → Members
place_members p ms = put (codes "column") (whole p.column) (put (codes "line") (whole p.line) ms)

-- A place as an object of its own.
abbrev pub place_data : Place → Data
place_data p = object (place_members p no_members)

-- Adds the line and the column of an entry's place. Adds nothing if it has no place.
abbrev pub at_members : Option Place → Members → Members
at_members at ms = option_map_or (λ p. place_members p ms) at ms

-- Adds a verdict: its `kind`; for a degree, the number as `degree`; and if it is undecided, the name of the exceeded limit as
-- `limit` and the number that the limit allows as `over`.
abbrev pub verdict_members : ℕ → Verdict → Members → Members
verdict_members max_pairs (Degree d family) ms = put (codes "degree") (whole d) (put (codes "kind") (string (codes "degree")) ms)
verdict_members max_pairs (Expo family) ms = put (codes "kind") (string (codes "exponential")) ms
verdict_members max_pairs (Undecided limit) ms =
    put (codes "over") (whole (limit_number max_pairs limit))
    (put (codes "limit") (string (limit_name limit)) (put (codes "kind") (string (codes "undecided")) ms))

-- Adds an outcome without a verdict: its `kind`; the `cause`, if it is a refusal; and the place of the fault as `fault`, if it
-- is a refusal and the fault has a place.
abbrev pub refusal_members : Text → Option Text → Option Place → Members → Members
refusal_members kind None fault ms = put (codes "kind") (string kind) ms
refusal_members kind (Some cause) fault ms = put_some (codes "fault") place_data fault (put (codes "cause") (string cause) (put (codes "kind") (string kind) ms))

-- Adds the outcome of an entry, whose verdict is given: the members of the verdict, or those of an outcome without a verdict
-- if there is none.
abbrev pub outcome_members : ℕ → Entry → Option Verdict → Members → Members
outcome_members max_pairs e None ms = refusal_members (kind_name e.outcome) (cause_name e.outcome) e.fault ms
outcome_members max_pairs e (Some verdict) ms = verdict_members max_pairs verdict ms

-- Texts of the universe as an array of quoted Python literals, such as `r"ab"`, in order.
abbrev pub texts_data : Universe → List (List ℕ) → Data
texts_data universe texts = array (items_of (map (λ text. string (quoted_text universe text)) texts))

-- The family of a verdict: its heads and pumps.
abbrev pub family_data : Universe → Family → Data
family_data universe family =
    object (put (codes "pumps") (texts_data universe family.pumps)
    (put (codes "heads") (texts_data universe family.heads) no_members))

-- Marks as an array of their places, in order. Their texts are left out.
abbrev pub marks_data : List Mark → Data
marks_data marks = array (items_of (map (λ m. place_data m.at) marks))

-- Adds the parts that a suggestion mentions, as three arrays of places: dropped branches, removed quantifiers (`merged`), and
-- branches that stay because their test exceeded its limit (`passed`).
abbrev pub marks_members : Marks → Members → Members
marks_members marks ms =
    put (codes "passed") (marks_data marks.passed)
    (put (codes "merged") (marks_data marks.merged) (put (codes "dropped") (marks_data marks.dropped) ms))

-- Adds the verdict on the suggested pattern, if there is one and the report has version 2.
abbrev pub becomes_members : ℕ → ℕ → Option Verdict → Members → Members
becomes_members max_pairs report becomes ms =
    option_map_or (λ v. if report == 2 then put (codes "becomes") (object (verdict_members max_pairs v no_members)) ms else ms) becomes ms

-- Adds the suggested pattern as a quoted Python literal and, in version 2 of the report, the verdict on it, if there is one.
-- Adds nothing if no pattern is suggested.
abbrev pub suggest_members : ℕ → ℕ → Universe → Option (List ℕ) → Option Verdict → Members → Members
suggest_members max_pairs report universe text becomes ms =
    option_map_or (λ t. becomes_members max_pairs report becomes (put (codes "suggest") (string (quoted_text universe t)) ms)) text ms

-- Adds what belongs to a suggestion: its marks as three arrays, which may be empty; the suggested pattern, if there is one;
-- and, in version 2 of the report, the verdict on it. Adds nothing if there is no suggestion.
abbrev pub suggestion_members : ℕ → ℕ → Universe → Marks → Option Suggestion → Option Verdict → Members → Members
suggestion_members max_pairs report universe marks suggestion becomes ms =
    option_map_or (λ s. suggest_members max_pairs report universe s.text becomes (marks_members marks ms)) suggestion ms

-- Adds the members that come before the outcome: the path, and the place and the call if the entry has them.
abbrev pub front_members : Entry → Members → Members
front_members e ms =
    put_some (codes "call") (λ c. string (call_word c)) e.call (at_members e.at (put (codes "path") (string e.path) ms))

-- Adds the family of the verdict and the suggestion, if the entry has them.
abbrev pub judged_members : ℕ → ℕ → Entry → Members → Members
judged_members max_pairs report e ms =
    suggestion_members max_pairs report e.universe e.marks (suggestion_of e.outcome) (becomes_of e.outcome)
    (put_some (codes "family") (family_data e.universe) (option_and_then family_of (verdict_of e.outcome)) ms)

-- The object of an entry: its path; its place and its call, if it has them; its outcome; and the family of its verdict and its
-- suggestion, if it has them.
abbrev pub entry_data : ℕ → ℕ → Entry → Data
entry_data max_pairs report e =
    object (judged_members max_pairs report e
    (outcome_members max_pairs e (verdict_of e.outcome) (front_members e no_members)))

-- The object of the whole report: its version, its entries in order, and the numbers of entries among them that are findings
-- (`findings`), that have no verdict (`refused`), and whose verdict is undecided (`undecided`).
unfoldable pub report_data : ℕ → ℕ → ℕ → List Entry → Data
report_data max_degree max_pairs report entries =
    object (put (codes "version") (whole report)
    (put (codes "undecided") (whole (count_by is_undecided entries))
    (put (codes "refused") (whole (count_by is_refused entries))
    (put (codes "findings") (whole (count_by (is_finding max_degree) entries))
    (put (codes "entries") (array (items_of (map (entry_data max_pairs report) entries))) no_members)))))

-- The report in JSON: one line, with a line feed at the end.
abbrev pub json_report : ℕ → ℕ → ℕ → List Entry → Text
json_report max_degree max_pairs report entries =
    compact_text (report_data max_degree max_pairs report entries) ++ codes "\n"
