-- Document: answers as lines of JSON. The members of an object are in the order of their keys. Each definition whose name ends
-- in `members` takes the members that an object already has, and returns them with its own members added.
use Rattle.std.specs.Prelude.{ℕ, ◌^◌, Bool, not, List, [], ◌∷◌, ◌++◌, map, Option, None, Some, codes, if◌then◌else◌, nat_lt}
use Rattle.std.specs.Fmt.{decimal}
use Rattle.std.specs.Option.{option_map_or}
use Rattle.serde_json.specs.Data.{Data, Members, array, boolean, no_members, null, object, put, string}
use Rattle.serde_json.specs.View.{items_of, view}
use Rattle.serde_json.specs.Written.{compact_text}
use Rattle.rl_ranges.specs.declared.universe.Universe.{Universe}
use Rattle.rl_ranges.specs.declared.universe.Universe.TheVariants.{Str}
use Rattle.rl_syntax.specs.declared.span.Span.{Span}
use Rattle.rl_syntax.specs.declared.verdict.Family.{Family}
use Rattle.rl_syntax.specs.declared.verdict.Suggestion.{Suggestion}
use Rattle.rl_syntax.specs.declared.verdict.Verdict.{Verdict}
use Rattle.rl_pattern.specs.declared.parsing.PatError.{PatError}
use Rattle.rl_pattern.specs.declared.parsing.PatError.TheVariants as error
use Rattle.rl_equiv.specs.declared.compared.Compared.{Compared}
use Rattle.rl_machine.specs.declared.steps.Counted.{Counted}
use Rattle.rl_machine.specs.declared.steps.Steps.{Steps}
use Rattle.rl_machine.specs.declared.steps.Steps.TheVariants.{Exact, Past}
use Rattle.rl_reach.specs.declared.bounds.AtLeast.{AtLeast}
use Rattle.rl_reach.specs.declared.bounds.Bounds.{Bounds}
use Rattle.rl_report.specs.Document.{family_data, put_some, verdict_members, whole}
use Rattle.rl_report.specs.Names.{pattern_cause}
use Rattle.rl_report.specs.Verdicts.{family_of, quoted_text}
use Rattle.rl_spans.specs.declared.finding.Sight.{Sight}
use Rattle.rl_why.specs.declared.explaining.Explained.{Explained}
use Rattle.rl_explained.specs.Replies.{ways_members as reading_members}
use Rattle.rl_asked.specs.Questions.{Asked, class, ways, tree, compare, spans, found, suggest, cost, family_cost, version}
use Rattle.rl_asked.specs.Words.{Text}
use Rattle.rl_ask.specs.Comparisons.{relation_name}
use Rattle.rl_ask.specs.Sights.{limit_text, sight_text}
use Rattle.rl_ask.specs.declared.answer.Answer.{Answer}
use Rattle.rl_ask.specs.declared.answer.Answer.TheVariants as answer
use Rattle.rl_ask.specs.declared.answer.Difference.{Difference}
use Rattle.rl_ask.specs.declared.answer.Fault.{Fault}
use Rattle.rl_ask.specs.declared.answer.Fault.TheVariants as fault
use Rattle.rl_ask.specs.declared.answer.Which.{Which}
use Rattle.rl_ask.specs.declared.answer.Which.TheVariants as which
use Rattle.rl_ask.specs.declared.beyond.Beyond.{Beyond}
use Rattle.rl_ask.specs.declared.limits.TheConstants.{MOST_TEXT_CODES}

-- ---- parts

-- The members of an object that has only the name of an answer, at the key `answer`.
abbrev pub named : Text → Members
named name = put (codes "answer") (string name) no_members

-- Two positions as a list: `[0,2]`.
abbrev pub span_data : ℕ → ℕ → Data
span_data from upto = array (items_of (whole from ∷ whole upto ∷ []))

-- Spans of a pattern as a list.
abbrev pub spans_data : List Span → Data
spans_data parts = array (items_of (map (λ s. span_data s.from s.upto) parts))

-- A text of the universe as a string that is a quoted literal of Python.
abbrev pub quoted_data : Universe → List ℕ → Data
quoted_data universe text = string (quoted_text universe text)

-- ---- refusals and errors

-- The name of the cause of a refusal: `not-bytes` for a bytes pattern with a character above U+00FF, and otherwise the name
-- that reports have for it.
abbrev pub fault_cause : Fault → Text
fault_cause fault.NotBytes = codes "not-bytes"
fault_cause (fault.Pattern e) = pattern_cause e

-- The position in a pattern at which the reader of patterns refuses it, if it has one.
abbrev pub error_place : PatError → Option ℕ
error_place (error.Syntax place) = Some place
error_place (error.TooDeep place) = Some place
error_place (error.Outside place feature) = Some place
error_place error.TooLong = None
error_place error.OutOfMemory = None

-- The position of a fault in its pattern, if it has one.
abbrev pub fault_place : Fault → Option ℕ
fault_place fault.NotBytes = None
fault_place (fault.Pattern e) = error_place e

-- Adds which of two patterns is refused.
abbrev pub which_members : Which → Members → Members
which_members which.Only ms = ms
which_members which.First ms = put (codes "pattern") (string (codes "first")) ms
which_members which.Second ms = put (codes "pattern") (string (codes "second")) ms

-- The members of a refusal: its cause, its position if it has one, and which of two patterns is refused.
abbrev pub refusal_members : Which → Fault → Members
refusal_members which f =
    which_members which (put_some (codes "at") whole (fault_place f) (put (codes "cause") (string (fault_cause f)) (named (codes "refused"))))

-- The members of an error.
abbrev pub error_members : Text → Members
error_members message = put (codes "message") (string message) (named (codes "error"))

-- ---- answers

-- The members of an answer with the name that gives a verdict: those of an entry of a report.
abbrev pub entry_members : Text → Universe → ℕ → Verdict → Members
entry_members name universe pairs verdict =
    put_some (codes "family") (family_data universe) (family_of verdict) (verdict_members pairs verdict (named name))

-- The members of a lower bound of the growth, all but its degree: its kind, its family, and the law that gives it.
abbrev pub shown_members : Text → Universe → Family → Members → Members
shown_members kind universe f ms =
    put (codes "law") (string (codes "search-costs-its-match"))
    (put (codes "family") (family_data universe f) (put (codes "kind") (string kind) ms))

-- The members of a lower bound of the growth. One that isn't exponential has a degree.
abbrev pub bound_members : Universe → AtLeast → Members
bound_members universe (AtLeast.Degree d f) = shown_members (codes "degree") universe f (put (codes "degree") (whole d) no_members)
bound_members universe (AtLeast.Expo f) = shown_members (codes "exponential") universe f no_members

-- A lower bound of the growth.
abbrev pub least_data : Universe → AtLeast → Data
least_data universe least = object (bound_members universe least)

-- An upper bound of the growth: its degree, and the law that gives it.
abbrev pub most_data : ℕ → Data
most_data d = object (put (codes "law") (string (codes "one-degree-more")) (put (codes "degree") (whole d) no_members))

-- Adds the bounds of the growth that there are.
abbrev pub bounds_members : Universe → Bounds → Members → Members
bounds_members universe b ms = put_some (codes "at-most") most_data b.at_most (put_some (codes "at-least") (least_data universe) b.at_least ms)

-- The members of a verdict with bounds.
abbrev pub class_members : Universe → ℕ → Verdict → Bounds → Members
class_members universe pairs verdict bounds = bounds_members universe bounds (entry_members (codes "class") universe pairs verdict)

-- The members of a verdict, and of how the pumps of its family are read.
abbrev pub ways_members : Universe → ℕ → Explained → Members
ways_members universe pairs explained = reading_members universe explained (entry_members (codes "ways") universe pairs explained.verdict)

-- The members of a comparison of matched texts: the relation, whether more set pairs are reached than were looked at, and the
-- text of each region that has one.
abbrev pub compared_members : Universe → ℕ → Compared → Members
compared_members universe most c =
    put_some (codes "both") (quoted_data universe) c.both
    (put_some (codes "second") (quoted_data universe) c.second
    (put_some (codes "first") (quoted_data universe) c.first
    (put (codes "more") (boolean c.more)
    (put (codes "relation") (string (relation_name most c)) (named (codes "compare"))))))

-- The members of an answer that gives a text on which two patterns differ. `empty` is false only if matches that aren't empty
-- are compared.
abbrev pub difference_members : Universe → Difference → Members
difference_members universe d =
    put (codes "text") (quoted_data universe d.text)
    (put (codes "second") (string (sight_text d.second))
    (put (codes "from") (whole d.from)
    (put (codes "first") (string (sight_text d.first))
    (put (codes "empty") (boolean (not d.advance))
    (named (codes "differ"))))))

-- The value of a group: its span, or `null`.
abbrev pub value_data : Option (ℕ × ℕ) → Data
value_data None = null
value_data (Some s) = span_data s.0 s.1

-- The values of groups as a list, from group 1 on.
abbrev pub groups_data : List (Option (ℕ × ℕ)) → Data
groups_data groups = array (items_of (map value_data groups))

-- The number of a group, or `null`.
abbrev pub number_data : Option ℕ → Data
number_data None = null
number_data (Some n) = whole n

-- A match: its start and end, the values of its groups from group 1 on, and the number of the group that was closed last.
abbrev pub match_data : Sight → Data
match_data s =
    object (put (codes "last") (number_data s.last)
    (put (codes "groups") (groups_data s.groups)
    (put (codes "end") (whole s.end) (put (codes "start") (whole s.start) no_members))))

-- What a pattern finds: its match, or `null`.
abbrev pub sight_data : Option Sight → Data
sight_data None = null
sight_data (Some s) = match_data s

-- The members of a suggestion: the spans of dropped branches, of removed quantifiers (`merged`), and of branches that stay
-- because their test would have needed more set pairs (`passed`), and the text without what is removed, if anything is.
abbrev pub suggestion_members : Universe → Suggestion → Members
suggestion_members universe s =
    put_some (codes "text") (quoted_data universe) s.text
    (put (codes "passed") (spans_data s.passed)
    (put (codes "merged") (spans_data s.merged)
    (put (codes "dropped") (spans_data s.dropped) (named (codes "suggest")))))

-- A number of steps in decimal; one of 2^128 or more isn't written out.
abbrev pub steps_text : Steps → Text
steps_text (Exact n) = decimal n
steps_text Past = codes "over 340282366920938463463374607431768211455"

-- The members of an answer that gives a number of steps.
abbrev pub cost_members : Counted → Members
cost_members c =
    put (codes "matched") (boolean c.matched) (put (codes "steps") (string (steps_text c.steps)) (named (codes "cost")))

-- The words of the questions about patterns that are answered.
abbrev pub asks : List Text
asks = codes "class" ∷ codes "compare" ∷ codes "cost" ∷ codes "found" ∷ codes "spans" ∷ codes "suggest" ∷ codes "tree" ∷ codes "ways" ∷ []

-- The version of the program.
abbrev pub version_text : Text
version_text = codes "2.0.0"

-- The members of the answer that gives the version.
abbrev pub version_members : Members
version_members =
    put (codes "version") (string version_text) (put (codes "asks") (array (items_of (map string asks))) (named (codes "version")))

-- The members of an answer, by the universe of the question's patterns and its limit on pairs. A reply that is handed on gets
-- none.
abbrev pub answer_members : Universe → ℕ → Answer → Members
answer_members universe most (answer.Refused which f) = refusal_members which f
answer_members universe most (answer.Undecided limit) = put (codes "cause") (string (limit_text limit)) (named (codes "undecided"))
answer_members universe most (answer.Class verdict bounds) = class_members universe most verdict bounds
answer_members universe most (answer.Ways explained) = ways_members universe most explained
answer_members universe most (answer.Tree reply) = no_members
answer_members universe most (answer.Compared c) = compared_members universe most c
answer_members universe most answer.Same = named (codes "same")
answer_members universe most (answer.Differ d) = difference_members universe d
answer_members universe most answer.Exceeded = put (codes "limit") (whole most) (named (codes "exceeded"))
answer_members universe most (answer.Found sight) = put (codes "found") (sight_data sight) (named (codes "found"))
answer_members universe most (answer.Suggested s) = suggestion_members universe s
answer_members universe most (answer.Cost c) = cost_members c
answer_members universe most answer.TextTooLong = error_members (codes "text over " ++ (decimal MOST_TEXT_CODES ++ codes " codes"))
answer_members universe most answer.Version = version_members

-- The names of what is told beside an answer.
abbrev pub beyond_names : Beyond → List Text
beyond_names told =
    (if told.lookaround then codes "lookaround" ∷ [] else []) ++ (if told.inner_anchor then codes "inner-anchor" ∷ [] else [])

-- Names as a list, if there are some.
abbrev pub names_data : List Text → Option Data
names_data [] = None
names_data (name ∷ names) = Some (array (items_of (map string (name ∷ names))))

-- Adds what is told beside an answer, at the key `beyond`.
abbrev pub beyond_members : Beyond → Members → Members
beyond_members told ms = put_some (codes "beyond") (λ names. names) (names_data (beyond_names told)) ms

-- An answer as a value, with what is told beside it: the reply that is handed on, or an object.
abbrev pub answer_data : Universe → ℕ → Beyond → Answer → Data
answer_data universe most told (answer.Tree reply) = view reply
answer_data universe most told given = object (beyond_members told (answer_members universe most given))

-- ---- lines

-- The universe of a question's patterns; a question without patterns counts as one about text patterns.
abbrev pub universe_of : Asked → Universe
universe_of (class pattern terms mode pairs) = terms.universe
universe_of (ways pattern terms mode pairs) = terms.universe
universe_of (tree pattern terms) = terms.universe
universe_of (compare first second terms mode limit) = terms.universe
universe_of (spans first second terms how limit groups) = terms.universe
universe_of (found pattern terms mode text from advance) = terms.universe
universe_of (suggest pattern terms pairs) = terms.universe
universe_of (cost pattern terms mode text) = terms.universe
universe_of (family_cost pattern terms mode heads pumps k) = terms.universe
universe_of version = Str

-- The limit on pairs of a question; 0 for a question without one.
abbrev pub limit_of : Asked → ℕ
limit_of (class pattern terms mode pairs) = pairs
limit_of (ways pattern terms mode pairs) = pairs
limit_of (compare first second terms mode limit) = limit
limit_of (spans first second terms how limit groups) = limit
limit_of (suggest pattern terms pairs) = pairs
limit_of _ = 0

-- A value as a line, without blanks, and a line feed.
abbrev pub line_text : Data → Text
line_text value = compact_text value ++ codes "\n"

-- The line of an answer to a question, with what is told beside it.
abbrev pub reply_text : Asked → Beyond → Answer → Text
reply_text q told given = line_text (answer_data (universe_of q) (limit_of q) told given)

-- The line that says why there is no answer.
abbrev pub error_text : Text → Text
error_text message = line_text (object (error_members message))
