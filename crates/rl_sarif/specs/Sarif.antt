-- A report as a SARIF 2.1.0 document. An entry is one result of a report: for a call of `re` whose pattern is a literal, for a
-- source that can't be cut into tokens, or for a path without a source. Its outcome is a verdict, the cause of a refusal, or
-- what is wrong with the path, and the kind of the outcome is a name such as `degree`, `exponential`, `undecided`, `refused`
-- or `unreadable`. A live pair is a state of a pattern's automaton with the set of states that were tried before it. `put`
-- adds a member to an object.
use Rattle.std.specs.Prelude.{ℕ, ◌/◌, ◌%◌, Bool, true, ◌||◌, ◌==◌, List, [], ◌∷◌, ◌++◌, map, filter, codes, if◌then◌else◌}
use Rattle.std.specs.Char.{is_ascii_alphanumeric}
use Rattle.std.specs.List.{flat_map}
use Rattle.std.specs.Fmt.{digit_glyph}
use Rattle.serde_json.specs.Data.{Data, string, array, object, no_members, put}
use Rattle.serde_json.specs.View.{items_of}
use Rattle.serde_json.specs.Written.{compact_text}
use Rattle.rl_report.specs.declared.places.Place.{Place}
use Rattle.rl_report.specs.declared.report.Entry.{Entry}
use Rattle.rl_report.specs.Document.{put_some, whole}
use Rattle.rl_report.specs.Findings.{verdict_of, is_finding, is_refused, is_undecided}
use Rattle.rl_report.specs.Layouts.{call_text, outcome_text}
use Rattle.rl_report.specs.Names.{Text, kind_name}

-- ---- the path as a relative URI

-- Whether a byte of a path stays as it is in the URI: an ASCII letter, a digit, `-`, `.`, `_`, `~` or `/`.
abbrev pub is_kept : ℕ → Bool
is_kept c = is_ascii_alphanumeric c || (c == 45 || (c == 46 || (c == 95 || (c == 126 || c == 47))))

-- The byte as it is in the URI: the byte itself if it is kept, otherwise `%` and two hexadecimal digits in upper case.
abbrev pub uri_byte : ℕ → Text
uri_byte c = if is_kept c then c ∷ [] else 37 ∷ digit_glyph true (c / 16) ∷ digit_glyph true (c % 16) ∷ []

-- The path as a relative URI, byte by byte. The empty path gives the empty URI.
abbrev pub uri_text : Text → Text
uri_text path = flat_map uri_byte path

-- ---- the results

-- The message of an entry: `CALL: OUTCOME`, or only the outcome if it has no call. It is what the text report shows after the
-- path and place. `max_pairs` is the limit of live pairs.
abbrev pub message_text : ℕ → Entry → Text
message_text max_pairs e = call_text e.call ++ outcome_text max_pairs e (verdict_of e.outcome)

-- The region of a result: the line and column where it starts.
abbrev pub region_data : Place → Data
region_data p = object (put (codes "startLine") (whole p.line) (put (codes "startColumn") (whole p.column) no_members))

-- The physical location of a result: the URI of its path and, if the entry has a place, the region.
abbrev pub physical_data : Entry → Data
physical_data e =
    object (put_some (codes "region") region_data e.at
    (put (codes "artifactLocation") (object (put (codes "uri") (string (uri_text e.path)) no_members)) no_members))

-- The location of a result: an object with its physical location.
abbrev pub location_data : Entry → Data
location_data e = object (put (codes "physicalLocation") (physical_data e) no_members)

-- The result for an entry: its rule, which is the kind of its outcome, its message, and its only location.
abbrev pub result_data : ℕ → Entry → Data
result_data max_pairs e =
    object (put (codes "ruleId") (string (kind_name e.outcome))
    (put (codes "message") (object (put (codes "text") (string (message_text max_pairs e)) no_members))
    (put (codes "locations") (array (items_of (location_data e ∷ []))) no_members)))

-- Whether the document has a result for the entry: its verdict is exponential, a degree above `max_degree` or undecided, or it
-- has no verdict. Only a degree of at most `max_degree` has no result.
abbrev pub is_result : ℕ → Entry → Bool
is_result max_degree e = is_finding max_degree e || is_refused e || is_undecided e

-- The results for those of the entries that have one, in the order of the entries.
abbrev pub results_data : ℕ → ℕ → List Entry → Data
results_data max_degree max_pairs entries =
    array (items_of (map (result_data max_pairs) (filter (is_result max_degree) entries)))

-- ---- the document

-- The tool that made the document: a driver with the name `relint`.
abbrev pub tool_data : Data
tool_data = object (put (codes "driver") (object (put (codes "name") (string (codes "relint")) no_members)) no_members)

-- The run of the tool, with these results. Its columns count code points.
abbrev pub run_data : Data → Data
run_data results =
    object (put (codes "tool") tool_data
    (put (codes "results") results (put (codes "columnKind") (string (codes "unicodeCodePoints")) no_members)))

-- The document with these results.
abbrev pub document_data : Data → Data
document_data results =
    object (put (codes "version") (string (codes "2.1.0"))
    (put (codes "runs") (array (items_of (run_data results ∷ []))) no_members))

-- The document for the entries: one line, with a line feed at the end. A degree above `max_degree` is a finding, and
-- `max_pairs` is the limit of live pairs.
abbrev pub sarif_text : ℕ → ℕ → List Entry → Text
sarif_text max_degree max_pairs entries =
    compact_text (document_data (results_data max_degree max_pairs entries)) ++ codes "\n"
