-- A report in JSON is a value that is read back from its text.
use Rattle.std.proofs.Common.{◌≡◌, ℕ, ◌<◌, ◌^◌, ◌⊎◌, inl, inr, Bool, true, false, cond, List, [], ◌∷◌, length, map, Option, Some, None, option_and_then, All, IfSome, IsUtf8, codes, refl, arith}
use Rattle.std.specs.Prelude.{◌==◌}
use Rattle.std.specs.List.{count_by}
use Rattle.std.proofs.lemmas.List.Elements.{All-head, All-tail}
use Rattle.std.proofs.lemmas.List.Sums.{count_by-le-length}
use Rattle.json.proofs.Printed.Utf8.{IsUtf8-are_ascii, are_ascii}
use Rattle.serde_json.specs.Data.{Data, Members, no_members, array, object, string, put}
use Rattle.serde_json.specs.View.{items_of}
use Rattle.rl_ranges.specs.declared.universe.Universe.{Universe}
use Rattle.rl_sites.specs.declared.call.Call.{Call}
use Rattle.rl_sites.specs.Names.{call_word}
use Rattle.rl_syntax.specs.declared.verdict.Family.{Family}
use Rattle.rl_syntax.specs.declared.verdict.Limit.{Limit}
use Rattle.rl_syntax.specs.declared.verdict.Limit.TheVariants as limit
use Rattle.rl_syntax.specs.declared.verdict.Suggestion.{Suggestion}
use Rattle.rl_syntax.specs.declared.verdict.Verdict.{Verdict}
use Rattle.rl_syntax.specs.declared.verdict.Verdict.TheVariants.{Degree, Expo, Undecided}
use Rattle.rl_report.specs.declared.places.Place.{Place}
use Rattle.rl_report.specs.declared.report.Entry.{Entry}
use Rattle.rl_report.specs.declared.report.Mark.{Mark}
use Rattle.rl_report.specs.declared.report.Outcome.{Outcome}
use Rattle.rl_report.specs.declared.report.Outcome.TheVariants as outcome
use Rattle.rl_report.specs.Document.{whole, place_members, place_data, at_members, put_some, verdict_members, refusal_members, outcome_members, texts_data, family_data, marks_data, marks_members, becomes_members, suggest_members, suggestion_members, front_members, entry_data, report_data}
use Rattle.rl_report.specs.Verdicts.{family_of, quoted_text}
use Rattle.rl_report.specs.Findings.{verdict_of, suggestion_of, becomes_of, is_finding, is_refused, is_undecided}
use Rattle.rl_report.specs.Names.{Text, cause_name, kind_name, limit_name, limit_number}
use Rattle.rl_report.proofs.Ascii.{quoted_utf8}
use Rattle.rl_sarif.specs.Laws.{FitsPlace, FitsVerdict, IsAnswer, IsSound}
use Rattle.rl_sarif.proofs.NamesKnown.{call-utf8, limit-utf8, kind-utf8, cause-utf8, lexing-known, literal-known, pattern-known}
use Rattle.rl_json.proofs.Writable.{IsWritable, AreWritable, AreWritableItems, put-writable}

-- A member with an ASCII name.
put-named : (n : ℕ) (k : List ℕ) (d : Data) (ms : Members) → are_ascii k ≡ true → IsWritable n d → AreWritable n ms → AreWritable n (put k d ms)
put-named n k d ms ascii w all = put-writable n k d ms (IsUtf8-are_ascii k ascii) w all

items-writable : {X : Type 0} (n : ℕ) (f : X → Data) (P : X → Type 0) (xs : List X) → ((x : X) → P x → IsWritable n (f x)) → All P xs → AreWritableItems n (items_of (map f xs))
items-writable n f P [] each all = tt
items-writable n f P (x ∷ xs) each all = (each x (All-head P x xs all), items-writable n f P xs each (All-tail P x xs all))

place-writable : (n : ℕ) (p : Place) (ms : Members) → FitsPlace p → AreWritable n ms → AreWritable n (place_members p ms)
place-writable n p ms fits all =
    put-named n (codes "column") (whole p.column) (put (codes "line") (whole p.line) ms) refl (omega (arith, fits.1))
    (put-named n (codes "line") (whole p.line) ms refl (omega (arith, fits.0)) all)

at-writable : (n : ℕ) (at : Option Place) (ms : Members) → IfSome at FitsPlace → AreWritable n ms → AreWritable n (at_members at ms)
at-writable n None ms fits all = all
at-writable n (Some p) ms fits all = place-writable n p ms fits all

call-writable : (n : ℕ) (c : Option Call) (ms : Members) → AreWritable n ms → AreWritable n (put_some (codes "call") (λ (c : Call). string (call_word c)) c ms)
call-writable n None ms all = all
call-writable n (Some c) ms all = put-named n (codes "call") (string (call_word c)) ms refl (call-utf8 c) all

fault-writable : (fault : Option Place) (ms : Members) → IfSome fault FitsPlace → AreWritable 2 ms → AreWritable 2 (put_some (codes "fault") place_data fault ms)
fault-writable None ms fits all = all
fault-writable (Some p) ms fits all = put-named 2 (codes "fault") (place_data p) ms refl (place-writable 1 p no_members fits tt) all

kind-writable : (n : ℕ) (kind : Text) (ms : Members) → IsUtf8 kind → AreWritable n ms → AreWritable n (put (codes "kind") (string kind) ms)
kind-writable n kind ms utf8 all = put-named n (codes "kind") (string kind) ms refl utf8 all

limit-fits : (max_pairs : ℕ) (l : Limit) → max_pairs < 2 ^ 32 → limit_number max_pairs l < 2 ^ 64
limit-fits max_pairs limit.Size h = omega arith
limit-fits max_pairs limit.Letters h = omega arith
limit-fits max_pairs limit.Moves h = omega arith
limit-fits max_pairs limit.Sets h = omega arith
limit-fits max_pairs limit.Pairs h = omega arith

verdict-writable : (n max_pairs : ℕ) (v : Verdict) (ms : Members) → max_pairs < 2 ^ 32 → FitsVerdict v → AreWritable n ms → AreWritable n (verdict_members max_pairs v ms)
verdict-writable n max_pairs (Degree d family) ms small fits all =
    put-named n (codes "degree") (whole d) (put (codes "kind") (string (codes "degree")) ms) refl (omega (arith, fits)) (kind-writable n (codes "degree") ms (IsUtf8-are_ascii _ refl) all)
verdict-writable n max_pairs (Expo family) ms small fits all = kind-writable n (codes "exponential") ms (IsUtf8-are_ascii _ refl) all
verdict-writable n max_pairs (Undecided l) ms small fits all =
    let kind = put (codes "kind") (string (codes "undecided")) ms in
    put-named n (codes "over") (whole (limit_number max_pairs l)) (put (codes "limit") (string (limit_name l)) kind) refl (limit-fits max_pairs l small)
    (put-named n (codes "limit") (string (limit_name l)) kind refl (limit-utf8 l) (kind-writable n (codes "undecided") ms (IsUtf8-are_ascii _ refl) all))

cause-text : (o : Outcome) → IsAnswer o → IfSome (cause_name o) IsUtf8
cause-text outcome.Unreadable answer = tt
cause-text outcome.TooDeepFolder answer = tt
cause-text outcome.NotPlain answer = tt
cause-text (outcome.Source e) answer = cause-utf8 _ (lexing-known e answer)
cause-text outcome.NotWhole answer = IsUtf8-are_ascii _ refl
cause-text (outcome.Literal e) answer = cause-utf8 _ (literal-known e answer)
cause-text outcome.FlagsUnknown answer = IsUtf8-are_ascii _ refl
cause-text (outcome.Pattern e) answer = cause-utf8 _ (pattern-known e answer)
cause-text (outcome.Judged verdict suggestion becomes) answer = tt

refusal-writable : (kind : Text) (cause : Option Text) (fault : Option Place) (ms : Members) → IsUtf8 kind → IfSome cause IsUtf8 → IfSome fault FitsPlace → AreWritable 2 ms
    → AreWritable 2 (refusal_members kind cause fault ms)
refusal-writable kind None fault ms utf8 text fits all = kind-writable 2 kind ms utf8 all
refusal-writable kind (Some cause) fault ms utf8 text fits all =
    fault-writable fault (put (codes "cause") (string cause) (put (codes "kind") (string kind) ms)) fits
    (put-named 2 (codes "cause") (string cause) (put (codes "kind") (string kind) ms) refl text (kind-writable 2 kind ms utf8 all))

outcome-writable : (max_pairs : ℕ) (e : Entry) (v : Option Verdict) (ms : Members) → max_pairs < 2 ^ 32 → IsSound e → IfSome v FitsVerdict → AreWritable 2 ms
    → AreWritable 2 (outcome_members max_pairs e v ms)
outcome-writable max_pairs e None ms small sound fits all =
    refusal-writable (kind_name e.outcome) (cause_name e.outcome) e.fault ms (kind-utf8 e.outcome) (cause-text e.outcome sound.answer) sound.fault all
outcome-writable max_pairs e (Some v) ms small sound fits all = verdict-writable 2 max_pairs v ms small fits all

texts-writable : (u : Universe) (texts : List (List ℕ)) → IsWritable 1 (texts_data u texts)
texts-writable u [] = tt
texts-writable u (text ∷ texts) = (quoted_utf8 u text, texts-writable u texts)

family_data-writable : (u : Universe) (f : Family) → IsWritable 2 (family_data u f)
family_data-writable u f =
    put-named 1 (codes "pumps") (texts_data u f.pumps) (put (codes "heads") (texts_data u f.heads) no_members) refl (texts-writable u f.pumps)
    (put-named 1 (codes "heads") (texts_data u f.heads) no_members refl (texts-writable u f.heads) tt)

family-writable : (u : Universe) (v : Option Verdict) (ms : Members) → AreWritable 2 ms → AreWritable 2 (put_some (codes "family") (family_data u) (option_and_then family_of v) ms)
family-writable u None ms all = all
family-writable u (Some (Degree d family)) ms all = put-named 2 (codes "family") (family_data u family) ms refl (family_data-writable u family) all
family-writable u (Some (Expo family)) ms all = put-named 2 (codes "family") (family_data u family) ms refl (family_data-writable u family) all
family-writable u (Some (Undecided l)) ms all = all

marks_data-writable : (marks : List Mark) → All (λ m. FitsPlace m.at) marks → IsWritable 2 (marks_data marks)
marks_data-writable marks fits = items-writable 1 (λ (m : Mark). place_data m.at) (λ m. FitsPlace m.at) marks (λ m fits. place-writable 0 m.at no_members fits tt) fits

marks-writable : (e : Entry) (ms : Members) → IsSound e → AreWritable 2 ms → AreWritable 2 (marks_members e.marks ms)
marks-writable e ms sound all =
    let dropped = put (codes "dropped") (marks_data e.marks.dropped) ms in
    let merged = put (codes "merged") (marks_data e.marks.merged) dropped in
    put-named 2 (codes "passed") (marks_data e.marks.passed) merged refl (marks_data-writable e.marks.passed sound.passed)
    (put-named 2 (codes "merged") (marks_data e.marks.merged) dropped refl (marks_data-writable e.marks.merged sound.merged)
    (put-named 2 (codes "dropped") (marks_data e.marks.dropped) ms refl (marks_data-writable e.marks.dropped sound.dropped) all))

cond-writable : (n : ℕ) (b : Bool) (ms more : Members) → AreWritable n ms → AreWritable n more → AreWritable n (cond b ms more)
cond-writable n true ms more h k = h
cond-writable n false ms more h k = k

becomes-writable : (max_pairs report : ℕ) (v : Option Verdict) (ms : Members) → max_pairs < 2 ^ 32 → IfSome v FitsVerdict → AreWritable 2 ms → AreWritable 2 (becomes_members max_pairs report v ms)
becomes-writable max_pairs report None ms small fits all = all
becomes-writable max_pairs report (Some v) ms small fits all =
    cond-writable 2 (report == 2) (put (codes "becomes") (object (verdict_members max_pairs v no_members)) ms) ms
    (put-named 2 (codes "becomes") (object (verdict_members max_pairs v no_members)) ms refl (verdict-writable 1 max_pairs v no_members small fits tt) all) all

suggest-writable : (max_pairs report : ℕ) (u : Universe) (text : Option (List ℕ)) (v : Option Verdict) (ms : Members) → max_pairs < 2 ^ 32 → IfSome v FitsVerdict → AreWritable 2 ms
    → AreWritable 2 (suggest_members max_pairs report u text v ms)
suggest-writable max_pairs report u None v ms small fits all = all
suggest-writable max_pairs report u (Some text) v ms small fits all =
    becomes-writable max_pairs report v (put (codes "suggest") (string (quoted_text u text)) ms) small fits (put-named 2 (codes "suggest") (string (quoted_text u text)) ms refl (quoted_utf8 u text) all)

suggestion-writable : (max_pairs report : ℕ) (e : Entry) (s : Option Suggestion) (ms : Members) → max_pairs < 2 ^ 32 → IsSound e → AreWritable 2 ms
    → AreWritable 2 (suggestion_members max_pairs report e.universe e.marks s (becomes_of e.outcome) ms)
suggestion-writable max_pairs report e None ms small sound all = all
suggestion-writable max_pairs report e (Some s) ms small sound all =
    suggest-writable max_pairs report e.universe s.text (becomes_of e.outcome) (marks_members e.marks ms) small sound.becomes (marks-writable e ms sound all)

front-writable : (e : Entry) → IsSound e → AreWritable 2 (front_members e no_members)
front-writable e sound =
    let path = put (codes "path") (string e.path) no_members in
    call-writable 2 e.call (at_members e.at path) (at-writable 2 e.at path sound.at (put-named 2 (codes "path") (string e.path) no_members refl sound.path tt))

entry-writable : (max_pairs report : ℕ) → max_pairs < 2 ^ 32 → (e : Entry) → IsSound e → IsWritable 3 (entry_data max_pairs report e)
entry-writable max_pairs report small e sound =
    let told = outcome_members max_pairs e (verdict_of e.outcome) (front_members e no_members) in
    suggestion-writable max_pairs report e (suggestion_of e.outcome) (put_some (codes "family") (family_data e.universe) (option_and_then family_of (verdict_of e.outcome)) told) small sound
    (family-writable e.universe (verdict_of e.outcome) told
    (outcome-writable max_pairs e (verdict_of e.outcome) (front_members e no_members) small sound sound.verdict (front-writable e sound)))

version-fits : (report : ℕ) → (report ≡ 1) ⊎ (report ≡ 2) → report < 2 ^ 64
version-fits report (inl e) = omega arith
version-fits report (inr e) = omega arith

pub report-writable : (max_degree max_pairs report : ℕ) (entries : List Entry) → max_pairs < 2 ^ 32 → (report ≡ 1) ⊎ (report ≡ 2) → length entries < 2 ^ 64 → All IsSound entries
    → IsWritable 5 (report_data max_degree max_pairs report entries)
unfolding report_data
report-writable max_degree max_pairs report entries small version few sound =
    let shown = put (codes "entries") (array (items_of (map (entry_data max_pairs report) entries))) no_members in
    let found = put (codes "findings") (whole (count_by (is_finding max_degree) entries)) shown in
    let refused = put (codes "refused") (whole (count_by is_refused entries)) found in
    let passed = put (codes "undecided") (whole (count_by is_undecided entries)) refused in
    put-named 4 (codes "version") (whole report) passed refl (version-fits report version)
    (put-named 4 (codes "undecided") (whole (count_by is_undecided entries)) refused refl (omega (arith, count_by-le-length is_undecided entries))
    (put-named 4 (codes "refused") (whole (count_by is_refused entries)) found refl (omega (arith, count_by-le-length is_refused entries))
    (put-named 4 (codes "findings") (whole (count_by (is_finding max_degree) entries)) shown refl (omega (arith, count_by-le-length (is_finding max_degree) entries))
    (put-named 4 (codes "entries") (array (items_of (map (entry_data max_pairs report) entries))) no_members refl
    (items-writable 3 (entry_data max_pairs report) IsSound entries (entry-writable max_pairs report small) sound) tt))))
