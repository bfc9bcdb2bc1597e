-- A report in JSON has no float: each part adds members without a float to members without one.
use Rattle.std.proofs.Common.{◌≡◌, ℕ, Bool, true, false, cond, ◌||◌, List, refl, ap, sym, ◌∙◌, Ordering, Less, Equal, Greater, nat_cmp, codes, map, Option, Some, None, option_and_then}
use Rattle.std.specs.Prelude.{◌==◌}
use Rattle.std.specs.Cmp.Lexicographic.{slice_cmp}
use Rattle.std.specs.List.{count_by}
use Rattle.std.specs.Ordering.{match_ordering}
use Rattle.std.proofs.lemmas.Bool.{false≢true, or_from}
use Rattle.serde_json.specs.Data.{Data, Members, member, no_members, array, object, string, put}
use Rattle.serde_json.specs.View.{items_of}
use Rattle.serde_json.specs.Written.{has_float, members_have_float}
use Rattle.rl_json.proofs.NoFloats.{items-plain}
use Rattle.rl_ranges.specs.declared.universe.Universe.{Universe}
use Rattle.rl_sites.specs.declared.call.Call.{Call}
use Rattle.rl_sites.specs.Names.{call_word}
use Rattle.rl_syntax.specs.declared.verdict.Family.{Family}
use Rattle.rl_syntax.specs.declared.verdict.Suggestion.{Suggestion}
use Rattle.rl_syntax.specs.declared.verdict.Verdict.{Verdict}
use Rattle.rl_syntax.specs.declared.verdict.Verdict.TheVariants.{Degree, Expo, Undecided}
use Rattle.rl_report.specs.declared.places.Place.{Place}
use Rattle.rl_report.specs.declared.report.Entry.{Entry}
use Rattle.rl_report.specs.declared.report.Mark.{Mark}
use Rattle.rl_report.specs.declared.report.Marks.{Marks}
use Rattle.rl_report.specs.Names.{Text, cause_name, kind_name, limit_name, limit_number}
use Rattle.rl_report.specs.Findings.{verdict_of, suggestion_of, becomes_of, is_finding, is_refused, is_undecided}
use Rattle.rl_report.specs.Verdicts.{family_of, quoted_text}
use Rattle.rl_report.specs.Document.{whole, place_members, place_data, at_members, put_some, verdict_members, refusal_members, outcome_members, texts_data, family_data, marks_data, marks_members, becomes_members, suggest_members, suggestion_members, front_members, entry_data, report_data}

not-left : (b c : Bool) → (b || c) ≡ false → b ≡ false
not-left false c h = refl
not-left true c h = h

not-right : (b c : Bool) → (b || c) ≡ false → c ≡ false
not-right false c h = h
not-right true c h = absurd (false≢true (sym h))

by_order : (o : Ordering) (k l : List ℕ) (d e : Data) (ms more : Members) → has_float d ≡ false → has_float e ≡ false → members_have_float ms ≡ false → members_have_float more ≡ false
    → members_have_float (match_ordering o (member k d (member l e ms)) (member l d ms) (member l e more)) ≡ false
by_order Less k l d e ms more hd he hm hn = or_from _ _ hd (or_from _ _ he hm)
by_order Equal k l d e ms more hd he hm hn = or_from _ _ hd hm
by_order Greater k l d e ms more hd he hm hn = or_from _ _ he hn

put-plain : (k : List ℕ) (d : Data) (ms : Members) → has_float d ≡ false → members_have_float ms ≡ false → members_have_float (put k d ms) ≡ false
put-plain k d no_members hd hm = or_from _ _ hd refl
put-plain k d (member l e ms) hd hm =
    let he : has_float e ≡ false = not-left (has_float e) (members_have_float ms) hm in
    let hr : members_have_float ms ≡ false = not-right (has_float e) (members_have_float ms) hm in
    by_order (slice_cmp nat_cmp k l) k l d e ms (put k d ms) hd he hr (put-plain k d ms hd hr)

place-plain : (p : Place) (ms : Members) → members_have_float ms ≡ false → members_have_float (place_members p ms) ≡ false
place-plain p ms h =
    put-plain (codes "column") (whole p.column) (put (codes "line") (whole p.line) ms) refl (put-plain (codes "line") (whole p.line) ms refl h)

place_data-plain : (p : Place) → has_float (place_data p) ≡ false
place_data-plain p = place-plain p no_members refl

at-plain : (o : Option Place) (ms : Members) → members_have_float ms ≡ false → members_have_float (at_members o ms) ≡ false
at-plain None ms h = h
at-plain (Some p) ms h = place-plain p ms h

some-plain : {X : Type 0} (k : List ℕ) (f : X → Data) (o : Option X) (ms : Members) → ((x : X) → has_float (f x) ≡ false) → members_have_float ms ≡ false
    → members_have_float (put_some k f o ms) ≡ false
some-plain k f None ms each h = h
some-plain k f (Some x) ms each h = put-plain k (f x) ms (each x) h

kind-plain : (kind : Text) (ms : Members) → members_have_float ms ≡ false → members_have_float (put (codes "kind") (string kind) ms) ≡ false
kind-plain kind ms h = put-plain (codes "kind") (string kind) ms refl h

verdict-plain : (max_pairs : ℕ) (v : Verdict) (ms : Members) → members_have_float ms ≡ false → members_have_float (verdict_members max_pairs v ms) ≡ false
verdict-plain max_pairs (Degree d family) ms h = put-plain (codes "degree") (whole d) (put (codes "kind") (string (codes "degree")) ms) refl (kind-plain (codes "degree") ms h)
verdict-plain max_pairs (Expo family) ms h = kind-plain (codes "exponential") ms h
verdict-plain max_pairs (Undecided limit) ms h =
    let kind = put (codes "kind") (string (codes "undecided")) ms in
    let named = put (codes "limit") (string (limit_name limit)) kind in
    put-plain (codes "over") (whole (limit_number max_pairs limit)) named refl
    (put-plain (codes "limit") (string (limit_name limit)) kind refl (kind-plain (codes "undecided") ms h))

refusal-plain : (kind : Text) (cause : Option Text) (fault : Option Place) (ms : Members) → members_have_float ms ≡ false → members_have_float (refusal_members kind cause fault ms) ≡ false
refusal-plain kind None fault ms h = kind-plain kind ms h
refusal-plain kind (Some cause) fault ms h =
    let caused = put (codes "cause") (string cause) (put (codes "kind") (string kind) ms) in
    some-plain (codes "fault") place_data fault caused place_data-plain (put-plain (codes "cause") (string cause) (put (codes "kind") (string kind) ms) refl (kind-plain kind ms h))

outcome-plain : (max_pairs : ℕ) (e : Entry) (v : Option Verdict) (ms : Members) → members_have_float ms ≡ false → members_have_float (outcome_members max_pairs e v ms) ≡ false
outcome-plain max_pairs e None ms h = refusal-plain (kind_name e.outcome) (cause_name e.outcome) e.fault ms h
outcome-plain max_pairs e (Some v) ms h = verdict-plain max_pairs v ms h

texts-plain : (u : Universe) (texts : List (List ℕ)) → has_float (texts_data u texts) ≡ false
texts-plain u texts = items-plain (λ (text : List ℕ). string (quoted_text u text)) texts (λ text. refl)

family_data-plain : (u : Universe) (f : Family) → has_float (family_data u f) ≡ false
family_data-plain u f =
    let heads = put (codes "heads") (texts_data u f.heads) no_members in
    put-plain (codes "pumps") (texts_data u f.pumps) heads (texts-plain u f.pumps)
    (put-plain (codes "heads") (texts_data u f.heads) no_members (texts-plain u f.heads) refl)

marks_data-plain : (marks : List Mark) → has_float (marks_data marks) ≡ false
marks_data-plain marks = items-plain (λ (m : Mark). place_data m.at) marks (λ m. place_data-plain m.at)

marks-plain : (marks : Marks) (ms : Members) → members_have_float ms ≡ false → members_have_float (marks_members marks ms) ≡ false
marks-plain marks ms h =
    let dropped = put (codes "dropped") (marks_data marks.dropped) ms in
    let merged = put (codes "merged") (marks_data marks.merged) dropped in
    put-plain (codes "passed") (marks_data marks.passed) merged (marks_data-plain marks.passed)
    (put-plain (codes "merged") (marks_data marks.merged) dropped (marks_data-plain marks.merged)
    (put-plain (codes "dropped") (marks_data marks.dropped) ms (marks_data-plain marks.dropped) h))

cond-plain : (b : Bool) (ms more : Members) → members_have_float ms ≡ false → members_have_float more ≡ false → members_have_float (cond b ms more) ≡ false
cond-plain true ms more h k = h
cond-plain false ms more h k = k

becomes-plain : (max_pairs report : ℕ) (v : Option Verdict) (ms : Members) → members_have_float ms ≡ false → members_have_float (becomes_members max_pairs report v ms) ≡ false
becomes-plain max_pairs report None ms h = h
becomes-plain max_pairs report (Some v) ms h =
    cond-plain (report == 2) (put (codes "becomes") (object (verdict_members max_pairs v no_members)) ms) ms
    (put-plain (codes "becomes") (object (verdict_members max_pairs v no_members)) ms (verdict-plain max_pairs v no_members refl) h) h

suggest-plain : (max_pairs report : ℕ) (u : Universe) (text : Option (List ℕ)) (v : Option Verdict) (ms : Members) → members_have_float ms ≡ false
    → members_have_float (suggest_members max_pairs report u text v ms) ≡ false
suggest-plain max_pairs report u None v ms h = h
suggest-plain max_pairs report u (Some text) v ms h =
    becomes-plain max_pairs report v (put (codes "suggest") (string (quoted_text u text)) ms) (put-plain (codes "suggest") (string (quoted_text u text)) ms refl h)

suggestion-plain : (max_pairs report : ℕ) (u : Universe) (marks : Marks) (s : Option Suggestion) (v : Option Verdict) (ms : Members) → members_have_float ms ≡ false
    → members_have_float (suggestion_members max_pairs report u marks s v ms) ≡ false
suggestion-plain max_pairs report u marks None v ms h = h
suggestion-plain max_pairs report u marks (Some s) v ms h = suggest-plain max_pairs report u s.text v (marks_members marks ms) (marks-plain marks ms h)

front-plain : (e : Entry) (ms : Members) → members_have_float ms ≡ false → members_have_float (front_members e ms) ≡ false
front-plain e ms h =
    let path = put (codes "path") (string e.path) ms in
    some-plain (codes "call") (λ (c : Call). string (call_word c)) e.call (at_members e.at path) (λ c. refl) (at-plain e.at path (put-plain (codes "path") (string e.path) ms refl h))

entry-plain : (max_pairs report : ℕ) (e : Entry) → has_float (entry_data max_pairs report e) ≡ false
entry-plain max_pairs report e =
    let front = front_members e no_members in
    let judged = outcome_members max_pairs e (verdict_of e.outcome) front in
    let family = option_and_then family_of (verdict_of e.outcome) in
    suggestion-plain max_pairs report e.universe e.marks (suggestion_of e.outcome) (becomes_of e.outcome)
    (put_some (codes "family") (family_data e.universe) family judged)
    (some-plain (codes "family") (family_data e.universe) family judged (family_data-plain e.universe)
    (outcome-plain max_pairs e (verdict_of e.outcome) front (front-plain e no_members refl)))

report-plain : (max_degree max_pairs report : ℕ) (entries : List Entry) → has_float (report_data max_degree max_pairs report entries) ≡ false
unfolding report_data
report-plain max_degree max_pairs report entries =
    let shown = put (codes "entries") (array (items_of (map (entry_data max_pairs report) entries))) no_members in
    let found = put (codes "findings") (whole (count_by (is_finding max_degree) entries)) shown in
    let refused = put (codes "refused") (whole (count_by is_refused entries)) found in
    let passed = put (codes "undecided") (whole (count_by is_undecided entries)) refused in
    put-plain (codes "version") (whole report) passed refl
    (put-plain (codes "undecided") (whole (count_by is_undecided entries)) refused refl
    (put-plain (codes "refused") (whole (count_by is_refused entries)) found refl
    (put-plain (codes "findings") (whole (count_by (is_finding max_degree) entries)) shown refl
    (put-plain (codes "entries") (array (items_of (map (entry_data max_pairs report) entries))) no_members
    (items-plain (entry_data max_pairs report) entries (entry-plain max_pairs report)) refl))))

-- A report in JSON has no float.
pub plain_report : (d : Data) (max_degree max_pairs report : ℕ) (entries : List Entry) → d ≡ report_data max_degree max_pairs report entries → has_float d ≡ false
plain_report d max_degree max_pairs report entries e = ap has_float e ∙ report-plain max_degree max_pairs report entries
