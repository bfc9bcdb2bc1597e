-- The keys that are read from the entries of a report are the keys of those entries.
use Rattle.std.proofs.Common.{◌≡◌, ℕ, ◌<◌, ◌^◌, Bool, true, false, cond, nat_lt, List, [], ◌∷◌, map, Option, Some, None, option_map, option_and_then, All, IfSome, codes, refl, sym, ap, subst, ◌∙◌, arith}
use Rattle.std.specs.Prelude.{⊤}
use Rattle.std.specs.Str.{bytes_eq}
use Rattle.std.proofs.lemmas.Bool.{false≢true}
use Rattle.std.proofs.lemmas.Bool.Decides.{nat_tests}
use Rattle.std.proofs.lemmas.List.Elements.{All-head, All-tail}
use Rattle.std.proofs.lemmas.Slice.Eq.{bytes_eq-Decides}
use Rattle.serde_json.specs.Data.{Data, string, object, Members, no_members, put}
use Rattle.serde_json.specs.Find.{get_member, as_str, as_number, as_u64}
use Rattle.serde_json.specs.View.{items_of}
use Rattle.serde_json.proofs.Views.{get_member-put, get_member-put_other}
use Rattle.rl_ranges.specs.declared.universe.Universe.{Universe}
use Rattle.rl_sites.specs.declared.call.Call.{Call}
use Rattle.rl_sites.specs.Names.{call_word}
use Rattle.rl_syntax.specs.declared.verdict.Suggestion.{Suggestion}
use Rattle.rl_syntax.specs.declared.verdict.Verdict.{Verdict}
use Rattle.rl_syntax.specs.declared.verdict.Verdict.TheVariants.{Degree, Expo, Undecided}
use Rattle.rl_report.specs.declared.places.Place.{Place}
use Rattle.rl_report.specs.declared.report.Entry.{Entry}
use Rattle.rl_report.specs.declared.report.Marks.{Marks}
use Rattle.rl_report.specs.declared.report.Outcome.{Outcome}
use Rattle.rl_report.specs.declared.report.Outcome.TheVariants as outcome
use Rattle.rl_report.specs.Document.{whole, place_data, at_members, put_some, verdict_members, refusal_members, outcome_members, family_data, marks_data, marks_members, becomes_members, suggest_members, suggestion_members, front_members, judged_members, entry_data}
use Rattle.rl_report.specs.Verdicts.{family_of, quoted_text}
use Rattle.rl_report.specs.Findings.{verdict_of, suggestion_of, becomes_of}
use Rattle.rl_report.specs.Names.{Text, cause_name, kind_name, limit_name, limit_number, verdict_kind}
use Rattle.rl_sarif.specs.Baseline.{call_found, cause_names, fitting, key_read, keys_read, kind_names, limit_names, name_at, one_of, plain, subject_of_kind, subject_read, text_at}
use Rattle.rl_sarif.specs.Keys.{Subject, degree_of, key_of, limit_of, subject_of}
use Rattle.rl_sarif.specs.Laws.{FitsVerdict, IsAnswer, IsSound}
use Rattle.rl_sarif.proofs.NamesKnown.{call-known, limit-known, kind-known, lexing-known, literal-known, pattern-known}

-- ---- members at other keys

skip : (q k : List ℕ) (d : Data) (ms : Members) → bytes_eq q k ≡ false → get_member q (put k d ms) ≡ get_member q ms
skip q k d ms other = get_member-put_other q k d ms (λ same. false≢true (sym other ∙ (bytes_eq-Decides q k).1 same))

record IsOutside (q : List ℕ) : Type 0 where
  family : bytes_eq q (codes "family") ≡ false
  dropped : bytes_eq q (codes "dropped") ≡ false
  merged : bytes_eq q (codes "merged") ≡ false
  passed : bytes_eq q (codes "passed") ≡ false
  suggest : bytes_eq q (codes "suggest") ≡ false
  becomes : bytes_eq q (codes "becomes") ≡ false

some-other : {X : Type 0} (q k : List ℕ) (f : X → Data) (o : Option X) (ms : Members) → bytes_eq q k ≡ false → get_member q (put_some k f o ms) ≡ get_member q ms
some-other q k f None ms other = refl
some-other q k f (Some x) ms other = skip q k (f x) ms other

cond-other : (q : List ℕ) (b : Bool) (k : List ℕ) (d : Data) (ms : Members) → bytes_eq q k ≡ false → get_member q (cond b (put k d ms) ms) ≡ get_member q ms
cond-other q true k d ms other = skip q k d ms other
cond-other q false k d ms other = refl

becomes-other : (q : List ℕ) → IsOutside q → (max_pairs report : ℕ) (v : Option Verdict) (ms : Members) → get_member q (becomes_members max_pairs report v ms) ≡ get_member q ms
becomes-other q o max_pairs report None ms = refl
becomes-other q o max_pairs report (Some v) ms = cond-other q _ (codes "becomes") (object (verdict_members max_pairs v no_members)) ms o.becomes

marks-other : (q : List ℕ) → IsOutside q → (marks : Marks) (ms : Members) → get_member q (marks_members marks ms) ≡ get_member q ms
marks-other q o marks ms =
    let dropped = put (codes "dropped") (marks_data marks.dropped) ms in
    let merged = put (codes "merged") (marks_data marks.merged) dropped in
    skip q (codes "passed") (marks_data marks.passed) merged o.passed
    ∙ skip q (codes "merged") (marks_data marks.merged) dropped o.merged ∙ skip q (codes "dropped") (marks_data marks.dropped) ms o.dropped

suggest-other : (q : List ℕ) → IsOutside q → (max_pairs report : ℕ) (u : Universe) (text : Option (List ℕ)) (v : Option Verdict) (ms : Members)
    → get_member q (suggest_members max_pairs report u text v ms) ≡ get_member q ms
suggest-other q o max_pairs report u None v ms = refl
suggest-other q o max_pairs report u (Some text) v ms =
    becomes-other q o max_pairs report v (put (codes "suggest") (string (quoted_text u text)) ms) ∙ skip q (codes "suggest") (string (quoted_text u text)) ms o.suggest

suggestion-other : (q : List ℕ) → IsOutside q → (max_pairs report : ℕ) (u : Universe) (marks : Marks) (s : Option Suggestion) (v : Option Verdict) (ms : Members)
    → get_member q (suggestion_members max_pairs report u marks s v ms) ≡ get_member q ms
suggestion-other q o max_pairs report u marks None v ms = refl
suggestion-other q o max_pairs report u marks (Some s) v ms = suggest-other q o max_pairs report u s.text v (marks_members marks ms) ∙ marks-other q o marks ms

judged-other : (q : List ℕ) → IsOutside q → (max_pairs report : ℕ) (e : Entry) (ms : Members) → get_member q (judged_members max_pairs report e ms) ≡ get_member q ms
judged-other q o max_pairs report e ms =
    suggestion-other q o max_pairs report e.universe e.marks (suggestion_of e.outcome) (becomes_of e.outcome)
    (put_some (codes "family") (family_data e.universe) (option_and_then family_of (verdict_of e.outcome)) ms)
    ∙ some-other q (codes "family") (family_data e.universe) (option_and_then family_of (verdict_of e.outcome)) ms o.family

-- The key is neither the kind nor one of the keys that come with a kind.
record IsBeside (q : List ℕ) : Type 0 where
  kind : bytes_eq q (codes "kind") ≡ false
  degree : bytes_eq q (codes "degree") ≡ false
  limit : bytes_eq q (codes "limit") ≡ false
  over : bytes_eq q (codes "over") ≡ false
  cause : bytes_eq q (codes "cause") ≡ false
  fault : bytes_eq q (codes "fault") ≡ false

kind-other : (q : List ℕ) → IsBeside q → (kind : Text) (ms : Members) → get_member q (put (codes "kind") (string kind) ms) ≡ get_member q ms
kind-other q b kind ms = skip q (codes "kind") (string kind) ms b.kind

fault-other : (q : List ℕ) (fault : Option Place) (ms : Members) → bytes_eq q (codes "fault") ≡ false → get_member q (put_some (codes "fault") place_data fault ms) ≡ get_member q ms
fault-other q fault ms other = some-other q (codes "fault") place_data fault ms other

outcome-other : (q : List ℕ) → IsBeside q → (max_pairs : ℕ) (e : Entry) (v : Option Verdict) (ms : Members) → get_member q (outcome_members max_pairs e v ms) ≡ get_member q ms
outcome-other q b max_pairs e None ms = by (cause_name e.outcome)
  where
    by : (cause : Option Text) → get_member q (refusal_members (kind_name e.outcome) cause e.fault ms) ≡ get_member q ms
    by None = kind-other q b (kind_name e.outcome) ms
    by (Some cause) =
        let kind = put (codes "kind") (string (kind_name e.outcome)) ms in
        fault-other q e.fault (put (codes "cause") (string cause) kind) b.fault
        ∙ skip q (codes "cause") (string cause) kind b.cause ∙ kind-other q b (kind_name e.outcome) ms
outcome-other q b max_pairs e (Some (Degree d family)) ms =
    skip q (codes "degree") (whole d) (put (codes "kind") (string (codes "degree")) ms) b.degree ∙ kind-other q b (codes "degree") ms
outcome-other q b max_pairs e (Some (Expo family)) ms = kind-other q b (codes "exponential") ms
outcome-other q b max_pairs e (Some (Undecided limit)) ms =
    let kind = put (codes "kind") (string (codes "undecided")) ms in
    skip q (codes "over") (whole (limit_number max_pairs limit)) (put (codes "limit") (string (limit_name limit)) kind) b.over
    ∙ skip q (codes "limit") (string (limit_name limit)) kind b.limit ∙ kind-other q b (codes "undecided") ms

-- ---- the values at the keys of an entry

outside-path : IsOutside (codes "path")
outside-path = record { family = refl; dropped = refl; merged = refl; passed = refl; suggest = refl; becomes = refl }

outside-call : IsOutside (codes "call")
outside-call = record { family = refl; dropped = refl; merged = refl; passed = refl; suggest = refl; becomes = refl }

outside-kind : IsOutside (codes "kind")
outside-kind = record { family = refl; dropped = refl; merged = refl; passed = refl; suggest = refl; becomes = refl }

outside-degree : IsOutside (codes "degree")
outside-degree = record { family = refl; dropped = refl; merged = refl; passed = refl; suggest = refl; becomes = refl }

outside-limit : IsOutside (codes "limit")
outside-limit = record { family = refl; dropped = refl; merged = refl; passed = refl; suggest = refl; becomes = refl }

outside-cause : IsOutside (codes "cause")
outside-cause = record { family = refl; dropped = refl; merged = refl; passed = refl; suggest = refl; becomes = refl }

beside-path : IsBeside (codes "path")
beside-path = record { kind = refl; degree = refl; limit = refl; over = refl; cause = refl; fault = refl }

beside-call : IsBeside (codes "call")
beside-call = record { kind = refl; degree = refl; limit = refl; over = refl; cause = refl; fault = refl }

at-other : (q : List ℕ) (at : Option Place) (ms : Members) → bytes_eq q (codes "line") ≡ false → bytes_eq q (codes "column") ≡ false → get_member q (at_members at ms) ≡ get_member q ms
at-other q None ms l c = refl
at-other q (Some p) ms l c = skip q (codes "column") (whole p.column) (put (codes "line") (whole p.line) ms) c ∙ skip q (codes "line") (whole p.line) ms l

front-path : (e : Entry) → get_member (codes "path") (front_members e no_members) ≡ Some (string e.path)
front-path e = by e.call
  where
    by : (c : Option Call) → get_member (codes "path") (put_some (codes "call") (λ (c : Call). string (call_word c)) c (at_members e.at (put (codes "path") (string e.path) no_members))) ≡ Some (string e.path)
    by None = at-other (codes "path") e.at (put (codes "path") (string e.path) no_members) refl refl
    by (Some c) =
        skip (codes "path") (codes "call") (string (call_word c)) (at_members e.at (put (codes "path") (string e.path) no_members)) refl
        ∙ at-other (codes "path") e.at (put (codes "path") (string e.path) no_members) refl refl

front-call : (e : Entry) → get_member (codes "call") (front_members e no_members) ≡ option_map (λ c. string (call_word c)) e.call
front-call e = by e.call
  where
    by : (c : Option Call) → get_member (codes "call") (put_some (codes "call") (λ (c : Call). string (call_word c)) c (at_members e.at (put (codes "path") (string e.path) no_members))) ≡ option_map (λ (c : Call). string (call_word c)) c
    by None = at-other (codes "call") e.at (put (codes "path") (string e.path) no_members) refl refl
    by (Some c) = get_member-put (codes "call") (string (call_word c)) (at_members e.at (put (codes "path") (string e.path) no_members))

-- ---- the members that an outcome adds

refusal-kind : (kind : Text) (cause : Option Text) (fault : Option Place) (ms : Members) → get_member (codes "kind") (refusal_members kind cause fault ms) ≡ Some (string kind)
refusal-kind kind None fault ms = get_member-put (codes "kind") (string kind) ms
refusal-kind kind (Some cause) fault ms =
    fault-other (codes "kind") fault (put (codes "cause") (string cause) (put (codes "kind") (string kind) ms)) refl
    ∙ skip (codes "kind") (codes "cause") (string cause) (put (codes "kind") (string kind) ms) refl ∙ get_member-put (codes "kind") (string kind) ms

verdict-kind : (max_pairs : ℕ) (v : Verdict) (ms : Members) → get_member (codes "kind") (verdict_members max_pairs v ms) ≡ Some (string (verdict_kind v))
verdict-kind max_pairs (Degree d family) ms =
    skip (codes "kind") (codes "degree") (whole d) (put (codes "kind") (string (codes "degree")) ms) refl ∙ get_member-put (codes "kind") (string (codes "degree")) ms
verdict-kind max_pairs (Expo family) ms = get_member-put (codes "kind") (string (codes "exponential")) ms
verdict-kind max_pairs (Undecided limit) ms =
    let kind = put (codes "kind") (string (codes "undecided")) ms in
    skip (codes "kind") (codes "over") (whole (limit_number max_pairs limit)) (put (codes "limit") (string (limit_name limit)) kind) refl
    ∙ skip (codes "kind") (codes "limit") (string (limit_name limit)) kind refl ∙ get_member-put (codes "kind") (string (codes "undecided")) ms

verdict-kind-name : (o : Outcome) (v : Verdict) → verdict_of o ≡ Some v → verdict_kind v ≡ kind_name o
verdict-kind-name outcome.Unreadable v h = cc
verdict-kind-name outcome.TooDeepFolder v h = cc
verdict-kind-name outcome.NotPlain v h = cc
verdict-kind-name (outcome.Source e) v h = cc
verdict-kind-name outcome.NotWhole v h = cc
verdict-kind-name (outcome.Literal e) v h = cc
verdict-kind-name outcome.FlagsUnknown v h = cc
verdict-kind-name (outcome.Pattern e) v h = cc
verdict-kind-name (outcome.Judged w suggestion becomes) v h = let same : v ≡ w = cc in ap verdict_kind same

verdict-no-cause : (o : Outcome) (v : Verdict) → verdict_of o ≡ Some v → cause_name o ≡ None
verdict-no-cause outcome.Unreadable v h = refl
verdict-no-cause outcome.TooDeepFolder v h = refl
verdict-no-cause outcome.NotPlain v h = refl
verdict-no-cause (outcome.Source e) v h = cc
verdict-no-cause outcome.NotWhole v h = cc
verdict-no-cause (outcome.Literal e) v h = cc
verdict-no-cause outcome.FlagsUnknown v h = cc
verdict-no-cause (outcome.Pattern e) v h = cc
verdict-no-cause (outcome.Judged w suggestion becomes) v h = refl

outcome-kind : (max_pairs : ℕ) (e : Entry) (v : Option Verdict) (ms : Members) → verdict_of e.outcome ≡ v
    → get_member (codes "kind") (outcome_members max_pairs e v ms) ≡ Some (string (kind_name e.outcome))
outcome-kind max_pairs e None ms h = refusal-kind (kind_name e.outcome) (cause_name e.outcome) e.fault ms
outcome-kind max_pairs e (Some v) ms h = verdict-kind max_pairs v ms ∙ ap (λ k. Some (string k)) (verdict-kind-name e.outcome v h)

-- The degree or the limit of a verdict is among the members.
abbrev VerdictStands : Members → Option Verdict → Type 0
VerdictStands ms None = ⊤
VerdictStands ms (Some (Degree d family)) = get_member (codes "degree") ms ≡ Some (whole d)
VerdictStands ms (Some (Expo family)) = ⊤
VerdictStands ms (Some (Undecided limit)) = get_member (codes "limit") ms ≡ Some (string (limit_name limit))

-- The cause is among the members.
abbrev CauseStands : Members → Option Text → Type 0
CauseStands ms None = ⊤
CauseStands ms (Some cause) = get_member (codes "cause") ms ≡ Some (string cause)

verdict-stands : (max_pairs report : ℕ) (e : Entry) (v : Option Verdict) (ms : Members) → VerdictStands (judged_members max_pairs report e (outcome_members max_pairs e v ms)) v
verdict-stands max_pairs report e None ms = tt
verdict-stands max_pairs report e (Some (Degree d family)) ms =
    judged-other (codes "degree") outside-degree max_pairs report e (outcome_members max_pairs e (Some (Degree d family)) ms)
    ∙ get_member-put (codes "degree") (whole d) (put (codes "kind") (string (codes "degree")) ms)
verdict-stands max_pairs report e (Some (Expo family)) ms = tt
verdict-stands max_pairs report e (Some (Undecided limit)) ms =
    let kind = put (codes "kind") (string (codes "undecided")) ms in
    judged-other (codes "limit") outside-limit max_pairs report e (outcome_members max_pairs e (Some (Undecided limit)) ms)
    ∙ skip (codes "limit") (codes "over") (whole (limit_number max_pairs limit)) (put (codes "limit") (string (limit_name limit)) kind) refl
    ∙ get_member-put (codes "limit") (string (limit_name limit)) kind

refusal-stands : (max_pairs report : ℕ) (e : Entry) (kind : Text) (cause : Option Text) (fault : Option Place) (ms : Members)
    → CauseStands (judged_members max_pairs report e (refusal_members kind cause fault ms)) cause
refusal-stands max_pairs report e kind None fault ms = tt
refusal-stands max_pairs report e kind (Some cause) fault ms =
    judged-other (codes "cause") outside-cause max_pairs report e (refusal_members kind (Some cause) fault ms)
    ∙ fault-other (codes "cause") fault (put (codes "cause") (string cause) (put (codes "kind") (string kind) ms)) refl
    ∙ get_member-put (codes "cause") (string cause) (put (codes "kind") (string kind) ms)

cause-stands : (max_pairs report : ℕ) (e : Entry) (v : Option Verdict) (ms : Members) → verdict_of e.outcome ≡ v
    → CauseStands (judged_members max_pairs report e (outcome_members max_pairs e v ms)) (cause_name e.outcome)
cause-stands max_pairs report e None ms h = refusal-stands max_pairs report e (kind_name e.outcome) (cause_name e.outcome) e.fault ms
cause-stands max_pairs report e (Some v) ms h =
    subst (CauseStands (judged_members max_pairs report e (outcome_members max_pairs e (Some v) ms))) (sym (verdict-no-cause e.outcome v h)) tt

-- ---- what is read back

cause-read : (call : Option Text) (ms : Members) (cause : Text) → get_member (codes "cause") ms ≡ Some (string cause) → one_of cause_names cause ≡ Some cause
    → subject_of_kind call (codes "refused") (object ms) ≡ Some (record (plain call (codes "refused")) { cause = Some cause })
cause-read call ms cause stands known =
    ap (λ g. option_map (λ name. record (plain call (codes "refused")) { cause = Some name }) (option_and_then (one_of cause_names) (option_and_then as_str g))) stands
    ∙ ap (option_map (λ name. record (plain call (codes "refused")) { cause = Some name })) known

limit-read : (call : Option Text) (ms : Members) (limit : Text) → get_member (codes "limit") ms ≡ Some (string limit) → one_of limit_names limit ≡ Some limit
    → subject_of_kind call (codes "undecided") (object ms) ≡ Some (record (plain call (codes "undecided")) { limit = Some limit })
limit-read call ms limit stands known =
    ap (λ g. option_map (λ name. record (plain call (codes "undecided")) { limit = Some name }) (option_and_then (one_of limit_names) (option_and_then as_str g))) stands
    ∙ ap (option_map (λ name. record (plain call (codes "undecided")) { limit = Some name })) known

fits : (d : ℕ) → d < 2 ^ 32 → fitting d ≡ Some d
fits d h = let small : nat_lt d (2 ^ 32) ≡ true = grind (arith, nat_tests) in rw small

degree-read : (call : Option Text) (ms : Members) (d : ℕ) → get_member (codes "degree") ms ≡ Some (whole d) → d < 2 ^ 32
    → subject_of_kind call (codes "degree") (object ms) ≡ Some (record (plain call (codes "degree")) { degree = Some d })
degree-read call ms d stands small =
    ap (λ g. option_map (λ n. record (plain call (codes "degree")) { degree = Some n }) (option_and_then fitting (option_and_then as_u64 (option_and_then as_number g)))) stands
    ∙ ap (option_map (λ n. record (plain call (codes "degree")) { degree = Some n })) (fits d small)

abbrev told : Option Text → Outcome → Subject
told call o = record {
  call = call;
  kind = kind_name o;
  degree = option_and_then degree_of (verdict_of o);
  limit = option_and_then limit_of (verdict_of o);
  cause = cause_name o;
}

kind-read : (o : Outcome) (call : Option Text) (ms : Members) → VerdictStands ms (verdict_of o) → CauseStands ms (cause_name o) → IfSome (verdict_of o) FitsVerdict → IsAnswer o
    → subject_of_kind call (kind_name o) (object ms) ≡ Some (told call o)
kind-read outcome.Unreadable call ms v c fits answer = refl
kind-read outcome.TooDeepFolder call ms v c fits answer = refl
kind-read outcome.NotPlain call ms v c fits answer = refl
kind-read (outcome.Source e) call ms v c fits answer = cause-read call ms _ c (lexing-known e answer)
kind-read outcome.NotWhole call ms v c fits answer = cause-read call ms (codes "not-whole") c refl
kind-read (outcome.Literal e) call ms v c fits answer = cause-read call ms _ c (literal-known e answer)
kind-read outcome.FlagsUnknown call ms v c fits answer = cause-read call ms (codes "flags-unknown") c refl
kind-read (outcome.Pattern e) call ms v c fits answer = cause-read call ms _ c (pattern-known e answer)
kind-read (outcome.Judged (Degree d family) suggestion becomes) call ms v c fits answer = degree-read call ms d v fits
kind-read (outcome.Judged (Expo family) suggestion becomes) call ms v c fits answer = refl
kind-read (outcome.Judged (Undecided limit) suggestion becomes) call ms v c fits answer = limit-read call ms (limit_name limit) v (limit-known limit)

call-read : (c : Option Call) → call_found (option_map (λ (c : Call). string (call_word c)) c) ≡ Some (option_map call_word c)
call-read None = refl
call-read (Some c) = ap (option_map Some) (call-known c)

module _ (max_pairs report : ℕ) (e : Entry) where
  abbrev members : Members
  members = judged_members max_pairs report e (outcome_members max_pairs e (verdict_of e.outcome) (front_members e no_members))

  subject-back : IfSome (verdict_of e.outcome) FitsVerdict → IsAnswer e.outcome → subject_read (object members) ≡ Some (subject_of e)
  subject-back fits answer =
      let outcomes = outcome_members max_pairs e (verdict_of e.outcome) (front_members e no_members) in
      let call : get_member (codes "call") members ≡ option_map (λ (c : Call). string (call_word c)) e.call =
      judged-other (codes "call") outside-call max_pairs report e outcomes
      ∙ outcome-other (codes "call") beside-call max_pairs e (verdict_of e.outcome) (front_members e no_members) ∙ front-call e in
      let kind : get_member (codes "kind") members ≡ Some (string (kind_name e.outcome)) =
      judged-other (codes "kind") outside-kind max_pairs report e outcomes
      ∙ outcome-kind max_pairs e (verdict_of e.outcome) (front_members e no_members) refl in
      let named : name_at kind_names (codes "kind") (object members) ≡ Some (kind_name e.outcome) =
      ap (λ g. option_and_then (one_of kind_names) (option_and_then as_str g)) kind ∙ kind-known e.outcome in
      ap (λ found. option_and_then (λ call. option_and_then (λ kind. subject_of_kind call kind (object members)) (name_at kind_names (codes "kind") (object members))) found)
      (ap call_found call ∙ call-read e.call)
      ∙ ap (option_and_then (λ kind. subject_of_kind (option_map call_word e.call) kind (object members))) named
      ∙ kind-read e.outcome (option_map call_word e.call) members
      (verdict-stands max_pairs report e (verdict_of e.outcome) (front_members e no_members))
      (cause-stands max_pairs report e (verdict_of e.outcome) (front_members e no_members) refl) fits answer

  pub key-back : IsSound e → key_read (entry_data max_pairs report e) ≡ Some (key_of e)
  key-back sound =
      let outcomes = outcome_members max_pairs e (verdict_of e.outcome) (front_members e no_members) in
      let path : get_member (codes "path") members ≡ Some (string e.path) =
      judged-other (codes "path") outside-path max_pairs report e outcomes
      ∙ outcome-other (codes "path") beside-path max_pairs e (verdict_of e.outcome) (front_members e no_members) ∙ front-path e in
      ap (option_and_then (λ subject. option_map (λ path. record { path = path; subject = subject }) (text_at (codes "path") (object members))))
      (subject-back sound.verdict sound.answer)
      ∙ ap (λ g. option_map (λ path. record { path = path; subject = subject_of e }) (option_and_then as_str g)) path

pub keys-back : (max_pairs report : ℕ) (entries : List Entry) → All IsSound entries → keys_read (items_of (map (entry_data max_pairs report) entries)) ≡ Some (map key_of entries)
keys-back max_pairs report [] sound = refl
keys-back max_pairs report (e ∷ entries) sound =
    ap (option_and_then (λ key. option_map (λ keys. key ∷ keys) (keys_read (items_of (map (entry_data max_pairs report) entries)))))
    (key-back max_pairs report e (All-head IsSound e entries sound))
    ∙ ap (option_map (λ keys. key_of e ∷ keys)) (keys-back max_pairs report entries (All-tail IsSound e entries sound))
