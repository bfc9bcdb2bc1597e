-- An answer has no float: each part adds members without a float to members without one.
use Rattle.std.proofs.Common.{◌≡◌, ◌∙◌, ℕ, Bool, true, false, ◌||◌, List, [], ◌∷◌, refl, ap, sym, Ordering, Less, Equal, Greater, nat_cmp, codes, map, Option, Some, None}
use Rattle.std.specs.Cmp.Lexicographic.{slice_cmp}
use Rattle.std.specs.Ordering.{match_ordering}
use Rattle.std.proofs.lemmas.Bool.{false≢true, or_from}
use Rattle.serde_json.specs.Data.{Data, Members, member, no_members, array, boolean, number, unsigned, object, string, put}
use Rattle.serde_json.specs.View.{items_of}
use Rattle.serde_json.specs.Written.{has_float, members_have_float}
use Rattle.rl_json.proofs.NoFloats.{items-plain}
use Rattle.rl_ranges.specs.declared.universe.Universe.{Universe}
use Rattle.rl_syntax.specs.declared.span.Span.{Span}
use Rattle.rl_syntax.specs.declared.verdict.Family.{Family}
use Rattle.rl_syntax.specs.declared.verdict.Verdict.{Verdict}
use Rattle.rl_syntax.specs.declared.verdict.Verdict.TheVariants as verdict
use Rattle.rl_reach.specs.declared.bounds.AtLeast.{AtLeast}
use Rattle.rl_report.specs.Document.{family_data, put_some, texts_data, verdict_members, whole}
use Rattle.rl_report.specs.Verdicts.{family_of, quoted_text}
use Rattle.rl_spans.specs.declared.finding.Sight.{Sight}
use Rattle.rl_explained.specs.Replies.{pumps_of}
use Rattle.rl_explained.proofs.Plain.{reading-plain}
use Rattle.rl_asked.specs.Words.{Text}
use Rattle.rl_ask.specs.Comparisons.{relation_name}
use Rattle.rl_ask.specs.Document.{answer_members, beyond_members, compared_members, entry_members, error_place, fault_cause, fault_place, groups_data, least_data, match_data, most_data, named, number_data, quoted_data, refusal_members, shown_members, sight_data, span_data, spans_data, suggestion_members, value_data, which_members}
use Rattle.rl_ask.specs.declared.answer.Answer.{Answer}
use Rattle.rl_ask.specs.declared.answer.Answer.TheVariants as answer
use Rattle.rl_ask.specs.declared.answer.Fault.{Fault}
use Rattle.rl_ask.specs.declared.answer.Which.{Which}
use Rattle.rl_ask.specs.declared.beyond.Beyond.{Beyond}
use Rattle.rl_ask.specs.declared.answer.Which.TheVariants as which

not-left : (b c : Bool) → (b || c) ≡ false → b ≡ false
not-left false c h = refl
not-left true c h = h

not-right : (b c : Bool) → (b || c) ≡ false → c ≡ false
not-right false c h = h
not-right true c h = absurd (false≢true (sym h))

by_order : (o : Ordering) (k l : List ℕ) (d e : Data) (ms more : Members) → has_float d ≡ false → has_float e ≡ false → members_have_float ms ≡ false → members_have_float more ≡ false
    → members_have_float (match_ordering o (member k d (member l e ms)) (member l d ms) (member l e more)) ≡ false
by_order Less k l d e ms more hd he hm hn = or_from _ _ hd (or_from _ _ he hm)
by_order Equal k l d e ms more hd he hm hn = or_from _ _ hd hm
by_order Greater k l d e ms more hd he hm hn = or_from _ _ he hn

put-plain : (k : List ℕ) (d : Data) (ms : Members) → has_float d ≡ false → members_have_float ms ≡ false → members_have_float (put k d ms) ≡ false
put-plain k d no_members hd hm = or_from _ _ hd refl
put-plain k d (member l e ms) hd hm =
    let he : has_float e ≡ false = not-left (has_float e) (members_have_float ms) hm in
    let hr : members_have_float ms ≡ false = not-right (has_float e) (members_have_float ms) hm in
    by_order (slice_cmp nat_cmp k l) k l d e ms (put k d ms) hd he hr (put-plain k d ms hd hr)

some-plain : {X : Type 0} (k : List ℕ) (f : X → Data) (o : Option X) (ms : Members) → ((x : X) → has_float (f x) ≡ false) → members_have_float ms ≡ false
    → members_have_float (put_some k f o ms) ≡ false
some-plain k f None ms each h = h
some-plain k f (Some x) ms each h = put-plain k (f x) ms (each x) h

texts-plain : (u : Universe) (texts : List (List ℕ)) → has_float (texts_data u texts) ≡ false
texts-plain u texts = items-plain (λ (text : List ℕ). string (quoted_text u text)) texts (λ text. refl)

family-plain : (u : Universe) (f : Family) → has_float (family_data u f) ≡ false
family-plain u f =
    let heads = put (codes "heads") (texts_data u f.heads) no_members in
    put-plain (codes "pumps") (texts_data u f.pumps) heads (texts-plain u f.pumps)
    (put-plain (codes "heads") (texts_data u f.heads) no_members (texts-plain u f.heads) refl)

bound-plain : (kind : Text) (u : Universe) (f : Family) (ms : Members) → members_have_float ms ≡ false → members_have_float (shown_members kind u f ms) ≡ false
bound-plain kind u f ms h =
    let kinds = put (codes "kind") (string kind) ms in
    let families = put (codes "family") (family_data u f) kinds in
    put-plain (codes "law") (string (codes "search-costs-its-match")) families refl
    (put-plain (codes "family") (family_data u f) kinds (family-plain u f) (put-plain (codes "kind") (string kind) ms refl h))

least-plain : (u : Universe) (l : AtLeast) → has_float (least_data u l) ≡ false
least-plain u (AtLeast.Degree d f) = bound-plain (codes "degree") u f (put (codes "degree") (whole d) no_members) refl
least-plain u (AtLeast.Expo f) = bound-plain (codes "exponential") u f no_members refl

verdict-plain : (name : Text) (pairs : ℕ) (v : Verdict) → members_have_float (verdict_members pairs v (named name)) ≡ false
verdict-plain name pairs (verdict.Degree d family) = refl
verdict-plain name pairs (verdict.Expo family) = refl
verdict-plain name pairs (verdict.Undecided limit) = refl

entry-plain : (name : Text) (u : Universe) (pairs : ℕ) (v : Verdict) → members_have_float (entry_members name u pairs v) ≡ false
entry-plain name u pairs v =
    some-plain (codes "family") (family_data u) (family_of v) (verdict_members pairs v (named name)) (family-plain u) (verdict-plain name pairs v)

refusal-plain : (w : Which) (f : Fault) (place : Option ℕ)
    → members_have_float (which_members w (put_some (codes "at") whole place (put (codes "cause") (string (fault_cause f)) (named (codes "refused"))))) ≡ false
refusal-plain which.Only f None = refl
refusal-plain which.Only f (Some n) = refl
refusal-plain which.First f None = refl
refusal-plain which.First f (Some n) = refl
refusal-plain which.Second f None = refl
refusal-plain which.Second f (Some n) = refl

spans-plain : (spans : List Span) → has_float (spans_data spans) ≡ false
spans-plain spans = items-plain (λ (s : Span). span_data s.from s.upto) spans (λ s. refl)

value-plain : (o : Option (ℕ × ℕ)) → has_float (value_data o) ≡ false
value-plain None = refl
value-plain (Some s) = refl

number-plain : (o : Option ℕ) → has_float (number_data o) ≡ false
number-plain None = refl
number-plain (Some n) = refl

groups-plain : (groups : List (Option (ℕ × ℕ))) → has_float (groups_data groups) ≡ false
groups-plain groups = items-plain value_data groups value-plain

sight-plain : (o : Option Sight) → has_float (sight_data o) ≡ false
sight-plain None = refl
sight-plain (Some s) =
    let ends = put (codes "end") (whole s.end) (put (codes "start") (whole s.start) no_members) in
    let groups = put (codes "groups") (groups_data s.groups) ends in
    put-plain (codes "last") (number_data s.last) groups (number-plain s.last) (put-plain (codes "groups") (groups_data s.groups) ends (groups-plain s.groups) refl)

pub answer-plain : (universe : Universe) (most : ℕ) (found : Answer) → has_float (object (answer_members universe most found)) ≡ false
answer-plain universe most (answer.Refused w f) = refusal-plain w f (fault_place f)
answer-plain universe most (answer.Undecided limit) = refl
answer-plain universe most (answer.Class v b) =
    let entry = entry_members (codes "class") universe most v in
    let least = put_some (codes "at-least") (least_data universe) b.at_least entry in
    some-plain (codes "at-most") most_data b.at_most least (λ d. refl)
    (some-plain (codes "at-least") (least_data universe) b.at_least entry (least-plain universe) (entry-plain (codes "class") universe most v))
answer-plain universe most (answer.Ways e) =
    reading-plain universe (pumps_of e.verdict) e.reading (entry_members (codes "ways") universe most e.verdict) (entry-plain (codes "ways") universe most e.verdict)
answer-plain universe most (answer.Tree reply) = refl
answer-plain universe most (answer.Compared c) =
    let told = put (codes "more") (boolean c.more) (put (codes "relation") (string (relation_name most c)) (named (codes "compare"))) in
    let first = put_some (codes "first") (quoted_data universe) c.first told in
    let second = put_some (codes "second") (quoted_data universe) c.second first in
    some-plain (codes "both") (quoted_data universe) c.both second (λ t. refl)
    (some-plain (codes "second") (quoted_data universe) c.second first (λ t. refl)
    (some-plain (codes "first") (quoted_data universe) c.first told (λ t. refl) refl))
answer-plain universe most answer.Same = refl
answer-plain universe most (answer.Differ d) = refl
answer-plain universe most answer.Exceeded = refl
answer-plain universe most (answer.Found sight) = put-plain (codes "found") (sight_data sight) (named (codes "found")) (sight-plain sight) refl
answer-plain universe most (answer.Suggested s) =
    let dropped = put (codes "dropped") (spans_data s.dropped) (named (codes "suggest")) in
    let merged = put (codes "merged") (spans_data s.merged) dropped in
    let passed = put (codes "passed") (spans_data s.passed) merged in
    some-plain (codes "text") (quoted_data universe) s.text passed (λ t. refl)
    (put-plain (codes "passed") (spans_data s.passed) merged (spans-plain s.passed)
    (put-plain (codes "merged") (spans_data s.merged) dropped (spans-plain s.merged)
    (put-plain (codes "dropped") (spans_data s.dropped) (named (codes "suggest")) (spans-plain s.dropped) refl)))
answer-plain universe most (answer.Cost c) = refl
answer-plain universe most answer.TextTooLong = refl
answer-plain universe most answer.Version = refl

-- What is told beside an answer has no float either.
beyond-plain : (told : Beyond) (ms : Members) → members_have_float ms ≡ false → members_have_float (beyond_members told ms) ≡ false
beyond-plain told ms h = by told.lookaround told.inner_anchor
  where
    by : (lookaround anchor : Bool)
        → members_have_float (beyond_members (record { lookaround = lookaround; inner_anchor = anchor }) ms) ≡ false
    by true true = put-plain (codes "beyond") (array (items_of (map string (codes "lookaround" ∷ codes "inner-anchor" ∷ [])))) ms refl h
    by true false = put-plain (codes "beyond") (array (items_of (map string (codes "lookaround" ∷ [])))) ms refl h
    by false true = put-plain (codes "beyond") (array (items_of (map string (codes "inner-anchor" ∷ [])))) ms refl h
    by false false = h

pub told-plain : (universe : Universe) (most : ℕ) (told : Beyond) (found : Answer) → has_float (object (beyond_members told (answer_members universe most found))) ≡ false
told-plain universe most told found = beyond-plain told (answer_members universe most found) (answer-plain universe most found)
