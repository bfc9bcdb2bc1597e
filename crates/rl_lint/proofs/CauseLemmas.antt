-- A run refuses only what is refused, and it fails only if a call of the tree failed.
use Rattle.std.proofs.Common.{◌≡◌, ◌<◌, ◌⊎◌, ℕ, inl, inr, codes, Result, Ok, Err, IfOk, Bool, true, false, List, [], ◌∷◌, ◌++◌, Option, Some, None, cond, length, nat_lt, ap, sym, ◌∙◌, subst, refl, arith}
use Rattle.std.proofs.lemmas.Grind.{common_steps}
use Rattle.std.specs.Str.{chars}
use Rattle.rl_source.specs.Asked.{call_of}
use Rattle.rl_source.specs.Faults.{Rose}
use Rattle.rl_source.specs.Revealed.{Revealed, after}
use Rattle.rl_source.specs.declared.nodes.Query.TheVariants.{Read}
use Rattle.rl_syntax.specs.Pattern.{pattern_ending, pattern_tree}
use Rattle.rl_syntax.specs.Tree.{Tree}
use Rattle.rl_syntax.specs.declared.re.Ending.{Ending as MatchEnd}
use Rattle.rl_syntax.specs.declared.re.Mode.{Mode}
use Rattle.rl_walk.specs.Visits.{Moment, has_unreadable}
use Rattle.rl_walk.proofs.Doing.{rose-earlier}
use Rattle.rl_judge.specs.declared.settings.Settings.{Settings}
use Rattle.rl_sarif.specs.Baseline.{IsBaseline}
use Rattle.rl_sarif.specs.Keys.{EntryKey}
use Rattle.rl_words.specs.Call.{Asked, Call, Chosen, check, class, cost, sample, prove, verify, compare}
use Rattle.rl_pairs.specs.RightVerdict.{Question}
use Rattle.rl_cert.specs.Form.{IsForm}
use Rattle.rl_cert.specs.declared.certificate.Certificate.{Certificate}
use Rattle.rl_lint.specs.CheckEnding.{IsCheckEnding, ReportsWalk}
use Rattle.rl_lint.specs.ClassEnding.{ClassEnds}
use Rattle.rl_lint.specs.CompareEnding.{CompareEnds}
use Rattle.rl_lint.specs.CostEnding.{cost_ending, cost_line}
use Rattle.rl_lint.specs.Endings.{Ending, refuses, writes}
use Rattle.rl_lint.specs.internal.Plans.{ending_of, has_fault, is_refusal}
use Rattle.rl_lint.specs.Files.{HasRefused, Portion, ReadsFile, ReadsThen, file_refused, file_taken, file_unreadable, first_bytes, whole_bytes}
use Rattle.rl_lint.specs.Options.{GivesSettings, default_settings, with_values}
use Rattle.rl_lint.specs.Patterns.{IsRefusedPattern, ParsesThen, pattern_parsed, pattern_refused, text_question}
use Rattle.rl_lint.specs.ProveEnding.{ProveEnds}
use Rattle.rl_lint.specs.Refusals.{HasRefusedPattern, IsRefused, IsRefusedAction, action, settings}
use Rattle.rl_lint.specs.RunEnding.{IsActionEnding, IsCallEnding, IsRunEnding}
use Rattle.rl_report.specs.Names.{Text}
use Rattle.rl_lint.specs.VerifyEnding.{CertificateEnds, IsVerifyEnding, verify_parsed, verify_refused}
use Rattle.rl_lint.specs.declared.limits.TheConstants.{MOST_TEXT_CODES}
use Rattle.rl_lint.specs.declared.plan.Plan.{Plan}

-- Between the two moments the run came to this ending. If it refuses something or reports that a call of the tree failed, there
-- is a cause.
record HasCause (Refused : Type 0) (old new : Moment) (ending : Ending) : Type 0 where
  refused : is_refusal ending ≡ true → Refused
  failed : has_fault ending ≡ true → Rose old.faults new.faults

module _ (R : Type 0) (old new : Moment) where
  refusing : (message : Text) → R → HasCause R old new (refuses message)
  refusing message r = record { refused = λ refusal. r; failed = λ (never : false ≡ true). cc }

  writing : (ending : Ending) (text : Text) (finding failed : Bool) → ending ≡ writes text finding failed → (failed ≡ true → Rose old.faults new.faults)
      → HasCause R old new ending
  writing ending text finding failed is cause = record {
    refused = λ refusal. let never : false ≡ true = sym (ap is_refusal is) ∙ refusal in cc;
    failed = λ fault. cause (sym (ap has_fault is) ∙ fault);
  }

  -- No call of the tree failed.
  quiet : (ending : Ending) (text : Text) (finding : Bool) → ending ≡ writes text finding false → HasCause R old new ending
  quiet ending text finding is = writing ending text finding false is (λ never. cc)

  because : (S : Type 0) (ending : Ending) → (R → S) → HasCause R old new ending → HasCause S old new ending
  because S ending gives cause = record { refused = λ refusal. gives (cause.refused refusal); failed = cause.failed }

-- ---- files

-- The map stays the same while the tree is asked.
abbrev KeepsMap : Moment → Moment → Type 0
KeepsMap old new = (t : Revealed) → old.told ≡ Some t → (u : Revealed) × (new.told ≡ Some u) × (u.nodes ≡ t.nodes)

module _ {A : Type 0} (Gives : Text → A → Type 0) (portion : Portion) where
  kept : (path bytes : Text) (old new : Moment) → ReadsFile portion path (Some bytes) old new → KeepsMap old new
  kept path bytes old new reads t is =
      let calls = call_of (Read portion.at_most) path false ∷ [] in
      (record t { trail = t.trail ++ calls }, reads.trail ∙ ap (after calls) is, refl)

  earlier : (named : Option Text) (old new : Moment) → KeepsMap old new → HasRefused Gives portion named new.told → HasRefused Gives portion named old.told
  earlier named old new keeps r = record {
    path = r.path;
    bytes = r.bytes;
    is_named = r.is_named;
    right = λ t is. same t (keeps t is);
    refused = r.refused;
  }
    where
      same : (t : Revealed) → (u : Revealed) × (new.told ≡ Some u) × (u.nodes ≡ t.nodes) → portion.there r.path t.nodes ≡ Some r.bytes
      same t k = subst (λ nodes. portion.there r.path nodes ≡ Some r.bytes) k.2 (r.right k.0 k.1)

-- What is refused was already refused at the start.
earlier_refused : (options : Chosen) (asked : Asked) (old new : Moment) → KeepsMap old new → IsRefusedAction new.told options asked → IsRefusedAction old.told options asked
earlier_refused options (check paths) old new keeps r = earlier IsBaseline first_bytes options.baseline old new keeps r
earlier_refused options (class pattern) old new keeps r = r
earlier_refused options (cost pattern text) old new keeps r = r
earlier_refused options (sample seed count) old new keeps r = r
earlier_refused options (prove pattern) old new keeps r = r
earlier_refused options (verify pattern file) old new keeps (inl r) = inl r
earlier_refused options (verify pattern file) old new keeps (inr r) = inr (earlier IsForm first_bytes (Some file) old new keeps r)
earlier_refused options (compare first second) old new keeps r = r

-- Either a file can't be read or is refused, or it is accepted and what follows has a cause.
module _ {A : Type 0} (name : Text) (portion : Portion) (Gives : Text → A → Type 0) (Next : A → Moment → Moment → Ending → Type 0)
    (path : Text) (R : Type 0) (old new : Moment) where
  of_file : (ending : Ending) → ReadsThen name portion Gives Next path old new ending → (HasRefused Gives portion (Some path) old.told → R)
      → ((x : A) (mid : Moment) → KeepsMap old mid → Next x mid new ending → HasCause R mid new ending) → HasCause R old new ending
  of_file _ (file_unreadable reads) first later = record { refused = λ (never : false ≡ true). cc; failed = λ fault. reads.cause refl }
  of_file _ (file_refused {bytes = bytes} reads never) first later =
      refusing R old new _ (first (record { path = path; bytes = bytes; is_named = refl; right = reads.right; refused = never }))
  of_file ending (file_taken {bytes = bytes} {x = x} {mid = mid} reads gives next) first later =
      let cause = later x mid (kept Gives portion path bytes old mid reads) next in
      record { refused = cause.refused; failed = λ fault. rose-earlier old.faults mid.faults new.faults reads.later (cause.failed fault) }

-- ---- patterns

-- Either a pattern is refused, or what follows has a cause.
module _ (pattern : List ℕ) (mode : Mode) (Next : Tree → MatchEnd → Ending → Type 0) (R : Type 0) (old new : Moment) where
  of_pattern : (ending : Ending) → ParsesThen pattern mode Next ending → ((message : Text) → IsRefusedPattern pattern message → R)
      → ((t : Tree) (at : MatchEnd) → Next t at ending → HasCause R old new ending) → HasCause R old new ending
  of_pattern _ (pattern_refused {message = message} is) first later = refusing R old new message (first message is)
  of_pattern ending (pattern_parsed {p = p} parsed next) first later = later (pattern_tree p mode) (pattern_ending p mode) next

module _ (R : Type 0) (old new : Moment) where
  of_text : (n : ℕ) (b : Bool) (ending : Ending) (message line : Text) → nat_lt MOST_TEXT_CODES n ≡ b → ending ≡ cond b (refuses message) (writes line false false)
      → (MOST_TEXT_CODES < n → R) → HasCause R old new ending
  of_text n true ending message line long is gives = subst (HasCause R old new) (sym is) (refusing R old new message (gives (grind (arith, common_steps))))
  of_text n false ending message line long is gives = quiet R old new ending line false is

  of_proof : (q : Question) (ending : Ending) → ProveEnds q ending → HasCause R old new ending
  of_proof q ending (inl w) = quiet R old new ending _ _ w.4
  of_proof q ending (inr (inl n)) = quiet R old new ending _ _ n.2
  of_proof q ending (inr (inr n)) = quiet R old new ending _ _ n.1

  of_comparison : (s : Tree) (e : MatchEnd) (t : Tree) (f : MatchEnd) (ending : Ending) → CompareEnds s e t f ending → HasCause R old new ending
  of_comparison s e t f ending (inl p) = quiet R old new ending _ _ p.4
  of_comparison s e t f ending (inr p) = quiet R old new ending _ _ p.4

  of_certificate : (q : Question) (c : Certificate) (ending : Ending) → CertificateEnds q c ending → HasCause R old new ending
  of_certificate q c ending (inl h) = quiet R old new ending _ _ h.1
  of_certificate q c ending (inr h) = quiet R old new ending _ _ h.1

  of_walk : (s : Settings) (paths : List Text) (baseline : Option (List EntryKey)) (ending : Ending) → ReportsWalk s paths baseline old new ending
      → HasCause R old new ending
  of_walk s paths baseline ending w =
      let report = w.told [] refl in
      writing R old new ending _ _ (has_unreadable w.visits) report.ends w.cause

-- ---- actions

of_check : (s : Settings) (paths : List Text) (named : Option Text) (old new : Moment) (ending : Ending) → IsCheckEnding s paths named old new ending
    → HasCause (HasRefused IsBaseline first_bytes named old.told) old new ending
of_check s paths None old new ending ends = of_walk (HasRefused IsBaseline first_bytes None old.told) old new s paths None ending ends
of_check s paths (Some file) old new ending ends =
    let R = HasRefused IsBaseline first_bytes (Some file) old.told in
    of_file (codes "baseline") first_bytes IsBaseline (λ keys. ReportsWalk s paths (Some keys)) file R old new ending ends (λ r. r)
    (λ keys mid keeps w. of_walk R mid new s paths (Some keys) ending w)

of_verify : (max_pairs : ℕ) (mode : Mode) (pattern file : Text) (old new : Moment) (ending : Ending) → IsVerifyEnding max_pairs mode (chars pattern) file old new ending
    → HasCause (HasRefusedPattern pattern ⊎ HasRefused IsForm first_bytes (Some file) old.told) old new ending
of_verify max_pairs mode pattern file old new _ (verify_refused {message = message} is still) =
    refusing (HasRefusedPattern pattern ⊎ HasRefused IsForm first_bytes (Some file) old.told) old new message (inl (message, is))
of_verify max_pairs mode pattern file old new ending (verify_parsed {p = p} parsed next) =
    let R = HasRefusedPattern pattern ⊎ HasRefused IsForm first_bytes (Some file) old.told in
    let q = text_question max_pairs (pattern_tree p mode) (pattern_ending p mode) in
    of_file (codes "certificate") first_bytes IsForm (λ c mid last end. (last ≡ mid) × CertificateEnds q c end) file R old new ending next inr
    (λ c mid keeps end. of_certificate R mid new q c ending end.1)

of_action : (s : Settings) (options : Chosen) (asked : Asked) (old new : Moment) (ending : Ending) → IsActionEnding s options asked old new ending
    → HasCause (IsRefusedAction old.told options asked) old new ending
of_action s options (check paths) old new ending ends = of_check s paths options.baseline old new ending ends
of_action s options (class pattern) old new ending ends =
    of_pattern (chars pattern) _ (ClassEnds s.max_degree s.max_pairs) (HasRefusedPattern pattern) old new ending ends.1 (λ m is. (m, is))
    (λ t at end. quiet (HasRefusedPattern pattern) old new ending _ _ end.2)
of_action s options (cost pattern text) old new ending ends =
    let R = HasRefusedPattern pattern ⊎ (MOST_TEXT_CODES < length (chars text)) in
    of_pattern (chars pattern) _ (λ t at end. end ≡ cost_ending (chars text) t at) R old new ending ends.1 (λ m is. inl (m, is))
    (λ t at end. of_text R old new (length (chars text)) (nat_lt MOST_TEXT_CODES (length (chars text))) ending _ (cost_line t at (chars text)) refl end inr)
of_action s options (sample seed count) old new ending ends = quiet ⊥ old new ending _ _ ends.1.ends
of_action s options (prove pattern) old new ending ends =
    of_pattern (chars pattern) _ (λ t at. ProveEnds (text_question s.max_pairs t at)) (HasRefusedPattern pattern) old new ending ends.1 (λ m is. (m, is))
    (λ t at end. of_proof (HasRefusedPattern pattern) old new (text_question s.max_pairs t at) ending end)
of_action s options (verify pattern file) old new ending ends = of_verify s.max_pairs _ pattern file old new ending ends
of_action s options (compare first second) old new ending ends =
    let R = HasRefusedPattern first ⊎ HasRefusedPattern second in
    of_pattern (chars first) _ (λ a e. ParsesThen (chars second) _ (CompareEnds a e)) R old new ending ends.1 (λ m is. inl (m, is))
    (λ a e end. of_pattern (chars second) _ (CompareEnds a e) R old new ending end (λ m is. inr (m, is))
    (λ t f both. of_comparison R old new a e t f ending both))

-- ---- the run

of_call : (call : Call) (named : Option Text) (old new : Moment) (ending : Ending) → call.options.settings ≡ named → IsCallEnding call named old new ending
    → HasCause (IsRefused old.told (Some call)) old new ending
of_call call None old new ending same ends =
    because (IsRefusedAction old.told call.options call.action) old new (IsRefused old.told (Some call)) ending action
    (of_action (with_values call.options.values default_settings) call.options call.action old new ending ends)
of_call call (Some file) old new ending same ends =
    of_file (codes "settings") whole_bytes GivesSettings (λ start. IsActionEnding (with_values call.options.values start) call.options call.action) file
    (IsRefused old.told (Some call)) old new ending ends
    (λ r. settings (subst (λ o. HasRefused GivesSettings whole_bytes o old.told) (sym same) r))
    (λ start mid keeps next.
    because (IsRefusedAction mid.told call.options call.action) mid new (IsRefused old.told (Some call)) ending
    (λ r. action (earlier_refused call.options call.action old mid keeps r))
    (of_action (with_values call.options.values start) call.options call.action mid new ending next))

pub run-refused : (given : Option Call) (call : Call) (old new : Moment) (ending : Ending) → given ≡ Some call → IsRunEnding (Some call) old new ending
    → is_refusal ending ≡ true → IsRefused old.told given
run-refused given call old new ending same ends refusal =
    subst (IsRefused old.told) (sym same) ((of_call call call.options.settings old new ending refl ends).refused refusal)

pub run-failed : (call : Call) (old new : Moment) (ending : Ending) → IsRunEnding (Some call) old new ending → has_fault ending ≡ true → Rose old.faults new.faults
run-failed call old new ending ends = (of_call call call.options.settings old new ending refl ends).failed

pub plans-refused : {E : Type 0} (result : Result Plan E) (given : Option Call) (call : Call) (old new : Moment) → given ≡ Some call
    → IfOk result (λ plan. IsRunEnding (Some call) old new (ending_of plan))
    → IfOk result (λ plan. is_refusal (ending_of plan) ≡ true → IsRefused old.told given)
plans-refused (Ok plan) given call old new same ends = run-refused given call old new (ending_of plan) same ends
plans-refused (Err e) given call old new same ends = tt

pub plans-failed : {E : Type 0} (result : Result Plan E) (call : Call) (old new : Moment) → IfOk result (λ plan. IsRunEnding (Some call) old new (ending_of plan))
    → IfOk result (λ plan. has_fault (ending_of plan) ≡ true → Rose old.faults new.faults)
plans-failed (Ok plan) call old new ends = run-failed call old new (ending_of plan) ends
plans-failed (Err e) call old new ends = tt
