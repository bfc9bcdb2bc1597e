use Rattle.std.proofs.Common.{◌≡◌, ◌≢◌, ℕ, Bool, true, false, not, List, Result, Ok, Err, IfOk, OnOk, refl, sym}
use Rattle.std.proofs.lemmas.Bool.{false≢true}
use Rattle.rl_ranges.specs.declared.universe.Universe.TheVariants as universe
use Rattle.rl_syntax.specs.declared.pattern.Pattern.{Pattern}
use Rattle.rl_pattern.specs.declared.flags.Flags.{Flags}
use Rattle.rl_pattern.specs.declared.parsing.PatError.{PatError}
use Rattle.rl_pattern.specs.declared.parsing.PatError.TheVariants as parsing
use Rattle.rl_pattern.specs.Parsed.{IsParsed}
use Rattle.rl_pylex.specs.declared.token_list.Token.{Token}
use Rattle.rl_pystr.specs.declared.fault.StrError.{StrError}
use Rattle.rl_pystr.specs.declared.fault.StrError.TheVariants as valuing
use Rattle.rl_pystr.specs.declared.literal.Literal.{Literal}
use Rattle.rl_pystr.specs.declared.placed.Placed.{Placed}
use Rattle.rl_pystr.specs.Runs.{IsValue, value_of_run}
use Rattle.rl_pystr.specs.Values.{IsRefused}
use Rattle.rl_sites.specs.declared.site.Site.{Site}
use Rattle.rl_sites.specs.declared.site.SiteFlags.{SiteFlags}
use Rattle.rl_sites.specs.declared.site.SiteFlags.TheVariants.{Known, Unknown}
use Rattle.rl_sites.specs.Runs.{run_of}
use Rattle.rl_report.specs.declared.report.Outcome.TheVariants as outcome
use Rattle.rl_judge.specs.declared.analysis.Analysis.{Analysis}
use Rattle.rl_judge.specs.declared.options.AnalysisOptions.{AnalysisOptions}
use Rattle.rl_judge.specs.Analysis.{IsAnalysisOf, IsJudged, has_no_pattern, has_no_value, has_unknown_flags, is_judged, is_not_whole, refusal}
use Rattle.rl_judge.specs.Faults.{literal_fault, pattern_fault}
use Rattle.rl_judge.proofs.Values.{value_text}
use Rattle.rl_judge.proofs.analysis.analyze.Goals as goal

is_true : (b : Bool) → not b ≡ false → b ≡ true
is_true true e = refl
is_true false e = absurd (false≢true (sym e))

is_false : (b : Bool) → not b ≡ true → b ≡ false
is_false true e = absurd (false≢true e)
is_false false e = refl

-- Flags that aren't known flags are unknown.
unknown : (flags : SiteFlags) → ((known : Flags) → flags ≡ Known known → ⊥) → flags ≡ Unknown
unknown (Known known) none = absurd (none known refl)
unknown Unknown none = refl

-- Except for running out of memory, a refused value is refused for this cause.
refused_for : (r : Result Placed StrError) (e : StrError) → IsRefused r e → e ≢ valuing.OutOfMemory → r ≡ Err e
refused_for r valuing.FString is some = is
refused_for r valuing.Mixed is some = is
refused_for r (valuing.BadEscape p) is some = is
refused_for r (valuing.NamedEscape p) is some = is
refused_for r (valuing.NotAscii p) is some = is
refused_for r valuing.OutOfMemory is some = absurd (some refl)

module _ {E : Type 0} (source : List ℕ) (tokens : List Token) (options : AnalysisOptions) (site : Site) where
  without_value : (r : Result Analysis E) (e : StrError) → site.whole ≡ true → IsRefused (value_of_run source (run_of tokens site)) e
      → IfOk r (λ a. a ≡ refusal universe.Str (literal_fault e) (outcome.Literal e)) → OnOk r (e ≢ valuing.OutOfMemory)
      → IfOk r (IsAnalysisOf source tokens options site)
  without_value (Ok a) e whole refused is some = has_no_value whole (refused_for (value_of_run source (run_of tokens site)) e refused some) some is
  without_value (Err failed) e whole refused is some = tt

  without_pattern : (r : Result Analysis E) (literal : Literal) (flags : Flags) (e : PatError) → site.whole ≡ true → IsValue source (run_of tokens site) literal
      → site.flags ≡ Known flags → IsParsed flags literal.universe literal.codes (Err e)
      → IfOk r (λ a. a ≡ refusal literal.universe (pattern_fault literal e) (outcome.Pattern e)) → OnOk r (e ≢ parsing.OutOfMemory)
      → IfOk r (IsAnalysisOf source tokens options site)
  without_pattern (Ok a) literal flags e whole value known refused is some = has_no_pattern whole value known refused some is
  without_pattern (Err failed) literal flags e whole value known refused is some = tt

  judged : (r : Result Analysis E) (literal : Literal) (flags : Flags) (p : Pattern) → site.whole ≡ true → IsValue source (run_of tokens site) literal
      → site.flags ≡ Known flags → IsParsed flags literal.universe literal.codes (Ok p) → IfOk r (IsJudged flags options literal p)
      → IfOk r (IsAnalysisOf source tokens options site)
  judged (Ok a) literal flags p whole value known parsed right = is_judged whole value known parsed right
  judged (Err failed) literal flags p whole value known parsed right = tt

pub returns-then-not-site-clause-right : goal.returns-then-not-site-clause-right
returns-then-not-site-clause-right c =
    is_not_whole (is_false c.args.site.whole c.if-not-site.true) c.in_ok-universe.ensures c.refusal.ensures

pub returns-in-Err-clause-right : goal.returns-in-Err-clause-right
returns-in-Err-clause-right c =
    without_value c.args.source.now c.args.tokens.now c.args.options c.args.site c.without_value.result c.in-Err.error (is_true c.args.site.whole c.if-not-site.false)
    c.in-Err.ensures.err c.without_value.ensures.is c.without_value.ensures.some

pub returns-in_default-clause-right : goal.returns-in_default-clause-right
returns-in_default-clause-right c =
    has_unknown_flags (is_true c.args.site.whole c.if-not-site.false) c.in-Ok.ensures.ok (unknown c.args.site.flags c.in_default.not-Known) c.refusal-in_default.ensures

pub returns-clause-right : goal.returns-clause-right
returns-clause-right c =
    without_pattern c.args.source.now c.args.tokens.now c.args.options c.args.site c.without_pattern.result c.in-Ok.literal c.in-Known.flags c.in-Err-parse.error
    (is_true c.args.site.whole c.if-not-site.false) c.in-Ok.ensures.ok c.in-Known.is c.in-Err-parse.ensures c.without_pattern.ensures.is c.without_pattern.ensures.some

pub value-requires-clause-run : goal.value-requires-clause-run
value-requires-clause-run c = c.requires.run.run

pub parse-requires : goal.parse-requires
parse-requires c =
    value_text c.args.source.now c.args.tokens.now c.args.site.count c.args.site.first c.in-Ok.literal c.requires.tokens c.in-Ok.ensures.ok

pub with_pattern-requires-clause-text : goal.with_pattern-requires-clause-text
with_pattern-requires-clause-text c =
    value_text c.args.source.now c.args.tokens.now c.args.site.count c.args.site.first c.in-Ok.literal c.requires.tokens c.in-Ok.ensures.ok

pub returns-in-Ok-parse-clause-right : goal.returns-in-Ok-parse-clause-right
returns-in-Ok-parse-clause-right c =
    judged c.args.source.now c.args.tokens.now c.args.options c.args.site c.with_pattern.result c.in-Ok.literal c.in-Known.flags c.in-Ok-parse.pattern
    (is_true c.args.site.whole c.if-not-site.false) c.in-Ok.ensures.ok c.in-Known.is c.in-Ok-parse.ensures c.with_pattern.ensures.right
