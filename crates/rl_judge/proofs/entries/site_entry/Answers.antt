use Rattle.std.proofs.Common.{◌≡◌, ◌∙◌, ℕ, List, Option, Some, None, refl, ap, subst, option_map}
use Rattle.rl_pylex.specs.declared.token_list.Token.{Token}
use Rattle.rl_report.specs.Places.{place_of}
use Rattle.rl_judge.specs.Analysis.{IsAnalysisOf}
use Rattle.rl_judge.proofs.entries.site_entry.Goals as goal

-- The place of an optional token is the place where it begins.
place_from : (source : List ℕ) (token : Option Token) → option_map (place_of source) (option_map (λ t. t.from) token) ≡ option_map (λ t. place_of source t.from) token
place_from source None = refl
place_from source (Some token) = refl

pub returns-clause-right : goal.returns-clause-right
returns-clause-right c =
    let source = c.args.source.now in
    let a = c.in_ok-analysis.analysis in
    let path = c.in_ok-path.ensures.cases in
    let at = c.some_place_at-at.ensures.place ∙ ap (option_map (place_of source)) c.start_of.ensures ∙ place_from source _ in
    let fault = c.some_place_at-fault.ensures.place in
    let marks = c.in_ok-marks.ensures in
    record {
      analysis = a;
      right = subst (λ o. IsAnalysisOf source c.args.tokens.now o c.args.site a) c.options_of.ensures c.in_ok-analysis.ensures.right;
      is = λ j. record { path = path j; at = at j; call = Some c.args.site.call; universe = a.universe; fault = fault j; outcome = a.outcome; marks = marks j };
    }

pub returns-clause-universe : goal.returns-clause-universe
returns-clause-universe c = (c.in_ok-analysis.ensures.texts.verdict, c.in_ok-analysis.ensures.texts.suggestion)
