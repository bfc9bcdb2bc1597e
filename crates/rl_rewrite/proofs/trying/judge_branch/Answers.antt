use Rattle.std.proofs.Common.{◌≡◌, ◌∷◌, [], IfSome, refl, sym, subst}
use Rattle.rl_ranges.specs.declared.universe.Universe.{Universe}
use Rattle.rl_syntax.specs.Pattern.{body_of, universe_of}
use Rattle.rl_syntax.specs.PatTree.{pat_of}
use Rattle.rl_syntax.specs.Tree.{Tree, guards_in}
use Rattle.rl_pattern.specs.Suggested.{without}
use Rattle.rl_equiv.specs.Bases.{IsBase}
use Rattle.rl_equiv.specs.SetPairs.{set_pairs}
use Rattle.rl_trim.specs.Judged.{IsJudged, IsTrueJudgement as IsToldBy}
use Rattle.rl_trim.specs.Without.{Without}
use Rattle.rl_rewrite.specs.Verdicts.{IsVerdict}
use Rattle.rl_rewrite.specs.internal.Trials.{verdict_of, IsTrueTrial}
use Rattle.rl_rewrite.proofs.BegunTrials.{flags_of_body}
use Rattle.rl_rewrite.proofs.JudgedOne.{verdict_judged, told_judged}
use Rattle.rl_rewrite.proofs.NoGuards.{left_no_guards}
use Rattle.rl_rewrite.proofs.trying.judge_branch.Goals as goal

pub returns-clause-verdict : goal.returns-clause-verdict
returns-clause-verdict c =
    let body = body_of c.args.p.now in
    let u = universe_of c.args.p.now in
    let dropped = c.args.dropped.now in
    let s = without (c.args.branch ∷ dropped) body in
    let t = without dropped body in
    let kept : Without c.in-Some.keep s t =
    flags_of_body (pat_of c.body.result.now) body (c.args.branch ∷ []) (c.args.branch ∷ []) dropped dropped c.in_ok-keep.field-0 c.in-Some.keep c.body.ensures.same refl refl c.in-Some.is c.in_ok-keep.ensures in
    let without_it = subst (λ l. Without l s t) (sym c.as_slice.ensures) kept in
    let judged = subst (λ o. IfSome o (λ j. (v : Universe) (x y : Tree) → IsBase v y c.args.trials.now.trimmer → guards_in y ≡ [] → Without c.as_slice.result.now x y → IsJudged (set_pairs v y x) c.args.limit j)) c.in-Some-2.is c.in_ok-found.ensures.judged in
    subst (λ x. IsVerdict u c.args.limit t s (verdict_of x)) (sym c.told.ensures) (verdict_judged u c.args.limit t s c.in-Some-2.found (judged u s t c.requires.base (left_no_guards dropped body c.requires.guardless) without_it))

pub returns-clause-told : goal.returns-clause-told
returns-clause-told c =
    let body = body_of c.args.p.now in
    let u = universe_of c.args.p.now in
    let dropped = c.args.dropped.now in
    let s = without (c.args.branch ∷ dropped) body in
    let t = without dropped body in
    let kept : Without c.in-Some.keep s t =
    flags_of_body (pat_of c.body.result.now) body (c.args.branch ∷ []) (c.args.branch ∷ []) dropped dropped c.in_ok-keep.field-0 c.in-Some.keep c.body.ensures.same refl refl c.in-Some.is c.in_ok-keep.ensures in
    let without_it = subst (λ l. Without l s t) (sym c.as_slice.ensures) kept in
    let told = subst (λ o. IfSome o (λ j. (v : Universe) (x y : Tree) → IsBase v y c.args.trials.now.trimmer → guards_in y ≡ [] → Without c.as_slice.result.now x y → IsToldBy v y x j)) c.in-Some-2.is c.in_ok-found.ensures.told in
    subst (IsTrueTrial u t s) (sym c.told.ensures) (told_judged u t s c.in-Some-2.found (told u s t c.requires.base (left_no_guards dropped body c.requires.guardless) without_it))
