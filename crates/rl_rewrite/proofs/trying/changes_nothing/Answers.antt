use Rattle.std.proofs.Common.{◌∷◌, ◌++◌, sym, ◌∙◌, subst}
use Rattle.rl_syntax.specs.Pattern.{body_of, universe_of}
use Rattle.rl_syntax.specs.PatTree.{pat_of}
use Rattle.rl_pattern.specs.Suggested.{without}
use Rattle.rl_trim.specs.Without.{Without}
use Rattle.rl_rewrite.proofs.BegunTrials.{flags_of_body, found_by}
use Rattle.rl_rewrite.proofs.NoGuards.{left_no_guards}
use Rattle.rl_rewrite.proofs.trying.changes_nothing.Goals as goal

pub returns-clause-verdict : goal.returns-clause-verdict
returns-clause-verdict c =
    let body = body_of c.args.p.now in
    let since = c.args.since.now in
    let begun = c.args.trials.now.begun in
    let s = without (since ++ begun) body in
    let r = without (c.args.branch ∷ (since ++ begun)) body in
    let t = without begun body in
    let kept : Without c.in-Some.keep r t =
    flags_of_body (pat_of c.body.result.now) body c.as_slice-2.result.now (c.args.branch ∷ since) c.as_slice.result.now begun c.in_ok-keep.field-0 c.in-Some.keep c.body.ensures.same (c.as_slice-2.ensures ∙ c.in_ok-more.ensures) c.as_slice.ensures c.in-Some.is c.in_ok-keep.ensures in
    found_by c.stays_equal-found.result c.stays_equal-found.ensures.judged
    (λ found h e. h e (universe_of c.args.p.now) r s t c.requires.base (left_no_guards begun body c.requires.guardless) c.requires.left (subst (λ l. Without l r t) (sym c.as_slice-3.ensures) kept))

pub returns-clause-told : goal.returns-clause-told
returns-clause-told c =
    let body = body_of c.args.p.now in
    let since = c.args.since.now in
    let begun = c.args.trials.now.begun in
    let s = without (since ++ begun) body in
    let r = without (c.args.branch ∷ (since ++ begun)) body in
    let t = without begun body in
    let kept : Without c.in-Some.keep r t =
    flags_of_body (pat_of c.body.result.now) body c.as_slice-2.result.now (c.args.branch ∷ since) c.as_slice.result.now begun c.in_ok-keep.field-0 c.in-Some.keep c.body.ensures.same (c.as_slice-2.ensures ∙ c.in_ok-more.ensures) c.as_slice.ensures c.in-Some.is c.in_ok-keep.ensures in
    found_by c.stays_equal-found.result c.stays_equal-found.ensures.told
    (λ found h e. h e (universe_of c.args.p.now) r s t c.requires.base (left_no_guards begun body c.requires.guardless) c.requires.left (subst (λ l. Without l r t) (sym c.as_slice-3.ensures) kept))
