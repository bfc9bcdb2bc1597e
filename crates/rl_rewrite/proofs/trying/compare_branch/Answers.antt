use Rattle.std.proofs.Common.{◌≤◌, ◌∷◌, IfOk, sym, ap, ◌∙◌, subst}
use Rattle.rl_syntax.specs.Pattern.{body_of, universe_of}
use Rattle.rl_syntax.specs.Tree.{tree_of, size}
use Rattle.rl_syntax.specs.declared.limits.TheConstants.{MOST_NODES}
use Rattle.rl_equiv.specs.Bases.{DistinguishesNoMore}
use Rattle.rl_equiv.specs.Limits.{AreWithin}
use Rattle.rl_pattern.specs.Suggested.{without}
use Rattle.rl_rewrite.specs.Verdicts.{IsVerdict}
use Rattle.rl_rewrite.specs.internal.Trials.{verdict_of, IsTrueTrial}
use Rattle.rl_rewrite.proofs.Within.{left_small, trial_letters, trial_within}
use Rattle.rl_rewrite.proofs.trying.compare_branch.Goals as goal

pub tree_without-without_it-requires-clause-small : goal.tree_without-without_it-requires-clause-small
tree_without-without_it-requires-clause-small c =
    let e = c.as_slice.ensures ∙ c.in_ok-more.ensures in
    subst (λ m. size (without m (body_of c.args.p.now)) ≤ MOST_NODES) (sym e) (left_small (universe_of c.args.p.now) (c.args.branch ∷ c.args.dropped.now) (body_of c.args.p.now) c.requires.within c.requires.may)

pub run_trial-trial-requires-clause-letters : goal.run_trial-trial-requires-clause-letters
run_trial-trial-requires-clause-letters c =
    let e = c.as_slice.ensures ∙ c.in_ok-more.ensures in
    let w : DistinguishesNoMore (without c.args.dropped.now (body_of c.args.p.now)) (without c.as_slice.result.now (body_of c.args.p.now)) =
    subst (λ m. DistinguishesNoMore (without c.args.dropped.now (body_of c.args.p.now)) (without m (body_of c.args.p.now))) (sym e)
    (trial_letters c.args.branch c.args.dropped.now (body_of c.args.p.now) c.requires.may) in
    rw (c.requires.tree, c.in_ok-after.ensures.tree) w

pub run_trial-trial-requires-clause-within : goal.run_trial-trial-requires-clause-within
run_trial-trial-requires-clause-within c =
    let e = c.as_slice.ensures ∙ c.in_ok-more.ensures in
    let w : AreWithin (universe_of c.args.p.now) (without c.args.dropped.now (body_of c.args.p.now)) (without c.as_slice.result.now (body_of c.args.p.now)) =
    subst (λ m. AreWithin (universe_of c.args.p.now) (without c.args.dropped.now (body_of c.args.p.now)) (without m (body_of c.args.p.now))) (sym e)
    (trial_within (universe_of c.args.p.now) c.args.branch c.args.dropped.now (body_of c.args.p.now) c.requires.within c.requires.before c.requires.may) in
    rw (c.requires.universe, c.requires.tree, c.in_ok-after.ensures.tree) w

pub returns-clause-verdict : goal.returns-clause-verdict
returns-clause-verdict c =
    let r = c.run_trial-trial.result in
    let body = body_of c.args.p.now in
    let after = tree_of c.in_ok-after.after in
    subst (λ x. IfOk r (λ t. IsVerdict (universe_of c.args.p.now) c.args.limit (without c.args.dropped.now body) x (verdict_of t))) (c.in_ok-after.ensures.tree ∙ ap (λ m. without m body) (c.as_slice.ensures ∙ c.in_ok-more.ensures))
    (subst (λ x. IfOk r (λ t. IsVerdict (universe_of c.args.p.now) c.args.limit x after (verdict_of t))) c.requires.tree
    (subst (λ x. IfOk r (λ t. IsVerdict x c.args.limit (tree_of c.args.base.now.tree) after (verdict_of t))) c.requires.universe c.run_trial-trial.ensures.verdict))

pub returns-clause-told : goal.returns-clause-told
returns-clause-told c =
    let r = c.run_trial-trial.result in
    let body = body_of c.args.p.now in
    let after = tree_of c.in_ok-after.after in
    subst (λ x. IfOk r (IsTrueTrial (universe_of c.args.p.now) (without c.args.dropped.now body) x)) (c.in_ok-after.ensures.tree ∙ ap (λ m. without m body) (c.as_slice.ensures ∙ c.in_ok-more.ensures))
    (subst (λ x. IfOk r (IsTrueTrial (universe_of c.args.p.now) x after)) c.requires.tree
    (subst (λ x. IfOk r (IsTrueTrial x (tree_of c.args.base.now.tree) after)) c.requires.universe c.run_trial-trial.ensures.told))
