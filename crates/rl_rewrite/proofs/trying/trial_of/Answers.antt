use Rattle.std.proofs.Common.{◌≡◌, ◌∷◌, IfSome, sym, ap, ◌∙◌, subst}
use Rattle.rl_syntax.specs.Pattern.{body_of, universe_of}
use Rattle.rl_syntax.specs.Tree.{tree_of}
use Rattle.rl_pattern.specs.Suggested.{without}
use Rattle.rl_rewrite.specs.Verdicts.{IsVerdict}
use Rattle.rl_rewrite.specs.internal.Trials.{verdict_of, IsTrueTrial}
use Rattle.rl_rewrite.proofs.trying.trial_of.Goals as goal

pub returns-clause-verdict : goal.returns-clause-verdict
returns-clause-verdict c =
    let body = body_of c.args.p.now in
    subst (λ d. IsVerdict (universe_of c.args.p.now) c.args.limit (without d body) (without (c.args.branch ∷ d) body) (verdict_of c.in-Ok.trial)) c.as_slice-3.ensures c.in-Ok.ensures.verdict

pub returns-clause-told : goal.returns-clause-told
returns-clause-told c =
    let body = body_of c.args.p.now in
    subst (λ d. IsTrueTrial (universe_of c.args.p.now) (without d body) (without (c.args.branch ∷ d) body) c.in-Ok.trial) c.as_slice-3.ensures c.in-Ok.ensures.told

pub returns-clause-tree : goal.returns-clause-tree
returns-clause-tree c =
    let body = body_of c.args.p.now in
    subst (λ o. IfSome o (λ b. tree_of b.tree ≡ without c.args.tries.now.dropped body)) (sym c.replace.ensures.after)
    (ap (λ b. tree_of b.tree) c.in-Ok.ensures.unchanged ∙ c.in_ok-base.ensures.tree ∙ ap (λ d. without d body) c.as_slice-2.ensures)

pub returns-clause-universe : goal.returns-clause-universe
returns-clause-universe c =
    subst (λ o. IfSome o (λ b. b.universe ≡ universe_of c.args.p.now)) (sym c.replace.ensures.after) (ap (λ b. b.universe) c.in-Ok.ensures.unchanged ∙ c.in_ok-base.ensures.universe)
