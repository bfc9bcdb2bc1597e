use Rattle.std.proofs.Common.{sym, subst}
use Rattle.rl_syntax.specs.Pattern.{body_of, universe_of}
use Rattle.rl_rewrite.specs.internal.Trials.{AreBegun}
use Rattle.rl_rewrite.proofs.BegunTrials.{made_now, either_way}
use Rattle.rl_rewrite.proofs.trying.quick_trial.Goals as goal

pub returns-clause-begun : goal.returns-clause-begun
returns-clause-begun c =
    let u = universe_of c.args.p.now in
    let body = body_of c.args.p.now in
    either_way c.judge_branch.result
    (subst (AreBegun u body c.args.dropped.now) (sym c.judge_branch.ensures.unchanged) (made_now u body c.args.dropped.now c.renew.new.trials c.in_ok-renew.ensures.base c.in_ok-renew.ensures.begun))
