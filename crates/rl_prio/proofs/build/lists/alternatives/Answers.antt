use Rattle.std.proofs.Common.{◌++◌, map, ap, ◌∙◌}
use Rattle.rl_prio.specs.internal.Attempts.{behind}
use Rattle.rl_prio.proofs.EnterLemmas.{behind-none}
use Rattle.rl_prio.proofs.build.lists.alternatives.Goals as goal

pub returns-clause-ok : goal.returns-clause-ok
returns-clause-ok c =
    c.in_ok-put_behind.ensures.put
    ∙ ap (λ gs. c.args.list ++ map (behind gs) c.args.others.now) c.none.ensures
    ∙ ap (λ l. c.args.list ++ l) (behind-none c.args.others.now)
