use Rattle.std.proofs.Common.{◌-◌, ap, sym, ◌∙◌}
use Rattle.rl_sarif.proofs.TallyLemmas.{taken, none-taken}
use Rattle.rl_sarif.proofs.tally.take.Goals as goal

pub returns-then-count-eq0-clause-rest : goal.returns-then-count-eq0-clause-rest
returns-then-count-eq0-clause-rest c = none-taken c.args.tally.now c.args.key (sym c.remaining-count.ensures ∙ c.if-count-eq0.true)

pub returns-clause-rest : goal.returns-clause-rest
returns-clause-rest c = taken c.args.tally.now c.insert.new.self c.args.key _ (ap (λ n. n - 1) c.remaining-count.ensures) c.in_ok-insert.ensures.updates.0
