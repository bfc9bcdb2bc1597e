use Rattle.std.proofs.Common.{◌+◌, ap}
use Rattle.rl_sarif.proofs.TallyLemmas.{added}
use Rattle.rl_sarif.proofs.tally.add.Goals as goal

pub returns : goal.returns
returns c = added c.args.tally.now c.insert.new.self c.args.key _ (ap (λ n. n + 1) c.remaining-count.ensures) c.in_ok-insert.ensures.updates.0
