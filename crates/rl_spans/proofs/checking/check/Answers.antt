use Rattle.std.proofs.Common.{subst}
use Rattle.rl_spans.specs.internal.Sides.{matcher_of}
use Rattle.rl_spans.specs.internal.Machines.{IsClosedOn}
use Rattle.rl_spans.proofs.ClosedLaws.{closed-alike}
use Rattle.rl_spans.proofs.checking.check.Goals as goal

pub returns-in-Ok-clause-alike : goal.returns-in-Ok-clause-alike
returns-in-Ok-clause-alike c =
    λ closed.
    closed-alike c.args.how c.args.a.now c.args.b.now (matcher_of c.in_ok-machine.machine.first) (matcher_of c.in_ok-machine.machine.second)
    c.args.relation.now.pairs c.in_ok-machine.machine.codes c.in_ok-machine.ensures.first c.in_ok-machine.ensures.second c.in_ok-machine.ensures.codes
    (subst (λ o. IsClosedOn o (matcher_of c.in_ok-machine.machine.first) (matcher_of c.in_ok-machine.machine.second) c.args.relation.now.pairs c.in_ok-machine.machine.codes)
    c.origin_of.ensures (c.in-Ok.ensures closed))
