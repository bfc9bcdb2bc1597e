use Rattle.rl_spans.proofs.HitLaws.{hits-differ}
use Rattle.rl_spans.proofs.differing.is_difference.Goals as goal

pub returns-clause-differ : goal.returns-clause-differ
returns-clause-differ c =
    λ differ. hits-differ c.args.machine.now.first c.args.machine.now.second c.args.text.now c.args.advance c.args.start c.in_ok-left.left c.in_ok-right.right
    c.in_ok-left.ensures.found c.in_ok-right.ensures.found (c.are_unlike.ensures differ)
