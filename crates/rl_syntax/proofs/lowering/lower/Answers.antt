use Rattle.rl_syntax.specs.Pattern.{universe_of, is_anchored, trail_of, body_of}
use Rattle.rl_syntax.proofs.BodyOver.{tree-over}
use Rattle.rl_syntax.proofs.lowering.lower.Goals as goal

pub returns-clause-over : goal.returns-clause-over
returns-clause-over c =
    let p = c.args.p.now in
    rw c.in_ok-tree.ensures (tree-over (universe_of p) c.args.mode (is_anchored p) (trail_of p) (body_of p) p.judged)
