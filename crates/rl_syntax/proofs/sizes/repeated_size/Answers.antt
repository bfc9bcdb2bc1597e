use Rattle.std.proofs.Common.{◌≡◌, ◌+◌, ◌*◌, ap, ◌∙◌, arith}
use Rattle.std.proofs.lemmas.Grind.{common_steps}
use Rattle.rl_syntax.specs.Tree.{capped}
use Rattle.rl_syntax.proofs.TreeSizes.{tail_weight, less_one-positive, capped-times}
use Rattle.rl_syntax.proofs.sizes.repeated_size.Goals.{in-None, in-Some}
use Rattle.rl_syntax.proofs.sizes.repeated_size.Goals as goal

pub returns-else-nodes-eq0 : goal.returns-else-nodes-eq0
returns-else-nodes-eq0 c =
    λ greedy t e.
    let w : c.match-max.tail ≡ tail_weight c.args.min c.args.max c.args.body =
    elim c.match-max.branch [ in-None w ↦ grind (arith, common_steps) | in-Some w ↦ grind (arith, common_steps) ] in
    let n : c.from.result * (c.from-body.result + 1) + c.match-max.tail ≡ c.args.min * (c.args.body + 1) + tail_weight c.args.min c.args.max c.args.body =
    grind arith in
    c.saturated.ensures ∙ ap capped (less_one-positive _ _ n c.if-nodes-eq0.false) ∙ capped-times c.args.min c.args.max greedy t c.args.body e
