-- The first byte decides whether a bracket opens or closes.
use Rattle.std.proofs.Common.{arith, ◌∙◌}
use Rattle.rl_pylex.proofs.Depths.{depth-opens, depth-closes, depth-stays, depth-ends}
use Rattle.rl_pylex.proofs.rules.depth_after.Goals as goal

pub returns-in-len1-up-clause-value : goal.returns-in-len1-up-clause-value
returns-in-len1-up-clause-value c = depth-opens c.args.depth c.args.text.now c.in-len1-up.len_at_least c.if-opens_bracket.ensures

pub returns-in-len1-up-2-clause-value : goal.returns-in-len1-up-2-clause-value
returns-in-len1-up-2-clause-value c =
    c.saturating_sub.ensures ∙ depth-closes c.args.depth c.args.text.now c.in-len1-up.len_at_least c.if-opens_bracket.ensures c.if-closes_bracket.ensures

pub returns-in_default-clause-value : goal.returns-in_default-clause-value
returns-in_default-clause-value c = depth-ends c.args.depth c.args.text.now (omega (arith, c.in_default.len_below))

pub returns-in_default-2-clause-value : goal.returns-in_default-2-clause-value
returns-in_default-2-clause-value c =
    depth-stays c.args.depth c.args.text.now c.in-len1-up.len_at_least c.if-opens_bracket.ensures c.if-closes_bracket.ensures
