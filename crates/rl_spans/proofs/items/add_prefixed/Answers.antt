use Rattle.std.proofs.Common.{◌+◌, ◌<◌, ◌≤◌, length, arith}
use Rattle.std.proofs.Math.ListN.{drop}
use Rattle.std.proofs.lemmas.List.{length-drop}
use Rattle.rl_syntax.specs.declared.limits.TheConstants.{MOST_MOVES}
use Rattle.rl_spans.proofs.LongLaws.{carried, no_room}
use Rattle.rl_spans.proofs.items.add_prefixed.Goals as goal

pub returns-in_err-put-clause-long : goal.returns-in_err-put-clause-long
returns-in_err-put-clause-long c =
    let rest = drop c.loop-item.item-index c.args.items.now in
    let some : 1 ≤ length rest = omega (arith, length-drop c.loop-item.item-index c.args.items.now) in
    carried c.from_residual-in_err-put.result c.in_err-put.field-0.0 (MOST_MOVES ≤ length c.loop-item.list)
    (MOST_MOVES < length c.args.list.now + length c.args.items.now)
    c.from_residual-in_err-put.ensures.1 c.in_err-put.ensures.long
    (no_room c.args.acts.now c.loop-item.list c.args.list.now rest c.args.items.now c.loop-item.invariant some)
