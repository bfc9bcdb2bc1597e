use Rattle.std.proofs.Common.{◌∙◌, ◌≤◌, length, arith}
use Rattle.rl_spans.proofs.SightLaws.{sought-on, sought-here, sought-last}
use Rattle.rl_spans.proofs.finding.sight_sought.Goals as goal

pub loop-start-preserved : goal.loop-start-preserved
loop-start-preserved c =
    sought-on c.args.count c.args.side.now c.args.text.now c.loop-start.start c.in_ok-sight.sight c.is_some.result c.loop-start-test.true
    c.in_ok-sight.ensures.sight c.is_some.ensures c.if-is_some.false
    ∙ c.loop-start.invariant

pub returns-then-is_some-clause-sight : goal.returns-then-is_some-clause-sight
returns-then-is_some-clause-sight c =
    sought-here c.args.count c.args.side.now c.args.text.now c.loop-start.start c.in_ok-sight.sight c.is_some.result c.loop-start-test.true
    c.in_ok-sight.ensures.sight c.is_some.ensures c.if-is_some.true
    ∙ c.loop-start.invariant

pub returns-clause-sight : goal.returns-clause-sight
returns-clause-sight c =
    let past : length c.args.text.now ≤ c.loop-start.start = omega arith in
    let within : c.loop-start.start ≤ length c.args.text.now = omega arith in
    c.in_ok-last.ensures.sight ∙ sought-last c.args.count c.args.side.now c.args.text.now c.loop-start.start past within ∙ c.loop-start.invariant
