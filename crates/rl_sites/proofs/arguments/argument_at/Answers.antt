-- One argument is skipped, or it is the one with the index.
use Rattle.std.proofs.Common.{◌∙◌, arith}
use Rattle.rl_sites.proofs.Finding.{place_none, place_on, place_here, table_others}
use Rattle.rl_sites.proofs.arguments.argument_at.Goals as goal

pub returns-in-None : goal.returns-in-None
returns-in-None c =
    c.loop-left.invariant.same
    ∙ place_none c.args.source.now c.loop-left.rest.now c.behind_first.result.now c.loop-left.left c.behind_first.ensures c.in-None.ensures (omega arith)

pub loop-left-preserved : goal.loop-left-preserved
loop-left-preserved c = record {
  same =
      c.loop-left.invariant.same
      ∙ place_on c.args.source.now c.loop-left.rest.now c.behind_first.result.now c.in-Some.others.now c.loop-left.left c.behind_first.ensures c.in-Some.ensures.0 (omega arith);
  table = table_others c.args.source.now c.loop-left.rest.now c.behind_first.result.now c.in-Some.others.now c.args.sizes.now _
      c.loop-left.invariant.table c.behind_first.ensures c.in-Some.ensures.1;
}

pub returns : goal.returns
returns c =
    c.loop-left.invariant.same
    ∙ place_here c.args.source.now c.loop-left.rest.now c.first_argument.result.now c.loop-left.left c.first_argument.ensures (omega arith)
