use Rattle.std.proofs.Common.{◌∙◌, length, sym, subst, arith}
use Rattle.rl_trim.specs.Reached.{IsClosedTo}
use Rattle.rl_trim.proofs.ClosingLaws.{stored-begun}
use Rattle.rl_trim.proofs.store.reach.Goals as goal

pub loop-set-init : goal.loop-set-init
loop-set-init c = c.requires

pub expand-requires-clause-closed : goal.expand-requires-clause-closed
expand-requires-clause-closed c = c.loop-set.invariant

pub expand-requires-clause-set_in : goal.expand-requires-clause-set_in
expand-requires-clause-set_in c = omega (arith, c.loop-set.invariant.reached, c.len.ensures.len, c.if-set-len.false)

pub holders_of-requires-clause-made : goal.holders_of-requires-clause-made
holders_of-requires-clause-made c = c.loop-set.invariant.made

pub holders_of-requires-clause-few : goal.holders_of-requires-clause-few
holders_of-requires-clause-few c = c.loop-set.invariant.reached

pub returns-then-set-len : goal.returns-then-set-len
returns-then-set-len c = record {
  closed = subst (IsClosedTo c.args.a.now c.loop-set.walk c.loop-set.set) (sym (c.if-set-len.true ∙ c.len.ensures.len)) c.loop-set.invariant;
  holders = c.in_ok-holders.ensures;
}

pub loop-set-preserved : goal.loop-set-preserved
loop-set-preserved c = c.in_ok-expand.ensures

pub returns : goal.returns
returns c = stored-begun c.args.a.now c.loop-set.walk c.loop-set.set (length c.loop-set.walk.sets) c.loop-set.invariant
