use Rattle.std.proofs.Common.{◌∙◌, arith}
use Rattle.rl_equiv.specs.internal.Searching.{state_of}
use Rattle.rl_equiv.proofs.SearchLaws.{relation-more}
use Rattle.rl_equiv.proofs.searching.PairSearch.relation.Goals as goal

pub loop-place-preserved : goal.loop-place-preserved
loop-place-preserved c =
    c.in_ok-push.ensures.pushed
    ∙ relation-more (state_of c.args.self.now) c.loop-place.relation c.loop-place.place c.index-key.result.now c.in_ok-first.first c.in_ok-second.second c.loop-place.invariant (omega (arith, c.loop-place-test.true, c.len-place-end.ensures.len)) c.index-key.ensures c.in_ok-first.ensures c.in_ok-second.ensures
