use Rattle.std.proofs.Common.{arith}
use Rattle.std.proofs.lemmas.Result.{err_from_is_err_and}
use Rattle.rl_numbers.proofs.ReachLaws.{all-start, all-more, all-over, all-end}
use Rattle.rl_numbers.proofs.reach.spread.Goals as goal

pub loop-letter-init : goal.loop-letter-init
loop-letter-init g c = record {
  few = c.requires.few;
  spreads = all-start (g.M.NextStates.next c.args.m.now) (g.M.NextStates.size c.args.m.now) c.args.limit c.args.from c.args.keys.now.keys;
}

pub returns-in_err-spread_on-clause-too_many : goal.returns-in_err-spread_on-clause-too_many
returns-in_err-spread_on-clause-too_many g c =
    let p = err_from_is_err_and c.from_residual.result c.from_residual.ensures.1 in
    rw (p.1, p.2) (λ e. all-over (g.M.NextStates.next c.args.m.now) (g.M.NextStates.size c.args.m.now) c.args.limit c.args.from c.loop-letter.letter c.args.keys.now.keys c.loop-letter.keys.keys c.loop-letter.invariant.spreads (c.in_err-spread_on.ensures.too_many e))

pub loop-letter-preserved : goal.loop-letter-preserved
loop-letter-preserved g c = record {
  few = c.in_ok-spread_on.ensures.few;
  spreads = all-more (g.M.NextStates.next c.args.m.now) (g.M.NextStates.size c.args.m.now) c.args.limit c.args.from c.loop-letter.letter c.args.keys.now.keys c.loop-letter.keys.keys c.spread_on.new.keys.keys c.loop-letter.invariant.spreads c.in_ok-spread_on.ensures.spreads;
}

pub returns-clause-spreads : goal.returns-clause-spreads
returns-clause-spreads g c =
    all-end (g.M.NextStates.next c.args.m.now) (g.M.NextStates.size c.args.m.now) c.args.limit c.args.from c.loop-letter.letter (g.M.NextStates.width c.args.m.now) c.args.keys.now.keys c.loop-letter.keys.keys c.states-states.ensures.bounded (omega (arith, c.letters-letter-end.ensures, c.loop-letter-test.false)) c.loop-letter.invariant.spreads
