use Rattle.std.proofs.Common.{◌<◌, length, arith}
use Rattle.std.proofs.lemmas.Result.{err_from_is_err_and}
use Rattle.rl_numbers.proofs.ReachLaws.{on-start, on-more, on-over, on-end}
use Rattle.rl_numbers.proofs.reach.spread_on.Goals as goal

pub returns-in_err-add-clause-too_many : goal.returns-in_err-add-clause-too_many
returns-in_err-add-clause-too_many g c =
    let next = g.M.NextStates.next c.args.m.now in
    let k = c.loop-number.number in
    let p = err_from_is_err_and c.from_residual.result c.from_residual.ensures.1 in
    let lt : k < length (next c.args.from c.args.letter) = omega (arith, c.count-number-end.ensures, c.loop-number-test.true) in
    rw (p.1, p.2) (λ e. let full = c.in_err-add.ensures.too_many e in
    on-over next (g.M.NextStates.size c.args.m.now) c.args.limit c.args.from c.args.letter k c.target-target.result c.args.keys.now.keys c.loop-number.keys.keys lt c.target-target.ensures.target full.0 full.1 c.loop-number.invariant.spreads)

pub loop-number-preserved : goal.loop-number-preserved
loop-number-preserved g c =
    let next = g.M.NextStates.next c.args.m.now in
    let k = c.loop-number.number in
    let lt : k < length (next c.args.from c.args.letter) = omega (arith, c.count-number-end.ensures, c.loop-number-test.true) in
    record {
      few = c.in_ok-add.ensures.few;
      spreads = on-more next (g.M.NextStates.size c.args.m.now) c.args.limit c.args.from c.args.letter k c.target-target.result c.args.keys.now.keys c.loop-number.keys.keys c.add.new.keys.keys lt c.target-target.ensures.target c.target-target.ensures.inside c.in_ok-add.ensures.few c.loop-number.invariant.spreads c.in_ok-add.ensures.put;
    }

pub loop-number-init : goal.loop-number-init
loop-number-init g c = record {
  few = c.requires.few;
  spreads = on-start (g.M.NextStates.next c.args.m.now) (g.M.NextStates.size c.args.m.now) c.args.limit c.args.from (g.M.NextStates.next c.args.m.now c.args.from c.args.letter) c.args.keys.now.keys;
}

pub returns-clause-spreads : goal.returns-clause-spreads
returns-clause-spreads g c =
    on-end (g.M.NextStates.next c.args.m.now) (g.M.NextStates.size c.args.m.now) c.args.limit c.args.from c.args.letter c.loop-number.number c.args.keys.now.keys c.loop-number.keys.keys (omega (arith, c.count-number-end.ensures, c.loop-number-test.false)) c.loop-number.invariant.spreads
