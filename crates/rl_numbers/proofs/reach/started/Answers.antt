use Rattle.rl_numbers.proofs.ReachLaws.{starts-more, starts-all, starts-over, starts-end}
use Rattle.rl_numbers.proofs.reach.started.Goals as goal

pub loop-start-preserved : goal.loop-start-preserved
loop-start-preserved c =
    let starts = c.args.starts.now in
    let i = c.loop-start.start-index in
    record {
      few = c.in-Ok.ensures.few;
      found = starts-more c.args.count c.args.limit i starts c.loop-start.keys.keys c.add.new.keys.keys c.loop-start-test.true (c.requires i 0 c.loop-start-test.true) c.in-Ok.ensures.put c.in-Ok.ensures.few c.loop-start.invariant.found;
      all = starts-all i starts c.loop-start.keys.keys c.add.new.keys.keys c.loop-start-test.true c.in-Ok.ensures.put c.loop-start.invariant.all;
    }

pub returns-in-Err-clause-too_many : goal.returns-in-Err-clause-too_many
returns-in-Err-clause-too_many c e =
    let full = c.in-Err.ensures.too_many e in
    starts-over c.args.count c.args.limit c.loop-start.start-index c.args.starts.now c.loop-start.keys.keys c.loop-start-test.true full.0 full.1 c.loop-start.invariant.found

pub returns-clause-all : goal.returns-clause-all
returns-clause-all c = starts-end c.loop-start.start-index c.args.starts.now c.loop-start.keys.keys c.loop-start-test.false c.loop-start.invariant.all
