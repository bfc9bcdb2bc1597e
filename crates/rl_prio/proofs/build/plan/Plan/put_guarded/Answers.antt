use Rattle.std.proofs.Common.{arith}
use Rattle.rl_prio.specs.internal.Plans.{row_of}
use Rattle.rl_prio.proofs.PlanLemmas.{guarded_more, letters_all}
use Rattle.rl_prio.proofs.build.plan.Plan.put_guarded.Goals as goal

pub loop-letter-preserved : goal.loop-letter-preserved
loop-letter-preserved c =
    guarded_more c.args.self.now c.args.before c.index.result.now c.index.result.now c.args.attempts.now c.holding-held.result c.args.rows.now
    c.loop-letter.rows c.put_each.new.rows c.close.new.self c.loop-letter.letter
    (omega (arith, c.loop-letter-test.true, c.len-letter-end.ensures, c.args.self.now.next.ok.0))
    c.index.ensures c.holding-held.ensures c.loop-letter.invariant c.in_ok-put_each.ensures c.in_ok-close.ensures.closed

pub returns : goal.returns
returns c =
    letters_all c.args.self.now (row_of c.args.self.now c.args.before c.args.attempts.now) c.args.rows.now c.loop-letter.rows c.loop-letter.letter
    (omega (arith, c.len-letter-end.ensures, c.args.self.now.next.ok.0, c.requires.sound.next_count)) c.loop-letter.invariant
