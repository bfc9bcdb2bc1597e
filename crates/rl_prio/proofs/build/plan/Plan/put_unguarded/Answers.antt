use Rattle.std.proofs.Common.{map, arith}
use Rattle.rl_prio.specs.internal.Plans.{target_of}
use Rattle.rl_prio.proofs.PlanLemmas.{letter_more, letters_all}
use Rattle.rl_prio.proofs.build.plan.Plan.put_unguarded.Goals as goal

pub loop-letter-preserved : goal.loop-letter-preserved
loop-letter-preserved c =
    letter_more (λ letter. map (target_of c.args.self.now letter) c.args.attempts.now) c.args.rows.now c.loop-letter.rows c.put_targets.new.rows c.close.new.self
    c.loop-letter.letter c.loop-letter.invariant c.in_ok-put_targets.ensures c.in_ok-close.ensures.closed

pub returns : goal.returns
returns c =
    letters_all c.args.self.now (λ letter. map (target_of c.args.self.now letter) c.args.attempts.now) c.args.rows.now c.loop-letter.rows c.loop-letter.letter
    (omega (arith, c.len-letter-end.ensures, c.args.self.now.next.ok.0, c.requires.sound.next_count)) c.loop-letter.invariant
