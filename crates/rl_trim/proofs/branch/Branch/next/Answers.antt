use Rattle.rl_trim.proofs.SetLaws.{grown-grown}
use Rattle.rl_trim.proofs.TrimLaws.{trims-grown}
use Rattle.rl_trim.proofs.PairLaws.{next-key, next-same}
use Rattle.rl_trim.proofs.branch.Branch.next.Goals as goal

pub trim-requires-clause-trims : goal.trim-requires-clause-trims
trim-requires-clause-trims c = trims-grown c.args.self.now.automaton.now c.args.self.now.keep.now c.args.walk.now c.step.new.walk c.args.trims.now c.in_ok-first.ensures.grown c.requires.trims

pub trim-requires-2-clause-trims : goal.trim-requires-2-clause-trims
trim-requires-2-clause-trims c =
    let a = c.args.self.now.automaton.now in
    let v = c.args.walk.now in
    let w = c.step-2.new.walk in
    trims-grown a c.args.self.now.keep.now v w c.args.trims.now (grown-grown a v c.step.new.walk w c.in_ok-first.ensures.grown c.in_ok-whole.ensures.grown) c.requires.trims

pub returns-then-key-clause-next : goal.returns-then-key-clause-next
returns-then-key-clause-next c =
    next-same c.args.self.now.automaton.now c.args.self.now.keep.now c.args.walk.now c.step.new.walk c.trim.new.walk c.args.key c.args.letter c.in_ok-first.first c.in_ok-second.second
    c.requires.inside c.if-key.true c.in_ok-first.ensures c.in_ok-second.ensures.numbered

pub returns-clause-next : goal.returns-clause-next
returns-clause-next c =
    next-key c.args.self.now.automaton.now c.args.self.now.keep.now c.args.walk.now c.step.new.walk c.step-2.new.walk c.trim-2.new.walk c.args.key c.args.letter c.in_ok-first.first c.in_ok-whole.whole c.in_ok-second-2.second
    c.requires.inside c.in_ok-first.ensures c.in_ok-whole.ensures c.in_ok-second-2.ensures.numbered
