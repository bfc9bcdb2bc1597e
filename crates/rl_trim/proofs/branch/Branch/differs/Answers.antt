use Rattle.std.proofs.Common.{not, ap₂}
use Rattle.std.proofs.Math.Bool.{beq}
use Rattle.rl_trim.proofs.PairLaws.{same-calm}
use Rattle.rl_trim.proofs.branch.Branch.differs.Goals as goal

pub returns-then-key : goal.returns-then-key
returns-then-key c = same-calm c.args.self.now.automaton.now c.args.walk.now c.args.key c.if-key.true

pub returns : goal.returns
returns c = ap₂ (λ x y. not (beq x y)) c.ends.ensures c.ends-2.ensures
