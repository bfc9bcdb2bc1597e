use Rattle.std.proofs.Common.{arith}
use Rattle.rl_syntax.specs.declared.verdict.Limit.TheVariants.{Size}
use Rattle.rl_cert.specs.Holds.{question_of}
use Rattle.rl_cert.proofs.MadeLaws.{limit-named}
use Rattle.rl_cert.proofs.making.make.Goals as goal

pub returns-then-nodes-gt-MOST_NODES-clause-undecided : goal.returns-then-nodes-gt-MOST_NODES-clause-undecided
returns-then-nodes-gt-MOST_NODES-clause-undecided c =
    let q = question_of c.args.l.now c.args.u c.args.max_pairs in
    λ limit same. limit-named q Size limit (omega (arith, c.if-nodes-gt-MOST_NODES.true, c.nodes.ensures)) same
