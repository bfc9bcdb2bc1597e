use Rattle.std.proofs.Common.{sym, true≢false, arith}
use Rattle.rl_syntax.specs.declared.verdict.Limit.TheVariants.{Size}
use Rattle.rl_cert.specs.Holds.{question_of}
use Rattle.rl_cert.proofs.CheckLaws.{none-holds, held-sound}
use Rattle.rl_cert.proofs.checking.check.Goals as goal

pub returns-then-nodes-gt-MOST_NODES-clause-holds : goal.returns-then-nodes-gt-MOST_NODES-clause-holds
returns-then-nodes-gt-MOST_NODES-clause-holds c = none-holds (question_of c.args.l.now c.args.u c.args.max_pairs) c.args.c.now Size (omega (arith, c.if-nodes-gt-MOST_NODES.true, c.nodes.ensures))

pub returns-then-nodes-gt-MOST_NODES-clause-sound : goal.returns-then-nodes-gt-MOST_NODES-clause-sound
returns-then-nodes-gt-MOST_NODES-clause-sound c = λ yes. absurd (true≢false (sym yes))

pub returns-clause-sound : goal.returns-clause-sound
returns-clause-sound c = held-sound (question_of c.args.l.now c.args.u c.args.max_pairs) c.args.c.now _ c.checked_small.ensures
