use Rattle.std.proofs.Common.{arith}
use Rattle.rl_words.proofs.ActionLemmas.{refused_many}
use Rattle.rl_words.proofs.actions.asked_without_paths.Goals as goal

pub returns-in-empty-clause-value : goal.returns-in-empty-clause-value
returns-in-empty-clause-value c = refused_many c.args.action c.args.args.now c.requires (omega arith) (omega arith)

pub returns-in_default-clause-value : goal.returns-in_default-clause-value
returns-in_default-clause-value c = refused_many c.args.action c.args.args.now c.requires (omega arith) (omega arith)
