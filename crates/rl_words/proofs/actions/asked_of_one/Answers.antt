use Rattle.rl_words.proofs.ActionLemmas.{refused_one}
use Rattle.rl_words.proofs.actions.asked_of_one.Goals as goal

pub returns-in_default-clause-value : goal.returns-in_default-clause-value
returns-in_default-clause-value c = refused_one c.args.action c.args.argument.now c.requires c.in_default.not-Class c.in_default.not-Prove
