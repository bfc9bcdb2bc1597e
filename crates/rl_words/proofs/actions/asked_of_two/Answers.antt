use Rattle.rl_words.proofs.ActionLemmas.{refused_two}
use Rattle.rl_words.proofs.actions.asked_of_two.Goals as goal

pub returns-in_default-clause-value : goal.returns-in_default-clause-value
returns-in_default-clause-value c =
    refused_two c.args.action c.args.first.now c.args.second.now c.requires c.in_default.not-Cost c.in_default.not-Sample c.in_default.not-Verify
    c.in_default.not-Compare
