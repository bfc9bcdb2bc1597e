use Rattle.rl_syntax.specs.Tree.{tree_of}
use Rattle.rl_ask.proofs.CostLemmas.{cost-so}
use Rattle.rl_ask.proofs.cost.lowered_answer.Goals as goal

pub returns-in-Ok : goal.returns-in-Ok
returns-in-Ok c =
    cost-so c.counted-answer.result c.args.universe (tree_of c.args.lowered.now.tree) c.args.lowered.now.ending c.args.text.now c.in-Ok.automaton
    c.in-Ok.ensures.ok c.requires.small c.in-Ok.ensures.within c.counted-answer.ensures
