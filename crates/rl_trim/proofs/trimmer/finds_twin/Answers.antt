use Rattle.rl_trim.proofs.TwinLaws.{twin-nothing}
use Rattle.rl_trim.proofs.trimmer.finds_twin.Goals as goal

pub has_twin-told-requires-clause-before : goal.has_twin-told-requires-clause-before
has_twin-told-requires-clause-before c = twin-nothing c.args.branch.now.automaton.now c.states-states.ensures.automaton
