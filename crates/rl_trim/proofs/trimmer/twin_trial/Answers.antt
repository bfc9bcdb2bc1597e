use Rattle.rl_trim.proofs.TwinLaws.{twin-found}
use Rattle.rl_trim.proofs.trimmer.twin_trial.Goals as goal

pub returns-in_ok-kept-clause-found : goal.returns-in_ok-kept-clause-found
returns-in_ok-kept-clause-found c =
    twin-found c.args.branch.now.automaton.now c.args.branch.now.keep.now c.args.limit c.in_ok-found.found c.requires.twin c.in_ok-found.ensures.found

pub returns-in_default : goal.returns-in_default
returns-in_default c = record {
  found = twin-found c.args.branch.now.automaton.now c.args.branch.now.keep.now c.args.limit c.in_ok-found.found c.requires.twin c.in_ok-found.ensures.found;
  store = c.in_ok-found.ensures.store;
}
