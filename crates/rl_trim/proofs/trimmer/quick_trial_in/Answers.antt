use Rattle.rl_trim.proofs.HolderLaws.{stored-grown}
use Rattle.rl_trim.proofs.trimmer.quick_trial_in.Goals as goal

pub returns-clause-store : goal.returns-clause-store
returns-clause-store c = record {
  sets = stored-grown c.args.branch.now.automaton.now c.args.store.now.walk c.quick_trial.new.walk c.args.store.now.reached c.in_ok-told.ensures.grown c.requires.sets;
  known = c.requires.known;
}
