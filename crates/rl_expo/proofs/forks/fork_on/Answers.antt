use Rattle.rl_expo.proofs.SearchLaws.{row-in}
use Rattle.rl_expo.proofs.forks.fork_on.Goals as goal

pub partner-requires-clause-targets : goal.partner-requires-clause-targets
partner-requires-clause-targets c =
    rw (c.edges-row.ensures.targets, c.requires.places) (row-in c.args.g.now _ c.args.letter c.edges-row.ensures.whole)
