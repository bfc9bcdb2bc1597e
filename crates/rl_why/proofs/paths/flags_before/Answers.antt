use Rattle.rl_why.proofs.PathSearch.{edges-inside}
use Rattle.rl_why.proofs.paths.flags_before.Goals as goal

pub has_flag-requires : goal.has_flag-requires
has_flag-requires c =
    edges-inside c.args.g.now c.loop-state.state c.args.letter _ c.edges.result.now c.edges.ensures.whole c.edges.ensures.targets c.requires.size
