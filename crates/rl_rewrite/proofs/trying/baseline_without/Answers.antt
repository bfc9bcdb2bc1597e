use Rattle.rl_syntax.specs.Pattern.{body_of, universe_of}
use Rattle.rl_rewrite.proofs.Within.{left_small, left_within}
use Rattle.rl_rewrite.proofs.trying.baseline_without.Goals as goal

pub tree_without-requires-clause-small : goal.tree_without-requires-clause-small
tree_without-requires-clause-small c = left_small (universe_of c.args.p.now) c.args.dropped.now (body_of c.args.p.now) c.requires.within c.requires.may

pub next_baseline-requires-clause-within : goal.next_baseline-requires-clause-within
next_baseline-requires-clause-within c =
    rw (c.universe.ensures, c.in_ok-after.ensures.tree) (left_within (universe_of c.args.p.now) c.args.dropped.now (body_of c.args.p.now) c.requires.within c.requires.may)
