use Rattle.rl_syntax.specs.Pattern.{body_of, universe_of}
use Rattle.rl_pattern.specs.Suggested.{among}
use Rattle.rl_rewrite.proofs.LeftParts.{left_judged}
use Rattle.rl_rewrite.proofs.leaving.tree_without.Goals as goal

pub new-left-requires : goal.new-left-requires
new-left-requires c =
    rw (c.universe.ensures, c.in_ok-body.ensures, c.body.ensures.same) (left_judged (universe_of c.args.p.now) (among c.args.dropped.now) (body_of c.args.p.now) c.requires.guardless c.body.ensures.judged)
