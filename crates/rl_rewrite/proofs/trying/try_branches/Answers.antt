use Rattle.rl_syntax.specs.Pattern.{body_of, universe_of}
use Rattle.rl_rewrite.proofs.TriedOne.{none}
use Rattle.rl_rewrite.proofs.trying.try_branches.Goals as goal

pub try_all-requires-clause-tried : goal.try_all-requires-clause-tried
try_all-requires-clause-tried c = rw (c.new.ensures, c.new-2.ensures) (none (universe_of c.args.p.now) c.args.limit (body_of c.args.p.now) c.requires.before)

pub returns : goal.returns
returns c = c.in-Ok.ensures
