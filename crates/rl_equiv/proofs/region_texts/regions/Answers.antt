use Rattle.rl_syntax.specs.Tree.{tree_of}
use Rattle.rl_equiv.proofs.ReaderLaws.{are-readers}
use Rattle.rl_equiv.proofs.ToldLaws.{regions-told}
use Rattle.rl_equiv.proofs.region_texts.regions.Goals as goal

pub regions_of-requires-clause-readers : goal.regions_of-requires-clause-readers
regions_of-requires-clause-readers c = are-readers c.args.u (tree_of c.args.a.now) (tree_of c.args.b.now) c.in_ok-joint.joint.first c.in_ok-joint.joint.second c.in_ok-joint.ensures.stand

pub returns-clause-regions : goal.returns-clause-regions
returns-clause-regions c = c.in-Ok.ensures c.args.u (tree_of c.args.a.now) (tree_of c.args.b.now) c.in_ok-joint.ensures.stand

pub returns-clause-told : goal.returns-clause-told
returns-clause-told c =
    regions-told c.args.u (tree_of c.args.a.now) (tree_of c.args.b.now) c.in_ok-joint.joint.first c.in_ok-joint.joint.second c.in_ok-joint.ensures.stand c.args.limit _
    (c.in-Ok.ensures c.args.u (tree_of c.args.a.now) (tree_of c.args.b.now) c.in_ok-joint.ensures.stand)
