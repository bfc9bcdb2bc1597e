use Rattle.std.proofs.Common.{◌∷◌, [], arith}
use Rattle.std.proofs.lemmas.Grind.{common_steps}
use Rattle.rl_rewrite.proofs.TriedOne.{last_of}
use Rattle.rl_rewrite.proofs.trying.try_each.Goals as goal

pub loop-branch-preserved : goal.loop-branch-preserved
loop-branch-preserved c =
    let inv = c.loop-branch.invariant in (
      c.in-Some.branch.now ∷ inv.0,
      last_of c.loop-branch.branch-iterator.iter.rest.now c.next.new.self.iter.rest.now inv.0 c.args.branches.now c.in-Some.branch.now (grind (arith, common_steps)) inv.1,
      c.in_ok-try_branch.ensures.tried inv.0 inv.2,
      c.in_ok-try_branch.ensures.tree,
      c.in_ok-try_branch.ensures.universe,
      c.in_ok-try_branch.ensures.begun,
    )

pub loop-branch-init : goal.loop-branch-init
loop-branch-init c = ([], grind (arith, common_steps), c.requires.tried, c.requires.tree, c.requires.universe, c.requires.begun)
