use Rattle.std.proofs.Common.{IfOk, subst}
use Rattle.rl_syntax.specs.Pattern.{body_of, universe_of}
use Rattle.rl_pattern.specs.Suggested.{without}
use Rattle.rl_equiv.specs.Bases.{IsBase}
use Rattle.rl_rewrite.proofs.Within.{left_small, left_within}
use Rattle.rl_rewrite.proofs.trying.trimmer_of.Goals as goal

pub tree_without-requires-clause-small : goal.tree_without-requires-clause-small
tree_without-requires-clause-small c = left_small (universe_of c.args.p.now) c.args.dropped.now (body_of c.args.p.now) c.requires.within c.requires.may

pub new-trimmer-requires-clause-within : goal.new-trimmer-requires-clause-within
new-trimmer-requires-clause-within c =
    rw (c.universe.ensures, c.in_ok-tree.ensures.tree) (left_within (universe_of c.args.p.now) c.args.dropped.now (body_of c.args.p.now) c.requires.within c.requires.may)

pub returns : goal.returns
returns c =
    let r = c.new-trimmer.result in
    subst (λ u. IfOk r (IsBase u (without c.args.dropped.now (body_of c.args.p.now)))) c.universe.ensures (subst (λ t. IfOk r (IsBase c.universe.result t)) c.in_ok-tree.ensures.tree c.new-trimmer.ensures)
