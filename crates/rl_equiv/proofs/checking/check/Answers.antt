use Rattle.std.proofs.Common.{List, IfOk, IsTrue, ◌↔◌, subst}
use Rattle.rl_syntax.specs.Tree.{tree_of}
use Rattle.rl_equiv.specs.declared.pair.SetPair.{SetPair}
use Rattle.rl_equiv.specs.SetPairs.{IsClosed}
use Rattle.rl_equiv.specs.internal.Machines.{pairs_of}
use Rattle.rl_equiv.proofs.CheckLaws.{share-letters, checked, checked-same}
use Rattle.rl_equiv.proofs.checking.check.Goals as goal

pub is_closed-closed-requires : goal.is_closed-closed-requires
is_closed-closed-requires c =
    share-letters c.args.u (tree_of c.args.a.now) (tree_of c.args.b.now) c.in-Ok.joint.first c.in-Ok.joint.second c.args.r.now c.in-Ok.ensures.stand c.in-Ok.ensures.within

pub returns-in-Ok-clause-closed : goal.returns-in-Ok-clause-closed
returns-in-Ok-clause-closed c =
    let a = c.in-Ok.joint.first in
    let b = c.in-Ok.joint.second in
    let h = subst (λ (l : List SetPair). IfOk c.is_closed-closed.result (λ ok. IsTrue ok ↔ IsClosed (pairs_of a b) l)) c.as_slice.ensures c.is_closed-closed.ensures in
    checked c.args.u (tree_of c.args.a.now) (tree_of c.args.b.now) a b c.args.r.now c.in-Ok.ensures.stand c.in-Ok.ensures.within c.is_closed-closed.result h

pub returns-in-Ok-clause-same : goal.returns-in-Ok-clause-same
returns-in-Ok-clause-same c =
    let a = c.in-Ok.joint.first in
    let b = c.in-Ok.joint.second in
    let h = subst (λ (l : List SetPair). IfOk c.is_closed-closed.result (λ ok. IsTrue ok ↔ IsClosed (pairs_of a b) l)) c.as_slice.ensures c.is_closed-closed.ensures in
    checked-same c.args.u (tree_of c.args.a.now) (tree_of c.args.b.now) a b c.args.r.now c.in-Ok.ensures.stand c.in-Ok.ensures.within c.is_closed-closed.result h
