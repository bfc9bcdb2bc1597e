use Rattle.std.proofs.lemmas.Result.{err_from_is_err_and}
use Rattle.rl_syntax.specs.Tree.{tree_of}
use Rattle.rl_equiv.proofs.ReaderLaws.{are-readers, answer-told}
use Rattle.rl_equiv.proofs.comparing.same.Goals as goal

pub sameness-requires-clause-readers : goal.sameness-requires-clause-readers
sameness-requires-clause-readers c = are-readers c.args.u (tree_of c.args.a.now) (tree_of c.args.b.now) c.in_ok-joint.joint.first c.in_ok-joint.joint.second c.in_ok-joint.ensures.stand

pub returns-in_err-found-clause-exceeded : goal.returns-in_err-found-clause-exceeded
returns-in_err-found-clause-exceeded c =
    let p = err_from_is_err_and c.from_residual-in_err-found.result c.from_residual-in_err-found.ensures.1 in
    rw (p.1, p.2) tt

pub returns-clause-answer : goal.returns-clause-answer
returns-clause-answer c =
    (answer-told c.args.u (tree_of c.args.a.now) (tree_of c.args.b.now) c.in_ok-joint.joint.first c.in_ok-joint.joint.second c.in_ok-joint.ensures.stand c.args.limit c.in_ok-found.found c.in_ok-found.ensures.answer c.in_ok-found.ensures.apart).0

pub returns-clause-told : goal.returns-clause-told
returns-clause-told c =
    (answer-told c.args.u (tree_of c.args.a.now) (tree_of c.args.b.now) c.in_ok-joint.joint.first c.in_ok-joint.joint.second c.in_ok-joint.ensures.stand c.args.limit c.in_ok-found.found c.in_ok-found.ensures.answer c.in_ok-found.ensures.apart).1
