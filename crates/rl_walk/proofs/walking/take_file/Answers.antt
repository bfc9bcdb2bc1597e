use Rattle.std.proofs.Common.{ap, refl}
use Rattle.rl_walk.specs.declared.visits.Visit.TheVariants.{Source, Unreadable}
use Rattle.rl_walk.proofs.Doing.{on_visit, file-again, file-unread, file-source}
use Rattle.rl_walk.proofs.walking.take_file.Goals as goal

pub returns-then-not-branch-clause-does : goal.returns-then-not-branch-clause-does
returns-then-not-branch-clause-does g c =
    file-again _ _ _ _ c.in_ok-add.ensures.added c.in_ok-add.ensures.met _ _ c.if-not-branch.true

pub returns-in_ok-name-in-Ok-clause-does : goal.returns-in_ok-name-in-Ok-clause-does
returns-in_ok-name-in-Ok-clause-does g c =
    on_visit c.visit.result (g.V.Visitor.has_received c.args.visitor.now) (g.V.Visitor.has_received c.visit.new.self)
    (Source c.in_ok-name-in-Ok.name c.from_vec.result) (Source c.args.path.now c.in-Ok.bytes.items) c.visit.ensures.told (search (c.in_ok-name-in-Ok.ensures, c.from_vec.ensures))
    (file-source _ _ _ _ c.in_ok-add.ensures.added c.in_ok-add.ensures.met c.if-not-branch.false _ _ _ _ _ c.in-Ok.ensures.told c.in-Ok.ensures.answer)

pub returns-in_ok-unread-in-Err-Failed-clause-does : goal.returns-in_ok-unread-in-Err-Failed-clause-does
returns-in_ok-unread-in-Err-Failed-clause-does g c =
    let trail = rw c.in-Err-Failed.field-0-is at c.in-Err-Failed.ensures.told in
    let cause = rw c.in-Err-Failed.field-0-is at c.in-Err-Failed.ensures.cause in
    on_visit c.visit-in-Err-Failed.result (g.V.Visitor.has_received c.args.visitor.now) (g.V.Visitor.has_received c.visit-in-Err-Failed.new.self)
    (Unreadable c.in_ok-unread-in-Err-Failed.unread) (Unreadable c.args.path.now) c.visit-in-Err-Failed.ensures.told (ap Unreadable c.in_ok-unread-in-Err-Failed.ensures)
    (file-unread _ _ _ _ c.in_ok-add.ensures.added c.in_ok-add.ensures.met c.if-not-branch.false _ _ _ _ trail (cause.failed refl))
