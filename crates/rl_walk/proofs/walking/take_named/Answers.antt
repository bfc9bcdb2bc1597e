use Rattle.std.proofs.Common.{ap, refl}
use Rattle.rl_walk.specs.declared.visits.Visit.TheVariants.{NotPlain, Unreadable}
use Rattle.rl_walk.specs.Visits.{moment_of}
use Rattle.rl_walk.proofs.Doing.{on_ok, on_visit, named-known, named-unknown, other-told}
use Rattle.rl_source.specs.declared.nodes.Kind.TheVariants as kinds
use Rattle.rl_walk.proofs.walking.take_named.Goals as goal

pub returns-in-Ok-File-clause-does : goal.returns-in-Ok-File-clause-does
returns-in-Ok-File-clause-does g c =
    let answer = rw c.in-Ok-File.field-0-is at c.in-Ok-File.ensures.answer in
    on_ok c.take_file.result (named-known _ kinds.File _ _ _ _ _ _ _ c.in-Ok-File.ensures.told answer c.in-Ok-File.ensures.cause.later) c.take_file.ensures.does

pub returns-in-Ok-Folder-clause-does : goal.returns-in-Ok-Folder-clause-does
returns-in-Ok-Folder-clause-does g c =
    let answer = rw c.in-Ok-Folder.field-0-is at c.in-Ok-Folder.ensures.answer in
    on_ok c.enter.result (named-known _ kinds.Folder _ _ _ _ _ _ _ c.in-Ok-Folder.ensures.told answer c.in-Ok-Folder.ensures.cause.later) c.enter.ensures.does

pub returns-in_ok-name-in-Ok-Other-clause-does : goal.returns-in_ok-name-in-Ok-Other-clause-does
returns-in_ok-name-in-Ok-Other-clause-does g c =
    let answer = rw c.in-Ok-Other.field-0-is at c.in-Ok-Other.ensures.answer in
    on_visit c.visit.result (g.V.Visitor.has_received c.args.visitor.now) (g.V.Visitor.has_received c.visit.new.self)
    (NotPlain c.in_ok-name-in-Ok-Other.name) (NotPlain c.args.path.now) c.visit.ensures.told (ap NotPlain c.in_ok-name-in-Ok-Other.ensures)
    (λ told. named-known c.args.path.now kinds.Other _ _ _ _ _ _ _ c.in-Ok-Other.ensures.told answer c.in-Ok-Other.ensures.cause.later
    (other-told c.args.path.now c.args.met.now (moment_of g.T.Tree.told g.T.Tree.fault_count c.kind.new.self) _ _ told))

pub returns-in_ok-unknown-in-Err-Failed-clause-does : goal.returns-in_ok-unknown-in-Err-Failed-clause-does
returns-in_ok-unknown-in-Err-Failed-clause-does g c =
    let trail = rw c.in-Err-Failed.field-0-is at c.in-Err-Failed.ensures.told in
    let cause = rw c.in-Err-Failed.field-0-is at c.in-Err-Failed.ensures.cause in
    on_visit c.visit-in-Err-Failed.result (g.V.Visitor.has_received c.args.visitor.now) (g.V.Visitor.has_received c.visit-in-Err-Failed.new.self)
    (Unreadable c.in_ok-unknown-in-Err-Failed.unknown) (Unreadable c.args.path.now) c.visit-in-Err-Failed.ensures.told (ap Unreadable c.in_ok-unknown-in-Err-Failed.ensures)
    (named-unknown _ _ _ _ _ _ trail (cause.failed refl))
