use Rattle.std.proofs.Common.{◌≡◌, ◌<◌, length, ap, refl, sym, subst, ◌∙◌, false, arith}
use Rattle.rl_walk.specs.declared.visits.Visit.TheVariants.{TooDeep, Unreadable}
use Rattle.rl_walk.specs.Children.{IsInOrder, has_source_name, path_below}
use Rattle.rl_walk.specs.Steps.{child_steps}
use Rattle.rl_walk.proofs.Doing.{on_ok, on_visit, folder-again, folder-deep, folder-unlisted, folder-listed, Does-none, Does-nothing, file-passed, children-turn}
use Rattle.rl_walk.proofs.walking.+folders.Goals as goal

pub enter-returns-then-not-branch-clause-does : goal.enter-returns-then-not-branch-clause-does
enter-returns-then-not-branch-clause-does g t c =
    folder-again _ _ _ _ c.in_ok-add.ensures.added c.in_ok-add.ensures.met _ _ _ c.if-not-branch.true

pub enter-returns-then-level-gt-MOST_LEVELS-clause-does : goal.enter-returns-then-level-gt-MOST_LEVELS-clause-does
enter-returns-then-level-gt-MOST_LEVELS-clause-does g t c =
    on_visit c.visit.result (g.V.Visitor.has_received c.args.visitor.now) (g.V.Visitor.has_received c.visit.new.self)
    (TooDeep c.in_ok-name.name) (TooDeep c.args.path.now) c.visit.ensures.told (ap TooDeep c.in_ok-name.ensures)
    (folder-deep _ _ _ _ c.in_ok-add.ensures.added c.in_ok-add.ensures.met c.if-not-branch.false _ _ _ _ c.if-level-gt-MOST_LEVELS.true)

pub enter-returns-in_ok-children-in-Ok-clause-does : goal.enter-returns-in_ok-children-in-Ok-clause-does
enter-returns-in_ok-children-in-Ok-clause-does g t c =
    let order = subst (IsInOrder c.in-Ok.children.items) (sym c.deref.ensures.value) c.in_ok-children-in-Ok.ensures in
    on_ok c.take_children.result
    (folder-listed _ _ _ _ c.in_ok-add.ensures.added c.in_ok-add.ensures.met c.if-not-branch.false _ _ _ _ _ _ _ _ _ c.if-level-gt-MOST_LEVELS.false
    c.in-Ok.ensures.told c.in-Ok.ensures.answer order c.in-Ok.ensures.cause.later)
    c.take_children.ensures.does

pub enter-returns-in_ok-unlisted-in-Err-Failed-clause-does : goal.enter-returns-in_ok-unlisted-in-Err-Failed-clause-does
enter-returns-in_ok-unlisted-in-Err-Failed-clause-does g t c =
    let trail = rw c.in-Err-Failed.field-0-is at c.in-Err-Failed.ensures.told in
    let cause = rw c.in-Err-Failed.field-0-is at c.in-Err-Failed.ensures.cause in
    on_visit c.visit-in-Err-Failed.result (g.V.Visitor.has_received c.args.visitor.now) (g.V.Visitor.has_received c.visit-in-Err-Failed.new.self)
    (Unreadable c.in_ok-unlisted-in-Err-Failed.unlisted) (Unreadable c.args.path.now) c.visit-in-Err-Failed.ensures.told (ap Unreadable c.in_ok-unlisted-in-Err-Failed.ensures)
    (folder-unlisted _ _ _ _ c.in_ok-add.ensures.added c.in_ok-add.ensures.met c.if-not-branch.false _ _ _ _ _ c.if-level-gt-MOST_LEVELS.false trail (cause.failed refl))

pub take_child-returns-else-has_source_name-clause-does : goal.take_child-returns-else-has_source_name-clause-does
take_child-returns-else-has_source_name-clause-does g t c =
    let no : has_source_name c.args.child.now.name ≡ false = ap has_source_name (sym c.as_str.ensures) ∙ sym c.has_source_name.ensures ∙ c.if-has_source_name.false in
    Does-nothing _ _ _ _ (file-passed _ _ _ _ c.in-File.is no)

pub take_child-returns-in-Other-clause-does : goal.take_child-returns-in-Other-clause-does
take_child-returns-in-Other-clause-does g t c =
    Does-nothing _ _ _ _ (ap (λ k. child_steps k c.args.child.now.name c.args.path.now c.args.level) c.in-Other.is)

pub take_children-loop-child-init : goal.take_children-loop-child-init
take_children-loop-child-init g t c = record { does = Does-none _ _ _; later = omega arith; config = refl }

pub take_children-loop-child-preserved : goal.take_children-loop-child-preserved
take_children-loop-child-preserved g t c =
    let within : c.loop-child.child-index < length c.args.children.now = omega arith in
    let at : c.as_str-in-loop-child.result.now ≡ path_below c.args.path.now c.child-item.result.name =
    c.as_str-in-loop-child.ensures.value ∙ c.in_ok-below.ensures ∙ ap (path_below c.args.path.now) c.as_str.ensures in
    record {
      does = children-turn c.args.path.now c.args.level c.args.children.now c.loop-child.child-index c.child-item.result c.as_str-in-loop-child.result.now within c.child-item.is at
          c.loop-child.invariant.does c.in_ok-take_child.ensures.does c.loop-child.invariant.later c.in_ok-take_child.ensures.later;
      later = omega (arith, c.loop-child.invariant.later, c.in_ok-take_child.ensures.later);
      config = c.in_ok-take_child.ensures.config ∙ c.loop-child.invariant.config;
    }
