use Rattle.std.proofs.Common.{subst, sym}
use Rattle.rl_judge.specs.RightReport.{HasChecked}
use Rattle.rl_judge.proofs.VisitLemmas.{checked_more}
use Rattle.rl_judge.proofs.checker.CheckerVisitor.visit.Goals as goal

pub returns-clause-told : goal.returns-clause-told
returns-clause-told c = λ visits h.
    checked_more c.self.inside.settings c.self.inside.entries c.in_ok-later.later c.append.new.entries c.self.inside.has_unread
    c.is_unread-self-inside.result c.args.visit visits c.in_ok-append.ensures c.is_unread-self-inside.ensures c.in_ok-later.ensures.right c.in_ok-later.ensures.universe
    (subst (λ k. HasChecked k visits) (sym c.self.view_is) h)
