use Rattle.std.proofs.Common.{refl, subst}
use Rattle.std.specs.Str.{chars}
use Rattle.rl_walk.specs.Visits.{moment_of}
use Rattle.rl_lint.specs.internal.Parsed.{IsArgument}
use Rattle.rl_lint.proofs.PatternLemmas.{verifies-refused, verifies-parsed}
use Rattle.rl_lint.proofs.verify.verify_plan.Goals as goal

pub returns-in-Refused-clause-verifies : goal.returns-in-Refused-clause-verifies
returns-in-Refused-clause-verifies g c =
    let read = subst (λ w. IsArgument (chars c.args.pattern.now) w) c.in-Refused.is c.in_ok-message.ensures in
    verifies-refused _ _ _ _ _ _ c.in-Refused.message read refl

pub returns-in-Parsed-clause-verifies : goal.returns-in-Parsed-clause-verifies
returns-in-Parsed-clause-verifies g c =
    let read = subst (λ w. IsArgument (chars c.args.pattern.now) w) c.in-Parsed.is c.in_ok-message.ensures in
    verifies-parsed _ _ _ _
    (moment_of g.T.Tree.told g.T.Tree.fault_count c.args.tree.now) (moment_of g.T.Tree.told g.T.Tree.fault_count c.file_plan-plan.new.tree) _ c.in-Parsed.pattern read c.file_plan-plan.ensures.verifies
