use Rattle.std.proofs.Common.{◌∙◌, sym}
use Rattle.rl_sets.specs.Walk.{set_at}
use Rattle.rl_trim.proofs.ChangeLaws.{joined-first, joined-second}
use Rattle.rl_trim.proofs.changes.changes_on.Goals as goal

pub returns-clause-first : goal.returns-clause-first
returns-clause-first c =
    joined-first c.args.a.now c.in_ok-row.row c.in_ok-other.other c.or_into.new.self (set_at c.args.walk.now c.args.key.first) (c.in_ok-row.ensures.wide ∙ sym c.in_ok-other.ensures.wide) c.or_into.ensures.union c.in_ok-row.ensures.same

pub returns-clause-second : goal.returns-clause-second
returns-clause-second c =
    joined-second c.args.a.now c.in_ok-row.row c.in_ok-other.other c.or_into.new.self (set_at c.args.walk.now c.args.key.second) (c.in_ok-row.ensures.wide ∙ sym c.in_ok-other.ensures.wide) c.or_into.ensures.union c.in_ok-other.ensures.same
