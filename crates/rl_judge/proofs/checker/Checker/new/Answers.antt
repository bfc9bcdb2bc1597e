use Rattle.rl_judge.proofs.VisitLemmas.{checked_none}
use Rattle.rl_judge.proofs.checker.Checker.new.Goals as goal

pub returns-clause-told : goal.returns-clause-told
returns-clause-told c = checked_none c.args.settings c.new.result c.new.ensures
