use Rattle.std.proofs.Common.{not}
use Rattle.rl_trim.specs.Twins.{is_kept}
use Rattle.rl_trim.proofs.RowLaws.{IsFilled}
use Rattle.rl_trim.proofs.branch.gone_of.Given as goal

abbrev pub invariant-loop-state : goal.invariant-loop-state
invariant-loop-state l = IsFilled (λ q. not (is_kept l.keep q)) l.states l.state l.gone
