-- The law follows from the fact that there is only one cut of a source.
use Rattle.rl_pylex.proofs.Uniqueness.{one_list, no_fault, one_fault}
use Rattle.rl_pylex.proofs.laws.one_answer.Goals as goal

pub returns : goal.returns
returns c = record { one_list = one_list; no_fault = no_fault; one_fault = one_fault }
