use Rattle.rl_degree.proofs.FiveTimes.{five_times}
use Rattle.rl_degree.proofs.WithoutSplit.{one_path_inside}
use Rattle.rl_degree.proofs.laws.five_times.Goals as goal

pub returns-clause-alone : goal.returns-clause-alone
returns-clause-alone c = one_path_inside

pub returns-clause-cross : goal.returns-clause-cross
returns-clause-cross c = λ next n k within s t a b lt apart w passages later many. five_times next n k within s t a b lt apart w passages later many
