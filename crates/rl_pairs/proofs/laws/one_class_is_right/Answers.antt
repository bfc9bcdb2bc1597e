use Rattle.rl_pairs.proofs.OneClass.{one_degree, degree_or_expo, undecided_or_degree, undecided_or_expo}
use Rattle.rl_pairs.proofs.laws.one_class_is_right.Goals as goal

pub returns-clause-degrees : goal.returns-clause-degrees
returns-clause-degrees c = one_degree

pub returns-clause-exponential : goal.returns-clause-exponential
returns-clause-exponential c = degree_or_expo

pub returns-clause-undecided : goal.returns-clause-undecided
returns-clause-undecided c = undecided_or_degree

pub returns-clause-undecided_or_expo : goal.returns-clause-undecided_or_expo
returns-clause-undecided_or_expo c = undecided_or_expo
