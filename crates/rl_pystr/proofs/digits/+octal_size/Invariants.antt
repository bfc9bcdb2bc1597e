-- One digit fewer may follow.
use Rattle.rl_pystr.proofs.digits.+octal_size.Given as goal

abbrev pub decreases-octal_size : goal.decreases-octal_size
decreases-octal_size l = l.most
