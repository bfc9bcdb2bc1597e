-- One digit fewer is left.
use Rattle.rl_pystr.proofs.quoting.+push_hex.Given as goal

abbrev pub decreases-push_hex : goal.decreases-push_hex
decreases-push_hex l = l.count
