use Rattle.rl_pattern.proofs.Extending.{beyond_reads}
use Rattle.rl_pattern.proofs.laws.beyond_extends.Goals as goal

pub returns : goal.returns
returns c = beyond_reads
