use Rattle.rl_sarif.proofs.KeyLemmas.{same_key-decides}
use Rattle.rl_sarif.proofs.laws.same_keys_are_equal.Goals as goal

pub returns : goal.returns
returns c a b = same_key-decides a b
