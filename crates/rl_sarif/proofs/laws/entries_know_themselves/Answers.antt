use Rattle.std.proofs.Common.{map}
use Rattle.rl_sarif.specs.Keys.{key_of}
use Rattle.rl_sarif.proofs.SelfKnown.{all-known}
use Rattle.rl_sarif.proofs.laws.entries_know_themselves.Goals as goal

pub returns : goal.returns
returns c entries = all-known (map key_of entries)
