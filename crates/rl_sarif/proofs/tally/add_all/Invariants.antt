-- The tally is that of the keys so far.
use Rattle.std.proofs.Common.{map, take}
use Rattle.rl_sarif.specs.Keys.{key_in}
use Rattle.rl_sarif.specs.Known.{times}
use Rattle.rl_sarif.specs.internal.Tally.{HasCounts}
use Rattle.rl_sarif.proofs.tally.add_all.Given as goal

abbrev pub invariant-loop-key : goal.invariant-loop-key
invariant-loop-key l = HasCounts l.tally (times (map key_in (take l.key-index l.keys)))
