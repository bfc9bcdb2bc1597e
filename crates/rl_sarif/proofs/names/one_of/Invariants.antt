-- The text equals none of the names so far.
use Rattle.std.proofs.Common.{◌≡◌, drop}
use Rattle.rl_sarif.specs.Baseline.{one_of}
use Rattle.rl_sarif.proofs.NameLemmas.{names}
use Rattle.rl_sarif.proofs.names.one_of.Given as goal

abbrev pub invariant-loop-name : goal.invariant-loop-name
invariant-loop-name l = one_of (names (drop l.name-index l.names)) l.text ≡ one_of (names l.names) l.text
