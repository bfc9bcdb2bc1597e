-- The code points so far are appended to what was there.
use Rattle.std.proofs.Common.{◌≡◌, ◌++◌, take}
use Rattle.std.specs.List.{flat_map}
use Rattle.rl_pystr.specs.Quoting.{escaped}
use Rattle.rl_pystr.proofs.quoting.push_all_escaped.Given as goal

abbrev pub invariant-loop-code : goal.invariant-loop-code
invariant-loop-code l = l.out.items ≡ l.initial.out.items ++ flat_map (escaped l.bytes) (take l.code-index l.codes)
