-- The code points so far are appended to what was there.
use Rattle.std.proofs.Common.{◌≡◌, ◌++◌, take}
use Rattle.rl_pystr.proofs.quoting.push_all_plain.Given as goal

abbrev pub invariant-loop-code : goal.invariant-loop-code
invariant-loop-code l = l.out.items ≡ l.initial.out.items ++ take l.code-index l.codes
