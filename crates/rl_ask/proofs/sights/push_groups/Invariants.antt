-- The groups so far and the groups that are left make up what is put behind what was there.
use Rattle.std.proofs.Common.{◌≡◌, ◌+◌, ◌++◌, drop}
use Rattle.std.specs.String.{string_bytes}
use Rattle.rl_ask.specs.Sights.{groups_text}
use Rattle.rl_ask.proofs.sights.push_groups.Given as goal

abbrev pub invariant-loop-index : goal.invariant-loop-index
invariant-loop-index l =
    string_bytes l.out ++ groups_text (l.index + 1) (drop l.index l.values) ≡ string_bytes l.initial.out ++ groups_text 1 l.values
