-- The first fault so far, and that of the remaining members.
use Rattle.std.proofs.Common.{flat_map, ◌≡◌, drop}
use Rattle.rl_pattern.specs.Found.{earlier, first_fault, member_faults}
use Rattle.rl_pattern.proofs.faults.members_fault.Given as goal

abbrev pub invariant-loop-member : goal.invariant-loop-member
invariant-loop-member l = earlier l.best (first_fault (flat_map member_faults (drop l.member-index l.members))) ≡ first_fault (flat_map member_faults l.members)
