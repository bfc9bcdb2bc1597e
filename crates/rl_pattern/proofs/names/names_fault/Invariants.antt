-- The first fault so far, and that of the remaining names; and which names came before.
use Rattle.std.proofs.Common.{◌≡◌, ℕ, List, [], take, drop, map, Bor}
use Rattle.std.specs.Ordering.{nat_cmp}
use Rattle.std.specs.Cmp.Lexicographic.{slice_cmp}
use Rattle.std.specs.BTreeSet as tree
use Rattle.rl_pattern.specs.internal.Judged.{called_of, is_among}
use Rattle.rl_pattern.specs.Found.{earlier, first_fault, name_faults}
use Rattle.rl_pattern.proofs.names.names_fault.Given as goal

abbrev pub invariant-loop-called : goal.invariant-loop-called
invariant-loop-called l = record {
  fault : earlier l.best (first_fault (name_faults (map called_of (take l.called-index l.names)) (map called_of (drop l.called-index l.names)))) ≡ first_fault (name_faults [] (map called_of l.names));
  stood : (name : Bor (List ℕ)) → tree.contains (λ x y. slice_cmp nat_cmp x.now y.now) l.before name ≡ is_among name.now (map called_of (take l.called-index l.names));
}
