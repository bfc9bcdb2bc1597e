use Rattle.std.proofs.Common.{◌≡◌, ℕ, ◌<◌, false, [], length, get_or}
use Rattle.rl_sets.specs.Split.{AreSplitAt}
use Rattle.rl_sets.proofs.split.unsplit_states.Given as goal

abbrev pub invariant-loop-q : goal.invariant-loop-q
invariant-loop-q l = record {
  wide : length l.unsplit ≡ l.a.states;
  split : (k : ℕ) → k < l.q → get_or l.unsplit k false ≡ false → AreSplitAt l.a (get_or l.targets k []) l.barred k;
}
