-- The tally holds what the entries so far have left of the baseline's keys, and the positions are the unknown ones so far.
use Rattle.std.proofs.Common.{◌≡◌, ◌-◌, map, take}
use Rattle.rl_sarif.specs.Keys.{key_in, key_of}
use Rattle.rl_sarif.specs.Known.{times}
use Rattle.rl_sarif.specs.internal.Tally.{HasCounts}
use Rattle.rl_sarif.proofs.TallyLemmas.{so_far}
use Rattle.rl_sarif.proofs.positions.unknown_to.Given as goal

abbrev pub invariant-loop-position : goal.invariant-loop-position
invariant-loop-position l = record {
  rest : HasCounts l.tally (λ q. times (map key_in l.keys) q - times (take l.position (map key_of l.entries)) q);
  told : l.positions ≡ so_far (map key_in l.keys) (map key_of l.entries) l.position;
}
