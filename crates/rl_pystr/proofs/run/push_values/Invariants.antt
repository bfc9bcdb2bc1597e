-- The value read so far, followed by the values of the rest, is the whole value.
use Rattle.std.proofs.Common.{◌≡◌, All, length}
use Rattle.std.specs.Prelude.{Ok}
use Rattle.rl_pylex.specs.Source.{IsReadAt}
use Rattle.rl_pystr.specs.Values.{joined_results}
use Rattle.rl_pystr.specs.Runs.{values}
use Rattle.rl_pystr.proofs.run.push_values.Given as goal

abbrev pub invariant-loop-rest : goal.invariant-loop-rest
invariant-loop-rest l = record {
  same : joined_results (Ok l.initial.out) (values l.bytes l.source l.initial.rest) ≡ joined_results (Ok l.out) (values l.bytes l.source l.rest);
  read : All (IsReadAt l.source) l.rest;
}

abbrev pub decreases-loop-rest : goal.decreases-loop-rest
decreases-loop-rest l = length l.rest
