use Rattle.std.proofs.Common.{length}
use Rattle.rl_source.proofs.Progress.{Progress}
use Rattle.rl_source.proofs.sinks.write_all.Given as goal

abbrev pub invariant-loop-rest : goal.invariant-loop-rest
invariant-loop-rest g l =
    Progress (g.O.Sink.bytes l.initial.out) (g.O.Sink.bytes l.out) (g.O.Sink.fault_count l.initial.out) (g.O.Sink.fault_count l.out) l.text l.rest

abbrev pub decreases-loop-rest : goal.decreases-loop-rest
decreases-loop-rest g l = length l.rest
