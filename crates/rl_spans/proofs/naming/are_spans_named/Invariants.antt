use Rattle.std.proofs.Common.{◌≡◌, map}
use Rattle.std.proofs.Math.ListN.{drop}
use Rattle.rl_marks.specs.internal.Caps.{span_named}
use Rattle.rl_spans.specs.internal.Names.{place_named}
use Rattle.rl_spans.proofs.naming.are_spans_named.Given as goal

abbrev pub invariant-loop-index : goal.invariant-loop-index
invariant-loop-index l = map (span_named (place_named l.names)) (drop l.index l.spans) ≡ drop l.index l.wanted → map (span_named (place_named l.names)) l.spans ≡ l.wanted
