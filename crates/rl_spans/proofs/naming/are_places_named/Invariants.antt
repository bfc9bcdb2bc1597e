use Rattle.std.proofs.Common.{◌≡◌, map}
use Rattle.std.proofs.Math.ListN.{drop}
use Rattle.rl_spans.specs.internal.Names.{place_named}
use Rattle.rl_spans.proofs.naming.are_places_named.Given as goal

abbrev pub invariant-loop-index : goal.invariant-loop-index
invariant-loop-index l = map (place_named l.names) (drop l.index l.places) ≡ drop l.index l.wanted → map (place_named l.names) l.places ≡ l.wanted
