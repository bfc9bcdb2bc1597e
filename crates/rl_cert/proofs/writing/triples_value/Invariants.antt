use Rattle.std.proofs.Common.{◌≡◌, map, take}
use Rattle.serde_json.specs.View.{view}
use Rattle.rl_cert.specs.Form.{row_data, triple_row}
use Rattle.rl_cert.proofs.writing.triples_value.Given as goal

abbrev pub invariant-loop-triple : goal.invariant-loop-triple
invariant-loop-triple l = map view l.values.items ≡ map (λ a. row_data (triple_row a)) (take l.triple-index l.triples)
