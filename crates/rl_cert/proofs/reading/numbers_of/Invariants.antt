use Rattle.std.proofs.Common.{◌≡◌, drop}
use Rattle.serde_json.specs.View.{items_view}
use Rattle.rl_cert.specs.Form.{items_read, number_read}
use Rattle.rl_cert.proofs.ReadRows.{read_on}
use Rattle.rl_cert.proofs.reading.numbers_of.Given as goal

abbrev pub invariant-loop-value : goal.invariant-loop-value
invariant-loop-value l = read_on number_read l.row (drop l.value-index l.values) ≡ items_read number_read (items_view l.values)
