use Rattle.std.proofs.Common.{◌≡◌, drop}
use Rattle.rl_cert.specs.Form.{all_of, triple_of}
use Rattle.rl_cert.proofs.AllRows.{all_on}
use Rattle.rl_cert.proofs.reading.triples_of.Given as goal

abbrev pub invariant-loop-row : goal.invariant-loop-row
invariant-loop-row l = all_on triple_of l.triples (drop l.row-index l.rows) ≡ all_of triple_of l.rows
