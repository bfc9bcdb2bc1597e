use Rattle.std.proofs.Common.{◌≡◌, drop}
use Rattle.rl_cert.specs.Form.{all_of, anchor_of}
use Rattle.rl_cert.proofs.AllRows.{all_on}
use Rattle.rl_cert.proofs.reading.anchors_of.Given as goal

abbrev pub invariant-loop-row : goal.invariant-loop-row
invariant-loop-row l = all_on anchor_of l.anchors (drop l.row-index l.rows) ≡ all_of anchor_of l.rows
