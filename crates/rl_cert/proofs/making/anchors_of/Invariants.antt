use Rattle.std.proofs.Common.{◌≡◌, map, take}
use Rattle.rl_cert.proofs.MadeLaws.{anchor_at}
use Rattle.rl_cert.proofs.making.anchors_of.Given as goal

abbrev pub invariant-loop-place : goal.invariant-loop-place
invariant-loop-place l = l.anchors ≡ map anchor_at (take l.place l.splits)
