-- A run in a block is a run of the text. It goes on after the block if the whole block is plain.
use Rattle.std.proofs.Common.{◌≡◌, ◌+◌, ◌≤◌, length, drop, arith}
use Rattle.std.specs.List.{prefix_len}
use Rattle.rl_pylex.specs.internal.Bodies.{is_plain}
use Rattle.rl_pylex.proofs.Lanes.{run_ends, run_goes_on}
use Rattle.rl_pylex.proofs.literals.plain_size.Goals as goal

pub returns-then-plain-lt-BLOCK-clause-value : goal.returns-then-plain-lt-BLOCK-clause-value
returns-then-plain-lt-BLOCK-clause-value c =
    let text = c.args.text.now in
    let room : c.loop-at.at + 16 ≤ length text = omega (arith, c.loop-at-test.true, c.loop-at.invariant.0) in
    let run = run_ends is_plain c.loop-at.at c.plain_in_block-plain.result text room c.plain_in_block-plain.ensures c.if-plain-lt-BLOCK.true in
    omega (arith, run, c.loop-at.invariant.1)

pub loop-at-preserved : goal.loop-at-preserved
loop-at-preserved c =
    let text = c.args.text.now in
    let at = c.loop-at.at in
    let room : at + 16 ≤ length text = omega (arith, c.loop-at-test.true, c.loop-at.invariant.0) in
    let all : 16 ≤ c.plain_in_block-plain.result = omega (arith, c.if-plain-lt-BLOCK.false) in
    let run = run_goes_on is_plain at c.plain_in_block-plain.result text room c.plain_in_block-plain.ensures all in
    let on : prefix_len is_plain text ≡ at + 16 + prefix_len is_plain (drop (at + 16) text) = omega (arith, run, c.loop-at.invariant.1) in (room, on)
