-- A run in a block is a run of the text. It goes on after the block if no line ends there.
use Rattle.std.proofs.Common.{◌≡◌, ◌+◌, ◌≤◌, length, drop, arith}
use Rattle.std.specs.List.{prefix_len}
use Rattle.rl_pylex.specs.Bytes.{in_line}
use Rattle.rl_pylex.proofs.Lanes.{run_ends, run_goes_on}
use Rattle.rl_pylex.proofs.bytes.line_size.Goals as goal

pub returns-then-inside-lt-BLOCK-clause-value : goal.returns-then-inside-lt-BLOCK-clause-value
returns-then-inside-lt-BLOCK-clause-value c =
    let text = c.args.text.now in
    let room : c.loop-at.at + 16 ≤ length text = omega (arith, c.loop-at-test.true, c.loop-at.invariant.0) in
    let run = run_ends in_line c.loop-at.at c.line_in_block-inside.result text room c.line_in_block-inside.ensures c.if-inside-lt-BLOCK.true in
    omega (arith, run, c.loop-at.invariant.1)

pub loop-at-preserved : goal.loop-at-preserved
loop-at-preserved c =
    let text = c.args.text.now in
    let at = c.loop-at.at in
    let room : at + 16 ≤ length text = omega (arith, c.loop-at-test.true, c.loop-at.invariant.0) in
    let all : 16 ≤ c.line_in_block-inside.result = omega (arith, c.if-inside-lt-BLOCK.false) in
    let run = run_goes_on in_line at c.line_in_block-inside.result text room c.line_in_block-inside.ensures all in
    let on : prefix_len in_line text ≡ at + 16 + prefix_len in_line (drop (at + 16) text) = omega (arith, run, c.loop-at.invariant.1) in (room, on)
