use Rattle.std.proofs.Common.{◌∙◌, ◌-◌, ap, arith, slice_index_or}
use Rattle.rl_ranges.specs.Letters.{letter_at}
use Rattle.rl_machine.proofs.ColumnLaws.{letters_before}
use Rattle.rl_machine.proofs.texts.counted_on.Goals as goal

pub loop-left-preserved : goal.loop-left-preserved
loop-left-preserved c =
    let codes = c.as_slice-codes.result.now in (
      omega (arith, c.loop-left.invariant.0, c.loop-left-test.true),
      rw (
        letters_before (letter_at c.args.a.now.table) codes c.loop-left.left 0 c.loop-left-test.true c.loop-left.invariant.0,
        ← (c.letter_of-letter.ensures.value ∙ ap (λ t. letter_at t (slice_index_or codes (c.loop-left.left - 1) 0)) c.letters.ensures),
      )
          (c.advance.ensures.in_front _ c.loop-left.invariant.1),
    )
