-- One more digit.
use Rattle.std.proofs.Common.{arith, ◌*◌, ◌+◌, ◌≤◌, le_refl, sym, ◌∙◌, ap, ap₂}
use Rattle.std.proofs.lemmas.Nat.{mul-le}
use Rattle.std.proofs.lemmas.List.Sums.{fold_more}
use Rattle.std.specs.Char.{digit_value}
use Rattle.rl_pystr.proofs.Numbers.{small_step, small_bound}
use Rattle.rl_pystr.proofs.digits.number_of.Goals as goal

pub overflow_mul-number : goal.overflow_mul-number
overflow_mul-number c =
    let n = c.loop-digit.number in
    let product : n * c.args.base ≤ n * 16 = mul-le n c.args.base n 16 (le_refl n) c.requires.base in
    let few : c.loop-digit.digit-index ≤ 8 = omega arith in
    omega (arith, product, small_bound n c.loop-digit.digit-index few c.loop-digit.invariant.1)

pub overflow_add-number : goal.overflow_add-number
overflow_add-number c =
    let n = c.loop-digit.number in
    let product : n * c.args.base ≤ n * 16 = mul-le n c.args.base n 16 (le_refl n) c.requires.base in
    let few : c.loop-digit.digit-index ≤ 8 = omega arith in
    omega (arith, product, small_bound n c.loop-digit.digit-index few c.loop-digit.invariant.1)

pub loop-digit-preserved : goal.loop-digit-preserved
loop-digit-preserved c =
    let b = c.args.base in
    let ds = c.args.digits.now in
    let i = c.loop-digit.digit-index in
    let d = c.digit-item.result in (
      ap₂ (λ n v. n * b + v) c.loop-digit.invariant.0 (c.digit_value.ensures.value ∙ ap digit_value c.digit-item.is)
          ∙ sym (fold_more (λ n digit. n * b + digit_value digit) 0 ds i d c.loop-digit-test.true),
      small_step b c.digit_value.result c.loop-digit.number i c.requires.base c.digit_value.ensures.within c.loop-digit.invariant.1,
    )
