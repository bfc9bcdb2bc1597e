-- One more token, and its brackets if it opens any.
use Rattle.std.proofs.Common.{◌≡◌, ◌+◌, ◌∙◌, sym, arith, length, ap, refl, subst, Bool, List}
use Rattle.rl_sites.specs.declared.significant.SignificantToken.{SignificantToken}
use Rattle.rl_sites.specs.internal.Walks.{IsTable, argument_size}
use Rattle.rl_sites.proofs.Tables.{table_drop}
use Rattle.rl_sites.proofs.Walking.{size_ends, size_goes, step_size, step_table}
use Rattle.rl_sites.proofs.arguments.argument_size.Goals as goal

pub returns-then-ends_argument-clause-value : goal.returns-then-ends_argument-clause-value
returns-then-ends_argument-clause-value c =
    let ends : argument_size c.args.source.now 0 c.loop-left.in_lambda c.loop-left.left.now ≡ 0 =
    size_ends c.args.source.now c.loop-left.in_lambda c.loop-left.left.now _ _ c.in-len1-up.len_at_least refl
    (sym c.ends_argument.ensures ∙ c.if-ends_argument.true) in
    omega (arith, ends)

pub jump_size-inner-requires : goal.jump_size-inner-requires
jump_size-inner-requires c =
    subst (λ (xs : List SignificantToken). IsTable c.args.source.now xs c.args.sizes.now) (sym c.rest_from-after.ensures)
    (table_drop c.args.source.now c.loop-left.left.now c.args.sizes.now 1 c.loop-left.invariant.table)

pub loop-left-preserved : goal.loop-left-preserved
loop-left-preserved c =
    let size : length c.rest_from-left.result.now + c.jump_size-inner.result + 1 ≡ length c.loop-left.left.now =
    step_size c.loop-left.left.now c.rest_from-after.result.now c.rest_from-left.result.now c.jump_size-inner.result
    c.in-len1-up.len_at_least c.rest_from-after.ensures c.jump_size-inner.ensures.within c.rest_from-left.ensures in
    let goes =
    size_goes c.args.source.now c.loop-left.in_lambda c.loop-left.left.now c.rest_from-after.result.now c.rest_from-left.result.now _ _ c.jump_size-inner.result
    c.in-len1-up.len_at_least refl (sym c.ends_argument.ensures ∙ c.if-ends_argument.false) c.rest_from-after.ensures c.jump_size-inner.ensures.value c.rest_from-left.ensures in
    let lambda = ap (λ (b : Bool). argument_size c.args.source.now 0 b c.rest_from-left.result.now) c.lambda_after-in_lambda.ensures in
    record {
      within = omega (arith, size);
      same = omega (arith, size, goes, lambda);
      table = step_table c.args.source.now c.loop-left.left.now c.rest_from-after.result.now c.rest_from-left.result.now c.args.sizes.now c.jump_size-inner.result
          c.loop-left.invariant.table c.rest_from-after.ensures c.rest_from-left.ensures;
    }
