use Rattle.std.proofs.Common.{◌<◌, ◌^◌, length, subst, sym}
use Rattle.rl_spans.specs.Limits.{IsCause}
use Rattle.rl_spans.proofs.BaseLaws.{cause-of-first, cause-of-second}
use Rattle.rl_ask.proofs.AnswerLemmas.{error-with}
use Rattle.rl_ask.proofs.spans.difference.Goals as goal

pub returns-in_err-first-clause-causes : goal.returns-in_err-first-clause-causes
returns-in_err-first-clause-causes c =
    let how = c.args.how in
    let a = c.args.a.now in
    let b = c.args.b.now in
    let w = c.as_slice.result.now in
    let e = c.in_err-first.field-0.0 in
    let short : length w < 2 ^ 32 = subst (λ v. length v < 2 ^ 32) (sym c.as_slice.ensures) c.requires.short in
    error-with c.from_residual.result e (IsCause how a b) c.from_residual.ensures.1 (cause-of-first how a b w short e c.in_err-first.ensures.causes)

pub returns-in_err-second-clause-causes : goal.returns-in_err-second-clause-causes
returns-in_err-second-clause-causes c =
    let how = c.args.how in
    let a = c.args.a.now in
    let b = c.args.b.now in
    let w = c.as_slice-2.result.now in
    let e = c.in_err-second.field-0.0 in
    let short : length w < 2 ^ 32 = subst (λ v. length v < 2 ^ 32) (sym c.as_slice-2.ensures) c.requires.short in
    error-with c.from_residual-in_err-second.result e (IsCause how a b) c.from_residual-in_err-second.ensures.1
    (cause-of-second how a b w short e c.in_err-second.ensures.causes)
