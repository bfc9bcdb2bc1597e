use Rattle.std.proofs.Common.{◌<◌, [], length, get_or, inr, sym, subst, ◌∙◌, arith}
use Rattle.std.proofs.lemmas.Result.{err_from_is_err_and}
use Rattle.rl_syntax.specs.declared.limits.TheConstants.{MOST_MOVES}
use Rattle.rl_prio.specs.internal.Attempts.{ends_replaced}
use Rattle.rl_prio.proofs.build.lists.repeated.Goals as goal

pub returns-in_err-replace_ends-clause-moves : goal.returns-in_err-replace_ends-clause-moves
returns-in_err-replace_ends-clause-moves c =
    let p = err_from_is_err_and c.from_residual-in_err-replace_ends.result c.from_residual-in_err-replace_ends.ensures.1 in
    rw p.1 (λ e.
    let wide = c.in_err-replace_ends.ensures.moves (sym p.2 ∙ e) in
    inr (inr (
      wide.0,
      wide.1,
      omega (arith, wide.2, c.len-to.ensures, c.args.lists.now.ok.0),
      subst (λ l. MOST_MOVES < length (ends_replaced (get_or c.args.lists.now.items wide.0 []) l)) (c.as_slice.ensures ∙ c.in_ok-all.ensures.ok) wide.3,
    )))
