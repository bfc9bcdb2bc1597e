-- One more token.
use Rattle.std.proofs.Common.{◌∙◌, refl, sym, ap, subst}
use Rattle.std.specs.Prelude.{All, Ok, Result}
use Rattle.std.proofs.lemmas.Result.{err_from_is_err_and}
use Rattle.rl_pylex.specs.Source.{IsReadAt}
use Rattle.rl_pystr.specs.declared.fault.StrError.{StrError}
use Rattle.rl_pystr.specs.declared.placed.Placed.{Placed}
use Rattle.rl_pystr.specs.Values.{joined_results, IsRefused}
use Rattle.rl_pystr.specs.Runs.{values}
use Rattle.rl_pystr.proofs.Bodies.{behind_first, front_done, front_read, front_refused, rest_read}
use Rattle.rl_pystr.proofs.run.push_values.Goals as goal

pub push_token-requires-clause-read : goal.push_token-requires-clause-read
push_token-requires-clause-read c =
    front_read c.args.source.now c.loop-rest.rest.now _ c.in-len1-up.len_at_least c.loop-rest.invariant.read

pub loop-rest-preserved : goal.loop-rest-preserved
loop-rest-preserved c =
    let rest = c.loop-rest.rest.now in
    record {
      same =
          c.loop-rest.invariant.same
          ∙ front_done c.args.bytes c.args.source.now rest _ _ c.loop-rest.out c.push_token.new.out c.in-len1-up.len_at_least refl c.in_ok-push_token.ensures.ok
          ∙ ap (λ ts. joined_results (Ok c.push_token.new.out) (values c.args.bytes c.args.source.now ts)) (sym (behind_first rest));
      read = subst (All (IsReadAt c.args.source.now)) (sym (behind_first rest)) (rest_read c.args.source.now rest c.loop-rest.invariant.read);
    }

pub returns-in_err-push_token-clause-err : goal.returns-in_err-push_token-clause-err
returns-in_err-push_token-clause-err c =
    let e = c.in_err-push_token.field-0.0 in
    let p = err_from_is_err_and c.from_residual.result c.from_residual.ensures.1 in
    rw (p.1, p.2) (subst (λ (r : Result Placed StrError). IsRefused r e) (sym c.loop-rest.invariant.same)
    (front_refused c.args.bytes c.args.source.now c.loop-rest.rest.now _ _ c.loop-rest.out e c.in-len1-up.len_at_least refl c.in_err-push_token.ensures.err))
