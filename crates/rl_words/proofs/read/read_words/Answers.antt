use Rattle.std.proofs.Common.{◌∙◌, Err, ap, map, refl, sym}
use Rattle.std.specs.String.{string_bytes}
use Rattle.std.proofs.lemmas.Result.{IfOk-weaker}
use Rattle.rl_words.specs.Command.{rows_given}
use Rattle.rl_words.proofs.GivenLemmas.{given_none, given_rows, same_error}
use Rattle.rl_words.proofs.read.read_words.Goals as goal

pub returns-in-Err-clause-invalid : goal.returns-in-Err-clause-invalid
returns-in-Err-clause-invalid c = λ invalid.
    let same = ap (λ words. rows_given (map string_bytes words)) (sym c.as_slice.ensures.value) in
    given_none _ (same ∙ c.in-Err.ensures.invalid (ap Err (same_error (Err c.in-Err.error) _ _ refl invalid)))

pub returns-in-Ok-clause-ok : goal.returns-in-Ok-clause-ok
returns-in-Ok-clause-ok c =
    let same = ap (λ words. rows_given (map string_bytes words)) (sym c.as_slice.ensures.value) in
    IfOk-weaker c.call_given-call.result _ _ (λ w e. given_rows _ _ _ (same ∙ c.in-Ok.ensures.ok) (sym e)) c.call_given-call.ensures.ok

pub returns-in-Ok-clause-invalid : goal.returns-in-Ok-clause-invalid
returns-in-Ok-clause-invalid c = λ invalid.
    let same = ap (λ words. rows_given (map string_bytes words)) (sym c.as_slice.ensures.value) in
    given_rows _ _ _ (same ∙ c.in-Ok.ensures.ok) (sym (c.call_given-call.ensures.invalid invalid))
