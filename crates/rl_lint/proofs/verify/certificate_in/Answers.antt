use Rattle.std.proofs.Common.{Err, ap, subst, sym}
use Rattle.rl_cert.specs.Form.{IsForm}
use Rattle.rl_lint.proofs.verify.certificate_in.Goals as goal

pub returns-in-Err-Refused : goal.returns-in-Err-Refused
returns-in-Err-Refused c = λ x is.
    c.in-Err-Refused.ensures.refused (ap Err c.in-Err-Refused.field-0-is) x (subst (λ b. IsForm b x) (sym c.from_vec-bytes.ensures) is)
