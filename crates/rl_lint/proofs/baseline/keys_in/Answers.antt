use Rattle.std.proofs.Common.{Err, ap, subst, sym}
use Rattle.rl_sarif.specs.Baseline.{IsBaseline}
use Rattle.rl_lint.proofs.CheckLemmas.{no-keys}
use Rattle.rl_lint.proofs.baseline.keys_in.Goals as goal

pub returns-in-Err-Refused : goal.returns-in-Err-Refused
returns-in-Err-Refused c =
    no-keys c.args.bytes.items
    (λ keys is. c.in-Err-Refused.ensures.refused (ap Err c.in-Err-Refused.field-0-is) keys (subst (λ b. IsBaseline b keys) (sym c.from_vec-bytes.ensures) is))
