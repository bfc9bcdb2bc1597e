use Rattle.rl_cert.proofs.FormBack.{back, one}
use Rattle.rl_cert.proofs.laws.forms_are_read_back.Goals as goal

pub returns-clause-back : goal.returns-clause-back
returns-clause-back c = back

pub returns-clause-one : goal.returns-clause-one
returns-clause-one c = one
