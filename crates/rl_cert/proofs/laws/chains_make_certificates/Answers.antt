use Rattle.rl_cert.proofs.ChainWays.{way_of, levels_of}
use Rattle.rl_cert.proofs.laws.chains_make_certificates.Goals as goal

pub returns-clause-way : goal.returns-clause-way
returns-clause-way c = way_of

pub returns-clause-levels : goal.returns-clause-levels
returns-clause-levels c = levels_of
