use Rattle.rl_syntax.specs.declared.verdict.Limit.TheVariants.{Letters, Moves}
use Rattle.rl_cert.specs.Holds.{question_of}
use Rattle.rl_cert.proofs.MadeLaws.{limit-named, letters-named, moves-named}
use Rattle.rl_cert.proofs.making.made_small.Goals as goal

pub returns-in-Err-Letters-clause-undecided : goal.returns-in-Err-Letters-clause-undecided
returns-in-Err-Letters-clause-undecided c =
    let q = question_of c.args.l.now c.args.u c.args.max_pairs in
    λ limit same. limit-named q Letters limit (letters-named q c.requires.small (c.in-Err-Letters.ensures.letters c.in-Err-Letters.field-0-is)) same

pub returns-in-Err-Moves-clause-undecided : goal.returns-in-Err-Moves-clause-undecided
returns-in-Err-Moves-clause-undecided c =
    let q = question_of c.args.l.now c.args.u c.args.max_pairs in
    let moves = c.in-Err-Moves.ensures.moves c.in-Err-Moves.field-0-is in
    λ limit same. limit-named q Moves limit (moves-named q c.requires.small moves.0 moves.1) same

pub made_over-certificate-requires-clause-some : goal.made_over-certificate-requires-clause-some
made_over-certificate-requires-clause-some c = c.requires.some

pub made_over-certificate-requires-clause-few : goal.made_over-certificate-requires-clause-few
made_over-certificate-requires-clause-few c = c.requires.few

pub made_over-certificate-requires-clause-small : goal.made_over-certificate-requires-clause-small
made_over-certificate-requires-clause-small c = c.requires.small

pub returns-in-Ok-clause-holds : goal.returns-in-Ok-clause-holds
returns-in-Ok-clause-holds c = c.made_over-certificate.ensures.holds

pub returns-in-Ok-clause-told : goal.returns-in-Ok-clause-told
returns-in-Ok-clause-told c = c.made_over-certificate.ensures.told

pub returns-in-Ok-clause-fits : goal.returns-in-Ok-clause-fits
returns-in-Ok-clause-fits c = c.made_over-certificate.ensures.fits

pub returns-in-Ok-clause-undecided : goal.returns-in-Ok-clause-undecided
returns-in-Ok-clause-undecided c = c.made_over-certificate.ensures.undecided

pub returns-in-Ok-clause-too_large : goal.returns-in-Ok-clause-too_large
returns-in-Ok-clause-too_large c = c.made_over-certificate.ensures.too_large
