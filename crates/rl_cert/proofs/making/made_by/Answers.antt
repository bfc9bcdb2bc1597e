use Rattle.rl_cert.proofs.making.made_by.Goals as goal

pub exponential-certificate-requires-clause-stands : goal.exponential-certificate-requires-clause-stands
exponential-certificate-requires-clause-stands c = c.requires.stands

pub exponential-certificate-requires-clause-led : goal.exponential-certificate-requires-clause-led
exponential-certificate-requires-clause-led c = c.requires.led

pub polynomial-requires-clause-stands : goal.polynomial-requires-clause-stands
polynomial-requires-clause-stands c = c.requires.stands

pub polynomial-requires-clause-led : goal.polynomial-requires-clause-led
polynomial-requires-clause-led c = c.requires.led

pub polynomial-requires-clause-parts : goal.polynomial-requires-clause-parts
polynomial-requires-clause-parts c = c.requires.parts

pub returns-in-Ok-Some-clause-made : goal.returns-in-Ok-Some-clause-made
returns-in-Ok-Some-clause-made c = c.exponential-certificate.ensures.made

pub returns-in-Ok-Some-clause-told : goal.returns-in-Ok-Some-clause-told
returns-in-Ok-Some-clause-told c = c.exponential-certificate.ensures.told

pub returns-in-Ok-Some-clause-too_large : goal.returns-in-Ok-Some-clause-too_large
returns-in-Ok-Some-clause-too_large c = c.exponential-certificate.ensures.too_large

pub returns-in-Ok-None-clause-made : goal.returns-in-Ok-None-clause-made
returns-in-Ok-None-clause-made c = c.polynomial.ensures.made

pub returns-in-Ok-None-clause-told : goal.returns-in-Ok-None-clause-told
returns-in-Ok-None-clause-told c = c.polynomial.ensures.told

pub returns-in-Ok-None-clause-too_large : goal.returns-in-Ok-None-clause-too_large
returns-in-Ok-None-clause-too_large c = c.polynomial.ensures.too_large
