use Rattle.std.proofs.Common.{◌∙◌, ap}
use Rattle.std.proofs.lemmas.List.{take_all}
use Rattle.rl_pairs.specs.Families.{letters_in}
use Rattle.rl_cert.proofs.lettering.letters_of.Goals as goal

pub returns-clause-same : goal.returns-clause-same
returns-clause-same c = c.loop-code.invariant.same ∙ ap (letters_in c.args.a.now) (take_all c.loop-code.code-index c.args.text.now c.loop-code-test.false)

pub returns-clause-inside : goal.returns-clause-inside
returns-clause-inside c = c.loop-code.invariant.inside
