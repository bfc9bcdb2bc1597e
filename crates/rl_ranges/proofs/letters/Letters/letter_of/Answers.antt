use Rattle.std.proofs.Common.{ap, arith, length, ◌∙◌}
use Rattle.rl_ranges.proofs.NumberingLemmas.{value-below}
use Rattle.rl_ranges.specs.Letters.{LetterTable, letter_at, letter_from}
use Rattle.rl_ranges.proofs.letters.Letters.letter_of.Goals as goal

pub returns-clause-value : goal.returns-clause-value
unfolding letter_at
returns-clause-value c =
    c.value_at.ensures ∙ ap (λ s. letter_from 0 s c.args.code) (c.deref.ensures.value ∙ ap (λ (t : LetterTable). t.stretches) c.self.view_is)

pub returns-clause-inside : goal.returns-clause-inside
returns-clause-inside c =
    let inside = value-below c.self.inside.stretches.items c.self.inside.codes (length c.self.inside.samples.items) c.args.code c.self.invariant.covers c.self.invariant.below in
    omega (arith, c.value_at.ensures, ap (λ s. letter_from 0 s c.args.code) c.deref.ensures.value, ap (λ (t : LetterTable). length t.samples) c.self.view_is)
