use Rattle.std.proofs.Common.{[], ◌∷◌, ◌++◌, sym, ap₂, ◌∙◌, arith}
use Rattle.std.proofs.lemmas.List.{take_more, take_all}
use Rattle.rl_prio.proofs.build.codes.samples.Goals as goal

pub loop-letter-preserved : goal.loop-letter-preserved
loop-letter-preserved c =
    c.in_ok-push.ensures.items ∙ ap₂ (λ l x. l ++ x ∷ []) c.loop-letter.invariant c.sample.ensures
    ∙ sym (take_more c.args.letters.now.samples c.loop-letter.letter 0 (omega (arith, c.loop-letter-test.true, c.count-letter-end.ensures)))

pub returns : goal.returns
returns c =
    c.loop-letter.invariant
    ∙ take_all c.loop-letter.letter c.args.letters.now.samples (omega (arith, c.loop-letter-test.false, c.count-letter-end.ensures))
