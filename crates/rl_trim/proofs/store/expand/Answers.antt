use Rattle.std.proofs.Common.{◌≡◌, ◌∙◌, length, ap, arith}
use Rattle.rl_ranges.specs.Letters.{LetterTable}
use Rattle.rl_prio.specs.Automaton.{letters_count}
use Rattle.rl_trim.proofs.ClosingLaws.{expanding-more, expanding-done}
use Rattle.rl_trim.proofs.store.expand.Goals as goal

pub loop-letter-preserved : goal.loop-letter-preserved
loop-letter-preserved c = expanding-more c.args.a.now c.loop-letter.walk c.step.new.walk c.args.set c.loop-letter.letter c.in_ok-step.ensures.grown c.in_ok-step.ensures.image c.loop-letter.invariant

pub returns : goal.returns
returns c =
    let e : c.count-letter-end.result ≡ letters_count c.args.a.now = c.count-letter-end.ensures ∙ ap (λ (t : LetterTable). length t.samples) c.letters.ensures in
    let all : c.loop-letter.letter ≡ letters_count c.args.a.now = omega (arith, c.loop-letter-test.false, c.loop-letter.auto) in
    expanding-done c.args.a.now c.loop-letter.walk c.args.set c.loop-letter.letter all c.loop-letter.invariant
