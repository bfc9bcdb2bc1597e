use Rattle.std.proofs.Common.{◌≡◌, length, ap, ◌∙◌, arith}
use Rattle.std.proofs.lemmas.Result.{err_from_is_err_and}
use Rattle.rl_ranges.specs.Letters.{LetterTable}
use Rattle.rl_prio.specs.Automaton.{letters_count}
use Rattle.rl_pairs.proofs.CountingLaws.{closing-start, closing-counted, closing-more, closing-last}
use Rattle.rl_pairs.proofs.counting.close_set.Goals as goal

pub loop-letter-init : goal.loop-letter-init
loop-letter-init c = closing-start c.args.a.now c.args.walk.now c.args.set c.requires.counting c.requires.closed

pub image_of-requires : goal.image_of-requires
image_of-requires c =
    let i = c.loop-letter.invariant in
    let e : c.count-end.result ≡ letters_count c.args.a.now = c.count-end.ensures ∙ ap (λ (t : LetterTable). length t.samples) c.letters.ensures in
    record {
      counting = i.onward.counting;
      set_in = omega (arith, c.requires.set_in, i.onward.keeps.longer);
      letter_in = omega arith;
      counted = closing-counted c.args.a.now c.args.walk.now c.loop-letter.walk c.args.set c.loop-letter.letter c.loop-letter.letter i c.requires.set_in c.requires.free (omega arith);
    }

pub returns-in_err-image_of-clause-errors : goal.returns-in_err-image_of-clause-errors
returns-in_err-image_of-clause-errors c limit = let p = err_from_is_err_and c.from_residual.result c.from_residual.ensures.1 in rw (p.1, p.2) (c.in_err-image_of.ensures.errors limit)

pub loop-letter-preserved : goal.loop-letter-preserved
loop-letter-preserved c =
    closing-more c.args.a.now c.args.walk.now c.loop-letter.walk c.image_of.new.walk c.args.set c.loop-letter.letter c.in_ok-image_of.field-0 c.loop-letter.invariant c.requires.set_in c.in_ok-image_of.ensures.onward c.in_ok-image_of.ensures.image

pub image_of-requires-2 : goal.image_of-requires-2
image_of-requires-2 c =
    let i = c.loop-letter.invariant in
    let e : c.count-end.result ≡ letters_count c.args.a.now = c.count-end.ensures ∙ ap (λ (t : LetterTable). length t.samples) c.letters.ensures in
    record {
      counting = i.onward.counting;
      set_in = omega (arith, c.requires.set_in, i.onward.keeps.longer);
      letter_in = omega arith;
      counted = closing-counted c.args.a.now c.args.walk.now c.loop-letter.walk c.args.set c.loop-letter.letter c.count-end.result i c.requires.set_in c.requires.free (omega arith);
    }

pub returns-in_err-image_of-2-clause-errors : goal.returns-in_err-image_of-2-clause-errors
returns-in_err-image_of-2-clause-errors c limit = let p = err_from_is_err_and c.from_residual-in_err-image_of-2.result c.from_residual-in_err-image_of-2.ensures.1 in rw (p.1, p.2) (c.in_err-image_of-2.ensures.errors limit)

pub returns-clause-closed : goal.returns-clause-closed
returns-clause-closed c =
    let e : c.count-end.result ≡ letters_count c.args.a.now = c.count-end.ensures ∙ ap (λ (t : LetterTable). length t.samples) c.letters.ensures in
    (closing-last c.args.a.now c.args.walk.now c.loop-letter.walk c.image_of-2.new.walk c.args.set c.loop-letter.letter c.count-end.result c.in_ok-image_of-2.field-0 c.loop-letter.invariant c.requires.set_in c.in_ok-image_of-2.ensures.onward c.in_ok-image_of-2.ensures.image e (omega arith)).0

pub returns-clause-onward : goal.returns-clause-onward
returns-clause-onward c =
    let e : c.count-end.result ≡ letters_count c.args.a.now = c.count-end.ensures ∙ ap (λ (t : LetterTable). length t.samples) c.letters.ensures in
    (closing-last c.args.a.now c.args.walk.now c.loop-letter.walk c.image_of-2.new.walk c.args.set c.loop-letter.letter c.count-end.result c.in_ok-image_of-2.field-0 c.loop-letter.invariant c.requires.set_in c.in_ok-image_of-2.ensures.onward c.in_ok-image_of-2.ensures.image e (omega arith)).1
