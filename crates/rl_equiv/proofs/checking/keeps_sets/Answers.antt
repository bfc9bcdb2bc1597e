use Rattle.std.proofs.Common.{◌≡◌, length, refl, sym, ap, ◌∙◌, arith}
use Rattle.std.proofs.lemmas.Bool.{false≢true}
use Rattle.rl_ranges.specs.Letters.{LetterTable}
use Rattle.rl_prio.specs.Automaton.{letters_count}
use Rattle.rl_sets.specs.Walk.{set_at}
use Rattle.rl_equiv.specs.declared.pair.SetPair.{SetPair}
use Rattle.rl_equiv.proofs.CheckLaws.{not-beq, beq-not, next-start, next-missing, next-more}
use Rattle.rl_equiv.proofs.checking.keeps_sets.Goals as goal

pub returns-then-ended-also_ended : goal.returns-then-ended-also_ended
returns-then-ended-also_ended c = (
  λ i. absurd (false≢true i),
  λ k. absurd (not-beq c.in_ok-ended.ended c.in_ok-also_ended.also_ended c.if-ended-also_ended.true (c.in_ok-ended.ensures.ends ∙ k.0 ∙ sym c.in_ok-also_ended.ensures.ends)),
)

pub loop-letter-init : goal.loop-letter-init
loop-letter-init c =
    let p : SetPair = record { first = set_at c.args.first.now 0; second = set_at c.args.second.now 0 } in
    next-start c.args.a.now c.args.b.now c.args.index.now p c.args.first.now c.args.second.now c.ends_in.new.walk c.ends_in-2.new.walk
    c.in_ok-ended.ensures.on c.in_ok-also_ended.ensures.on c.requires.first_one c.requires.second_one refl refl

pub image_in-requires-clause-room : goal.image_in-requires-clause-room
image_in-requires-clause-room c =
    let e : c.count-end.result ≡ letters_count c.args.a.now = c.count-end.ensures ∙ ap (λ (t : LetterTable). length t.samples) c.letters.ensures in
    omega (arith, c.loop-letter.invariant.first_few, c.requires.letters.few_letters, c.loop-letter-test.true)

pub image_in-requires-in-loop-letter-clause-room : goal.image_in-requires-in-loop-letter-clause-room
image_in-requires-in-loop-letter-clause-room c =
    let e : c.count-end.result ≡ letters_count c.args.a.now = c.count-end.ensures ∙ ap (λ (t : LetterTable). length t.samples) c.letters.ensures in
    omega (arith, c.loop-letter.invariant.second_few, c.requires.letters.few_letters, c.loop-letter-test.true)

pub returns-then-not-has : goal.returns-then-not-has
returns-then-not-has c =
    let p : SetPair = record { first = set_at c.args.first.now 0; second = set_at c.args.second.now 0 } in
    let e : c.count-end.result ≡ letters_count c.args.a.now = c.count-end.ensures ∙ ap (λ (t : LetterTable). length t.samples) c.letters.ensures in (
      λ i. absurd (false≢true i),
      λ k. absurd (next-missing c.args.a.now c.args.b.now c.args.index.now p c.loop-letter.first c.loop-letter.second c.loop-letter.letter
          c.in_ok-left.left c.in_ok-right.right c.loop-letter.invariant c.in_ok-left.ensures.image c.in_ok-right.ensures.image
          (λ x. false≢true (c.if-not-has.ensures.1 x)) (k.1 c.loop-letter.letter (omega arith))),
    )

pub loop-letter-preserved : goal.loop-letter-preserved
loop-letter-preserved c =
    let p : SetPair = record { first = set_at c.args.first.now 0; second = set_at c.args.second.now 0 } in
    next-more c.args.a.now c.args.b.now c.args.index.now p c.loop-letter.first c.loop-letter.second c.image_in.new.walk c.image_in-in-loop-letter.new.walk c.loop-letter.letter
    c.in_ok-left.left c.in_ok-right.right c.loop-letter.invariant c.in_ok-left.ensures.on c.in_ok-right.ensures.on c.in_ok-left.ensures.image c.in_ok-right.ensures.image
    (c.if-not-has.ensures.0 refl)

pub returns : goal.returns
returns c =
    let e : c.count-end.result ≡ letters_count c.args.a.now = c.count-end.ensures ∙ ap (λ (t : LetterTable). length t.samples) c.letters.ensures in (
      λ i. (
        sym c.in_ok-ended.ensures.ends ∙ beq-not c.in_ok-ended.ended c.in_ok-also_ended.also_ended c.if-ended-also_ended.false ∙ c.in_ok-also_ended.ensures.ends,
        λ l lt. c.loop-letter.invariant.nexts l (omega (arith, c.loop-letter-test.false)),
      ),
      λ k. refl,
    )
