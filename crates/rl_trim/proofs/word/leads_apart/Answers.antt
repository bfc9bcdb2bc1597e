use Rattle.std.proofs.Common.{◌≡◌, ◌∙◌, ◌<◌, ◌≤◌, get_or, length, refl, sym, ap, arith}
use Rattle.rl_ranges.specs.Letters.{LetterTable}
use Rattle.rl_prio.specs.Automaton.{letters_count}
use Rattle.rl_trim.proofs.ApartLaws.{running-start, running-more, running-apart}
use Rattle.rl_trim.proofs.word.leads_apart.Goals as goal

pub loop-letter-init : goal.loop-letter-init
loop-letter-init c = record {
  running = running-start c.args.branch.now.automaton.now c.args.branch.now.keep.now c.args.walk.now c.args.word.now (length c.args.walk.now.sets) c.requires.closed;
  trims = c.requires.trims;
}

pub loop-letter-preserved : goal.loop-letter-preserved
loop-letter-preserved c =
    let a = c.args.branch.now.automaton.now in
    let word = c.args.word.now in
    let read = c.loop-letter.letter-index in
    let e : c.count-letters.result ≡ letters_count a = c.count-letters.ensures ∙ ap (λ (t : LetterTable). length t.samples) c.letters.ensures in
    let lt : read < length word = omega arith in
    let small : get_or word read 0 < letters_count a = omega arith in
    record {
      running = running-more a c.args.branch.now.keep.now c.args.walk.now c.loop-letter.walk c.next.new.walk word read (get_or word read 0) c.loop-letter.key c.in_ok-next.next lt refl small c.loop-letter.invariant.running c.in_ok-next.ensures.next;
      trims = c.in_ok-next.ensures.trims;
    }

pub returns-clause-apart : goal.returns-clause-apart
returns-clause-apart c = λ e.
    let all : length c.args.word.now ≤ c.loop-letter.letter-index = omega arith in
    running-apart c.args.branch.now.automaton.now c.args.branch.now.keep.now c.args.walk.now c.loop-letter.walk c.args.word.now c.loop-letter.letter-index c.loop-letter.key all c.loop-letter.invariant.running (sym c.differs.ensures ∙ e)

pub returns-clause-grown : goal.returns-clause-grown
returns-clause-grown c = c.loop-letter.invariant.running.grown
