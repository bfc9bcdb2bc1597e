use Rattle.std.proofs.Common.{◌≡◌, ◌∙◌, length, ap, arith}
use Rattle.rl_ranges.specs.Letters.{LetterTable}
use Rattle.rl_prio.specs.Automaton.{letters_count}
use Rattle.rl_trim.proofs.PairLaws.{expanding-more, expanding-done}
use Rattle.rl_trim.proofs.pairs.Pairs.expand.Goals as goal

pub loop-letter-preserved : goal.loop-letter-preserved
loop-letter-preserved c = record {
  expanding =
      expanding-more c.args.branch.now.automaton.now c.args.branch.now.keep.now c.args.walk.now c.loop-letter.walk c.visit.new.walk c.args.self.now.count c.loop-letter.self.count c.visit.new.self.count
      c.args.self.now.keys.keys c.loop-letter.self.keys.keys c.visit.new.self.keys.keys c.args.place c.loop-letter.letter c.requires.place_in c.requires.pairs c.in_ok-visit.ensures.count c.loop-letter.invariant.expanding
      c.in_ok-visit.ensures.pairs c.in_ok-visit.ensures.onward c.in_ok-visit.ensures.there;
  count = c.in_ok-visit.ensures.count ∙ c.loop-letter.invariant.count;
  trims = c.in_ok-visit.ensures.trims;
}

pub returns-clause-done : goal.returns-clause-done
returns-clause-done c =
    let a = c.args.branch.now.automaton.now in
    let e : c.count-letter-end.result ≡ letters_count a = c.count-letter-end.ensures ∙ ap (λ (t : LetterTable). length t.samples) c.letters.ensures in
    let all : c.loop-letter.letter ≡ letters_count a = omega (arith, c.loop-letter-test.false, c.loop-letter.auto) in
    expanding-done a c.args.branch.now.keep.now c.args.walk.now c.loop-letter.walk c.args.self.now.count c.loop-letter.self.count c.args.self.now.keys.keys c.loop-letter.self.keys.keys c.args.place c.loop-letter.letter
    c.requires.place_in c.requires.pairs all c.loop-letter.invariant.expanding
