use Rattle.std.proofs.Common.{◌≡◌, ◌∙◌, length, ap, arith}
use Rattle.rl_ranges.specs.Letters.{LetterTable}
use Rattle.rl_prio.specs.Automaton.{letters_count}
use Rattle.rl_trim.proofs.KeyOrder.{following-start, following-more, following-longer, following-done}
use Rattle.rl_trim.proofs.order.Order.expand_each.Goals as goal

pub loop-letter-init : goal.loop-letter-init
loop-letter-init c = record {
  following = following-start c.args.branch.now.automaton.now c.args.branch.now.keep.now c.args.walk.now c.args.self.now.keys.keys c.args.place c.requires.keys;
  arrived = c.requires.arrived;
}

pub visit-requires-clause-place_in : goal.visit-requires-clause-place_in
visit-requires-clause-place_in c =
    following-longer c.args.branch.now.automaton.now c.args.branch.now.keep.now c.args.walk.now c.loop-letter.walk c.args.self.now.keys.keys c.loop-letter.self.keys.keys c.args.place c.loop-letter.letter c.loop-letter.invariant.following c.requires.place_in

pub loop-letter-preserved : goal.loop-letter-preserved
loop-letter-preserved c = record {
  following =
      following-more c.args.branch.now.automaton.now c.args.branch.now.keep.now c.args.walk.now c.loop-letter.walk c.args.self.now.keys.keys c.loop-letter.self.keys.keys c.args.place c.loop-letter.letter c.loop-letter.invariant.following c.requires.place_in
      c.visit.new.walk c.visit.new.self.keys.keys c.in_ok-visit.ensures.grown c.in_ok-visit.ensures.keys c.in_ok-visit.ensures.pairs;
  arrived = c.in_ok-visit.ensures.arrived;
}

pub returns-clause-pairs : goal.returns-clause-pairs
returns-clause-pairs c =
    let a = c.args.branch.now.automaton.now in
    let e : c.count-letter-end.result ≡ letters_count a = c.count-letter-end.ensures ∙ ap (λ (t : LetterTable). length t.samples) c.letters.ensures in
    let all : c.loop-letter.letter ≡ letters_count a = omega (arith, c.loop-letter-test.false, c.loop-letter.auto) in
    following-done a c.args.branch.now.keep.now c.args.walk.now c.loop-letter.walk c.args.self.now.keys.keys c.loop-letter.self.keys.keys c.args.place c.loop-letter.letter c.loop-letter.invariant.following c.requires.place_in all
