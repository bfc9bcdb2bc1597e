use Rattle.std.proofs.Common.{◌≡◌, length, ap, ◌∙◌, arith}
use Rattle.rl_ranges.specs.Letters.{LetterTable}
use Rattle.rl_prio.specs.Automaton.{letters_count}
use Rattle.rl_equiv.specs.internal.Searching.{state_of}
use Rattle.rl_equiv.proofs.SearchLaws.{onward-longer, expanding-more, expanding-done}
use Rattle.rl_equiv.proofs.searching.PairSearch.expand.Goals as goal

pub loop-letter-preserved : goal.loop-letter-preserved
loop-letter-preserved c =
    expanding-more c.args.a.now c.args.b.now (state_of c.args.self.now) (state_of c.loop-letter.self) (state_of c.visit.new.self) c.args.place c.loop-letter.letter c.requires.place_in c.loop-letter.invariant c.in_ok-visit.ensures.onward c.in_ok-visit.ensures.reached

pub returns-clause-reached : goal.returns-clause-reached
returns-clause-reached c =
    let e : c.count-letter-end.result ≡ letters_count c.args.a.now = c.count-letter-end.ensures ∙ ap (λ (t : LetterTable). length t.samples) c.letters.ensures in
    let done : c.loop-letter.letter ≡ letters_count c.args.a.now = omega (arith, c.loop-letter-test.false, c.loop-letter.auto) in
    expanding-done c.args.a.now c.args.b.now (state_of c.args.self.now) (state_of c.loop-letter.self) c.args.place c.loop-letter.letter done c.loop-letter.invariant

pub visit-requires-clause-place_in : goal.visit-requires-clause-place_in
visit-requires-clause-place_in c =
    omega (arith, c.requires.place_in, onward-longer c.args.a.now c.args.b.now (state_of c.args.self.now) (state_of c.loop-letter.self) c.loop-letter.invariant.onward)
