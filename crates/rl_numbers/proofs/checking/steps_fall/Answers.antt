use Rattle.std.proofs.Common.{ℕ, get_or, sym, refl, arith, true≢false, below_more}
use Rattle.rl_graph.specs.Graph.{edges_of}
use Rattle.rl_numbers.specs.internal.NumberedFalls.{FirstsFall}
use Rattle.rl_numbers.specs.Index.{number_in}
use Rattle.rl_numbers.proofs.RowLoops.{never-both, row-in}
use Rattle.rl_numbers.proofs.StepLaws.{all-letters}
use Rattle.rl_numbers.proofs.checking.steps_fall.Goals as goal

pub firsts_fall-requires-clause-firsts_in : goal.firsts_fall-requires-clause-firsts_in
firsts_fall-requires-clause-firsts_in c = row-in c.args.g.now c.args.triple.p c.loop-letter.letter _ _ c.states-states.ensures.whole c.edges-firsts.ensures.targets c.requires.ranks

pub firsts_fall-requires-clause-middles_in : goal.firsts_fall-requires-clause-middles_in
firsts_fall-requires-clause-middles_in c = row-in c.args.g.now c.args.triple.q c.loop-letter.letter _ _ c.states-states.ensures.whole c.edges-middles.ensures.targets c.requires.ranks

pub firsts_fall-requires-clause-lasts_in : goal.firsts_fall-requires-clause-lasts_in
firsts_fall-requires-clause-lasts_in c = row-in c.args.g.now c.args.triple.r c.loop-letter.letter _ _ c.states-states.ensures.whole c.edges-lasts.ensures.targets c.requires.ranks

pub returns-then-not-firsts_fall : goal.returns-then-not-firsts_fall
returns-then-not-firsts_fall c = (
  λ e. absurd (true≢false (sym e)),
  λ all. absurd (never-both c.firsts_fall.result c.if-not-firsts_fall.true (c.firsts_fall.ensures.1
      (rw (c.edges-firsts.ensures.targets, c.edges-middles.ensures.targets, c.edges-lasts.ensures.targets) (all c.loop-letter.letter)))),
)

pub loop-letter-preserved : goal.loop-letter-preserved
loop-letter-preserved c =
    let g = c.args.g.now in
    let t = c.args.triple in
    below_more (λ (i : ℕ). FirstsFall (number_in c.args.index.now) (λ (x : ℕ). get_or c.args.ranks.now x 0) (get_or c.args.ranks.now t.p 0) t.number (edges_of g t.p i) (edges_of g t.q i) (edges_of g t.r i))
    c.loop-letter.letter c.loop-letter.invariant
    (rw (c.edges-firsts.ensures.targets, c.edges-middles.ensures.targets, c.edges-lasts.ensures.targets) at (c.firsts_fall.ensures.0 c.if-not-firsts_fall.false))

pub returns : goal.returns
returns c = (
  λ e. all-letters c.args.g.now (number_in c.args.index.now) (λ (x : ℕ). get_or c.args.ranks.now x 0) c.args.triple c.letters-letter-end.result c.states-states.ensures.whole (omega (arith, c.letters-letter-end.ensures))
      (λ l lt. c.loop-letter.invariant l (omega (arith, lt, c.loop-letter-test.false))),
  λ e. refl,
)

pub bounds-ranks-triple : goal.bounds-ranks-triple
bounds-ranks-triple c = omega (arith, c.requires.level.0, c.requires.ranks)

pub edges-firsts-requires-clause-from_in : goal.edges-firsts-requires-clause-from_in
edges-firsts-requires-clause-from_in c = c.requires.level.0

pub edges-middles-requires-clause-from_in : goal.edges-middles-requires-clause-from_in
edges-middles-requires-clause-from_in c = c.requires.level.1

pub edges-lasts-requires-clause-from_in : goal.edges-lasts-requires-clause-from_in
edges-lasts-requires-clause-from_in c = c.requires.level.2

pub edges-firsts-requires-clause-letter_in : goal.edges-firsts-requires-clause-letter_in
edges-firsts-requires-clause-letter_in c = omega (arith, c.loop-letter-test.true, c.letters-letter-end.ensures)

pub edges-middles-requires-clause-letter_in : goal.edges-middles-requires-clause-letter_in
edges-middles-requires-clause-letter_in c = omega (arith, c.loop-letter-test.true, c.letters-letter-end.ensures)

pub edges-lasts-requires-clause-letter_in : goal.edges-lasts-requires-clause-letter_in
edges-lasts-requires-clause-letter_in c = omega (arith, c.loop-letter-test.true, c.letters-letter-end.ensures)
