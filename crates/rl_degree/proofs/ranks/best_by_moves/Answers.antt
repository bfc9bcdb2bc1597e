use Rattle.std.proofs.Common.{arith}
use Rattle.rl_graph.specs.Graph.{edges_of}
use Rattle.rl_graph.proofs.GraphLaws.{bounded-whole}
use Rattle.rl_degree.proofs.RankLaws.{letter-more, letters-all}
use Rattle.rl_degree.proofs.ranks.best_by_moves.Goals as goal

pub loop-letter-init : goal.loop-letter-init
loop-letter-init c = record { good = c.requires.start; least = omega arith; letters = λ k h. absurd (omega arith) }

pub loop-letter-preserved : goal.loop-letter-preserved
loop-letter-preserved c =
    let i = c.loop-letter.invariant in
    let o = c.best_by_letter-best.ensures in
    record {
      good = o.good;
      least = omega (arith, i.least, o.least);
      letters = letter-more (edges_of c.args.g.now) c.args.components.now c.args.bests.now c.args.state c.loop-letter.letter c.loop-letter.best.rank c.best_by_letter-best.result.rank i.letters o.least o.letter;
    }

pub returns-clause-moves : goal.returns-clause-moves
returns-clause-moves c =
    let g = c.args.g.now in
    letters-all (edges_of g) g.states g.letters c.args.components.now c.args.bests.now c.args.state c.loop-letter.letter c.loop-letter.best.rank (bounded-whole g c.requires.whole) (omega (arith, c.letters-letter-end.ensures, c.loop-letter-test.false)) c.loop-letter.invariant.letters
