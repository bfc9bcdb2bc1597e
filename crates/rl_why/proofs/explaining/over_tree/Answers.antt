use Rattle.std.proofs.Common.{arith}
use Rattle.rl_pairs.specs.PairTable.{moves_in, pair_in}
use Rattle.rl_syntax.specs.Tree.{tree_of}
use Rattle.rl_growth.specs.Questions.{question_of}
use Rattle.rl_why.proofs.ShortLaws.{moves-short}
use Rattle.rl_why.proofs.ExplainLaws.{places-few, right-explained, texts-explained}
use Rattle.rl_why.proofs.explaining.over_tree.Goals as goal

pub over_graph-requires-clause-setting : goal.over_graph-requires-clause-setting
over_graph-requires-clause-setting c =
    let t = tree_of c.args.l.now.tree in
    let h = c.in-Ok-pairs.ensures in
    record {
      few = omega (arith, places-few t, c.requires.small);
      small = c.requires.small;
      ending = c.args.l.now.ending;
      stands = c.in-Ok.ensures.ok;
      whole = c.states-states.ensures.automaton;
      led = record { graph = h.graph; numbered = h.numbered; few = omega (arith, h.few_pairs, c.requires.few); leads = h.leads; rests = h.rests; refuses = h.refused };
      letters = h.letters;
      short = moves-short c.in-Ok.a t c.args.l.now.ending c.in-Ok.ensures.ok c.in-Ok.ensures.within.1;
    }

pub returns-in-Ok-pairs-clause-right : goal.returns-in-Ok-pairs-clause-right
returns-in-Ok-pairs-clause-right c =
    let g = c.in-Ok-pairs.g in
    let q = question_of c.args.l.now c.args.u c.args.max_pairs in
    right-explained q c.in-Ok.a (moves_in g) (pair_in g) g.graph.states _ c.in-Ok.ensures.ok c.in-Ok.ensures.codes c.requires.small c.in-Ok.ensures.within.0 c.in-Ok.ensures.within.1 c.in-Ok-pairs.ensures.graph c.in-Ok-pairs.ensures.few_pairs c.in-Ok-pairs.ensures.few_sets c.over_graph.ensures.right

pub returns-in-Ok-pairs-clause-texts : goal.returns-in-Ok-pairs-clause-texts
returns-in-Ok-pairs-clause-texts c =
    let g = c.in-Ok-pairs.g in
    let q = question_of c.args.l.now c.args.u c.args.max_pairs in
    texts-explained q c.over_graph.result (right-explained q c.in-Ok.a (moves_in g) (pair_in g) g.graph.states _ c.in-Ok.ensures.ok c.in-Ok.ensures.codes c.requires.small c.in-Ok.ensures.within.0 c.in-Ok.ensures.within.1 c.in-Ok-pairs.ensures.graph c.in-Ok-pairs.ensures.few_pairs c.in-Ok-pairs.ensures.few_sets c.over_graph.ensures.right)
