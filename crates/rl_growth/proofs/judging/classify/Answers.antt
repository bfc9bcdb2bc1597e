use Rattle.std.proofs.Common.{◌≤◌, arith}
use Rattle.rl_pairs.specs.PairTable.{moves_in, pair_in}
use Rattle.rl_syntax.specs.Tree.{size, tree_of}
use Rattle.rl_syntax.specs.declared.limits.TheConstants.{MOST_NODES}
use Rattle.rl_growth.specs.Questions.{question_of}
use Rattle.rl_growth.proofs.VerdictLaws.{decided, texts_ok}
use Rattle.rl_growth.proofs.DegreeLaws.{classed}
use Rattle.rl_growth.proofs.judging.classify.Goals as goal

pub returns-in-Ok-pairs-clause-right : goal.returns-in-Ok-pairs-clause-right
returns-in-Ok-pairs-clause-right c =
    let g = c.in-Ok-pairs.g in
    let q = question_of c.args.l.now c.args.u c.args.max_pairs in
    let small : size (tree_of c.args.l.now.tree) ≤ MOST_NODES = omega (arith, c.nodes.ensures) in
    decided q c.in-Ok.a (moves_in g) (pair_in g) g.graph.states _ c.in-Ok.ensures.ok c.in-Ok.ensures.codes small c.in-Ok.ensures.within.0 c.in-Ok.ensures.within.1 c.in-Ok-pairs.ensures.graph c.in-Ok-pairs.ensures.few_pairs c.in-Ok-pairs.ensures.few_sets c.judged.ensures.right

pub returns-in-Ok-pairs-clause-texts : goal.returns-in-Ok-pairs-clause-texts
returns-in-Ok-pairs-clause-texts c =
    let g = c.in-Ok-pairs.g in
    let q = question_of c.args.l.now c.args.u c.args.max_pairs in
    let small : size (tree_of c.args.l.now.tree) ≤ MOST_NODES = omega (arith, c.nodes.ensures) in
    texts_ok q c.judged.result (decided q c.in-Ok.a (moves_in g) (pair_in g) g.graph.states _ c.in-Ok.ensures.ok c.in-Ok.ensures.codes small c.in-Ok.ensures.within.0 c.in-Ok.ensures.within.1 c.in-Ok-pairs.ensures.graph c.in-Ok-pairs.ensures.few_pairs c.in-Ok-pairs.ensures.few_sets c.judged.ensures.right)

pub returns-in-Ok-pairs-clause-class : goal.returns-in-Ok-pairs-clause-class
returns-in-Ok-pairs-clause-class c =
    let g = c.in-Ok-pairs.g in
    let q = question_of c.args.l.now c.args.u c.args.max_pairs in
    classed q c.in-Ok.a (moves_in g) (pair_in g) g.graph.states _ (record { stands = c.in-Ok.ensures.ok; same_codes = c.in-Ok.ensures.codes }) c.states-states.ensures.automaton c.in-Ok-pairs.ensures.graph c.in-Ok-pairs.ensures.numbered c.judged.ensures.class
