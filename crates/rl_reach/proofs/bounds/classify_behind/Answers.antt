use Rattle.std.proofs.Common.{IfOk, sym, subst}
use Rattle.rl_syntax.specs.declared.limits.TheConstants.{MOST_PAIRS}
use Rattle.rl_syntax.specs.Tree.{tree_of, IsOver}
use Rattle.rl_pairs.specs.RightVerdict.{RightVerdict}
use Rattle.rl_growth.specs.Questions.{question_of}
use Rattle.rl_reach.specs.Places.{after_one}
use Rattle.rl_reach.proofs.FromMatch.{same-behind, over-after}
use Rattle.rl_reach.proofs.SmallDegrees.{small-ok}
use Rattle.rl_reach.proofs.bounds.classify_behind.Goals as goal

pub classify-requires-clause-inside : goal.classify-requires-clause-inside
classify-requires-clause-inside c =
    subst (IsOver c.args.universe) (sym c.in_ok-behind.ensures.tree) (over-after c.args.universe (tree_of c.args.lowered.tree) c.requires.inside)

pub returns-clause-right : goal.returns-clause-right
returns-clause-right c =
    let l = c.in_ok-behind.behind in
    subst (λ q. IfOk c.classify.result (RightVerdict q))
    (same-behind c.args.max_pairs (tree_of l.tree) (after_one c.args.universe (tree_of c.args.lowered.tree)) l.ending c.args.lowered.ending c.args.universe c.in_ok-behind.ensures.tree c.in_ok-behind.ensures.ending)
    c.classify.ensures.right

pub returns-clause-small : goal.returns-clause-small
returns-clause-small c =
    small-ok (question_of c.in_ok-behind.behind c.args.universe c.args.max_pairs) MOST_PAIRS c.classify.result c.requires.few c.classify.ensures.right c.classify.ensures.class
