use Rattle.std.proofs.Common.{◌<◌, refl, subst, arith}
use Rattle.rl_syntax.specs.declared.limits.TheConstants.{MOST_NODES, MOST_PAIRS}
use Rattle.rl_syntax.specs.declared.re.Mode.TheVariants.{Match}
use Rattle.rl_syntax.specs.declared.verdict.Limit.TheVariants.{Size}
use Rattle.rl_syntax.specs.declared.verdict.Verdict.TheVariants.{Undecided}
use Rattle.rl_syntax.specs.Tree.{tree_of, size}
use Rattle.rl_syntax.specs.Pattern.{pattern_tree}
use Rattle.rl_growth.specs.Questions.{question_of}
use Rattle.rl_pairs.specs.RightVerdict.{RightVerdict}
use Rattle.rl_reach.specs.Bounds.{IsMostOf}
use Rattle.rl_reach.proofs.FromMatch.{least-right, most-right, same-question}
use Rattle.rl_reach.proofs.SmallDegrees.{degree-within, within-more}
use Rattle.rl_reach.proofs.bounds.search_bounds.Goals as goal

pub returns-in-Err-TooLarge-clause-whole : goal.returns-in-Err-TooLarge-clause-whole
returns-in-Err-TooLarge-clause-whole c =
    let large : MOST_NODES < size (pattern_tree c.args.p.now Match) = c.in-Err-TooLarge.ensures.too_large c.in-Err-TooLarge.field-0-is in
    record { verdict = Undecided Size; right = large; least = refl; most = record { behind = Undecided Size; right = λ _. omega (arith, large); same = λ _. refl; is = refl } }

pub upper_bound-requires-clause-small : goal.upper_bound-requires-clause-small
upper_bound-requires-clause-small c =
    let v = c.in_ok-verdict.verdict in
    within-more c.args.max_pairs MOST_PAIRS v c.requires.few (degree-within (question_of c.in-Ok.lowered c.universe.result c.args.max_pairs) v c.in_ok-verdict.ensures.right c.in_ok-verdict.ensures.class)

pub returns-clause-whole : goal.returns-clause-whole
returns-clause-whole c =
    let p = c.args.p.now in
    let v = c.in_ok-verdict.verdict in
    let e = same-question p c.args.max_pairs (tree_of c.in-Ok.lowered.tree) c.in-Ok.lowered.ending c.universe.result c.in-Ok.ensures.tree c.in-Ok.ensures.ending c.universe.ensures in
    let f = same-question p c.args.max_pairs (tree_of c.in-Ok.lowered.tree) c.in-Ok.lowered.ending c.universe-2.result c.in-Ok.ensures.tree c.in-Ok.ensures.ending c.universe-2.ensures in
    record {
      verdict = v;
      right = subst (λ q. RightVerdict q v) e c.in_ok-verdict.ensures.right;
      least = c.least_of.ensures;
      most = subst (λ q. IsMostOf q v c.in_ok-at_most.at_most) f c.in_ok-at_most.ensures;
    }

pub returns-clause-at_least : goal.returns-clause-at_least
returns-clause-at_least c = least-right c.args.p.now c.args.max_pairs c.args.max_pairs _ (returns-clause-whole c)

pub returns-clause-at_most : goal.returns-clause-at_most
returns-clause-at_most c = most-right c.args.p.now c.args.max_pairs c.args.max_pairs _ (returns-clause-whole c)
