use Rattle.std.proofs.Common.{sym, subst}
use Rattle.rl_syntax.specs.declared.re.Ending.TheVariants.{AtEnd}
use Rattle.rl_syntax.specs.Tree.{Tree, tree_of, IsOver}
use Rattle.rl_syntax.specs.Cost.{matched}
use Rattle.rl_compare.specs.Matched.{matched_tree}
use Rattle.rl_compare.specs.Comparison.{IsTrueComparison}
use Rattle.rl_compare.proofs.ErrorLaws.{told-exceeded}
use Rattle.rl_compare.proofs.MatchedLaws.{matched-over}
use Rattle.rl_compare.proofs.RegionLaws.{patterns-told}
use Rattle.rl_compare.proofs.comparing.compare.Goals as goal

pub regions-requires-clause-first_inside : goal.regions-requires-clause-first_inside
regions-requires-clause-first_inside c = subst (IsOver c.args.u) (sym c.in_ok-first.ensures) (matched-over c.args.u (tree_of c.args.a.tree) c.args.a.ending c.requires.first_inside)

pub regions-requires-clause-second_inside : goal.regions-requires-clause-second_inside
regions-requires-clause-second_inside c = subst (IsOver c.args.u) (sym c.in_ok-second.ensures) (matched-over c.args.u (tree_of c.args.b.tree) c.args.b.ending c.requires.second_inside)

pub returns-clause-told : goal.returns-clause-told
returns-clause-told c =
    let u = c.args.u in
    let s = matched_tree u (tree_of c.args.a.tree) c.args.a.ending in
    let t = matched_tree u (tree_of c.args.b.tree) c.args.b.ending in
    let told : IsTrueComparison u (matched s AtEnd) (matched t AtEnd) c.in_ok-found.found =
    subst (λ (x : Tree). IsTrueComparison u (matched s AtEnd) (matched x AtEnd) c.in_ok-found.found) c.in_ok-second.ensures
    (subst (λ (x : Tree). IsTrueComparison u (matched x AtEnd) (matched (tree_of c.in_ok-second.second) AtEnd) c.in_ok-found.found) c.in_ok-first.ensures c.in_ok-found.ensures.told) in
    patterns-told u (tree_of c.args.a.tree) (tree_of c.args.b.tree) c.args.a.ending c.args.b.ending c.in_ok-found.found told

pub returns-in_err-found-clause-exceeded : goal.returns-in_err-found-clause-exceeded
returns-in_err-found-clause-exceeded c =
    told-exceeded c.args.u (tree_of c.in_ok-first.first) (tree_of c.in_ok-second.second) _ _ c.in_err-found.field-0.0 c.from_residual-in_err-found.result c.in_ok-first.ensures c.in_ok-second.ensures c.in_err-found.ensures.exceeded c.from_residual-in_err-found.ensures.1
