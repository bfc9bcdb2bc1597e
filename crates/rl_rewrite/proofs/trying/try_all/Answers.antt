use Rattle.std.proofs.Common.{◌≡◌, sym, ap, ◌∙◌, subst}
use Rattle.rl_syntax.specs.Pattern.{body_of, universe_of}
use Rattle.rl_syntax.specs.Tree.{tree_of}
use Rattle.rl_equiv.specs.Bases.{IsBase}
use Rattle.rl_pattern.specs.Suggested.{branches_in, without}
use Rattle.rl_rewrite.specs.internal.Trials.{AreTried}
use Rattle.rl_rewrite.proofs.BegunTrials.{made_now}
use Rattle.rl_rewrite.proofs.Stays.{none_left}
use Rattle.rl_rewrite.proofs.trying.try_all.Goals as goal

pub returns : goal.returns
returns c =
    let body = body_of c.args.p.now in
    let all : c.as_slice.result.now ≡ branches_in body = c.as_slice.ensures ∙ c.in-Ok.ensures ∙ ap branches_in c.body.ensures.same in
    subst (λ bs. AreTried (universe_of c.args.p.now) c.args.limit body bs c.try_each.new.tries.dropped c.try_each.new.tries.passed) all c.in-Ok-try_each.ensures

pub try_each-requires-clause-begun : goal.try_each-requires-clause-begun
try_each-requires-clause-begun c =
    let u = universe_of c.args.p.now in
    let body = body_of c.args.p.now in
    let dropped = c.args.tries.now.dropped in
    let trials = c.in_ok-trials.trials in
    let tree : tree_of c.args.base.tree ≡ without dropped body = c.requires.whole_tree ∙ sym (none_left body) ∙ ap (λ d. without d body) (sym c.requires.fresh) in
    let base = subst (λ t. IsBase u t trials.trimmer) tree (subst (λ v. IsBase v (tree_of c.args.base.tree) trials.trimmer) c.requires.whole_universe c.in_ok-trials.ensures.base) in
    made_now u body dropped trials base (c.in_ok-trials.ensures.begun ∙ sym c.requires.fresh)
