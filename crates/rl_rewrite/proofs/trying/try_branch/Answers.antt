use Rattle.std.proofs.Common.{◌≡◌, ◌∷◌, true, false, IfSome, refl, sym, ap, ◌∙◌, subst}
use Rattle.std.proofs.Common.{arith}
use Rattle.std.proofs.lemmas.Grind.{common_steps}
use Rattle.rl_syntax.specs.Pattern.{body_of, universe_of}
use Rattle.rl_syntax.specs.Tree.{tree_of}
use Rattle.rl_pattern.specs.Suggested.{among, may_go, without}
use Rattle.rl_rewrite.specs.declared.trial.Trial.TheVariants.{Equal, Apart, Exceeded}
use Rattle.rl_rewrite.specs.internal.Trials.{AreTried, AreBegun}
use Rattle.rl_rewrite.proofs.BegunTrials.{one_dropped}
use Rattle.rl_rewrite.proofs.TriedOne.{none_some, alone, equal_one, apart_one, passed_next, verdict_found, told_found}
use Rattle.rl_rewrite.proofs.trying.try_branch.Goals as goal

pub returns-then-not-may_go-clause-tried : goal.returns-then-not-may_go-clause-tried
returns-then-not-may_go-clause-tried c =
    let e : c.in_ok-more.more ≡ c.args.branch ∷ c.args.tries.now.dropped = c.in_ok-more.ensures ∙ ap (λ d. c.args.branch ∷ d) c.as_slice.ensures in
    let h : may_go (among c.in_ok-more.more) (body_of c.args.p.now) ≡ false = grind (arith, common_steps) in
    λ bs t. alone (universe_of c.args.p.now) c.args.limit (body_of c.args.p.now) c.args.branch c.args.tries.now.dropped c.in_ok-more.more e h c.args.tries.now.passed bs t

pub returns-in-Equal-clause-tried : goal.returns-in-Equal-clause-tried
returns-in-Equal-clause-tried c =
    let e : c.in_ok-more.more ≡ c.args.branch ∷ c.args.tries.now.dropped = c.in_ok-more.ensures ∙ ap (λ d. c.args.branch ∷ d) c.as_slice.ensures in
    let u = universe_of c.args.p.now in
    let body = body_of c.args.p.now in
    let more = c.args.branch ∷ c.args.tries.now.dropped in
    let h : may_go (among c.in_ok-more.more) body ≡ true = grind (arith, common_steps) in
    let v = verdict_found u u c.args.limit body c.args.tries.now.dropped c.in_ok-more.more more (without c.args.tries.now.dropped body) (without more body) c.in-Ok.trial Equal refl refl refl (sym e) c.in-Equal.is c.in-Ok.ensures.verdict in
    let told = told_found u u c.args.limit body c.args.tries.now.dropped c.in_ok-more.more more (without c.args.tries.now.dropped body) (without more body) c.in-Ok.trial Equal refl refl refl (sym e) c.in-Equal.is c.in-Ok.ensures.told in
    λ bs t. subst (AreTried u c.args.limit body (c.args.branch ∷ bs) c.in_ok-more.more) (sym c.in-Ok.ensures.passed) (equal_one u c.args.limit body c.args.branch c.args.tries.now.dropped c.in_ok-more.more e h v told c.args.tries.now.passed bs t)

pub returns-in-Apart-clause-tried : goal.returns-in-Apart-clause-tried
returns-in-Apart-clause-tried c =
    let e : c.in_ok-more.more ≡ c.args.branch ∷ c.args.tries.now.dropped = c.in_ok-more.ensures ∙ ap (λ d. c.args.branch ∷ d) c.as_slice.ensures in
    let u = universe_of c.args.p.now in
    let body = body_of c.args.p.now in
    let more = c.args.branch ∷ c.args.tries.now.dropped in
    let h : may_go (among c.in_ok-more.more) body ≡ true = grind (arith, common_steps) in
    let v = verdict_found u u c.args.limit body c.args.tries.now.dropped c.in_ok-more.more more (without c.args.tries.now.dropped body) (without more body) c.in-Ok.trial Apart refl refl refl (sym e) c.in-Apart.is c.in-Ok.ensures.verdict in
    λ bs t. subst (AreTried u c.args.limit body (c.args.branch ∷ bs) c.trial_of.new.tries.dropped) (sym c.in-Ok.ensures.passed)
    (subst (λ ds. AreTried u c.args.limit body (c.args.branch ∷ bs) ds c.args.tries.now.passed) (sym c.in-Ok.ensures.dropped)
    (apart_one u c.args.limit body c.args.branch c.args.tries.now.dropped c.in_ok-more.more e h v c.args.tries.now.passed bs t))

pub returns-in_ok-passed-in-Exceeded-clause-tried : goal.returns-in_ok-passed-in-Exceeded-clause-tried
returns-in_ok-passed-in-Exceeded-clause-tried c =
    let e : c.in_ok-more.more ≡ c.args.branch ∷ c.args.tries.now.dropped = c.in_ok-more.ensures ∙ ap (λ d. c.args.branch ∷ d) c.as_slice.ensures in
    let u = universe_of c.args.p.now in
    let body = body_of c.args.p.now in
    let more = c.args.branch ∷ c.args.tries.now.dropped in
    let h : may_go (among c.in_ok-more.more) body ≡ true = grind (arith, common_steps) in
    let v = verdict_found u u c.args.limit body c.args.tries.now.dropped c.in_ok-more.more more (without c.args.tries.now.dropped body) (without more body) c.in-Ok.trial Exceeded refl refl refl (sym e) c.in-Exceeded.is c.in-Ok.ensures.verdict in
    let f : c.in_ok-passed-in-Exceeded.passed ≡ c.args.branch ∷ c.args.tries.now.passed =
    c.in_ok-passed-in-Exceeded.ensures ∙ ap (λ d. c.args.branch ∷ d) (c.as_slice-in-Exceeded.ensures ∙ c.in-Ok.ensures.passed) in
    λ bs t. subst (λ ds. AreTried u c.args.limit body (c.args.branch ∷ bs) ds c.in_ok-passed-in-Exceeded.passed) (sym c.in-Ok.ensures.dropped)
    (passed_next u c.args.limit body c.args.branch c.args.tries.now.dropped c.in_ok-more.more e h v c.args.tries.now.passed c.in_ok-passed-in-Exceeded.passed bs f t)

pub returns-in-Equal-clause-universe : goal.returns-in-Equal-clause-universe
returns-in-Equal-clause-universe c = none_some (λ b. b.universe ≡ universe_of c.args.p.now) c.take.new.self c.take.ensures.after

pub returns-in-Apart-clause-tree : goal.returns-in-Apart-clause-tree
returns-in-Apart-clause-tree c =
    subst (λ d. IfSome c.trial_of.new.tries.base (λ b. tree_of b.tree ≡ without d (body_of c.args.p.now))) (sym c.in-Ok.ensures.dropped) c.in-Ok.ensures.tree

pub returns-in_ok-passed-in-Exceeded-clause-tree : goal.returns-in_ok-passed-in-Exceeded-clause-tree
returns-in_ok-passed-in-Exceeded-clause-tree c =
    subst (λ d. IfSome c.trial_of.new.tries.base (λ b. tree_of b.tree ≡ without d (body_of c.args.p.now))) (sym c.in-Ok.ensures.dropped) c.in-Ok.ensures.tree

pub returns-in-Equal-clause-begun : goal.returns-in-Equal-clause-begun
returns-in-Equal-clause-begun c =
    let e : c.in_ok-more.more ≡ c.args.branch ∷ c.args.tries.now.dropped = c.in_ok-more.ensures ∙ ap (λ d. c.args.branch ∷ d) c.as_slice.ensures in
    one_dropped (universe_of c.args.p.now) (body_of c.args.p.now) c.args.branch c.args.tries.now.dropped c.in_ok-more.more e c.trial_of.new.trials c.in-Ok.ensures.begun

pub returns-in-Apart-clause-begun : goal.returns-in-Apart-clause-begun
returns-in-Apart-clause-begun c =
    subst (λ d. AreBegun (universe_of c.args.p.now) (body_of c.args.p.now) d c.trial_of.new.trials) (sym c.in-Ok.ensures.dropped) c.in-Ok.ensures.begun

pub returns-in_ok-passed-in-Exceeded-clause-begun : goal.returns-in_ok-passed-in-Exceeded-clause-begun
returns-in_ok-passed-in-Exceeded-clause-begun c =
    subst (λ d. AreBegun (universe_of c.args.p.now) (body_of c.args.p.now) d c.trial_of.new.trials) (sym c.in-Ok.ensures.dropped) c.in-Ok.ensures.begun
