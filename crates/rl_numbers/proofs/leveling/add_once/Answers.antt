use Rattle.std.proofs.Common.{◌∙◌, inl, inr, refl, sym, subst}
use Rattle.rl_graph.specs.Paths.{Has}
use Rattle.rl_numbers.proofs.ReachLaws.{any-there, there-any}
use Rattle.rl_numbers.proofs.leveling.add_once.Goals as goal

pub returns-then-contains : goal.returns-then-contains
returns-then-contains c =
    inr (subst (Has c.args.target) c.edges.ensures.targets (any-there c.args.target c.edges.result.now (sym c.contains.ensures.value ∙ c.if-contains.true)), refl)

pub returns : goal.returns
returns c =
    inl (c.in_ok-add.ensures.added, λ there. there-any c.args.target c.edges.result.now (sym c.contains.ensures.value ∙ c.if-contains.false) (subst (Has c.args.target) (sym c.edges.ensures.targets) there))
