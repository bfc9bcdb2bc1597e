use Rattle.std.proofs.Common.{◌≡◌, Some, false, sym, subst, ap, ◌∙◌}
use Rattle.std.specs.Prelude.{IsSomeAnd}
use Rattle.std.specs.List.{each_same}
use Rattle.std.proofs.lemmas.Result.{IfOk-weaker}
use Rattle.rl_source.specs.NodeMap.{children_at}
use Rattle.rl_source.specs.Distinct.{is_double, Lists}
use Rattle.rl_source.proofs.Listed.{IsSomeAnd-listed}
use Rattle.rl_source.proofs.mem_tree.MemTreeTree.children.Goals as goal
use Rattle.rl_source.proofs.mem_tree.MemTreeTree.children.Goals.{in-Some+in_ok-from_clones-in-Some, in_default}

pub returns-clause-answer : goal.returns-clause-answer
returns-clause-answer c = elim c.match-children_at.branch [
  | in-Some+in_ok-from_clones-in-Some w ↦
      let same : c.args.self.now.nodes ≡ c.self.inside.nodes = ap (λ t. t.nodes) (sym c.self.view_is) in
      let at : children_at c.args.self.now.nodes c.args.path.now ≡ Some w.in-Some.children.now =
      ap (λ ns. children_at ns c.args.path.now) (same ∙ sym c.as_slice.ensures) ∙ sym w.in-Some.ensures in
      let single : is_double c.args.self.now.nodes ≡ false = ap is_double same ∙ c.self.invariant in
      let copy = w.in_ok-from_clones-in-Some.field-0 in
      let listed = IsSomeAnd-listed c.args.self.now.nodes c.args.path.now w.in-Some.children.now copy.items single at (each_same w.in-Some.children.now copy.items w.in_ok-from_clones-in-Some.ensures.items) in
      IfOk-weaker c.answer.result _ _
      (λ value e. let same : value ≡ copy = cc in subst (λ v. IsSomeAnd (children_at c.args.self.now.nodes c.args.path.now) (λ children. Lists children v.items)) (sym same) listed)
      c.answer.ensures.found
  | in_default w ↦ IfOk-weaker c.answer.result _ _ (λ value e. cc) c.answer.ensures.found
]
