use Rattle.std.proofs.Common.{ap, ◌∙◌, sym, map}
use Rattle.std.specs.Prelude.{None}
use Rattle.rl_pattern.specs.internal.Views.{node_of, branch_of}
use Rattle.rl_pattern.specs.Tree as t
use Rattle.rl_pattern.specs.Looks.{holds_beside, some_beside}
use Rattle.rl_pattern.proofs.Layers.{node_of-choice}
use Rattle.rl_pattern.proofs.leaf_set.+holds_at_end.Goals as goal

pub holds_at_end-returns-in-Choice : goal.holds_at_end-returns-in-Choice
holds_at_end-returns-in-Choice measure c =
    λ u. c.some_at_end.ensures u
    ∙ ap (λ bs. some_beside u (t.branches (map branch_of bs)) None) c.as_slice.ensures
    ∙ ap (λ n. holds_beside u n None) (sym (node_of-choice c.in-Choice.field-0 c.in-Choice.branches))
    ∙ ap (λ n. holds_beside u (node_of n) None) (sym c.in-Choice.is)
