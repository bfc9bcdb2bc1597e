use Rattle.std.proofs.Common.{◌≡◌, Bool, List, [], length, sym, ap, ◌∙◌, subst, arith, All}
use Rattle.std.proofs.lemmas.List.{length-set}
use Rattle.rl_lanes.proofs.ImageLemmas.{row_lengths-set}
use Rattle.unit_tests.proofs.lanes.put.Goals as goal

pub set-requires-clause-place_in : goal.set-requires-clause-place_in
set-requires-clause-place_in c = omega (arith, c.requires.place_in, c.requires.wide c.args.row [] c.requires.row_in)

pub returns-clause-high : goal.returns-clause-high
returns-clause-high c = ap length c.set.ensures ∙ length-set c.args.table.now c.args.row _

pub returns-clause-wide : goal.returns-clause-wide
returns-clause-wide c =
    subst (All (λ (r : List Bool). length r ≡ c.args.len)) (sym c.set.ensures) (row_lengths-set c.args.len c.args.row c.args.i c.args.to c.args.table.now c.requires.row_in c.requires.wide)
