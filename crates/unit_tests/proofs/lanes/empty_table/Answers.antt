use Rattle.std.proofs.Common.{◌≡◌, List, Bool, length, sym, ap, ◌∙◌, subst, All, replicate, false}
use Rattle.std.proofs.lemmas.List.{length-replicate}
use Rattle.rl_lanes.proofs.ImageLemmas.{row_lengths-replicate}
use Rattle.unit_tests.proofs.lanes.empty_table.Goals as goal

pub returns-clause-high : goal.returns-clause-high
returns-clause-high c = ap length c.in_ok-table.ensures ∙ length-replicate c.args.rows (replicate c.args.len false)

pub returns-clause-wide : goal.returns-clause-wide
returns-clause-wide c =
    subst (All (λ (r : List Bool). length r ≡ c.args.len)) (sym c.in_ok-table.ensures) (row_lengths-replicate c.args.rows c.args.len)
