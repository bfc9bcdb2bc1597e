use Rattle.std.proofs.Common.{Bool, List, true, false, length, set, ap, ◌∙◌}
use Rattle.std.proofs.lemmas.List.{length-replicate}
use Rattle.rl_lanes.specs.Tables.{image as rows_image}
use Rattle.rl_sets.proofs.SplitLemmas.{alone-row}
use Rattle.rl_sets.proofs.split.row_at.Goals as goal

pub returns : goal.returns
returns c =
    c.image.ensures.image
    ∙ ap (rows_image c.args.table.now c.set.new.self) (ap length c.in_ok-row.ensures ∙ length-replicate c.args.states false)
    ∙ ap (λ (r : List Bool). rows_image c.args.table.now r c.args.states) (c.set.ensures ∙ ap (λ (r : List Bool). set r c.args.at true) c.in_ok-alone.ensures)
    ∙ alone-row c.args.states c.args.at c.args.table.now c.requires.square c.requires.row_in
