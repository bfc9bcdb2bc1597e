use Rattle.std.proofs.Common.{◌∙◌, sym, ap, [], length}
use Rattle.rl_machine.proofs.columns.Columns.at_end.Goals as goal

pub returns : goal.returns
returns c =
    rw (← (c.count.ensures ∙ ap (λ t. length t.samples) c.letters.ensures))
    (c.put.ensures.in_front [] (c.in_ok-nothing_counted.ensures.stand _ (sym c.states.ensures.count)))
