use Rattle.std.proofs.Common.{◌&&◌, Bool, sym, ap, ◌∙◌}
use Rattle.rl_equiv.specs.internal.Machines.{all_proper, pairs_of}
use Rattle.rl_equiv.proofs.checking.is_proper.Goals as goal

pub returns-then-first : goal.returns-then-first
unfolding pairs_of
returns-then-first c =
    c.are_proper-second.ensures ∙ ap (λ (x : Bool). x && all_proper c.args.b.now c.args.pair.now.second) (sym c.if-first.true ∙ c.are_proper-first.ensures)

pub returns-else-first : goal.returns-else-first
unfolding pairs_of
returns-else-first c =
    c.if-first.false ∙ ap (λ (x : Bool). x && all_proper c.args.b.now c.args.pair.now.second) (sym c.if-first.false ∙ c.are_proper-first.ensures)
