use Rattle.std.proofs.Common.{ap, sym, ◌∙◌, not}
use Rattle.rl_walk.proofs.Paths.{is_met-set, with_path-set}
use Rattle.rl_walk.proofs.met.Met.add.Goals as goal

pub returns-clause-added : goal.returns-clause-added
returns-clause-added c =
    c.in_ok-insert.ensures.added ∙ ap not (sym (is_met-set c.in_ok-text.text _ c.self.inside.paths.keys _ c.in_ok-text.ensures.ok c.self.view_is))

pub returns-clause-met : goal.returns-clause-met
returns-clause-met c =
    with_path-set c.in_ok-text.text _ c.self.inside.paths.keys _ _ c.in_ok-text.ensures.ok c.self.view_is c.in_ok-insert.ensures.keys
