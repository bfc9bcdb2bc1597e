use Rattle.std.proofs.Common.{ap, ◌∙◌}
use Rattle.rl_sets.specs.Live.{holds}
use Rattle.rl_sets.specs.Walk.{Walk, set_at}
use Rattle.rl_sets.proofs.WalkLemmas.{holds-row}
use Rattle.rl_sets.proofs.walk.SetWalk.holds.Goals as goal

pub returns : goal.returns
returns c =
    c.get.ensures
    ∙ holds-row c.self.inside.rows.keys c.index.result.now c.args.set c.args.state c.index.ensures
    ∙ ap (λ (w : Walk). holds (set_at w c.args.set) c.args.state) c.self.view_is
