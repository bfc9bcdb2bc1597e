use Rattle.std.proofs.Common.{map, sym, subst}
use Rattle.rl_sets.specs.Rows.{members_of}
use Rattle.rl_sets.specs.Walk.{Walk, IsMadeFor}
use Rattle.rl_sets.proofs.WalkLemmas.{IsMadeFor-split}
use Rattle.rl_sets.proofs.walk.SetWalk.split_moves.Goals as goal

pub returns-clause-made : goal.returns-clause-made
returns-clause-made c =
    let fields = c.self.inside in
    let before : Walk = record { sets = map members_of fields.rows.keys; limit = fields.limit; kept = record { states = fields.states; split = fields.split; images = fields.images.items; routes = fields.routes.items; lives = fields.lives.items } } in
    IsMadeFor-split before c.args.a.now c.in_ok-split.split (subst (λ (w : Walk). IsMadeFor w c.args.a.now) (sym c.self.view_is) c.requires.made) c.in_ok-split.ensures
