use Rattle.std.proofs.Common.{map, List, sym, subst}
use Rattle.rl_sets.specs.declared.life.Route.{Route}
use Rattle.rl_sets.specs.declared.life.Route.TheVariants.{On}
use Rattle.rl_sets.specs.Rows.{members_of}
use Rattle.rl_sets.specs.Walk.{Walk, IsMadeFor}
use Rattle.rl_sets.proofs.RouteLemmas.{IsMadeFor-route}
use Rattle.rl_sets.proofs.walk.SetWalk.put_route.Goals as goal

pub returns-clause-made : goal.returns-clause-made
returns-clause-made c a made =
    let before = subst (λ (w : Walk). IsMadeFor w a) (sym c.self.view_is) made in
    let after = IsMadeFor-route _ a (On c.args.letter c.args.next) before in
    subst (λ (l : List Route). let w : Walk = record { sets = map members_of c.self.inside.rows.keys; limit = c.self.inside.limit; kept = record { states = c.self.inside.states; split = c.self.inside.split; images = c.self.inside.images.items; routes = l; lives = c.self.inside.lives.items } } in IsMadeFor w a) (sym c.in_ok-push.ensures.items) after
