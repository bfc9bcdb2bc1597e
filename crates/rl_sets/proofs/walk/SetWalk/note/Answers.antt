use Rattle.std.proofs.Common.{◌<◌, length, map, set, sym, subst, arith}
use Rattle.std.proofs.lemmas.List.{length-set}
use Rattle.rl_sets.specs.Rests.{IsLife}
use Rattle.rl_sets.specs.Rows.{members_of}
use Rattle.rl_sets.specs.Walk.{Walk, set_at, IsMadeFor}
use Rattle.rl_sets.proofs.RouteLemmas.{IsMadeFor-lives, lives-noted}
use Rattle.rl_sets.proofs.walk.SetWalk.note.Goals as goal

pub returns-clause-made : goal.returns-clause-made
returns-clause-made c a made is =
    let fields = c.self.inside in
    let before : Walk = record { sets = map members_of fields.rows.keys; limit = fields.limit; kept = record { states = fields.states; split = fields.split; images = fields.images.items; routes = fields.routes.items; lives = fields.lives.items } } in
    let was = subst (λ (w : Walk). IsMadeFor w a) (sym c.self.view_is) made in
    let life = subst (λ (w : Walk). IsLife a w.kept.routes (set_at w c.args.set) c.args.life) (sym c.self.view_is) is in
    let here = subst (λ (w : Walk). c.args.set < length w.sets) (sym c.self.view_is) c.requires in
    let longer = c.lengthen.new.list.items in
    IsMadeFor-lives before a (set longer c.args.set c.args.life) was (omega (arith, length-set longer c.args.set c.args.life, c.lengthen.ensures.short, was.few_lives, here))
    (lives-noted before a longer c.args.set c.args.life was c.lengthen.ensures.same (omega (arith, c.in_ok-lengthen.ensures.long)) life)
