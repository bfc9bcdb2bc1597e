use Rattle.std.proofs.Common.{◌≡◌, ◌<◌, length, map, take, sym, ap, ◌∙◌, subst, arith}
use Rattle.std.proofs.lemmas.List.{take-map}
use Rattle.rl_sets.specs.Rows.{members_of}
use Rattle.rl_sets.specs.Walk.{Walk, IsMadeFor}
use Rattle.rl_sets.proofs.WalkLemmas.{sets_of}
use Rattle.rl_sets.proofs.ShorterLemmas.{IsMadeFor-first}
use Rattle.rl_sets.proofs.walk.SetWalk.shorten.Goals as goal

pub returns-clause-sets : goal.returns-clause-sets
returns-clause-sets c =
    ap sets_of c.truncate.ensures.keys ∙ sym (take-map members_of c.args.len c.self.inside.rows.keys) ∙ ap (λ (w : Walk). take c.args.len w.sets) c.self.view_is

pub returns-clause-made : goal.returns-clause-made
returns-clause-made c =
    let a = c.args.a.now in
    let fields = c.self.inside in
    let before : Walk = record { sets = map members_of fields.rows.keys; limit = fields.limit; kept = record { states = fields.states; split = fields.split; images = fields.images.items; routes = fields.routes.items; lives = fields.lives.items } } in
    let made = subst (λ (w : Walk). IsMadeFor w a) (sym c.self.view_is) c.requires.made in
    let less : c.args.len < length before.sets = omega (arith, c.if-len.false, c.len.ensures.len, ap (λ (w : Walk). length w.sets) c.self.view_is) in
    let after = IsMadeFor-first before a c.args.len c.shorten_images.new.images.items made (omega (arith, less)) c.shorten_images.ensures.few c.shorten_images.ensures.below in
    let sets : take c.args.len before.sets ≡ map members_of c.truncate.new.self.keys = take-map members_of c.args.len fields.rows.keys ∙ ap sets_of (sym c.truncate.ensures.keys) in
    rw (← sets, c.truncate-2.ensures.items) after
