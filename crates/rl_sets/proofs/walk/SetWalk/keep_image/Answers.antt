use Rattle.std.proofs.Common.{◌≡◌, ◌<◌, ◌*◌, ◌≤◌, suc, ℕ, Some, length, map, set, slice_get, sym, subst, arith}
use Rattle.rl_prio.specs.Automaton.{letters_count}
use Rattle.rl_sets.specs.Live.{image}
use Rattle.rl_sets.specs.Rows.{members_of}
use Rattle.rl_sets.specs.Walk.{Walk, image_place, set_at, IsMadeFor}
use Rattle.rl_sets.proofs.WalkLemmas.{IsMadeFor-image}
use Rattle.rl_sets.proofs.walk.SetWalk.keep_image.Goals as goal

pub returns-clause-made : goal.returns-clause-made
returns-clause-made c =
    let a = c.args.a.now in
    let fields = c.self.inside in
    let before : Walk = record { sets = map members_of fields.rows.keys; limit = fields.limit; kept = record { states = fields.states; split = fields.split; images = fields.images.items; routes = fields.routes.items; lives = fields.lives.items } } in
    let made = subst (λ (w : Walk). IsMadeFor w a) (sym c.self.view_is) c.requires.made in
    let room = subst (λ (w : Walk). suc c.args.set * suc (letters_count a) ≤ length w.kept.images) (sym c.self.view_is) c.requires.room in
    let there : image_place a c.args.set c.args.letter < length fields.images.items = omega (arith, room, c.requires.letter_in) in
    let stands = subst (λ (w : Walk). slice_get w.sets c.args.number ≡ Some (image a (set_at w c.args.set) c.args.letter)) (sym c.self.view_is) c.requires.image in
    let after = IsMadeFor-image before a c.args.set c.args.letter c.args.number made c.requires.letter_in there stands in
    subst (λ (place : ℕ). let w : Walk = record { sets = before.sets; limit = before.limit; kept = record { states = fields.states; split = fields.split; images = set fields.images.items place (Some c.args.number); routes = fields.routes.items; lives = fields.lives.items } } in IsMadeFor w a) (sym c.place_of.ensures) after
