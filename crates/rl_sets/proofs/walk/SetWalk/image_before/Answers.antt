use Rattle.std.proofs.Common.{ℕ, ◌-◌, List, Some, sym, ap, ◌∙◌, arith}
use Rattle.rl_sets.specs.Live.{image}
use Rattle.rl_sets.specs.Walk.{Walk, set_at}
use Rattle.rl_sets.proofs.RowLemmas.{image-alike}
use Rattle.rl_sets.proofs.WalkLemmas.{row_at, row_wide}
use Rattle.rl_sets.proofs.walk.SetWalk.image_before.Goals as goal

pub move_alike-requires-clause-set_in : goal.move_alike-requires-clause-set_in
move_alike-requires-clause-set_in c =
    row_wide c.self.inside.states c.self.inside.limit c.self.inside.rows.keys c.index.result.now c.args.set c.self.invariant.rows c.index.ensures ∙ ap (λ (w : Walk). w.kept.states) c.self.view_is ∙ c.requires.made.states

pub returns-then-move_alike : goal.returns-then-move_alike
returns-then-move_alike c =
    let a = c.args.a.now in
    let w = c.args.self.now in
    let row = c.index.result.now in
    let members = row_at c.self.inside.rows.keys row c.args.set c.index.ensures ∙ ap (λ (w : Walk). set_at w c.args.set) c.self.view_is in
    let same = image-alike a row (c.args.letter - 1) c.args.letter (c.move_alike.ensures c.if-move_alike.true) in
    let known = c.requires.made.images c.args.set (c.args.letter - 1) c.in_ok-number.number c.requires.set_in (omega (arith, c.requires.letter_in)) (sym c.known_image.ensures ∙ c.in_ok-number.was) in
    known ∙ ap (λ (s : List ℕ). Some (image a s (c.args.letter - 1))) (sym members) ∙ ap Some same ∙ ap (λ (s : List ℕ). Some (image a s c.args.letter)) members
