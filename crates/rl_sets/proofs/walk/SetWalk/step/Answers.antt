use Rattle.std.proofs.Common.{sym, ◌∙◌}
use Rattle.std.proofs.lemmas.Option.{slice_get_within}
use Rattle.rl_sets.specs.Live.{image}
use Rattle.rl_sets.specs.Walk.{set_at}
use Rattle.rl_sets.proofs.walk.SetWalk.step.Goals as goal

pub returns-in-Some-clause-inside : goal.returns-in-Some-clause-inside
returns-in-Some-clause-inside c =
    let w = c.args.self.now in
    slice_get_within w.sets c.in-Some.number (image c.args.a.now (set_at w c.args.set) c.args.letter) (c.requires.made.images c.args.set c.args.letter c.in-Some.number c.requires.set_in c.requires.letter_in (sym c.known_image.ensures ∙ c.in-Some.is))
