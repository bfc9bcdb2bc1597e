use Rattle.std.proofs.Common.{◌≡◌, refl, sym, arith}
use Rattle.std.proofs.lemmas.Option.{get_or_from_slice_get}
use Rattle.rl_sets.specs.internal.Search.{found_of, number_at}
use Rattle.rl_sets.proofs.ExpandLemmas.{note-live}
use Rattle.rl_sets.proofs.walk.SetWalk.note_route.Goals as goal

pub note-requires : goal.note-requires
note-requires c =
    let f = found_of c.args.search.now in
    let number : c.index.result.now ≡ number_at f c.args.at = sym (get_or_from_slice_get f.numbers c.args.at c.index.result.now 0 c.index.ensures) in
    omega (arith, number, c.requires.set_in)

pub returns-clause-made : goal.returns-clause-made
returns-clause-made c a made route =
    let f = found_of c.args.search.now in
    let number : c.index.result.now ≡ number_at f c.args.at = sym (get_or_from_slice_get f.numbers c.args.at c.index.result.now 0 c.index.ensures) in
    c.note.ensures.made a made (note-live a c.args.self.now c.args.self.now f c.args.at c.index.result.now c.args.route refl number route)
