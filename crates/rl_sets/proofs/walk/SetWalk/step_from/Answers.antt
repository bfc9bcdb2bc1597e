use Rattle.std.proofs.Common.{sym}
use Rattle.std.proofs.lemmas.Option.{get_or_from_slice_get}
use Rattle.rl_sets.specs.internal.Search.{found_of}
use Rattle.rl_sets.proofs.SearchLemmas.{grown-step, over-step, image-step}
use Rattle.rl_sets.proofs.walk.SetWalk.step_from.Goals as goal

pub returns-clause-grown : goal.returns-clause-grown
returns-clause-grown c =
    grown-step c.args.a.now c.args.self.now c.step.new.self (found_of c.args.search.now) c.args.place c.args.letter c.index.result.now c.step.result c.requires.search c.requires.place_in c.requires.letter_in (sym (get_or_from_slice_get c.args.search.now.numbers.keys c.args.place c.index.result.now 0 c.index.ensures)) c.step.ensures.listed c.step.ensures.unchanged

pub returns-clause-full : goal.returns-clause-full
returns-clause-full c =
    over-step c.args.a.now c.args.self.now (found_of c.args.search.now) c.args.place c.args.letter c.index.result.now c.step.result c.requires.made c.requires.search c.requires.place_in c.requires.letter_in (sym (get_or_from_slice_get c.args.search.now.numbers.keys c.args.place c.index.result.now 0 c.index.ensures)) c.step.ensures.full

pub returns-clause-image : goal.returns-clause-image
returns-clause-image c =
    image-step c.args.a.now c.args.self.now c.step.new.self (found_of c.args.search.now) c.args.place c.args.letter c.index.result.now c.step.result c.requires.search c.requires.place_in c.requires.letter_in (sym (get_or_from_slice_get c.args.search.now.numbers.keys c.args.place c.index.result.now 0 c.index.ensures)) c.step.ensures.listed c.step.ensures.unchanged
