use Rattle.std.proofs.Common.{length, sym, ◌∙◌, arith}
use Rattle.std.proofs.lemmas.Option.{get_or_from_slice_get}
use Rattle.rl_sets.specs.internal.Search.{found_of}
use Rattle.rl_sets.proofs.ExpandLemmas.{note-dead}
use Rattle.rl_sets.proofs.walk.SetWalk.bury.Goals as goal

pub returns-in_err-note-clause-made : goal.returns-in_err-note-clause-made
returns-in_err-note-clause-made c =
    let f = found_of c.args.search.now in
    let i = c.loop-i.invariant in
    c.note.ensures.made c.args.a.now i.0 (note-dead c.args.a.now c.args.self.now c.loop-i.self f (length f.numbers) c.loop-i.i c.index.result.now c.states-states.ensures.automaton c.requires.search (omega arith) c.requires.dead (omega (arith, c.loop-i-test.true, c.len-i-end.ensures.len)) i.2 (sym (get_or_from_slice_get f.numbers c.loop-i.i c.index.result.now 0 c.index.ensures)))

pub loop-i-preserved : goal.loop-i-preserved
loop-i-preserved c =
    let f = found_of c.args.search.now in
    let i = c.loop-i.invariant in (
      c.note.ensures.made c.args.a.now i.0 (note-dead c.args.a.now c.args.self.now c.loop-i.self f (length f.numbers) c.loop-i.i c.index.result.now c.states-states.ensures.automaton c.requires.search (omega arith) c.requires.dead (omega (arith, c.loop-i-test.true, c.len-i-end.ensures.len)) i.2 (sym (get_or_from_slice_get f.numbers c.loop-i.i c.index.result.now 0 c.index.ensures))),
      c.note.ensures.limit ∙ i.1,
      c.note.ensures.sets ∙ i.2,
    )
