use Rattle.std.proofs.Common.{◌≡◌, ℕ, ◌<◌, List, length, get_or, sym, ◌∙◌, ap, subst, arith}
use Rattle.rl_graph.specs.Graph.{Graph, edges_of, IsWhole}
use Rattle.rl_graph.specs.Parts.{PartTable, number_of}
use Rattle.rl_graph.proofs.Sums.{Has-get_or}
use Rattle.rl_expo.specs.declared.dense.Mark.{Mark}
use Rattle.rl_expo.specs.internal.Dense.{IsMark, AreMarks}
use Rattle.rl_expo.proofs.SearchLaws.{row-in}
use Rattle.rl_expo.proofs.DenseLaws.{earlier-back, marks-more}
use Rattle.rl_expo.proofs.dense.meet_after.Goals as goal
use Rattle.rl_expo.proofs.dense.meet_after.Goals.{then-of-own+in_default, else-of-own}

-- A target in the component of the mark's state.
marked : (g : Graph) (p : PartTable) (k : Mark) (row : List ℕ) (middle i : ℕ) → IsWhole g → k.state < g.states → k.letter < g.letters → k.number < length (edges_of g k.state k.letter) → middle ≡ get_or (edges_of g k.state k.letter) k.number 0
    → row ≡ edges_of g middle k.via → i < length row → number_of p (get_or row i 0) ≡ number_of p k.state → IsMark g p (get_or row i 0) k
marked g p k row middle i w state letter number is e lt same =
    let lt2 : i < length (edges_of g middle k.via) = omega (arith, ap length e) in
    record {
      target_in = rw e (row-in g middle k.via w i 0 lt2);
      state_in = state;
      letter_in = letter;
      number_in = number;
      move = rw (← is, e) (Has-get_or (edges_of g middle k.via) i 0 lt2);
      same = same;
    }

pub of-requires : goal.of-requires
of-requires c =
    let g = c.args.g.now in
    let lt : c.loop-place.place < length (edges_of g c.args.middle c.args.mark.via) = omega (arith, ap length c.edges-row.ensures.targets) in
    rw (c.edges-row.ensures.targets, c.requires.parts.size) (row-in g c.args.middle c.args.mark.via c.edges-row.ensures.whole c.loop-place.place 0 lt)

pub earlier-requires : goal.earlier-requires
earlier-requires c =
    let g = c.args.g.now in
    let lt : c.loop-place.place < length (edges_of g c.args.middle c.args.mark.via) = omega (arith, ap length c.edges-row.ensures.targets) in
    rw (c.edges-row.ensures.targets, c.loop-place.invariant.size) (row-in g c.args.middle c.args.mark.via c.edges-row.ensures.whole c.loop-place.place 0 lt)

pub bounds-marks-target : goal.bounds-marks-target
bounds-marks-target c =
    let g = c.args.g.now in
    let lt : c.loop-place.place < length (edges_of g c.args.middle c.args.mark.via) = omega (arith, ap length c.edges-row.ensures.targets) in
    rw (c.edges-row.ensures.targets, c.loop-place.invariant.size) (row-in g c.args.middle c.args.mark.via c.edges-row.ensures.whole c.loop-place.place 0 lt)

pub returns-in-Some-clause-back : goal.returns-in-Some-clause-back
returns-in-Some-clause-back c =
    let m = marked c.args.g.now c.args.components.now c.args.mark c.edges-row.result.now c.args.middle c.loop-place.place c.states-states.ensures.whole c.requires.state_in c.requires.letter_in c.requires.number_in c.requires.middle c.edges-row.ensures.targets c.loop-place-test.true (sym c.of.ensures ∙ (c.if-of-own.true ∙ c.of-own.ensures)) in
    earlier-back c.args.g.now c.args.components.now c.loop-place.marks (get_or c.edges-row.result.now c.loop-place.place 0) c.args.mark c.in-Some.first c.states-states.ensures.whole c.requires.parts c.loop-place.invariant m c.in-Some.ensures

pub loop-place-preserved : goal.loop-place-preserved
loop-place-preserved c =
    elim c.if-of-own.branch [
      | then-of-own+in_default w ↦
          let m = marked c.args.g.now c.args.components.now c.args.mark c.edges-row.result.now c.args.middle c.loop-place.place c.states-states.ensures.whole c.requires.state_in c.requires.letter_in c.requires.number_in c.requires.middle c.edges-row.ensures.targets c.loop-place-test.true (sym c.of.ensures ∙ (w.if-of-own.true ∙ c.of-own.ensures)) in
          subst (AreMarks c.args.g.now c.args.components.now) (sym w.marks-is)
          (marks-more c.args.g.now c.args.components.now c.loop-place.marks (get_or c.edges-row.result.now c.loop-place.place 0) c.args.mark c.loop-place.invariant m)
      | else-of-own w ↦ subst (AreMarks c.args.g.now c.args.components.now) (sym w.marks-is) c.loop-place.invariant
    ]
