use Rattle.std.proofs.Common.{◌≡◌, ◌<◌, ℕ, List, length, get_or, sym, ◌∙◌, ap, arith}
use Rattle.rl_graph.specs.Graph.{edges_of}
use Rattle.rl_graph.specs.Parts.{number_of}
use Rattle.rl_graph.proofs.Sums.{Has-get_or}
use Rattle.rl_kernel.proofs.InnerLaws.{filling-passed}
use Rattle.rl_numbers.proofs.InnerLaws.{row-put, row-passed, inner-row}
use Rattle.rl_numbers.specs.Level.{table_of}
use Rattle.rl_numbers.specs.internal.Inner.{IsAddedOnce}
use Rattle.rl_numbers.proofs.leveling.add_level_on.Goals as goal
use Rattle.rl_numbers.proofs.leveling.add_level_on.Goals.{then-ranks-target+in_ok-add_once, else-ranks-target}

pub bounds-ranks-target : goal.bounds-ranks-target
bounds-ranks-target c =
    let g = c.args.g.now in
    let row = edges_of g c.args.state c.args.letter in
    let k = c.loop-place.place in
    let lt : k < length row = omega (arith, ap length c.edges-row.ensures.targets) in
    let small = c.edges-row.ensures.whole.targets c.args.state c.args.letter (get_or row k 0) (Has-get_or row k 0 lt) in
    rw c.edges-row.ensures.targets (omega (arith, small, c.requires.size))

pub add_once-requires-clause-target_in : goal.add_once-requires-clause-target_in
add_once-requires-clause-target_in c =
    let g = c.args.g.now in
    let row = edges_of g c.args.state c.args.letter in
    let k = c.loop-place.place in
    let lt : k < length row = omega (arith, ap length c.edges-row.ensures.targets) in
    let small = c.edges-row.ensures.whole.targets c.args.state c.args.letter (get_or row k 0) (Has-get_or row k 0 lt) in
    rw c.edges-row.ensures.targets (omega (arith, small, c.loop-place.invariant.so_far.same_states))

pub loop-place-preserved : goal.loop-place-preserved
loop-place-preserved c =
    let g = c.args.g.now in
    let p = (table_of c.args.ranks.now) in
    let s = c.args.state in
    let l = c.args.letter in
    let row = edges_of g s l in
    let k = c.loop-place.place in
    let h = c.loop-place.inner in
    let i = c.loop-place.invariant in
    let lt : k < length row = omega (arith, ap length c.edges-row.ensures.targets) in
    let e = ap (λ (r : List ℕ). get_or r k 0) c.edges-row.ensures.targets in
    elim c.if-ranks-target.branch [
      | then-ranks-target+in_ok-add_once w ↦
          let same : number_of p (get_or row k 0) ≡ number_of p s =
          ap (number_of p) (sym e) ∙ w.if-ranks-target.true in
          let put : IsAddedOnce h c.if-ranks-target.inner s l (get_or row k 0) =
          rw w.inner-is (rw (← e) w.in_ok-add_once.ensures) in
          let r = row-put g p s l k h c.if-ranks-target.inner i.so_far i.row i.filling lt same put in
          record { so_far = r.0; row = r.1; filling = r.2 }
      | else-ranks-target w ↦
          rw w.inner-is (record {
            so_far = i.so_far;
            row = row-passed g p s l k h (λ same. w.if-ranks-target.false (ap (number_of p) e ∙ same)) i.row;
            filling = filling-passed s l k h i.filling;
          })
    ]

pub returns-clause-so_far : goal.returns-clause-so_far
returns-clause-so_far c =
    inner-row c.args.g.now (table_of c.args.ranks.now) c.args.state c.args.letter c.loop-place.place c.loop-place.inner (omega (arith, c.loop-place-test.false, ap length c.edges-row.ensures.targets)) c.loop-place.invariant.so_far c.loop-place.invariant.row

pub add_once-requires-clause-room : goal.add_once-requires-clause-room
add_once-requires-clause-room c =
    omega (arith, c.loop-place.invariant.filling.few, c.loop-place-test.true, c.edges-row.ensures.short)

pub edges-row-requires-clause-from_in : goal.edges-row-requires-clause-from_in
edges-row-requires-clause-from_in c = c.requires.state_in

pub edges-row-requires-clause-letter_in : goal.edges-row-requires-clause-letter_in
edges-row-requires-clause-letter_in c = c.requires.letter_in

pub add_once-requires-clause-state_in : goal.add_once-requires-clause-state_in
add_once-requires-clause-state_in c = omega (arith, c.requires.state_in, c.loop-place.invariant.so_far.same_states)

pub add_once-requires-clause-letter_in : goal.add_once-requires-clause-letter_in
add_once-requires-clause-letter_in c = omega (arith, c.requires.letter_in, c.loop-place.invariant.so_far.same_letters)
