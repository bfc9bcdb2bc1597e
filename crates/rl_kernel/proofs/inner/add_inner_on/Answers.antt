use Rattle.std.proofs.Common.{true, subst, ◌≡◌, ◌<◌, ℕ, List, length, get_or, sym, ◌∙◌, ap, arith}
use Rattle.std.proofs.lemmas.Bool.{both_ways}
use Rattle.std.proofs.lemmas.List.{get_or_read}
use Rattle.rl_graph.specs.Graph.{edges_of, IsAdded}
use Rattle.rl_graph.specs.Parts.{number_of}
use Rattle.rl_graph.proofs.Sums.{Has-get_or}
use Rattle.rl_kernel.specs.Seats.{seats_of, state_at}
use Rattle.rl_kernel.proofs.InnerLaws.{kept-here, inner-added, row-more, row-passed, inner-row, filling-first, filling-added, filling-passed}
use Rattle.rl_kernel.proofs.inner.add_inner_on.Goals.{in-Some+in_ok-add, in_default}
use Rattle.rl_kernel.specs.Members.{is_member}
use Rattle.rl_kernel.specs.Inner.{IsKept}
use Rattle.rl_kernel.proofs.inner.add_inner_on.Goals as goal

pub place_within-requires-clause-size : goal.place_within-requires-clause-size
place_within-requires-clause-size c =
    let g = c.args.g.now in
    let s = seats_of c.args.kernel.now in
    let i = c.args.place in
    let k = c.loop-number.number in
    let es = get_or_read s.states i c.index-state.result.now c.requires.place_in c.index-state.ensures 0 in
    let row = edges_of g (state_at s i) c.args.letter in
    let er : c.edges-row.result.now ≡ row = c.edges-row.ensures.targets ∙ ap (λ z. edges_of g z c.args.letter) es in
    let lt : k < length row = omega (arith, ap length er, c.loop-number-test.true) in
    let small = c.edges-row.ensures.whole.targets (state_at s i) c.args.letter (get_or row k 0) (Has-get_or row k 0 lt) in
    rw er (omega (arith, small, c.requires.size))

pub place_within-requires-clause-state_in : goal.place_within-requires-clause-state_in
place_within-requires-clause-state_in c =
    let g = c.args.g.now in
    let s = seats_of c.args.kernel.now in
    let i = c.args.place in
    let k = c.loop-number.number in
    let es = get_or_read s.states i c.index-state.result.now c.requires.place_in c.index-state.ensures 0 in
    let row = edges_of g (state_at s i) c.args.letter in
    let er : c.edges-row.result.now ≡ row = c.edges-row.ensures.targets ∙ ap (λ z. edges_of g z c.args.letter) es in
    let lt : k < length row = omega (arith, ap length er, c.loop-number-test.true) in
    let small = c.edges-row.ensures.whole.targets (state_at s i) c.args.letter (get_or row k 0) (Has-get_or row k 0 lt) in
    rw er (omega (arith, small, c.requires.seats.size))

pub loop-number-preserved : goal.loop-number-preserved
loop-number-preserved c =
    let g = c.args.g.now in
    let p = c.args.components.now in
    let s = seats_of c.args.kernel.now in
    let i = c.args.place in
    let l = c.args.letter in
    let k = c.loop-number.number in
    let h = c.loop-number.inner in
    let inv = c.loop-number.invariant in
    let es = get_or_read s.states i c.index-state.result.now c.requires.place_in c.index-state.ensures 0 in
    let row = edges_of g (state_at s i) l in
    let er : c.edges-row.result.now ≡ row = c.edges-row.ensures.targets ∙ ap (λ z. edges_of g z l) es in
    let e = ap (λ (r : List ℕ). get_or r k 0) er in
    let lt : k < length row = omega (arith, ap length er, c.loop-number-test.true) in
    let eo : c.index-own.result.now ≡ number_of p (state_at s i) =
    get_or_read s.levels i c.index-own.result.now (omega (arith, c.requires.place_in, c.requires.seats.same_length)) c.index-own.ensures 0 ∙ c.requires.seats.level i c.requires.place_in in
    elim c.match-place_within.branch [
      | in-Some+in_ok-add w ↦
          let is = w.in-Some.ensures in
          let same : number_of p (get_or row k 0) ≡ number_of p (state_at s i) = ap (number_of p) (sym e) ∙ (is.0 ∙ eo) in
          let member : is_member s.states s.places (get_or row k 0) ≡ true = ap (is_member s.states s.places) (sym e) ∙ is.1.member in
          let at : w.in-Some.next ≡ get_or s.places (get_or row k 0) 0 = is.1.place ∙ ap (λ z. get_or s.places z 0) e in
          let a : IsAdded h c.match-place_within.inner i l w.in-Some.next = rw w.inner-is w.in_ok-add.ensures.added in
          let kept : IsKept g p s i l w.in-Some.next = subst (IsKept g p s i l) (sym at) (kept-here g p s i l (get_or row k 0) c.requires.place_in (Has-get_or row k 0 lt) same member) in
          record {
            so_far = inner-added g p s i l w.in-Some.next h c.match-place_within.inner inv.so_far a kept;
            row = row-more g p s i l k w.in-Some.next h c.match-place_within.inner a at inv.row;
            filling = filling-added i l k w.in-Some.next h c.match-place_within.inner a inv.filling;
          }
      | in_default w ↦
          rw w.inner-is (record {
            so_far = inv.so_far;
            row = row-passed g p s i l k h (λ same m. both_ways (is_member s.states s.places (get_or row k 0)) (ap (is_member s.states s.places) (sym e) ∙ w.in_default.ensures (ap (number_of p) e ∙ (same ∙ sym eo))) m) inv.row;
            filling = filling-passed i l k h inv.filling;
          })
    ]

pub returns-clause-so_far : goal.returns-clause-so_far
returns-clause-so_far c =
    let g = c.args.g.now in
    let s = seats_of c.args.kernel.now in
    let i = c.args.place in
    let es = get_or_read s.states i c.index-state.result.now c.requires.place_in c.index-state.ensures 0 in
    let er : c.edges-row.result.now ≡ edges_of g (state_at s i) c.args.letter = c.edges-row.ensures.targets ∙ ap (λ z. edges_of g z c.args.letter) es in
    inner-row g c.args.components.now g.states i c.args.letter c.loop-number.number s c.loop-number.inner c.requires.seats (omega (arith, c.loop-number-test.false, ap length er)) c.loop-number.invariant.so_far c.loop-number.invariant.row

pub add-requires-clause-room : goal.add-requires-clause-room
add-requires-clause-room c =
    omega (arith, c.loop-number.invariant.filling.few, c.loop-number-test.true, c.edges-row.ensures.short)
