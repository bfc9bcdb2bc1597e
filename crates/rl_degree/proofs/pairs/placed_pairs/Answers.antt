use Rattle.std.proofs.Common.{ℕ, ◌≡◌, ◌<◌, ◌*◌, sym, subst, ◌∙◌, arith}
use Rattle.rl_graph.specs.Parts.{number_of}
use Rattle.rl_degree.specs.internal.Pairs.{lists_of, IsPut, IsPlacedUpTo}
use Rattle.rl_degree.proofs.PairLaws.{placed-bare, placed-more, placed-passed}
use Rattle.rl_degree.proofs.pairs.placed_pairs.Goals as goal
use Rattle.rl_degree.proofs.pairs.placed_pairs.Goals.{then-wanted+in_ok-put, else-wanted}

pub loop-pair-preserved : goal.loop-pair-preserved
loop-pair-preserved c =
    let components = c.args.levels.now in
    let parts = c.args.parts.now in
    let n = c.args.count in
    let x = c.loop-pair.pair in
    let p = lists_of c.loop-pair.placed in
    let lt : x < n * n = omega arith in
    elim c.if-wanted.branch [
      | then-wanted+in_ok-put w ↦
          let put : IsPut (number_of parts x) x p (lists_of c.if-wanted.placed) = rw w.placed-is (rw w.of.ensures at w.in_ok-put.ensures) in
          placed-more components parts n x p (lists_of c.if-wanted.placed) lt (sym c.wanted.ensures ∙ w.if-wanted.true) put c.loop-pair.invariant
      | else-wanted w ↦
          rw w.placed-is (placed-passed components parts n x p (sym c.wanted.ensures ∙ w.if-wanted.false) c.loop-pair.invariant)
    ]

pub loop-pair-init : goal.loop-pair-init
loop-pair-init c = placed-bare c.args.levels.now c.args.parts.now c.args.count (lists_of c.in_ok-placed.placed) c.in_ok-placed.ensures

pub put-requires-clause-part_in : goal.put-requires-clause-part_in
put-requires-clause-part_in c = omega (arith, c.requires.parts_below c.loop-pair.pair (omega arith), c.of.ensures, c.loop-pair.invariant.numbered)

pub put-requires-clause-pair_in : goal.put-requires-clause-pair_in
put-requires-clause-pair_in c = omega (arith, c.loop-pair.invariant.size)

pub put-requires-clause-lists : goal.put-requires-clause-lists
put-requires-clause-lists c = c.loop-pair.invariant.lists

pub returns : goal.returns
returns c =
    let n = c.args.count in
    let e : c.loop-pair.pair ≡ n * n = omega arith in
    subst (λ (z : ℕ). IsPlacedUpTo c.args.levels.now c.args.parts.now n z (lists_of c.loop-pair.placed)) e c.loop-pair.invariant
