use Rattle.std.proofs.Common.{◌≡◌, ◌+◌, ◌<◌, ◌≤◌, ℕ, false, not, length, get_or, ◌∙◌, ap, subst, arith}
use Rattle.std.proofs.lemmas.List.{get_or_read}
use Rattle.std.proofs.lemmas.Bool.{both_ways}
use Rattle.rl_graph.specs.Graph.{edges_of}
use Rattle.rl_graph.specs.Parts.{number_of}
use Rattle.rl_kernel.specs.Members.{is_member, IsPlace}
use Rattle.rl_degree.specs.internal.Splits.{HasSplit}
use Rattle.rl_degree.specs.internal.Ranks.{best_at}
use Rattle.rl_degree.proofs.SearchLaws.{not-there}
use Rattle.rl_degree.proofs.RankLaws.{splits-more, splits-all, none-some}
use Rattle.rl_degree.proofs.ranks.best_by_splits.Goals as goal

pub returns-then-is_none-clause-splits : goal.returns-then-is_none-clause-splits
returns-then-is_none-clause-splits c =
    let k = c.args.table.now.kernel in
    λ t h s. absurd (both_ways (is_member k.states.items k.places.items c.args.state) (none-some c.place_of.result (is_member k.states.items k.places.items c.args.state ≡ false) (IsPlace k.states.items k.places.items c.args.state) (c.is_none.ensures ∙ ap not c.if-is_none.true) c.place_of.ensures)
    (not-there c.args.g.now c.args.table.now c.requires.table.whole c.requires.table c.requires.no_twin c.args.state t c.requires.state_in h s).0)

pub best_by_split-requires-clause-to_in : goal.best_by_split-requires-clause-to_in
best_by_split-requires-clause-to_in c =
    let states = c.args.table.now.kernel.states.items in
    let lt : c.loop-place.place < length states = omega arith in
    let e : c.index-to.result.now ≡ get_or states c.loop-place.place 0 = get_or_read states c.loop-place.place c.index-to.result.now lt c.index-to.ensures 0 in
    omega (arith, e, c.requires.table.kernel.seats.below c.loop-place.place lt)

pub loop-place-preserved : goal.loop-place-preserved
loop-place-preserved c =
    let g = c.args.g.now in
    let p = c.args.table.now.components in
    let bests = c.args.bests.now in
    let states = c.args.table.now.kernel.states.items in
    let i = c.loop-place.invariant in
    let o = c.in_ok-best.ensures in
    let d = c.in_ok-best.best.rank in
    let e : c.index-to.result.now ≡ get_or states c.loop-place.place 0 = get_or_read states c.loop-place.place c.index-to.result.now (omega arith) c.index-to.ensures 0 in
    record {
      good = o.good;
      least = omega (arith, i.least, o.least);
      splits = splits-more (edges_of g) p bests c.args.state states c.loop-place.place c.loop-place.best.rank d i.splits o.least
          (subst (λ (z : ℕ). HasSplit (edges_of g) c.args.state z → (best_at bests (number_of p z)).rank + 1 ≤ d) e o.split);
      marks = o.marks;
    }

pub returns-clause-splits : goal.returns-clause-splits
returns-clause-splits c =
    let g = c.args.g.now in
    let t = c.args.table.now in
    splits-all (edges_of g) g.states t.components c.args.bests.now c.args.state t.kernel.states.items t.kernel.places.items c.loop-place.place c.loop-place.best.rank (omega arith)
    (λ q h s. (not-there g t c.requires.table.whole c.requires.table c.requires.no_twin c.args.state q c.requires.state_in h s).1) c.loop-place.invariant.splits
