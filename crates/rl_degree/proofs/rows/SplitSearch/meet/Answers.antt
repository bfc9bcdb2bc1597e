use Rattle.std.proofs.Common.{ℕ, get_or, subst, arith}
use Rattle.rl_graph.specs.Graph.{edges_of}
use Rattle.rl_graph.proofs.ProductLaws.{bounded-pairs}
use Rattle.rl_kernel.specs.Seats.{seats_of}
use Rattle.rl_kernel.proofs.InnerPaths.{bounded-inner}
use Rattle.rl_degree.specs.internal.Rows.{field_of, search_state_of, outer_of, IsReached}
use Rattle.rl_degree.proofs.RowLaws.{reach-further}
use Rattle.rl_degree.proofs.rows.SplitSearch.meet.Goals as goal

pub place_in-requires-clause-pair_in : goal.place_in-requires-clause-pair_in
place_in-requires-clause-pair_in c =
    let g = c.args.g.now in
    let t = c.args.table.now in
    let h = bounded-inner g t.inner t.components (seats_of t.kernel) c.requires.table.inner in
    let b = bounded-pairs (edges_of t.inner) t.inner.states g.letters h in
    omega (arith, b.targets (outer_of (field_of g t c.args.part) c.args.found.now) c.args.letter c.args.next c.requires.moves, c.requires.table.placed.size)

pub returns-in_ok-reach : goal.returns-in_ok-reach
returns-in_ok-reach c =
    let d = field_of c.args.g.now c.args.table.now c.args.part in
    let f = c.args.found.now in
    let image = c.args.image.now in
    let old = search_state_of c.args.self.now in
    let new = search_state_of c.reach.new.self in
    let place = c.in-Some.ensures in
    let met : IsReached f.step c.args.letter (get_or d.places c.args.next 0) image old new = subst (λ (z : ℕ). IsReached f.step c.args.letter z image old new) place.place c.in_ok-reach.ensures in
    let r = reach-further d f c.args.letter c.args.next image old new c.requires.searching c.requires.image c.requires.moves place.member met in
    (r.0, λ member. r.1)
