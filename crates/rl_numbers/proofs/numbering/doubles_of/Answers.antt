use Rattle.std.proofs.Common.{ℕ, List, get_or, subst, arith}
use Rattle.std.proofs.lemmas.Nat.{mul-add-lt}
use Rattle.std.proofs.lemmas.Result.{IfOk-weaker}
use Rattle.rl_graph.specs.Graph.{edges_of}
use Rattle.rl_graph.specs.Product.{pair_moves}
use Rattle.rl_graph.proofs.GraphLaws.{bounded-whole}
use Rattle.rl_graph.proofs.Sums.{Has-get_or}
use Rattle.rl_numbers.specs.Doubled.{AreDoubles}
use Rattle.rl_numbers.specs.internal.Diagonal.{IsDiagonalUpTo}
use Rattle.rl_numbers.specs.internal.ReachedDoubles.{AreReachedDoubles}
use Rattle.rl_numbers.specs.Reached.{IsReach}
use Rattle.rl_numbers.proofs.DoubleList.{listed_doubles}
use Rattle.rl_numbers.proofs.numbering.doubles_of.Goals as goal

pub doubles_by-requires-clause-starts : goal.doubles_by-requires-clause-starts
doubles_by-requires-clause-starts c = rw (c.deref.ensures.value, ← c.states-states.ensures.number) (λ k d lt.
    let l = c.in_ok-starts.starts.items in
    let n = c.states-states.result in
    let s = c.in_ok-starts.ensures.sound (get_or l k d) (Has-get_or l k d lt) in
    omega (arith, s.2, mul-add-lt s.0 n s.0 n s.1 s.1))

pub returns : goal.returns
returns c =
    let g = c.args.g.now in
    let starts = c.in_ok-starts.starts.items in
    let diagonal = subst (λ (n : ℕ). IsDiagonalUpTo n n starts) c.states-states.ensures.number c.in_ok-starts.ensures in
    IfOk-weaker c.doubles_by.result (AreReachedDoubles g c.deref.result.now) (λ l. AreDoubles (edges_of g) g.states l)
    (λ l found.
    let reach = subst (λ (l : List ℕ). IsReach (pair_moves (edges_of g) g.states) l found.keys) c.deref.ensures.value found.reach in
    rw found.same (listed_doubles (edges_of g) g.states g.letters starts found.keys found.parts (bounded-whole g c.states-states.ensures.whole) c.requires.no_twin diagonal
    reach found.inside found.are_parts))
    c.doubles_by.ensures
