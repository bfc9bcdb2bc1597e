use Rattle.std.proofs.Common.{ℕ, ◌*◌, List, Bool, subst}
use Rattle.rl_graph.specs.Graph.{edges_of}
use Rattle.rl_graph.specs.Parts.{IsParts}
use Rattle.rl_graph.specs.internal.Marked.{listed_moves, AreRepeats}
use Rattle.rl_graph.proofs.MarkedLaws.{listed-parts}
use Rattle.rl_graph.proofs.pairs.whole_parts.Goals as goal

pub returns : goal.returns
returns c =
    let next = edges_of c.args.g.now in
    let n = c.args.g.now.states in
    let marks = c.args.moving.now in
    let parts = c.in_ok-parts.parts in
    let letters = c.in_ok-letters.letters.items in
    let repeats = c.in_ok-repeats.repeats.items in
    let are : AreRepeats next n letters repeats = subst (λ (z : List ℕ). AreRepeats next n z repeats) c.deref.ensures.value c.in_ok-repeats.ensures in
    let some = subst (λ (z : List ℕ). IsParts (listed_moves next n marks z c.deref-3.result.now) (n * n) parts) c.deref-2.ensures.value c.in_ok-parts.ensures in
    listed-parts c.args.g.now marks letters repeats parts c.in_ok-letters.ensures are
    (subst (λ (z : List Bool). IsParts (listed_moves next n marks letters z) (n * n) parts) c.deref-3.ensures.value some)
