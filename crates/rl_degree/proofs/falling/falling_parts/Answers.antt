use Rattle.std.proofs.Common.{ℕ, List, ◌∙◌, ap, subst, false, get_or}
use Rattle.rl_graph.proofs.MarkedLaws.{marked-parts}
use Rattle.rl_degree.specs.internal.FallingPairs.{is_walked, AreFlags}
use Rattle.rl_degree.proofs.EnteredLaws.{falling-parted}
use Rattle.rl_degree.proofs.falling.falling_parts.Goals as goal

pub returns : goal.returns
returns c =
    let g = c.args.g.now in
    let n = g.states in
    let levels = c.args.levels.now in
    let entries = c.in_ok-entries.entries.items in
    let parts = c.in_ok-parts.parts in
    let flags = c.in_ok-flags.flags.items in
    let f : AreFlags levels entries n flags =
    subst (λ (z : List ℕ). AreFlags levels z n flags) c.deref.ensures.value (subst (λ (z : ℕ). AreFlags levels c.deref.result.now z flags) c.requires.size c.in_ok-flags.ensures) in
    falling-parted g levels entries parts c.requires.whole c.in_ok-entries.ensures
    (marked-parts g c.deref-2.result.now (is_walked levels entries n) parts (λ x lt. ap (λ z. get_or z x false) c.deref-2.ensures.value ∙ f.right x lt) c.in_ok-parts.ensures)
