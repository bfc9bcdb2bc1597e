use Rattle.std.proofs.Common.{◌≡◌, ◌<◌, ℕ, Bool, List, [], not, false, length, get_or, ◌∙◌, ap, subst, arith}
use Rattle.std.proofs.lemmas.List.{length-replicate, get_or_read}
use Rattle.rl_graph.specs.Parts.{number_of}
use Rattle.rl_degree.specs.internal.Reached.{IsHopelessUpTo}
use Rattle.rl_degree.proofs.ReachLaws.{hopeless-more}
use Rattle.rl_degree.proofs.hopeless.hopeless_row.Goals as goal

pub loop-state-init : goal.loop-state-init
loop-state-init c = record {
  wide = ap length c.in_ok-row.ensures ∙ (length-replicate c.states.result false ∙ c.states.ensures.number);
  right = λ m lt. absurd (omega arith);
}

pub of-requires : goal.of-requires
of-requires c = omega (arith, c.requires.parts.size, c.states-state-end.ensures.number)

pub get-requires : goal.get-requires
get-requires c =
    let p = c.args.components.now in
    let reached = c.args.reached.now in
    let below = c.requires.parts.below c.loop-state.state (omega (arith, c.states-state-end.ensures.number)) in
    let e : c.index-reached-of.result ≡ get_or reached c.of.result [] = get_or_read reached c.of.result c.index-reached-of.result (omega (arith, c.of.ensures, below, c.requires.reached.size)) c.index-reached-of.is [] in
    omega (arith, ap length e, ap (λ z. length (get_or reached z [])) c.of.ensures, c.requires.reached.wide (number_of p c.loop-state.state) below, c.requires.component_in)

pub set-requires : goal.set-requires
set-requires c = omega (arith, c.loop-state.invariant.wide, c.states-state-end.ensures.number)

pub loop-state-preserved : goal.loop-state-preserved
loop-state-preserved c =
    let n = c.args.g.now.states in
    let p = c.args.components.now in
    let reached = c.args.reached.now in
    let small : c.loop-state.state < n = omega (arith, c.states-state-end.ensures.number) in
    let below = c.requires.parts.below c.loop-state.state small in
    let e : c.index-reached-of.result ≡ get_or reached c.of.result [] = get_or_read reached c.of.result c.index-reached-of.result (omega (arith, c.of.ensures, below, c.requires.reached.size)) c.index-reached-of.is [] in
    let row : c.index-reached-of.result ≡ get_or reached (number_of p c.loop-state.state) [] = e ∙ ap (λ z. get_or reached z []) c.of.ensures in
    hopeless-more n p reached c.args.component c.loop-state.state c.loop-state.row c.set.new.self (not c.get.result) small
    (ap not (c.get.ensures ∙ ap (λ (r : List Bool). get_or r c.args.component false) row)) c.set.ensures c.loop-state.invariant

pub returns : goal.returns
returns c =
    let n = c.args.g.now.states in
    let e : c.loop-state.state ≡ n = omega (arith, c.states-state-end.ensures.number) in
    subst (λ (z : ℕ). IsHopelessUpTo n c.args.components.now c.args.reached.now c.args.component z c.loop-state.row) e c.loop-state.invariant
