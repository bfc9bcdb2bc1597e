use Rattle.std.proofs.Common.{◌≡◌, ◌+◌, ◌∙◌, List, length, slice_index, refl, subst, sym, arith}
use Rattle.std.proofs.lemmas.Result.{IfErr-at_err}
use Rattle.rl_graph.specs.Graph.{edges_of}
use Rattle.rl_degree.specs.Chains.{links_of}
use Rattle.rl_degree.specs.declared.chains.Split.{Split}
use Rattle.rl_growth.specs.Routes.{IsRoute, state_after}
use Rattle.rl_numbers.specs.Least.{LeastTriple, AreMoreThan}
use Rattle.rl_numbers.specs.declared.numbering.TheConstants.{MOST_TRIPLES}
use Rattle.rl_syntax.specs.declared.verdict.Limit.{Limit}
use Rattle.rl_cert.specs.Ways.{chain_anchors}
use Rattle.rl_cert.specs.declared.certificate.Certificate.{Certificate}
use Rattle.rl_cert.specs.declared.making.CertError.TheVariants.{Undecided, TooLarge}
use Rattle.rl_pairs.specs.PairTable.{moves_in, pair_in}
use Rattle.rl_growth.proofs.VerdictLaws.{chain_fits}
use Rattle.rl_cert.proofs.MadeLaws.{no-split, graded-made, graded-large}
use Rattle.rl_cert.proofs.making.graded.Goals as goal

pub chain_family-requires-clause-route : goal.chain_family-requires-clause-route
chain_family-requires-clause-route c =
    let g = c.args.g.now in
    subst (IsRoute (moves_in g) g.graph.states) (sym c.as_slice-splits.ensures) c.requires.longest.route

pub overflow_cast-power : goal.overflow_cast-power
overflow_cast-power c =
    let g = c.args.g.now in
    let fits = chain_fits c.args.a.now (moves_in g) (pair_in g) g.graph.states _ _ _ _ c.requires.stands c.requires.led.graph c.requires.no_twin c.in_ok-family.ensures.2 in
    omega (arith, fits, c.requires.led.few)

pub overflow_add-power : goal.overflow_add-power
overflow_add-power c =
    let g = c.args.g.now in
    let fits = chain_fits c.args.a.now (moves_in g) (pair_in g) g.graph.states _ _ _ _ c.requires.stands c.requires.led.graph c.requires.no_twin c.in_ok-family.ensures.2 in
    omega (arith, fits, c.requires.led.few)

pub numbers_of-requires-clause-no_split : goal.numbers_of-requires-clause-no_split
numbers_of-requires-clause-no_split c =
    no-split c.args.a.now c.args.g.now c.args.chain.now c.requires.longest c.graph.result.now c.args.chain.now.ranks c.as_slice.result.now c.requires.stands c.requires.led.graph c.graph.ensures refl c.as_slice.ensures

pub returns-in-Err-clause-told : goal.returns-in-Err-clause-told
returns-in-Err-clause-told c = λ limit same. IfErr-at_err {T = Certificate} (λ e. (limit : Limit) → e ≡ Undecided limit → ⊥) same c.in-Err.ensures.told limit refl

pub returns-in-Err-clause-too_large : goal.returns-in-Err-clause-too_large
returns-in-Err-clause-too_large c = λ same.
    let h = c.graph.result.now in
    let given = c.as_slice.result.now in
    graded-large c.args.a.now c.args.g.now c.args.chain.now c.requires.longest h c.args.chain.now.ranks given c.args.cycle.now.state c.args.cycle.now.word c.graph.ensures refl c.as_slice.ensures
    c.requires.no_twin c.requires.some c.requires.cycle
    (IfErr-at_err {T = Certificate} (λ e. e ≡ TooLarge → AreMoreThan MOST_TRIPLES (LeastTriple (edges_of h) h.states (slice_index given))) same c.in-Err.ensures.too_many refl)

pub returns-clause-made : goal.returns-clause-made
returns-clause-made c =
    let splits = c.as_slice-splits.result.now in
    let alone = c.args.cycle.now.state in
    let anchors = subst (λ (l : List Split). c.in-Ok.anchors ≡ chain_anchors (links_of l) (state_after l alone)) (sym c.as_slice-splits.ensures) c.in-Ok.ensures.anchors in
    graded-made c.args.a.now c.args.g.now c.args.chain.now c.requires.longest c.graph.result.now c.graph.result.now splits c.in-Ok.ranks c.as_slice.result.now c.in_ok-family.family c.in-Ok.anchors c.in-Ok-numbers_of.numbers.0 c.in-Ok-numbers_of.numbers.1
    alone (length splits + 1) c.in_ok-family.ensures.0 c.in_ok-family.ensures.1 c.graph.ensures c.graph.ensures c.as_slice-splits.ensures c.in-Ok.ensures.ranks (c.as_slice.ensures ∙ sym c.in-Ok.ensures.ranks) c.requires.no_twin
    c.in_ok-family.ensures.2 c.in_ok-family.ensures.3 refl anchors c.in-Ok-numbers_of.ensures.doubles c.in-Ok-numbers_of.ensures.triples c.in-Ok-numbers_of.ensures.few

pub chain_family-requires-clause-stands : goal.chain_family-requires-clause-stands
chain_family-requires-clause-stands c = c.requires.stands

pub chain_family-requires-clause-led : goal.chain_family-requires-clause-led
chain_family-requires-clause-led c = c.requires.led

pub chain_family-requires-clause-state_in : goal.chain_family-requires-clause-state_in
chain_family-requires-clause-state_in c = c.requires.state_in

pub chain_family-requires-clause-some : goal.chain_family-requires-clause-some
chain_family-requires-clause-some c = c.requires.some

pub chain_family-requires-clause-cycle : goal.chain_family-requires-clause-cycle
chain_family-requires-clause-cycle c = c.requires.cycle
