use Rattle.std.proofs.Common.{subst, sym}
use Rattle.rl_graph.specs.Graph.{Graph, edges_of}
use Rattle.rl_graph.specs.Parts.{IsParts}
use Rattle.rl_graph.specs.Twins.{HasNoTwin}
use Rattle.rl_growth.proofs.LongestLaws.{longest_of}
use Rattle.rl_cert.proofs.making.polynomial.Goals as goal

pub graded-certificate-requires-clause-longest : goal.graded-certificate-requires-clause-longest
graded-certificate-requires-clause-longest c =
    longest_of c.args.a.now c.args.g.now c.graph.result.now c.in_ok-chain.chain c.graph.ensures c.requires.led c.in_ok-chain.ensures.links c.in_ok-chain.ensures.states c.in_ok-chain.ensures.longest c.in_ok-chain.ensures.ranks c.in_ok-chain.ensures.no_cycle

pub flat-requires : goal.flat-requires
flat-requires c =
    let longest = longest_of c.args.a.now c.args.g.now c.graph.result.now c.in_ok-chain.chain c.graph.ensures c.requires.led c.in_ok-chain.ensures.links c.in_ok-chain.ensures.states c.in_ok-chain.ensures.longest c.in_ok-chain.ensures.ranks c.in_ok-chain.ensures.no_cycle in
    let none = rw c.in-None.is at longest.no_cycle in
    record { no_cycle = none }

pub degree_over-requires-clause-parts : goal.degree_over-requires-clause-parts
degree_over-requires-clause-parts c = subst (λ (x : Graph). IsParts (edges_of x) x.states c.args.components) (sym c.graph.ensures) c.requires.parts

pub degree_over-requires-clause-no_twin : goal.degree_over-requires-clause-no_twin
degree_over-requires-clause-no_twin c = subst (λ (x : Graph). HasNoTwin (edges_of x)) (sym c.graph.ensures) c.requires.no_twin

pub graded-certificate-requires-clause-stands : goal.graded-certificate-requires-clause-stands
graded-certificate-requires-clause-stands c = c.requires.stands

pub graded-certificate-requires-clause-led : goal.graded-certificate-requires-clause-led
graded-certificate-requires-clause-led c = c.requires.led

pub graded-certificate-requires-clause-no_twin : goal.graded-certificate-requires-clause-no_twin
graded-certificate-requires-clause-no_twin c = c.requires.no_twin

pub returns-in-Some-clause-made : goal.returns-in-Some-clause-made
returns-in-Some-clause-made c = c.graded-certificate.ensures.made

pub returns-in-Some-clause-told : goal.returns-in-Some-clause-told
returns-in-Some-clause-told c = c.graded-certificate.ensures.told

pub returns-in-Some-clause-too_large : goal.returns-in-Some-clause-too_large
returns-in-Some-clause-too_large c = c.graded-certificate.ensures.too_large
