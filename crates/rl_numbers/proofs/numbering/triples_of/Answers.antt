use Rattle.std.proofs.Common.{slice_index, sym, subst}
use Rattle.rl_graph.specs.Parts.{cycle_of}
use Rattle.rl_numbers.specs.Starts.{AreStartsUpTo}
use Rattle.rl_numbers.proofs.FoundTriples.{starts-inside, triples-from, few-from, more-from}
use Rattle.rl_numbers.proofs.numbering.triples_of.Goals as goal

pub triples_from-requires : goal.triples_from-requires
triples_from-requires c =
    let g = c.args.g.now in
    let rank = slice_index c.args.ranks.now in
    let components = c.in_ok-starts.ensures.0 in
    let starts : AreStartsUpTo g.states rank (cycle_of components) g.states 0 c.deref.result.now =
    subst (AreStartsUpTo g.states rank (cycle_of components) g.states 0) (sym c.deref.ensures.value) c.in_ok-starts.ensures.2 in
    starts-inside g c.in_ok-level.level rank components c.deref.result.now c.states.ensures.whole c.in_ok-level.ensures.level c.in_ok-level.ensures.letters c.in_ok-starts.ensures.1 starts

pub returns-clause-triples : goal.returns-clause-triples
returns-clause-triples c =
    let g = c.args.g.now in
    let rank = slice_index c.args.ranks.now in
    let components = c.in_ok-starts.ensures.0 in
    let starts : AreStartsUpTo g.states rank (cycle_of components) g.states 0 c.deref.result.now =
    subst (AreStartsUpTo g.states rank (cycle_of components) g.states 0) (sym c.deref.ensures.value) c.in_ok-starts.ensures.2 in
    triples-from g c.in_ok-level.level rank components c.deref.result.now c.states.ensures.whole c.in_ok-level.ensures.level c.in_ok-level.ensures.letters c.in_ok-starts.ensures.1 starts c.requires.no_split c.triples_from.result c.triples_from.ensures.triples

pub returns-clause-few : goal.returns-clause-few
returns-clause-few c =
    let g = c.args.g.now in
    let rank = slice_index c.args.ranks.now in
    let components = c.in_ok-starts.ensures.0 in
    let starts : AreStartsUpTo g.states rank (cycle_of components) g.states 0 c.deref.result.now =
    subst (AreStartsUpTo g.states rank (cycle_of components) g.states 0) (sym c.deref.ensures.value) c.in_ok-starts.ensures.2 in
    few-from g c.in_ok-level.level rank components c.deref.result.now c.states.ensures.whole c.in_ok-level.ensures.level c.in_ok-level.ensures.letters c.in_ok-starts.ensures.1 starts c.triples_from.result c.triples_from.ensures.triples

pub returns-clause-too_many : goal.returns-clause-too_many
returns-clause-too_many c =
    let g = c.args.g.now in
    let rank = slice_index c.args.ranks.now in
    let components = c.in_ok-starts.ensures.0 in
    let starts : AreStartsUpTo g.states rank (cycle_of components) g.states 0 c.deref.result.now =
    subst (AreStartsUpTo g.states rank (cycle_of components) g.states 0) (sym c.deref.ensures.value) c.in_ok-starts.ensures.2 in
    more-from g c.in_ok-level.level rank components c.deref.result.now c.states.ensures.whole c.in_ok-level.ensures.level c.in_ok-level.ensures.letters c.in_ok-starts.ensures.1 starts c.triples_from.result c.triples_from.ensures.too_many
