use Rattle.rl_syntax.specs.declared.verdict.Limit.TheVariants.{Sets, Pairs}
use Rattle.rl_pairs.specs.PairTable.{moves_in, pair_in}
use Rattle.rl_cert.specs.Holds.{question_of}
use Rattle.rl_cert.proofs.CheckLaws.{none-holds, result-decides}
use Rattle.rl_cert.proofs.checking.checked_over.Goals as goal

pub returns-in-Ok : goal.returns-in-Ok
returns-in-Ok c =
    let g = c.in-Ok.g in
    let q = question_of c.args.l.now c.args.u c.args.max_pairs in
    result-decides q c.args.c.now c.args.a.now (moves_in g) (pair_in g) g.graph.states _ c.requires.stands c.requires.codes c.states-states.ensures.automaton c.requires.small c.requires.within.0 c.requires.within.1
    c.in-Ok.ensures.graph c.in-Ok.ensures.numbered c.in-Ok.ensures.few_pairs c.in-Ok.ensures.few_sets c.shown-holds.ensures

pub returns-in-Err-Sets : goal.returns-in-Err-Sets
returns-in-Err-Sets c =
    none-holds (question_of c.args.l.now c.args.u c.args.max_pairs) c.args.c.now Sets
    (c.args.a.now, record { stands = c.requires.stands; same_codes = c.requires.codes }, c.in-Err-Sets.ensures.too_many_sets c.in-Err-Sets.field-0-is)

pub returns-in-Err-Pairs : goal.returns-in-Err-Pairs
returns-in-Err-Pairs c =
    none-holds (question_of c.args.l.now c.args.u c.args.max_pairs) c.args.c.now Pairs
    (c.args.a.now, record { stands = c.requires.stands; same_codes = c.requires.codes }, c.in-Err-Pairs.ensures.too_many_pairs c.in-Err-Pairs.field-0-is)

pub pairs-requires-clause-some : goal.pairs-requires-clause-some
pairs-requires-clause-some c = c.requires.some

pub pairs-requires-clause-few : goal.pairs-requires-clause-few
pairs-requires-clause-few c = c.requires.few

pub shown-holds-requires-clause-codes : goal.shown-holds-requires-clause-codes
shown-holds-requires-clause-codes c = c.requires.codes
