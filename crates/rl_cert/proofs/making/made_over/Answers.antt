use Rattle.rl_syntax.specs.declared.verdict.Limit.TheVariants.{Sets, Pairs}
use Rattle.rl_cert.specs.Holds.{question_of}
use Rattle.rl_growth.proofs.VerdictLaws.{small}
use Rattle.rl_cert.proofs.MadeLaws.{made-holds, made-large, made-told, limit-named, ok-holds, ok-fits, ok-told}
use Rattle.rl_cert.proofs.making.made_over.Goals as goal

pub returns-in-Err-Sets-clause-undecided : goal.returns-in-Err-Sets-clause-undecided
returns-in-Err-Sets-clause-undecided c =
    let q = question_of c.args.l.now c.args.u c.args.max_pairs in
    λ limit same. limit-named q Sets limit
    (small q c.requires.small c.requires.within.0 c.requires.within.1, (c.args.a.now, record { stands = c.requires.stands; same_codes = c.requires.codes }, c.in-Err-Sets.ensures.too_many_sets c.in-Err-Sets.field-0-is)) same

pub returns-in-Err-Pairs-clause-undecided : goal.returns-in-Err-Pairs-clause-undecided
returns-in-Err-Pairs-clause-undecided c =
    let q = question_of c.args.l.now c.args.u c.args.max_pairs in
    λ limit same. limit-named q Pairs limit
    (small q c.requires.small c.requires.within.0 c.requires.within.1, (c.args.a.now, record { stands = c.requires.stands; same_codes = c.requires.codes }, c.in-Err-Pairs.ensures.too_many_pairs c.in-Err-Pairs.field-0-is)) same

pub returns-in-Ok-clause-holds : goal.returns-in-Ok-clause-holds
returns-in-Ok-clause-holds c =
    let q = question_of c.args.l.now c.args.u c.args.max_pairs in
    ok-holds q _ (made-holds q c.args.a.now c.in-Ok.g _ c.requires.stands c.requires.codes c.states-states.ensures.automaton c.requires.small c.requires.within.0 c.requires.within.1 c.in-Ok.ensures.graph c.in-Ok.ensures.numbered c.in-Ok.ensures.few_pairs c.in-Ok.ensures.few_sets c.made-certificate.ensures.made)

pub returns-in-Ok-clause-told : goal.returns-in-Ok-clause-told
returns-in-Ok-clause-told c =
    let q = question_of c.args.l.now c.args.u c.args.max_pairs in
    ok-told q _ (made-holds q c.args.a.now c.in-Ok.g _ c.requires.stands c.requires.codes c.states-states.ensures.automaton c.requires.small c.requires.within.0 c.requires.within.1 c.in-Ok.ensures.graph c.in-Ok.ensures.numbered c.in-Ok.ensures.few_pairs c.in-Ok.ensures.few_sets c.made-certificate.ensures.made)

pub returns-in-Ok-clause-fits : goal.returns-in-Ok-clause-fits
returns-in-Ok-clause-fits c =
    let q = question_of c.args.l.now c.args.u c.args.max_pairs in
    ok-fits q _ (made-holds q c.args.a.now c.in-Ok.g _ c.requires.stands c.requires.codes c.states-states.ensures.automaton c.requires.small c.requires.within.0 c.requires.within.1 c.in-Ok.ensures.graph c.in-Ok.ensures.numbered c.in-Ok.ensures.few_pairs c.in-Ok.ensures.few_sets c.made-certificate.ensures.made)

pub returns-in-Ok-clause-undecided : goal.returns-in-Ok-clause-undecided
returns-in-Ok-clause-undecided c = made-told (question_of c.args.l.now c.args.u c.args.max_pairs) _ c.made-certificate.ensures.told

pub returns-in-Ok-clause-too_large : goal.returns-in-Ok-clause-too_large
returns-in-Ok-clause-too_large c =
    let q = question_of c.args.l.now c.args.u c.args.max_pairs in
    made-large q c.args.a.now c.in-Ok.g _ c.requires.stands c.requires.codes c.states-states.ensures.automaton c.requires.small c.requires.within.0 c.requires.within.1 c.in-Ok.ensures.graph c.in-Ok.ensures.numbered c.in-Ok.ensures.few_pairs c.in-Ok.ensures.few_sets c.made-certificate.ensures.too_large

pub pairs-requires-clause-some : goal.pairs-requires-clause-some
pairs-requires-clause-some c = c.requires.some

pub pairs-requires-clause-few : goal.pairs-requires-clause-few
pairs-requires-clause-few c = c.requires.few
