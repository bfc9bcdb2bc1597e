use Rattle.std.proofs.Common.{◌≡◌, ◌∙◌, List, sym, ap, subst, arith}
use Rattle.rl_trim.specs.declared.key.Key.{Key}
use Rattle.rl_trim.specs.internal.Orders.{pairs_in, AreKeys, AreArrived}
use Rattle.rl_trim.proofs.SetLaws.{grown-grown}
use Rattle.rl_trim.proofs.TrimLaws.{trims-grown}
use Rattle.rl_trim.proofs.PairLaws.{next-same}
use Rattle.rl_trim.proofs.KeyOrder.{keys-grown, keys-put, pairs-put}
use Rattle.rl_trim.proofs.ArrivedLaws.{arrived-grown, arrived-put, arrived-noted, whole-there, whole-put}
use Rattle.rl_trim.proofs.order.Order.visit_whole.Goals as goal

pub returns-then-has_arrived-clause-keys : goal.returns-then-has_arrived-clause-keys
returns-then-has_arrived-clause-keys c = keys-grown c.args.branch.now.automaton.now c.args.walk.now c.step.new.walk c.args.self.now.keys.keys c.in_ok-first.ensures.grown c.requires.keys

pub returns-then-has_arrived-clause-arrived : goal.returns-then-has_arrived-clause-arrived
returns-then-has_arrived-clause-arrived c =
    arrived-grown c.args.branch.now.automaton.now c.args.branch.now.keep.now c.args.walk.now c.step.new.walk c.args.self.now.keys.keys c.args.self.now.arrived c.in_ok-first.ensures.grown c.requires.keys c.requires.arrived

pub returns-then-has_arrived-clause-pairs : goal.returns-then-has_arrived-clause-pairs
returns-then-has_arrived-clause-pairs c =
    let a = c.args.branch.now.automaton.now in
    let keep = c.args.branch.now.keep.now in
    let keys = c.args.self.now.keys.keys in
    let r = arrived-grown a keep c.args.walk.now c.step.new.walk keys c.args.self.now.arrived c.in_ok-first.ensures.grown c.requires.keys c.requires.arrived in
    whole-there a keep c.args.walk.now c.step.new.walk c.args.key c.args.letter c.in_ok-first.first c.requires.whole c.in_ok-first.ensures keys c.requires.keys (r.found c.in_ok-first.first (c.has_arrived.ensures c.if-has_arrived.true))

pub returns-clause-arrived : goal.returns-clause-arrived
returns-clause-arrived c =
    let a = c.args.branch.now.automaton.now in
    let keep = c.args.branch.now.keep.now in
    let v = c.args.walk.now in
    let x = c.trim.new.walk in
    let keys = c.args.self.now.keys.keys in
    let more = c.put.new.self.keys.keys in
    let first = c.in_ok-first.first in
    let second = c.in_ok-second.second in
    let key : Key = record { first = first; second = second } in
    let is = next-same a keep v c.step.new.walk x c.args.key c.args.letter first second c.requires.inside c.requires.whole c.in_ok-first.ensures c.in_ok-second.ensures.numbered in
    let put = arrived-put a keep v x keys more key c.args.self.now.arrived c.trim.new.trims is.grown c.in_ok-put.ensures.keys c.requires.keys c.requires.arrived c.in_ok-second.ensures.trims in
    let here = whole-put a keep v c.step.new.walk c.args.key c.args.letter first c.requires.whole c.in_ok-first.ensures x keys more second is c.in_ok-second.ensures.numbered.grown c.in_ok-put.ensures.keys in
    let row : AreArrived keep x more c.put.new.self.arrived = subst (AreArrived keep x more) (sym c.in_ok-put.ensures.arrived) put in
    let all = arrived-noted keep x more c.put.new.self.arrived c.note.new.self.arrived first c.note.ensures.whole c.note.ensures.trims is.inside.first_in here row in
    let same : c.note.new.self.keys.keys ≡ more = ap (λ o. o.keys) c.note.ensures.keys in
    subst (λ (l : List Key). AreArrived keep x l c.note.new.self.arrived) (sym same) all

pub returns-clause-pairs : goal.returns-clause-pairs
returns-clause-pairs c =
    let a = c.args.branch.now.automaton.now in
    let keep = c.args.branch.now.keep.now in
    let v = c.args.walk.now in
    let x = c.trim.new.walk in
    let keys = c.args.self.now.keys.keys in
    let first = c.in_ok-first.first in
    let second = c.in_ok-second.second in
    let key : Key = record { first = first; second = second } in
    let is = next-same a keep v c.step.new.walk x c.args.key c.args.letter first second c.requires.inside c.requires.whole c.in_ok-first.ensures c.in_ok-second.ensures.numbered in
    ap (λ o. pairs_in x o.keys) c.note.ensures.keys
    ∙ pairs-put a v x keys c.put.new.self.keys.keys key _ is.grown is.inside is.is c.in_ok-put.ensures.keys c.requires.keys

pub step-requires-clause-made : goal.step-requires-clause-made
step-requires-clause-made c = c.requires.keys.made

pub step-requires-clause-set_in : goal.step-requires-clause-set_in
step-requires-clause-set_in c = c.requires.inside.first_in

pub step-requires-clause-letter_in : goal.step-requires-clause-letter_in
step-requires-clause-letter_in c = omega (arith, c.requires.letter_in)

pub returns-then-has_arrived-clause-grown : goal.returns-then-has_arrived-clause-grown
returns-then-has_arrived-clause-grown c = c.in_ok-first.ensures.grown

pub trim-requires-clause-made : goal.trim-requires-clause-made
trim-requires-clause-made c = c.in_ok-first.ensures.grown.made

pub trim-requires-clause-set_in : goal.trim-requires-clause-set_in
trim-requires-clause-set_in c = c.in_ok-first.ensures.inside

pub trim-requires-clause-trims : goal.trim-requires-clause-trims
trim-requires-clause-trims c =
    trims-grown c.args.branch.now.automaton.now c.args.branch.now.keep.now c.args.walk.now c.step.new.walk c.args.self.now.arrived.trims c.in_ok-first.ensures.grown c.requires.arrived.trims

pub returns-clause-grown : goal.returns-clause-grown
returns-clause-grown c =
    grown-grown c.args.branch.now.automaton.now c.args.walk.now c.step.new.walk c.trim.new.walk c.in_ok-first.ensures.grown c.in_ok-second.ensures.numbered.grown

pub returns-clause-keys : goal.returns-clause-keys
returns-clause-keys c =
    let a = c.args.branch.now.automaton.now in
    let x = c.trim.new.walk in
    let first = c.in_ok-first.first in
    let second = c.in_ok-second.second in
    let key : Key = record { first = first; second = second } in
    let is = next-same a c.args.branch.now.keep.now c.args.walk.now c.step.new.walk x c.args.key c.args.letter first second c.requires.inside c.requires.whole c.in_ok-first.ensures c.in_ok-second.ensures.numbered in
    let same : c.note.new.self.keys.keys ≡ c.put.new.self.keys.keys = ap (λ o. o.keys) c.note.ensures.keys in
    subst (AreKeys a x) (sym same) (keys-put a c.args.walk.now x c.args.self.now.keys.keys c.put.new.self.keys.keys key is.grown is.inside c.in_ok-put.ensures.keys c.requires.keys)
