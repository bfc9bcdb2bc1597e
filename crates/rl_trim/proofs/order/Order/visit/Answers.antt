use Rattle.std.proofs.Common.{◌≡◌, ◌∙◌, OnOk, sym, ap, subst}
use Rattle.rl_trim.specs.declared.key.Key.{Key}
use Rattle.rl_equiv.specs.Numbering.{with_one}
use Rattle.rl_trim.specs.internal.Trims.{trim_on}
use Rattle.rl_trim.specs.internal.Quick.{IsInside, pair_of}
use Rattle.rl_trim.specs.internal.Orders.{pairs_in, AreArrived}
use Rattle.rl_trim.proofs.PairLaws.{key-read}
use Rattle.rl_trim.proofs.KeyOrder.{keys-put, pairs-put}
use Rattle.rl_trim.proofs.ArrivedLaws.{arrived-put}
use Rattle.rl_trim.proofs.order.Order.visit.Goals as goal

pub returns-then-key-clause-pairs : goal.returns-then-key-clause-pairs
returns-then-key-clause-pairs c =
    let a = c.args.branch.now.automaton.now in
    let keep = c.args.branch.now.keep.now in
    let keys = c.args.self.now.keys.keys in
    let v = c.args.walk.now in
    subst
    (λ (k : Key). OnOk c.visit_whole.result (pairs_in c.visit_whole.new.walk c.visit_whole.new.self.keys.keys ≡ with_one (pairs_in v keys) (trim_on a keep (pair_of v k) c.args.letter)))
    (sym (key-read keys c.args.place c.index-key.result.now c.index-key.ensures)) c.visit_whole.ensures.pairs

pub returns-clause-arrived : goal.returns-clause-arrived
returns-clause-arrived c =
    let keys = c.args.self.now.keys.keys in
    subst (AreArrived c.args.branch.now.keep.now c.next.new.walk c.put.new.self.keys.keys) (sym c.in_ok-put.ensures.arrived)
    (arrived-put c.args.branch.now.automaton.now c.args.branch.now.keep.now c.args.walk.now c.next.new.walk keys c.put.new.self.keys.keys c.in_ok-next.next c.args.self.now.arrived c.next.new.trims
    c.in_ok-next.ensures.next.grown c.in_ok-put.ensures.keys c.requires.keys c.requires.arrived c.in_ok-next.ensures.trims)

pub returns-clause-pairs : goal.returns-clause-pairs
returns-clause-pairs c =
    let a = c.args.branch.now.automaton.now in
    let keep = c.args.branch.now.keep.now in
    let keys = c.args.self.now.keys.keys in
    let is = c.in_ok-next.ensures.next.is ∙ ap (λ (k : Key). trim_on a keep (pair_of c.args.walk.now k) c.args.letter) (sym (key-read keys c.args.place c.index-key.result.now c.index-key.ensures)) in
    pairs-put a c.args.walk.now c.next.new.walk keys c.put.new.self.keys.keys c.in_ok-next.next _ c.in_ok-next.ensures.next.grown c.in_ok-next.ensures.next.inside is c.in_ok-put.ensures.keys c.requires.keys

pub visit_whole-requires-clause-inside : goal.visit_whole-requires-clause-inside
visit_whole-requires-clause-inside c =
    subst (IsInside c.args.walk.now) (key-read c.args.self.now.keys.keys c.args.place c.index-key.result.now c.index-key.ensures) (c.requires.keys.inside c.args.place c.requires.place_in)

pub next-requires-clause-inside : goal.next-requires-clause-inside
next-requires-clause-inside c =
    subst (IsInside c.args.walk.now) (key-read c.args.self.now.keys.keys c.args.place c.index-key.result.now c.index-key.ensures) (c.requires.keys.inside c.args.place c.requires.place_in)

pub next-requires-clause-made : goal.next-requires-clause-made
next-requires-clause-made c = c.requires.keys.made

pub next-requires-clause-trims : goal.next-requires-clause-trims
next-requires-clause-trims c = c.requires.arrived.trims

pub visit_whole-requires-clause-whole : goal.visit_whole-requires-clause-whole
visit_whole-requires-clause-whole c = c.if-key.true

pub returns-then-key-clause-grown : goal.returns-then-key-clause-grown
returns-then-key-clause-grown c = c.visit_whole.ensures.grown

pub returns-then-key-clause-keys : goal.returns-then-key-clause-keys
returns-then-key-clause-keys c = c.visit_whole.ensures.keys

pub returns-then-key-clause-arrived : goal.returns-then-key-clause-arrived
returns-then-key-clause-arrived c = c.visit_whole.ensures.arrived

pub returns-clause-grown : goal.returns-clause-grown
returns-clause-grown c = c.in_ok-next.ensures.next.grown

pub returns-clause-keys : goal.returns-clause-keys
returns-clause-keys c =
    keys-put c.args.branch.now.automaton.now c.args.walk.now c.next.new.walk c.args.self.now.keys.keys c.put.new.self.keys.keys c.in_ok-next.next c.in_ok-next.ensures.next.grown c.in_ok-next.ensures.next.inside c.in_ok-put.ensures.keys c.requires.keys
