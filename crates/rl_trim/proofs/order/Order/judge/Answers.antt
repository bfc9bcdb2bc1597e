use Rattle.std.proofs.Common.{◌<◌, ◌+◌, length, refl, sym, subst, arith}
use Rattle.rl_trim.specs.internal.Trims.{trim_pairs}
use Rattle.rl_trim.specs.internal.Orders.{pairs_in}
use Rattle.rl_trim.specs.Changes.{AreChangesIf}
use Rattle.rl_trim.proofs.SetLaws.{grown-refl, grown-grown}
use Rattle.rl_trim.proofs.LookLaws.{looking-start, looking-equal, looking-passed}
use Rattle.rl_sets.specs.Walk.{Walk}
use Rattle.rl_trim.specs.declared.order.Order.{Order}
use Rattle.rl_trim.proofs.KeyOrder.{pairs-length, told-apart, told-many, told-few, IsJudging}
use Rattle.rl_trim.proofs.order.Order.judge.Goals as goal
use Rattle.rl_trim.proofs.order.Order.judge.Goals.{then-len-limit+in_ok-expand, else-len-limit}

pub loop-place-init : goal.loop-place-init
loop-place-init c =
    let a = c.args.branch.now.automaton.now in
    record {
      judging = record {
        grown = grown-refl a c.args.walk.now c.requires.keys.made;
        are = c.requires.keys;
        arrived = c.requires.arrived;
        looking = looking-start (trim_pairs a c.args.branch.now.keep.now) c.args.limit (pairs_in c.args.walk.now c.args.self.now.keys.keys) c.requires.one;
      };
      changes = c.requires.changes;
    }

pub returns-then-place-len-clause-found : goal.returns-then-place-len-clause-found
returns-then-place-len-clause-found c =
    let keys = c.loop-place.self.keys.keys in
    looking-equal (trim_pairs c.args.branch.now.automaton.now c.args.branch.now.keep.now) c.args.limit c.loop-place.place (pairs_in c.loop-place.walk keys) c.loop-place.invariant.judging.looking
    (omega (arith, pairs-length c.loop-place.walk keys, c.len.ensures.len, c.if-place-len.true)) (omega (arith, c.loop-place-test.true, c.loop-place.auto))

pub returns-then-differs-clause-found : goal.returns-then-differs-clause-found
returns-then-differs-clause-found c =
    told-apart c.args.branch.now.automaton.now c.args.branch.now.keep.now c.loop-place.walk c.loop-place.walk c.loop-place.self.keys.keys c.args.limit c.loop-place.place c.differs.result c.loop-place.invariant.judging.looking
    (omega (arith, c.len.ensures.len, c.if-place-len.false, c.loop-place.invariant.judging.looking.inside, pairs-length c.loop-place.walk c.loop-place.self.keys.keys)) c.differs.ensures c.if-differs.true (omega (arith, c.loop-place-test.true, c.loop-place.auto))

pub loop-place-preserved : goal.loop-place-preserved
loop-place-preserved c =
    let a = c.args.branch.now.automaton.now in
    let keep = c.args.branch.now.keep.now in
    let keys = c.loop-place.self.keys.keys in
    let walk = c.loop-place.walk in
    let place = c.loop-place.place in
    let inv = c.loop-place.invariant.judging in
    let lt : place < length keys = omega (arith, c.len.ensures.len, c.if-place-len.false, inv.looking.inside, pairs-length walk keys) in
    record {
      judging = elim c.if-len-limit.branch [
        | then-len-limit+in_ok-expand w ↦
            let looking =
            told-few a keep walk walk keys c.args.limit place c.differs.result inv.looking lt c.differs.ensures w.expand.new.walk w.expand.new.self.keys.keys c.if-differs.false
            (omega (arith, c.len-in-loop-place.ensures.len, w.if-len-limit.true)) refl w.in_ok-expand.ensures.pairs in
            subst (λ (x : Walk). IsJudging a keep c.args.walk.now x c.if-len-limit.self.keys.keys c.if-len-limit.self.arrived c.args.limit (place + 1)) (sym w.walk-is)
            (subst (λ (o : Order). IsJudging a keep c.args.walk.now w.expand.new.walk o.keys.keys o.arrived c.args.limit (place + 1)) (sym w.self-is)
            (record { grown = grown-grown a c.args.walk.now walk w.expand.new.walk inv.grown w.in_ok-expand.ensures.grown; are = w.in_ok-expand.ensures.keys; arrived = w.in_ok-expand.ensures.arrived; looking = looking }))
        | else-len-limit w ↦
            let looking =
            told-many a keep walk walk keys c.args.limit place c.differs.result inv.looking lt c.differs.ensures c.if-differs.false (omega (arith, c.len-in-loop-place.ensures.len, w.if-len-limit.false)) refl in
            subst (λ (x : Walk). IsJudging a keep c.args.walk.now x c.if-len-limit.self.keys.keys c.if-len-limit.self.arrived c.args.limit (place + 1)) (sym w.walk-is)
            (subst (λ (o : Order). IsJudging a keep c.args.walk.now walk o.keys.keys o.arrived c.args.limit (place + 1)) (sym w.self-is)
            (record { grown = inv.grown; are = inv.are; arrived = inv.arrived; looking = looking }))
      ];
      changes = elim c.if-len-limit.branch [
        | then-len-limit+in_ok-expand w ↦ subst (AreChangesIf a) (sym w.changes-is) w.in_ok-expand.ensures.changes
        | else-len-limit w ↦ subst (AreChangesIf a) (sym w.changes-is) c.loop-place.invariant.changes
      ];
    }

pub returns-then-len-limit-2-clause-found : goal.returns-then-len-limit-2-clause-found
returns-then-len-limit-2-clause-found c =
    let keys = c.loop-place.self.keys.keys in
    looking-passed (trim_pairs c.args.branch.now.automaton.now c.args.branch.now.keep.now) c.args.limit c.loop-place.place (pairs_in c.loop-place.walk keys) c.loop-place.invariant.judging.looking
    (omega (arith, c.loop-place-test.false, c.loop-place.auto)) (omega (arith, pairs-length c.loop-place.walk keys, c.len-2.ensures.len, c.if-len-limit-2.true))

pub returns-clause-found : goal.returns-clause-found
returns-clause-found c =
    let keys = c.loop-place.self.keys.keys in
    looking-equal (trim_pairs c.args.branch.now.automaton.now c.args.branch.now.keep.now) c.args.limit c.loop-place.place (pairs_in c.loop-place.walk keys) c.loop-place.invariant.judging.looking
    (omega (arith, pairs-length c.loop-place.walk keys, c.len-2.ensures.len, c.if-len-limit-2.false, c.loop-place-test.false, c.loop-place.auto)) (omega (arith, c.loop-place-test.false, c.loop-place.auto))

pub differs-requires-clause-keys : goal.differs-requires-clause-keys
differs-requires-clause-keys c = c.loop-place.invariant.judging.are

pub differs-requires-clause-place_in : goal.differs-requires-clause-place_in
differs-requires-clause-place_in c =
    omega (arith, c.len.ensures.len, c.if-place-len.false, c.loop-place.invariant.judging.looking.inside, pairs-length c.loop-place.walk c.loop-place.self.keys.keys)

pub expand-requires-clause-changes : goal.expand-requires-clause-changes
expand-requires-clause-changes c = c.loop-place.invariant.changes

pub expand-requires-clause-keys : goal.expand-requires-clause-keys
expand-requires-clause-keys c = c.loop-place.invariant.judging.are

pub expand-requires-clause-arrived : goal.expand-requires-clause-arrived
expand-requires-clause-arrived c = c.loop-place.invariant.judging.arrived

pub expand-requires-clause-place_in : goal.expand-requires-clause-place_in
expand-requires-clause-place_in c =
    omega (arith, c.len.ensures.len, c.if-place-len.false, c.loop-place.invariant.judging.looking.inside, pairs-length c.loop-place.walk c.loop-place.self.keys.keys)

pub returns-then-place-len-clause-grown : goal.returns-then-place-len-clause-grown
returns-then-place-len-clause-grown c = c.loop-place.invariant.judging.grown

pub returns-then-differs-clause-grown : goal.returns-then-differs-clause-grown
returns-then-differs-clause-grown c = c.loop-place.invariant.judging.grown

pub returns-then-len-limit-2-clause-grown : goal.returns-then-len-limit-2-clause-grown
returns-then-len-limit-2-clause-grown c = c.loop-place.invariant.judging.grown

pub returns-clause-grown : goal.returns-clause-grown
returns-clause-grown c = c.loop-place.invariant.judging.grown

pub returns-then-place-len-clause-changes : goal.returns-then-place-len-clause-changes
returns-then-place-len-clause-changes c = c.loop-place.invariant.changes

pub returns-then-differs-clause-changes : goal.returns-then-differs-clause-changes
returns-then-differs-clause-changes c = c.loop-place.invariant.changes

pub returns-then-len-limit-2-clause-changes : goal.returns-then-len-limit-2-clause-changes
returns-then-len-limit-2-clause-changes c = c.loop-place.invariant.changes

pub returns-clause-changes : goal.returns-clause-changes
returns-clause-changes c = c.loop-place.invariant.changes
