use Rattle.std.proofs.Common.{◌≡◌, ◌+◌, ℕ, List, Option, IfNone, IfErr, subst, rules, arith}
use Rattle.std.proofs.lemmas.Result.{IfErr-weaker}
use Rattle.rl_sets.specs.declared.error.SetsError.{SetsError}
use Rattle.rl_sets.specs.declared.error.SetsError.TheVariants.{Sets}
use Rattle.rl_sets.specs.Rests.{HasRoute, IsOver}
use Rattle.rl_sets.specs.Walk.{set_at}
use Rattle.rl_sets.specs.internal.Search.{found_of, found_set, IsLookedAt}
use Rattle.rl_sets.proofs.SearchingLemmas.{searching-start, searching-grown, searching-over, searching-more, searching-few, searching-done, searching-dead, root-again}
use Rattle.rl_sets.proofs.VisitLemmas.{grown-again}
use Rattle.rl_sets.proofs.walk.SetWalk.seek.Goals as goal

pub loop-place-init : goal.loop-place-init
loop-place-init c = searching-start c.args.a.now c.args.self.now c.args.set (found_of c.args.search.now) c.requires.made c.requires.set_in c.requires.free c.requires.root

pub loop-place-preserved : goal.loop-place-preserved
loop-place-preserved c =
    let a = c.args.a.now in
    let new = c.expand.new.self in
    let h = found_of c.expand.new.search in
    let looked : IsLookedAt a new h (c.loop-place.place + 1) 0 = subst (λ (o : Option ℕ). IfNone o (IsLookedAt a new h (c.loop-place.place + 1) 0)) c.in_default.is c.in_ok-route.ensures.looked in
    searching-more a c.args.self.now c.loop-place.self new c.args.set (found_of c.loop-place.search) c.loop-place.place c.loop-place.invariant h c.expand.ensures.made c.expand.ensures.limit c.expand.ensures.grown c.in_ok-route.ensures.goes_on looked

pub loop-place-smaller : goal.loop-place-smaller
loop-place-smaller c =
    omega (arith, searching-few c.args.a.now c.args.self.now c.loop-place.self c.expand.new.self c.args.set (found_of c.loop-place.search) c.loop-place.place c.loop-place.invariant c.len.ensures.unique, c.loop-place-test.true, c.len.ensures.len)

pub returns-in_err-route-clause-grown : goal.returns-in_err-route-clause-grown
returns-in_err-route-clause-grown c =
    searching-grown c.args.a.now c.args.self.now c.loop-place.self c.expand.new.self c.args.set (found_of c.loop-place.search) c.loop-place.place c.loop-place.invariant c.expand.ensures.grown

pub returns-in_err-route-clause-full : goal.returns-in_err-route-clause-full
returns-in_err-route-clause-full c =
    let a = c.args.a.now in
    let f = found_of c.loop-place.search in
    let w = c.loop-place.self in
    let full : IfErr c.expand.result (λ (e : SetsError). e ≡ Sets → IsOver a (set_at c.args.self.now c.args.set) c.args.self.now.sets c.args.self.now.limit) =
    IfErr-weaker c.expand.result (λ (e : SetsError). e ≡ Sets → IsOver a (found_set w f 0) w.sets w.limit) (λ (e : SetsError). e ≡ Sets → IsOver a (set_at c.args.self.now c.args.set) c.args.self.now.sets c.args.self.now.limit) (λ e h is.
    searching-over a c.args.self.now w c.expand.new.self c.args.set f c.loop-place.place c.loop-place.invariant (h is)) c.expand.ensures.full in
    search rules

pub returns-in_err-route-2-clause-grown : goal.returns-in_err-route-2-clause-grown
returns-in_err-route-2-clause-grown c =
    let a = c.args.a.now in
    grown-again a (set_at c.args.self.now c.args.set) c.args.self.now.sets c.expand.new.self.sets c.trace.new.self.sets (searching-grown a c.args.self.now c.loop-place.self c.expand.new.self c.args.set (found_of c.loop-place.search) c.loop-place.place c.loop-place.invariant c.expand.ensures.grown) c.trace.ensures.sets

pub returns-in-Some-clause-grown : goal.returns-in-Some-clause-grown
returns-in-Some-clause-grown c =
    let a = c.args.a.now in
    grown-again a (set_at c.args.self.now c.args.set) c.args.self.now.sets c.expand.new.self.sets c.trace.new.self.sets (searching-grown a c.args.self.now c.loop-place.self c.expand.new.self c.args.set (found_of c.loop-place.search) c.loop-place.place c.loop-place.invariant c.expand.ensures.grown) c.trace.ensures.sets

pub returns-in-Some-clause-route : goal.returns-in-Some-clause-route
returns-in-Some-clause-route c =
    let a = c.args.a.now in
    let root = root-again a c.args.self.now c.loop-place.self c.expand.new.self c.args.set (found_of c.loop-place.search) c.loop-place.place c.loop-place.invariant (found_of c.expand.new.search) c.expand.ensures.grown c.in_ok-route.ensures.goes_on in
    subst (λ (s : List ℕ). HasRoute a c.trace.new.self.kept.routes s c.in_ok-route-2.route) root c.in_ok-route-2.ensures.route

pub bury-requires-clause-dead : goal.bury-requires-clause-dead
bury-requires-clause-dead c =
    searching-done c.args.a.now c.args.self.now c.loop-place.self c.loop-place.self c.args.set (found_of c.loop-place.search) c.loop-place.place c.loop-place.invariant (omega (arith, c.loop-place-test.false, c.len.ensures.len))

pub returns-clause-none : goal.returns-clause-none
returns-clause-none c =
    searching-dead c.args.a.now c.args.self.now c.loop-place.self c.loop-place.self c.args.set (found_of c.loop-place.search) c.loop-place.place c.loop-place.invariant c.states-states.ensures.automaton (omega (arith, c.loop-place-test.false, c.len.ensures.len))
