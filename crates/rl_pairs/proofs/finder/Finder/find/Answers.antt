use Rattle.std.proofs.Common.{◌≡◌, ℕ, ◌*◌, length, refl, subst, arith}
use Rattle.std.proofs.lemmas.Result.{err_from_is_err_and}
use Rattle.rl_pairs.specs.internal.Errors.{IsRightError}
use Rattle.rl_pairs.specs.internal.Finding.{found_of, width, IsFurther}
use Rattle.rl_pairs.proofs.ExpandLaws.{further-start, next-pair}
use Rattle.rl_pairs.proofs.WholeLaws.{whole-found}
use Rattle.rl_pairs.proofs.finder.Finder.find.Goals as goal

pub loop-place-init : goal.loop-place-init
loop-place-init c =
    let a = c.args.a.now in
    let e : 0 ≡ 0 * width a = omega arith in
    record {
      further = subst (IsFurther a c.args.walk.now c.args.walk.now (found_of c.args.self.now) (found_of c.args.self.now)) e (further-start a c.args.walk.now (found_of c.args.self.now) 0 c.requires.counting c.requires.found c.requires.moved);
      within = omega arith;
    }

pub count-requires : goal.count-requires
count-requires c = c.loop-place.invariant.further.found.few

pub expand-requires : goal.expand-requires
expand-requires c =
    let i = c.loop-place.invariant.further in
    record { counting = i.onward.counting; found = i.found; moved = i.moved; from_in = omega (arith, c.count.ensures.count, c.loop-place-test.true) }

pub returns-in_err-expand-clause-errors : goal.returns-in_err-expand-clause-errors
returns-in_err-expand-clause-errors c =
    let p = err_from_is_err_and c.from_residual.result c.from_residual.ensures.1 in
    rw (p.1, p.2) (subst (λ (n : ℕ). IsRightError c.args.a.now n c.in_err-expand.field-0.0) c.loop-place.invariant.further.stays.limit c.in_err-expand.ensures.errors)

pub loop-place-preserved : goal.loop-place-preserved
loop-place-preserved c =
    let i = c.loop-place.invariant in
    let y = c.in_ok-expand.ensures.further in
    record {
      further = next-pair c.args.a.now c.args.walk.now c.loop-place.walk c.expand.new.walk (found_of c.args.self.now) (found_of c.loop-place.self) (found_of c.expand.new.self) c.loop-place.place i.further y;
      within = omega (arith, c.count.ensures.count, c.loop-place-test.true, y.stays.longer);
    }

pub loop-place-smaller : goal.loop-place-smaller
loop-place-smaller c =
    let y = c.in_ok-expand.ensures.further in
    omega (arith, y.stays.limit, c.loop-place.invariant.further.found.few, c.count.ensures.count, c.loop-place-test.true)

pub returns-in_err-close-clause-errors : goal.returns-in_err-close-clause-errors
returns-in_err-close-clause-errors c =
    let p = err_from_is_err_and c.from_residual-in_err-close.result c.from_residual-in_err-close.ensures.1 in
    rw (p.1, p.2) (c.in_err-close.ensures.errors c.args.self.now.limit)

pub returns-clause-whole : goal.returns-clause-whole
returns-clause-whole c =
    let a = c.args.a.now in
    let f = found_of c.args.self.now in
    let g = found_of c.loop-place.self in
    let i = c.loop-place.invariant in
    let e : c.loop-place.place ≡ length g.keys = omega (arith, c.count.ensures.count, c.loop-place-test.false, i.within) in
    whole-found a c.args.walk.now c.loop-place.walk c.close.new.walk f g c.args.self.now.limit (subst (λ (n : ℕ). IsFurther a c.args.walk.now c.loop-place.walk f g (n * width a)) e i.further) c.in_ok-close.ensures.onward c.in_ok-close.ensures.closed refl
