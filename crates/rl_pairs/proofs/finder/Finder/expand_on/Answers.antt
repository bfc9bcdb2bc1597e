use Rattle.std.proofs.Common.{◌≡◌, ℕ, suc, ◌+◌, ◌*◌, ◌<◌, List, length, get_or, refl, sym, subst, ap, ◌∙◌, arith}
use Rattle.std.proofs.lemmas.Result.{err_from_is_err_and}
use Rattle.rl_sets.specs.Live.{image}
use Rattle.rl_pairs.specs.declared.finder.Key.{Key}
use Rattle.rl_pairs.specs.internal.Errors.{IsRightError}
use Rattle.rl_pairs.specs.internal.Finding.{Found, found_of, with_row, pair_at, width, next_of, IsTrying, IsFurther}
use Rattle.rl_pairs.proofs.RowLaws.{next-last}
use Rattle.rl_pairs.proofs.ExpandLaws.{pair-image, move-pairs, key-read, number-read, trying-start, trying-counted, trying-reached, trying-found, trying-more, letter-done}
use Rattle.rl_pairs.proofs.finder.Finder.expand_on.Goals as goal

pub moves-targets-requires : goal.moves-targets-requires
moves-targets-requires c =
    let e = key-read (found_of c.args.self.now) c.args.from c.index-pair.result.now c.index-pair.ensures in
    record {
      state_in = subst (λ (k : Key). k.state < c.args.a.now.states) (sym e) (c.requires.found.states c.args.from c.requires.from_in);
      letter_in = c.requires.letter_in;
    }

pub image_of-requires : goal.image_of-requires
image_of-requires c =
    let f = found_of c.args.self.now in
    let key = c.index-pair.result.now in
    let e = key-read f c.args.from key c.index-pair.ensures in
    record {
      counting = c.requires.counting;
      set_in = subst (λ (k : Key). k.set < length c.args.walk.now.sets) (sym e) (c.requires.found.sets c.args.from c.requires.from_in);
      letter_in = c.requires.letter_in;
      counted = pair-image c.args.a.now c.args.walk.now f key c.args.from c.args.letter c.requires.counting c.requires.found c.requires.from_in e c.requires.letter_in;
    }

pub returns-in_err-set-clause-errors : goal.returns-in_err-set-clause-errors
returns-in_err-set-clause-errors c =
    let p = err_from_is_err_and c.from_residual.result c.from_residual.ensures.1 in
    rw (p.1, p.2) (c.in_err-set.ensures.errors c.args.self.now.limit)

pub loop-k-init : goal.loop-k-init
loop-k-init c =
    let f = found_of c.args.self.now in
    let v = c.args.walk.now in
    let a = c.args.a.now in
    let e = key-read f c.args.from c.index-pair.result.now c.index-pair.ensures in
    let t = trying-start a v c.image_of.new.walk f (image a (pair_at v f c.args.from).set c.args.letter) c.moves-targets.result.now c.in_ok-set.set c.requires.found c.in_ok-set.ensures.onward (number-read a v c.image_of.new.walk f c.index-pair.result.now c.args.from c.args.letter c.in_ok-set.set e c.in_ok-set.ensures.image) in
    subst (λ (found : List ℕ). IsTrying a v c.image_of.new.walk f f (image a (pair_at v f c.args.from).set c.args.letter) c.moves-targets.result.now found 0 c.in_ok-set.set) (sym c.clear.ensures.items) t

pub set_before-requires : goal.set_before-requires
set_before-requires c =
    let f = found_of c.args.self.now in
    let v = c.args.walk.now in
    let a = c.args.a.now in
    let t = c.loop-k.invariant in
    let ts = c.moves-targets.result.now in
    let whole = move-pairs a v f c.index-pair.result.now c.args.from c.args.letter ts (key-read f c.args.from c.index-pair.result.now c.index-pair.ensures) c.moves-targets.ensures.moves in
    record {
      counting = t.onward.counting;
      k_in = c.loop-k-test.true;
      targets_in = c.moves-targets.ensures.targets;
      set_in = t.number.within;
      counted = trying-counted a v f c.args.from c.args.letter (image a (pair_at v f c.args.from).set c.args.letter) ts whole c.requires.found c.requires.from_in c.requires.letter_in c.loop-k.walk (found_of c.loop-k.self) c.loop-k.row.items c.loop-k.k c.loop-k.set t c.loop-k-test.true;
    }

pub returns-in_err-set-2-clause-errors : goal.returns-in_err-set-2-clause-errors
returns-in_err-set-2-clause-errors c =
    let p = err_from_is_err_and c.from_residual-in_err-set-2.result c.from_residual-in_err-set-2.ensures.1 in
    rw (p.1, p.2) (c.in_err-set-2.ensures.errors c.args.self.now.limit)

pub visit-requires : goal.visit-requires
visit-requires c =
    let f = found_of c.args.self.now in
    let v = c.args.walk.now in
    let a = c.args.a.now in
    let t = c.loop-k.invariant in
    let g = found_of c.loop-k.self in
    let ts = c.moves-targets.result.now in
    let x = c.set_before.new.walk in
    let n = c.in_ok-set-2.set in
    let o = c.in_ok-set-2.ensures.onward in
    let is = c.in_ok-set-2.ensures.set in
    let img = image a (pair_at v f c.args.from).set c.args.letter in
    let whole = move-pairs a v f c.index-pair.result.now c.args.from c.args.letter ts (key-read f c.args.from c.index-pair.result.now c.index-pair.ensures) c.moves-targets.ensures.moves in
    record {
      counting = o.counting;
      found = trying-found a v f c.args.from c.args.letter img ts whole c.requires.found c.requires.from_in c.requires.letter_in c.loop-k.walk x g c.loop-k.row.items c.loop-k.k c.loop-k.set n t c.loop-k-test.true o is;
      place = ap length t.rows ∙ c.requires.moved.long;
      from_in = omega (arith, c.requires.from_in, t.stays.longer);
      letter_in = c.requires.letter_in;
      set_in = is.within;
      state_in = c.moves-targets.ensures.targets c.loop-k.k 0 c.loop-k-test.true;
      reached = trying-reached a v f c.args.from c.args.letter img ts whole c.requires.found c.requires.from_in c.requires.letter_in c.loop-k.walk x g c.loop-k.row.items c.loop-k.k c.loop-k.set n t c.loop-k-test.true o is (get_or ts c.loop-k.k 0) refl;
    }

pub returns-in_err-visit-clause-errors : goal.returns-in_err-visit-clause-errors
returns-in_err-visit-clause-errors c =
    let p = err_from_is_err_and c.from_residual-in_err-visit.result c.from_residual-in_err-visit.ensures.1 in
    rw (p.1, p.2) (subst (λ (n : ℕ). IsRightError c.args.a.now n c.in_err-visit.field-0.0) c.loop-k.invariant.stays.limit c.in_err-visit.ensures.errors)

pub loop-k-preserved : goal.loop-k-preserved
loop-k-preserved c =
    let f = found_of c.args.self.now in
    let v = c.args.walk.now in
    let a = c.args.a.now in
    let t = c.loop-k.invariant in
    let g = found_of c.loop-k.self in
    let ts = c.moves-targets.result.now in
    let x = c.set_before.new.walk in
    let n = c.in_ok-set-2.set in
    let o = c.in_ok-set-2.ensures.onward in
    let is = c.in_ok-set-2.ensures.set in
    let img = image a (pair_at v f c.args.from).set c.args.letter in
    let whole = move-pairs a v f c.index-pair.result.now c.args.from c.args.letter ts (key-read f c.args.from c.index-pair.result.now c.index-pair.ensures) c.moves-targets.ensures.moves in
    let b = c.in_ok-visit.ensures in
    trying-more a v f c.args.from c.args.letter img ts whole c.requires.found c.requires.from_in c.requires.letter_in c.loop-k.walk x g c.loop-k.row.items c.loop-k.k c.loop-k.set n t c.loop-k-test.true o is c.visit.new.walk (found_of c.visit.new.self) c.visit.new.row.items (get_or ts c.loop-k.k 0) refl b.onward b.found b.stays b.rows b.noted

pub returns-clause-further : goal.returns-clause-further
returns-clause-further c =
    let f = found_of c.args.self.now in
    let v = c.args.walk.now in
    let a = c.args.a.now in
    let ts = c.moves-targets.result.now in
    let whole = move-pairs a v f c.index-pair.result.now c.args.from c.args.letter ts (key-read f c.args.from c.index-pair.result.now c.index-pair.ensures) c.moves-targets.ensures.moves in
    let done = letter-done a v f c.args.from c.args.letter (image a (pair_at v f c.args.from).set c.args.letter) ts whole c.requires.found c.requires.from_in c.requires.letter_in c.loop-k.walk (found_of c.loop-k.self) c.loop-k.row.items c.loop-k.k c.loop-k.set c.loop-k.invariant c.loop-k-test.false c.requires.moved in
    subst (λ (g : Found). IsFurther a v c.loop-k.walk f g (c.args.from * width a + suc c.args.letter)) (sym (c.in_ok-end_row.ensures ∙ ap (with_row (found_of c.loop-k.self)) c.as_slice.ensures.value)) done

pub returns-clause-row : goal.returns-clause-row
returns-clause-row c =
    let a = c.args.a.now in
    let g = found_of c.loop-k.self in
    let place : length g.rows ≡ c.args.from * width a + c.args.letter = ap length c.loop-k.invariant.rows ∙ c.requires.moved.long in
    let here = next-last (width a) g.rows c.args.from c.args.letter c.loop-k.row.items (omega (arith, c.requires.letter_in)) place in
    sym here ∙ ap (λ (h : Found). next_of a h c.args.from c.args.letter) (sym (c.in_ok-end_row.ensures ∙ ap (with_row g) c.as_slice.ensures.value))

pub returns-in_err-end_row-clause-errors : goal.returns-in_err-end_row-clause-errors
returns-in_err-end_row-clause-errors c = let p = err_from_is_err_and c.from_residual-in_err-end_row.result c.from_residual-in_err-end_row.ensures.1 in rw (p.1, p.2) tt
