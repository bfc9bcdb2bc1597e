use Rattle.std.proofs.Common.{◌≡◌, ℕ, suc, ◌+◌, ◌-◌, ◌*◌, length, subst, ap, ◌∙◌, arith}
use Rattle.std.proofs.Math.Nat.{suc-mul}
use Rattle.std.proofs.lemmas.Result.{err_from_is_err_and}
use Rattle.rl_ranges.specs.Letters.{LetterTable}
use Rattle.rl_prio.specs.Automaton.{letters_count}
use Rattle.rl_pairs.specs.internal.Errors.{IsRightError}
use Rattle.rl_pairs.specs.internal.Finding.{found_of, width, next_of, IsMoved, IsFurther}
use Rattle.rl_pairs.proofs.ExpandLaws.{further-trans}
use Rattle.rl_pairs.proofs.finder.Finder.expand.Goals as goal

pub expand_on-requires : goal.expand_on-requires
expand_on-requires c =
    let a = c.args.a.now in
    let e : c.args.from * width a ≡ c.args.from * width a + 0 = omega arith in
    record {
      counting = c.requires.counting;
      found = c.requires.found;
      moved = subst (IsMoved a c.args.walk.now (found_of c.args.self.now)) e c.requires.moved;
      from_in = c.requires.from_in;
      letter_in = omega arith;
    }

pub returns-in_err-expand_on-clause-errors : goal.returns-in_err-expand_on-clause-errors
returns-in_err-expand_on-clause-errors c =
    let p = err_from_is_err_and c.from_residual.result c.from_residual.ensures.1 in
    rw (p.1, p.2) c.in_err-expand_on.ensures.errors

pub loop-letter-init : goal.loop-letter-init
loop-letter-init c = record { further = c.in_ok-expand_on.ensures.further; row = c.in_ok-expand_on.ensures.row }

pub expand_next-requires : goal.expand_next-requires
expand_next-requires c =
    let a = c.args.a.now in
    let g = found_of c.loop-letter.self in
    let letter = c.loop-letter.letter in
    let i = c.loop-letter.invariant in
    let count : c.count-letter-end.result ≡ letters_count a = c.count-letter-end.ensures ∙ ap (λ (t : LetterTable). length t.samples) c.letters.ensures in
    let next : suc letter ≡ letter + 1 = omega arith in
    let same : letter ≡ letter + 1 - 1 = omega arith in
    record {
      counting = i.further.onward.counting;
      found = i.further.found;
      moved = subst (λ (n : ℕ). IsMoved a c.loop-letter.walk g (c.args.from * width a + n)) next i.further.moved;
      from_in = omega (arith, c.requires.from_in, i.further.stays.longer);
      letter_in = omega (arith, count, c.loop-letter-test.true);
      later = omega arith;
      before = subst (λ (n : ℕ). c.loop-letter.row.items ≡ next_of a g c.args.from n) same i.row;
    }

pub returns-in_err-expand_next-clause-errors : goal.returns-in_err-expand_next-clause-errors
returns-in_err-expand_next-clause-errors c =
    let p = err_from_is_err_and c.from_residual-in_err-expand_next.result c.from_residual-in_err-expand_next.ensures.1 in
    rw (p.1, p.2) (subst (λ (n : ℕ). IsRightError c.args.a.now n c.in_err-expand_next.field-0.0) c.loop-letter.invariant.further.stays.limit c.in_err-expand_next.ensures.errors)

pub loop-letter-preserved : goal.loop-letter-preserved
loop-letter-preserved c =
    let a = c.args.a.now in
    let start = c.args.from * width a in
    let letter = c.loop-letter.letter in
    let y = c.in_ok-expand_next.ensures in
    record {
      further = further-trans a c.args.walk.now c.loop-letter.walk c.expand_next.new.walk (found_of c.args.self.now) (found_of c.loop-letter.self) (found_of c.expand_next.new.self) (start + suc letter) (start + suc (letter + 1)) c.loop-letter.invariant.further y.further;
      row = y.row;
    }

pub returns-clause-further : goal.returns-clause-further
returns-clause-further c =
    let a = c.args.a.now in
    let count : c.count-letter-end.result ≡ letters_count a = c.count-letter-end.ensures ∙ ap (λ (t : LetterTable). length t.samples) c.letters.ensures in
    let last : c.loop-letter.letter ≡ letters_count a = omega (arith, count, c.loop-letter-test.false, c.loop-letter.auto.letter-end) in
    let all : c.args.from * width a + suc c.loop-letter.letter ≡ suc c.args.from * width a = omega (arith, last, suc-mul c.args.from (width a)) in
    subst (IsFurther a c.args.walk.now c.loop-letter.walk (found_of c.args.self.now) (found_of c.loop-letter.self)) all c.loop-letter.invariant.further
