use Rattle.std.proofs.Common.{suc, ◌+◌, ◌*◌, sym, subst, ap, ◌∙◌, arith}
use Rattle.std.proofs.lemmas.Result.{err_from_is_err_and, on_ok_weaker}
use Rattle.rl_pairs.specs.internal.Finding.{Found, found_of, with_row, width, next_of, IsFurther}
use Rattle.rl_pairs.proofs.RowLaws.{next-last}
use Rattle.rl_pairs.proofs.ExpandLaws.{further-trans}
use Rattle.rl_pairs.proofs.RepeatLaws.{further-onward, row-again}
use Rattle.rl_pairs.proofs.finder.Finder.expand_next.Goals as goal

pub repeats-requires : goal.repeats-requires
repeats-requires c = record { counting = c.requires.counting; found = c.requires.found; from_in = c.requires.from_in; letter_in = c.requires.letter_in; later = c.requires.later }

pub returns-in_err-repeats-clause-errors : goal.returns-in_err-repeats-clause-errors
returns-in_err-repeats-clause-errors c =
    let p = err_from_is_err_and c.from_residual.result c.from_residual.ensures.1 in
    rw (p.1, p.2) c.in_err-repeats.ensures.errors

pub returns-in_err-end_row-clause-errors : goal.returns-in_err-end_row-clause-errors
returns-in_err-end_row-clause-errors c = let p = err_from_is_err_and c.from_residual-in_err-end_row.result c.from_residual-in_err-end_row.ensures.1 in rw (p.1, p.2) tt

pub returns-then-branch : goal.returns-then-branch
returns-then-branch c =
    let a = c.args.a.now in
    let f = found_of c.args.self.now in
    let r = c.in_ok-repeats.ensures in
    let again = row-again a c.args.walk.now c.repeats.new.walk f c.args.from c.args.letter c.requires.found c.requires.from_in c.requires.letter_in c.requires.moved r.onward c.requires.later (r.same c.if-branch.true) r.stands in
    let more = c.in_ok-end_row.ensures ∙ ap (with_row f) c.as_slice.ensures.value in
    let here = next-last (width a) f.rows c.args.from c.args.letter c.args.row.now.items (omega (arith, c.requires.letter_in)) c.requires.moved.long in
    record {
      further = subst (λ (g : Found). IsFurther a c.args.walk.now c.repeats.new.walk f g (c.args.from * width a + suc c.args.letter)) (sym (c.in_ok-end_row.ensures ∙ ap (with_row f) (c.as_slice.ensures.value ∙ c.requires.before))) again;
      row = sym here ∙ ap (λ (h : Found). next_of a h c.args.from c.args.letter) (sym more);
      errors = tt;
    }

pub expand_on-requires : goal.expand_on-requires
expand_on-requires c =
    let on = further-onward c.args.a.now c.args.walk.now c.repeats.new.walk (found_of c.args.self.now) c.args.from c.args.letter c.requires.found c.requires.from_in c.requires.letter_in c.requires.moved c.in_ok-repeats.ensures.onward in
    record { counting = on.onward.counting; found = on.found; moved = on.moved; from_in = c.requires.from_in; letter_in = c.requires.letter_in }

pub returns : goal.returns
returns c =
    let a = c.args.a.now in
    let f = found_of c.args.self.now in
    let count = c.args.from * width a + c.args.letter in
    let start = further-onward a c.args.walk.now c.repeats.new.walk f c.args.from c.args.letter c.requires.found c.requires.from_in c.requires.letter_in c.requires.moved c.in_ok-repeats.ensures.onward in
    record {
      further = on_ok_weaker c.expand_on.result (further-trans a c.args.walk.now c.repeats.new.walk c.expand_on.new.walk f f (found_of c.expand_on.new.self) count (c.args.from * width a + suc c.args.letter) start) c.expand_on.ensures.further;
      row = c.expand_on.ensures.row;
      errors = c.expand_on.ensures.errors;
    }
