use Rattle.std.proofs.Common.{◌∙◌, ◌-◌, ◌∷◌, [], ℕ, List, get_or, drop, length, sym, refl, ap, subst, arith}
use Rattle.std.proofs.lemmas.List.{drop_all}
use Rattle.rl_ranges.specs.Letters.{LetterTable}
use Rattle.rl_pairs.specs.Families.{to_end}
use Rattle.rl_cert.specs.Accepting.{IsAccepting}
use Rattle.rl_cert.proofs.AcceptLaws.{at-front}
use Rattle.rl_cert.proofs.accepting.accepting.Goals as goal

pub loop-place-init : goal.loop-place-init
loop-place-init c = record {
  within = omega arith;
  column = subst (λ (w : List ℕ). IsAccepting c.args.a.now (to_end c.args.a.now w) c.in_ok-column.column.items) (sym (drop_all (length c.args.word.now) c.args.word.now (omega arith)))
      (subst (λ (n : ℕ). IsAccepting c.args.a.now (n ∷ []) c.in_ok-column.column.items) (c.count-end.ensures ∙ ap (λ (t : LetterTable). length t.samples) c.letters.ensures)
      (c.in_ok-column.ensures [] (subst (IsAccepting c.args.a.now []) (sym c.deref.ensures.value) c.in_ok-start.ensures)));
}

pub loop-place-preserved : goal.loop-place-preserved
loop-place-preserved c =
    let a = c.args.a.now in
    let word = c.args.word.now in
    let j = c.loop-place.place - 1 in
    let col = subst (IsAccepting a (to_end a (drop c.loop-place.place word))) (sym c.deref-in-loop-place.ensures.value) c.loop-place.invariant.column in
    record {
      within = omega (arith, c.loop-place.invariant.within);
      column = subst (λ (w : List ℕ). IsAccepting a (to_end a w) c.in_ok-column-2.column.items)
          (sym (at-front word c.loop-place.place j (get_or word j 0) (omega (arith, c.loop-place-test.true)) (omega (arith, c.loop-place-test.true, c.loop-place.invariant.within)) refl))
          (c.in_ok-column-2.ensures (to_end a (drop c.loop-place.place word)) col);
    }
