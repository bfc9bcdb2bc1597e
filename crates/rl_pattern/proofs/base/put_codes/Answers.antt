-- One more literal, and none.
use Rattle.std.proofs.Common.{◌≡◌, ℕ, ◌+◌, ◌<◌, suc, List, length, drop, arith, ap, sym, ◌∙◌, drop-cons}
use Rattle.std.specs.Prelude.{slice_index_or}
use Rattle.std.proofs.lemmas.List.{drop_all}
use Rattle.rl_pattern.specs.internal.Views.{base_of}
use Rattle.rl_pattern.specs.internal.Machine as m
use Rattle.rl_pattern.proofs.base.put_codes.Goals as goal

one_more : (b new : m.Base) (t : List ℕ) (i p : ℕ) → i < length t → new ≡ m.put_code b p (slice_index_or t i 0) → m.put_codes new (p + 1) (drop (i + 1) t) ≡ m.put_codes b p (drop i t)
one_more b new t i p l e =
    let x = slice_index_or t i 0 in
    let next : p + 1 ≡ suc p = omega arith in
    let rest : i + 1 ≡ suc i = omega arith in
    ap (λ n. m.put_codes n (p + 1) (drop (i + 1) t)) e
    ∙ ap (λ k. m.put_codes (m.put_code b p x) k (drop (i + 1) t)) next
    ∙ ap (λ k. m.put_codes (m.put_code b p x) (suc p) (drop k t)) rest
    ∙ sym (ap (m.put_codes b p) (drop-cons t i 0 l))

pub loop-code-preserved : goal.loop-code-preserved
loop-code-preserved c = record {
  codes = one_more (base_of c.loop-code.base) (base_of c.put_code.new.base) c.args.codes.now c.loop-code.code-index c.loop-code.place c.loop-code-test.true c.in_ok-put_code.ensures ∙ c.loop-code.invariant.codes;
  place = omega (arith, c.loop-code.invariant.place);
}

pub returns : goal.returns
returns c =
    ap (m.put_codes (base_of c.loop-code.base) c.loop-code.place) (sym (drop_all c.loop-code.code-index c.args.codes.now (omega arith))) ∙ c.loop-code.invariant.codes
