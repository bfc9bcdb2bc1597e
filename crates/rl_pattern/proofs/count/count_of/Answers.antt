-- One more code of a count.
use Rattle.std.proofs.Common.{◌≡◌, ℕ, ◌+◌, ◌<◌, ◌-◌, suc, Bool, true, false, cond, ◌==◌, List, [], ◌∷◌, length, drop, Option, Some, None, refl, sym, ap, ◌∙◌, arith}
use Rattle.std.proofs.lemmas.Bool.{eqb-true, true≢false}
use Rattle.std.proofs.lemmas.List.{at_drop_more, drop_all}
use Rattle.std.specs.Prelude.{slice_index_or}
use Rattle.rl_pattern.specs.Tree.{Count}
use Rattle.rl_pattern.specs.Codes.{code_of, is, with_digit, least_of, upper_of, most_of, count_of}
use Rattle.rl_pattern.specs.internal.Views.{part_rest, part_next}
use Rattle.rl_pattern.specs.declared.lex.CountPart.{CountPart}
use Rattle.rl_pattern.specs.declared.lex.CountPart.TheVariants.{Least, Upper, Most}
use Rattle.rl_pattern.proofs.count.count_of.Goals as goal

part_after : Option CountPart → List ℕ → Option Count
part_after None cs = None
part_after (Some part) cs = part_rest part cs

-- The count of a part with one more code is that of the part after the code.
one_code : (part : CountPart) (code : ℕ) (cs : List ℕ) → part_rest part (code ∷ cs) ≡ part_after (part_next part code) cs
unfolding part_after
one_code (Least m) code cs = go (is "," code)
  where
    go : (b : Bool) → cond b (upper_of m cs) (least_of (with_digit 10 m (code - code_of "0")) cs) ≡ part_after (cond b (Some (Upper m)) (Some (Least (with_digit 10 m (code - code_of "0"))))) cs
    go true = refl
    go false = refl
one_code (Upper m) code cs = go (is "," code)
  where
    go : (b : Bool) → cond b None (most_of m (with_digit 10 0 (code - code_of "0")) cs) ≡ part_after (cond b None (Some (Most m (with_digit 10 0 (code - code_of "0"))))) cs
    go true = refl
    go false = refl
one_code (Most m n) code cs = go (is "," code)
  where
    go : (b : Bool) → cond b None (most_of m (with_digit 10 n (code - code_of "0")) cs) ≡ part_after (cond b None (Some (Most m (with_digit 10 n (code - code_of "0"))))) cs
    go true = refl
    go false = refl

part_more : (part next : CountPart) (t : List ℕ) (i : ℕ) (total : Option Count) → i < length t → part_next part (slice_index_or t i 0) ≡ Some next → part_rest part (drop i t) ≡ total → part_rest next (drop (i + 1) t) ≡ total
unfolding part_after
part_more part next t i total l e f =
    sym (one_code part (slice_index_or t i 0) (drop (i + 1) t) ∙ ap (λ o. part_after o (drop (i + 1) t)) e)
    ∙ sym (at_drop_more (part_rest part) t i 0 l)
    ∙ f

none_spelled : (t : List ℕ) → (length t == 0) ≡ true → None ≡ count_of t
unfolding count_of
none_spelled [] h = refl
none_spelled (code ∷ t) h =
    let none : suc (length t) ≡ 0 = eqb-true (suc (length t)) 0 h in
    absurd (omega (arith, none))

some_spelled : (t : List ℕ) → (length t == 0) ≡ false → least_of 0 t ≡ count_of t
unfolding count_of
some_spelled [] h = absurd (true≢false h)
some_spelled (code ∷ t) h = refl

part_stops : (part : CountPart) (t : List ℕ) (i : ℕ) (total : Option Count) → i < length t → part_next part (slice_index_or t i 0) ≡ None → part_rest part (drop i t) ≡ total → None ≡ total
unfolding part_after
part_stops part t i total l e f =
    sym (one_code part (slice_index_or t i 0) (drop (i + 1) t) ∙ ap (λ o. part_after o (drop (i + 1) t)) e)
    ∙ sym (at_drop_more (part_rest part) t i 0 l)
    ∙ f

pub returns-then-is_empty : goal.returns-then-is_empty
returns-then-is_empty c = none_spelled c.args.text.now (sym c.is_empty.ensures ∙ c.if-is_empty.true)

pub returns-in-None : goal.returns-in-None
returns-in-None c =
    part_stops c.loop-code.part c.args.text.now c.loop-code.code-index _ c.loop-code-test.true (sym c.count_next.ensures ∙ c.in-None.is) c.loop-code.invariant
    ∙ some_spelled c.args.text.now (sym c.is_empty.ensures ∙ c.if-is_empty.false)

pub returns : goal.returns
returns c =
    c.count_at_end.ensures
    ∙ sym (ap (part_rest c.loop-code.part) (drop_all c.loop-code.code-index c.args.text.now (omega arith)))
    ∙ c.loop-code.invariant
    ∙ some_spelled c.args.text.now (sym c.is_empty.ensures ∙ c.if-is_empty.false)

pub loop-code-preserved : goal.loop-code-preserved
loop-code-preserved c =
    part_more c.loop-code.part c.in-Some.next c.args.text.now c.loop-code.code-index _ c.loop-code-test.true (sym c.count_next.ensures ∙ c.in-Some.is) c.loop-code.invariant
