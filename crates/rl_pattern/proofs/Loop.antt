-- Laws about the reader's loop over the codes.
use Rattle.std.proofs.Common.{◌≡◌, ℕ, zero, suc, ◌+◌, ◌<◌, ◌≤◌, Bool, true, false, not, ◌&&◌, ◌||◌, ◌==◌, List, [], ◌∷◌, length, take, Option, Some, None, Result, Ok, Err, refl, sym, ap, ◌∙◌, subst, slice_get, arith, take_all, length-take-le, le_of_lt}
use Rattle.std.proofs.lemmas.Bool.{cases_eq, cases_lt, eq-eqb, eqb-true, and_parts, or_cases, cases_Bool, false≢true, true≢false, and_from}
use Rattle.std.proofs.lemmas.Option.{same_Some, none-some, slice_get_within}
use mathlib.Core.Logic.{⊎_elim}
use Rattle.rl_pattern.specs.declared.flags.Flags.{Flags}
use Rattle.rl_pattern.specs.Tree.{Whole}
use Rattle.rl_pattern.specs.Grammar.{Spells}
use Rattle.rl_pattern.specs.Viable.{Begins, Viable, TooDeepAt}
use Rattle.rl_pattern.specs.declared.tree.Whole.{Whole as ProgramWhole}
use Rattle.rl_pattern.specs.declared.read.ReadError.{ReadError}
use Rattle.rl_pattern.specs.declared.read.ReadError.TheVariants.{Syntax, TooDeep, OutOfMemory}
use Rattle.rl_pattern.specs.internal.Views.{FitsAt, whole_of}
use Rattle.rl_pattern.specs.Answers.{Shallow}
use Rattle.rl_pattern.specs.internal.Answering.{Went, Ended, Answered, is_code, opens_none, at_paren, is_too_deep, HasRead}
use Rattle.rl_pattern.specs.internal.Machine.{InHead, paren, quest, after_p, after_less, group_name, group_name_goes, reference_name, reference_name_goes, asks, asks_digits, asks_name_goes, letters_on, letters_dash, letters_off, Lex, between, line, comment, in_braces, counted, at_slash, in_escape, in_head, set_open, in_class, State, behind_paren, step_at, run, finish_at, start}
use Rattle.rl_pattern.proofs.Reading.{text_length}
use Rattle.rl_pattern.proofs.Sound.{LexOk, StateOk, read_is_spelled}
use Rattle.rl_pattern.proofs.Viability.{run-append, run_ok, take_one, stops_at, stopped_spells_none, takes_all, run_then_finish, unread_spells_none}
use Rattle.rl_pattern.proofs.Deep.{Behind, too_deep_seen, seen_too_deep, too_deep_begins, seen_last}

-- Tests of codes.
code_there : (o : Option ℕ) (c : ℕ) → is_code o c ≡ true → o ≡ Some c
code_there None c h = absurd (false≢true h)
code_there (Some d) c h = ap Some (eqb-true d c h)

there_code : (o : Option ℕ) (c : ℕ) → o ≡ Some c → is_code o c ≡ true
there_code o c h = ap (λ p. is_code p c) h ∙ eq-eqb c c refl

head_from : (h : InHead) → behind_paren h ≡ true → h ≡ paren
head_from paren e = refl
head_from quest e = absurd (false≢true e)
head_from after_p e = absurd (false≢true e)
head_from after_less e = absurd (false≢true e)
head_from group_name e = absurd (false≢true e)
head_from (group_name_goes n) e = absurd (false≢true e)
head_from reference_name e = absurd (false≢true e)
head_from reference_name_goes e = absurd (false≢true e)
head_from asks e = absurd (false≢true e)
head_from asks_digits e = absurd (false≢true e)
head_from asks_name_goes e = absurd (false≢true e)
head_from (letters_on f) e = absurd (false≢true e)
head_from (letters_dash f) e = absurd (false≢true e)
head_from (letters_off f g) e = absurd (false≢true e)

paren_there : (x : Lex) → at_paren x ≡ true → (a : ℕ) × (x ≡ in_head a paren)
paren_there (in_head a h) e = (a, ap (in_head a) (head_from h e))
paren_there between e = absurd (false≢true e)
paren_there line e = absurd (false≢true e)
paren_there comment e = absurd (false≢true e)
paren_there (in_braces a t) e = absurd (false≢true e)
paren_there (counted a p q n) e = absurd (false≢true e)
paren_there (at_slash a) e = absurd (false≢true e)
paren_there (in_escape a x) e = absurd (false≢true e)
paren_there (set_open a) e = absurd (false≢true e)
paren_there (in_class a v s) e = absurd (false≢true e)

not_none : (w : List ℕ) (p : ℕ) → slice_get w p ≡ Some 40 → not (opens_none w p) ≡ true → ((slice_get w p ≡ Some 40) × (slice_get w (suc p) ≡ Some 63) → slice_get w (suc (suc p)) ≡ Some 35 → ⊥) × ((slice_get w p ≡ Some 40) × (slice_get w (suc p) ≡ Some 63) → slice_get w (suc (suc p)) ≡ Some 80 → slice_get w (suc (suc (suc p))) ≡ Some 61 → ⊥)
not_none w p at_p h =
    let a = is_code (slice_get w (suc p)) 63 in
    let b = is_code (slice_get w (suc (suc p))) 35 in
    let c = is_code (slice_get w (suc (suc p))) 80 in
    let d = is_code (slice_get w (suc (suc (suc p)))) 61 in (
      (λ q e. false≢true (sym (ap (λ (v : Bool). not (v && (b || (c && d)))) (there_code (slice_get w (suc p)) 63 q.1) ∙ ap (λ (v : Bool). not (v || (c && d))) (there_code (slice_get w (suc (suc p))) 35 e)) ∙ h)),
      (λ q e f. first b c d (there_code (slice_get w (suc (suc p))) 80 e) (there_code (slice_get w (suc (suc (suc p)))) 61 f) (sym (ap (λ (v : Bool). not (v && (b || (c && d)))) (there_code (slice_get w (suc p)) 63 q.1)) ∙ h)),
    )
  where
    first : (b c d : Bool) → c ≡ true → d ≡ true → not (b || (c && d)) ≡ true → ⊥
    first true c d yc yd h = false≢true h
    first false c d yc yd h = false≢true (sym (ap (λ (v : Bool). not (v && d)) yc ∙ ap not yd) ∙ h)

none_not : (w : List ℕ) (p : ℕ) → ((slice_get w (suc p) ≡ Some 63) → slice_get w (suc (suc p)) ≡ Some 35 → ⊥) → ((slice_get w (suc p) ≡ Some 63) → slice_get w (suc (suc p)) ≡ Some 80 → slice_get w (suc (suc (suc p))) ≡ Some 61 → ⊥) → not (opens_none w p) ≡ true
none_not w p no_comment no_reference = ⊎_elim (λ (z : opens_none w p ≡ true). absurd (bad z)) (λ (z : opens_none w p ≡ false). ap not z) (cases_Bool (opens_none w p))
  where
    bad : opens_none w p ≡ true → ⊥
    bad z =
        let h = and_parts (is_code (slice_get w (suc p)) 63) _ z in
        let q = code_there (slice_get w (suc p)) 63 h.0 in
        ⊎_elim (λ y. no_comment q (code_there (slice_get w (suc (suc p))) 35 y)) (λ y. let g = and_parts (is_code (slice_get w (suc (suc p))) 80) _ y in no_reference q (code_there (slice_get w (suc (suc p))) 80 g.0) (code_there (slice_get w (suc (suc (suc p)))) 61 g.1)) (or_cases (is_code (slice_get w (suc (suc p))) 35) _ h.1)

-- A code of a prefix of the list is one of the list.
taken_at : (w : List ℕ) (n i c : ℕ) → slice_get (take n w) i ≡ Some c → slice_get w i ≡ Some c
taken_at [] zero i c h = h
taken_at [] (suc n) i c h = h
taken_at (x ∷ w) zero i c h = absurd (none-some c h)
taken_at (x ∷ w) (suc n) zero c h = h
taken_at (x ∷ w) (suc n) (suc i) c h = taken_at w n i c h

module _ (call : Flags) (text : Bool) (w : List ℕ) where
  pub stand_start : HasRead call text w 0 (start call)
  stand_start = record { runs = refl; shallow = λ q l h. omega (arith, l) }

  fits_lex : (u : List ℕ) (k : ℕ) (s : State) → StateOk call text u k s → FitsAt s.lex k
  fits_lex u k s h = go s.lex h
    where
      go : (x : Lex) → LexOk call text u k s.base x → FitsAt x k
      go between h = tt
      go line h = tt
      go comment h = tt
      go (in_braces a t) h = text_length text u h.2
      go (counted a p q n) h = tt
      go (at_slash a) h = tt
      go (in_escape a x) h = tt
      go (in_head a x) h = tt
      go (set_open a) h = tt
      go (in_class a v z) h = tt

  pub stand_fits : (i : ℕ) (s : State) → i ≤ length w → HasRead call text w i s → FitsAt s.lex i
  stand_fits i s l h = subst (λ k. FitsAt s.lex k) (length-take-le i w l) (fits_lex (take i w) (length (take i w)) s (run_ok call text (take i w) s h.runs))

  -- One more code.
  one_more : (i c : ℕ) (s : State) (o : Option State) → HasRead call text w i s → slice_get w i ≡ Some c → step_at text i s c ≡ o → run text 0 (Some (start call)) (take (suc i) w) ≡ o
  one_more i c s o h at_c st =
      let len : 0 + length (take i w) ≡ i = omega (arith, length-take-le i w (le_of_lt (slice_get_within w i c at_c))) in
      ap (run text 0 (Some (start call))) (take_one w i c at_c) ∙ run-append text 0 (start call) (take i w) (c ∷ []) ∙ ap (λ m. run text m (run text 0 (Some (start call)) (take i w)) (c ∷ [])) len ∙ ap (λ z. run text i z (c ∷ [])) h.runs ∙ ends o st
    where
      ends : (o : Option State) → step_at text i s c ≡ o → run text (suc i) (step_at text i s c) [] ≡ o
      ends None e = ap (λ z. run text (suc i) z []) e
      ends (Some r) e = ap (λ z. run text (suc i) z []) e

  -- If a group is nested too deep, the test of the state after its parenthesis says so.
  deep_test : (i : ℕ) (r : State) → run text 0 (Some (start call)) (take (suc i) w) ≡ Some r → TooDeepAt call text w i → is_too_deep r w i ≡ true
  deep_test i r e h =
      let b = too_deep_seen call text w i h in
      let same : b.state ≡ r = same_Some b.state r (sym b.runs ∙ e) in
      let lex : at_paren r.lex ≡ true = ap (λ z. at_paren z.lex) (sym same) ∙ ap at_paren b.lex in
      let deep : (length r.base.below == 100) ≡ true = eq-eqb (length r.base.below) 100 (ap (λ z. length z.base.below) (sym same) ∙ b.deep) in
      let opens = none_not w i (λ q e. h.no_comment (h.opens, (q, e))) (λ q e f. h.no_reference (h.opens, (q, (e, f)))) in
      and_from (at_paren r.lex) _ lex (and_from (length r.base.below == 100) _ deep opens)

  pub stand_step : (i c : ℕ) (s r : State) → HasRead call text w i s → slice_get w i ≡ Some c → step_at text i s c ≡ Some r → is_too_deep r w i ≡ false → HasRead call text w (suc i) r
  stand_step i c s r h at_c st shallow_here =
      record {
        runs = one_more i c s (Some r) h at_c st;
        shallow = λ q l d. ⊎_elim (λ (z : q ≡ i). true≢false (sym (deep_test i r (one_more i c s (Some r) h at_c st) (subst (λ m. TooDeepAt call text w m) z d)) ∙ shallow_here)) (λ (z : q ≡ i → ⊥). h.shallow q (omega (arith, l, z)) d) (cases_eq q i);
      }

  -- A group is nested too deep after the last code.
  pub stand_deep : (i c : ℕ) (s r : State) → HasRead call text w i s → slice_get w i ≡ Some c → step_at text i s c ≡ Some r → is_too_deep r w i ≡ true → TooDeepAt call text w i × Begins call text (take (suc i) w) × ((q : ℕ) → q < i → ¬ TooDeepAt call text w q)
  stand_deep i c s r h at_c st deep_here =
      let runs = one_more i c s (Some r) h at_c st in
      let p1 = and_parts (at_paren r.lex) _ deep_here in
      let p2 = and_parts (length r.base.below == 100) _ p1.1 in
      let at = paren_there r.lex p1.0 in
      let len : length (take (suc i) w) ≡ suc i = length-take-le (suc i) w (slice_get_within w i c at_c) in
      let last = seen_last call text (take (suc i) w) r at.0 runs at.1 in
      let same : at.0 ≡ i = omega (arith, last, len) in
      let ok = subst (λ x. LexOk call text (take (suc i) w) (length (take (suc i) w)) r.base x) at.1 (run_ok call text (take (suc i) w) r runs) in
      let opens : slice_get w i ≡ Some 40 = subst (λ m. slice_get w m ≡ Some 40) same (taken_at w (suc i) at.0 40 ok.1.0) in
      let heads = not_none w i opens p2.1 in
      let behind : Behind call text w i 100 = record { state = r; runs = runs; lex = at.1 ∙ ap (λ m. in_head m paren) same; deep = eqb-true (length r.base.below) 100 p2.0 } in
      let deep = seen_too_deep call text w i behind opens (λ z. heads.0 (z.0, z.1.0) z.1.1) (λ z. heads.1 (z.0, z.1.0) z.1.1.0 z.1.1.1) in
      (deep, too_deep_begins call text w i deep, h.shallow)

  -- No group is nested too deep if the longest prefix that can be continued to a pattern has none.
  none_deeper : (n : ℕ) → Viable call text w n → ((q : ℕ) → q < n → ¬ TooDeepAt call text w q) → Shallow call text w
  none_deeper n v h q d = ⊎_elim (λ (z : q < n). h q z d) (λ (z : n ≤ q). v.longest (suc q) (omega (arith, z)) (slice_get_within w q 40 d.opens) (too_deep_begins call text w q d)) (cases_lt q n)

  -- The machine stops.
  pub stand_dead : (i c : ℕ) (s : State) → HasRead call text w i s → slice_get w i ≡ Some c → step_at text i s c ≡ None → Viable call text w i × ((p : Whole) → ¬ Spells call text w p) × Shallow call text w
  stand_dead i c s h at_c st =
      let v = stops_at call text w i c s h.runs at_c st in
      (v, stopped_spells_none call text w i c s h.runs at_c st, none_deeper i v h.shallow)

  -- The machine has read all codes.
  all_taken : (s : State) → HasRead call text w (length w) s → run text 0 (Some (start call)) w ≡ Some s
  all_taken s h = ap (run text 0 (Some (start call))) (sym (take_all (length w) w (omega arith))) ∙ h.runs

  pub stand_end : (s : State) (p : Whole) → HasRead call text w (length w) s → finish_at (length w) s ≡ Some p → Spells call text w p × Shallow call text w
  stand_end s p h e =
      let runs = all_taken s h in
      (read_is_spelled call text w p (run_then_finish call text w s runs ∙ e), none_deeper (length w) (takes_all call text w s runs) h.shallow)

  pub stand_short : (s : State) → HasRead call text w (length w) s → finish_at (length w) s ≡ None → Viable call text w (length w) × ((p : Whole) → ¬ Spells call text w p) × Shallow call text w
  stand_short s h e =
      let runs = all_taken s h in
      let v = takes_all call text w s runs in
      (v, unread_spells_none call text w (run_then_finish call text w s runs ∙ e), none_deeper (length w) v h.shallow)

  -- The answers for one code and for the end.
  pub went_on : (i c : ℕ) (s r : State) → HasRead call text w i s → slice_get w i ≡ Some c → (step_at text i s c ≡ Some r) × (is_too_deep r w i ≡ false) → HasRead call text w (suc i) r
  went_on i c s r h at_c z = stand_step i c s r h at_c z.0 z.1

  pub went_wrong : (i c : ℕ) (s r : State) (e : ReadError) → HasRead call text w i s → slice_get w i ≡ Some c → Went w i (step_at text i s c) r (Err e) → Answered call text w (Err e)
  went_wrong i c s r (Syntax n) h at_c z = subst (λ m. Answered call text w (Err (Syntax m))) (sym z.1) (stand_dead i c s h at_c z.0)
  went_wrong i c s r (TooDeep n) h at_c z = subst (λ m. Answered call text w (Err (TooDeep m))) (sym z.2) (stand_deep i c s r h at_c z.0 z.1)
  went_wrong i c s r OutOfMemory h at_c z = tt

  pub ended_right : (i : ℕ) (s : State) (r : Result ProgramWhole ReadError) → i ≡ length w → HasRead call text w i s → Ended i (finish_at i s) r → Answered call text w r
  ended_right i s (Ok p) e h z = stand_end s (whole_of p) (subst (λ k. HasRead call text w k s) e h) (subst (λ k. finish_at k s ≡ Some (whole_of p)) e z)
  ended_right i s (Err (Syntax n)) e h z = subst (λ m. Answered call text w (Err (Syntax m))) (sym (z.1 ∙ e)) (stand_short s (subst (λ k. HasRead call text w k s) e h) (subst (λ k. finish_at k s ≡ None) e z.0))
  ended_right i s (Err (TooDeep n)) e h z = absurd z
  ended_right i s (Err OutOfMemory) e h z = tt
