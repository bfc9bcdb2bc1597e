-- A sorted list of ranges that don't touch is determined by the codes that it holds.
use Rattle.std.proofs.Common.{Bool, List, [], ap, ap₂, arith, eqb, false, inl, inr, le_antisymm, le_refl, ltb, refl, subst, suc, sym, true, zero, ℕ, ◌&&◌, ◌+◌, ◌<◌, ◌||◌, ◌∙◌, ◌∷◌, ◌≡◌, ◌≤◌, ◌⊎◌}
use Rattle.std.specs.Prelude.{if◌then◌else◌}
use Rattle.std.proofs.lemmas.Bool.Decides.{eqb_tells, nat_tests}
use Rattle.std.proofs.lemmas.Bool.{cases_lt, or_left, true≢false}
use Rattle.rl_ranges.specs.Codes.{Above, IsInside, has, is_between}
use Rattle.rl_ranges.specs.Listed.{extended, ranges_below}
use Rattle.rl_ranges.specs.Text.{code_count}
use Rattle.rl_ranges.specs.declared.universe.Universe.{Universe}
use Rattle.rl_ranges.proofs.SetLemmas.{free_from, has-below, has-cons, has-nil, or_assoc, within-above, within-true, within_tells}

-- No range of a sorted list begins before the place where the list may begin.
free_from-rises : (low : ℕ) (rs : List (ℕ × ℕ)) → Above low rs → low ≤ free_from low rs
unfolding free_from
free_from-rises low [] h = le_refl _
free_from-rises low (r ∷ rs) h = let rest = free_from-rises (r.1 + 2) rs h.2 in omega (arith, h.0, h.1, rest)

-- What a list of ranges below a code has become once the code is added.
record IsExtended (low : ℕ) (rs new : List (ℕ × ℕ)) (n : ℕ) : Type 0 where
  sorted : Above low new
  free : free_from low new ≡ n + 2
  members : (c : ℕ) → has new c ≡ (has rs c || eqb c n)

-- The test of a range that consists of one code, and of a range that has become longer by one code.
within-one : (n c : ℕ) → (is_between n n c || false) ≡ (false || eqb c n)
within-one n c = grind (arith, nat_tests, within_tells n n c)

within-longer : (a b n c : ℕ) (t : Bool) → a ≤ b → b + 1 ≡ n → (is_between a n c || t) ≡ ((is_between a b c || t) || eqb c n)
within-longer a b n c true le is = grind (arith, nat_tests, within_tells a b c, within_tells a n c)
within-longer a b n c false le is = grind (arith, nat_tests, within_tells a b c, within_tells a n c)

extended-is : (low : ℕ) (rs : List (ℕ × ℕ)) (n : ℕ) → Above low rs → low ≤ n → free_from low rs ≤ n + 1 → IsExtended low rs (extended rs n) n
unfolding free_from
extended-is low [] n h le ends = record {
  sorted = (le, le_refl n, tt);
  free = refl;
  members = λ c. has-cons (n, n) [] c ∙ ap (λ b. is_between n n c || b) (has-nil c) ∙ within-one n c ∙ ap (λ b. b || eqb c n) (sym (has-nil c));
}
extended-is low (r ∷ rs) n h le ends = elim (eqb_tells (r.1 + 1) n) [
  | inl is ↦ rw is.0 (longer rs h.2 ends is.1)
  | inr isnt ↦ rw isnt.0 (later (extended-is (r.1 + 2) rs n h.2 (omega (arith, free_from-rises (r.1 + 2) rs h.2, isnt.1)) ends))
]
  where
    longer : (rs : List (ℕ × ℕ)) → Above (r.1 + 2) rs → free_from (r.1 + 2) rs ≤ n + 1 → r.1 + 1 ≡ n → IsExtended low (r ∷ rs) ((r.0, n) ∷ rs) n
    longer [] above ends is = record {
      sorted = (h.0, omega (arith, h.1), tt);
      free = refl;
      members = λ c. has-cons (r.0, n) [] c ∙ within-longer r.0 r.1 n c (has [] c) h.1 is ∙ ap (λ b. b || eqb c n) (sym (has-cons r [] c));
    }
    longer (s ∷ rs) above ends is = absurd (omega (arith, above.0, above.1, free_from-rises (s.1 + 2) rs above.2))

    later : IsExtended (r.1 + 2) rs (extended rs n) n → IsExtended low (r ∷ rs) (r ∷ extended rs n) n
    later e = record {
      sorted = (h.0, h.1, e.sorted);
      free = e.free;
      members = λ c.
          has-cons r (extended rs n) c ∙ ap (λ b. is_between r.0 r.1 c || b) (e.members c)
          ∙ or_assoc (is_between r.0 r.1 c) (has rs c) (eqb c n) ∙ ap (λ b. b || eqb c n) (sym (has-cons r rs c));
    }

-- What the ranges below `n` are.
pub record AreRanges (n : ℕ) (test : ℕ → Bool) (rs : List (ℕ × ℕ)) : Type 0 where
  pub sorted : Above 0 rs
  pub free : free_from 0 rs ≤ n + 1
  pub members : (c : ℕ) → has rs c ≡ (ltb c n && test c)

-- One more code is below the bound.
passes : (n c : ℕ) (t : Bool) → (c ≡ n → t ≡ true) → ((ltb c n && t) || eqb c n) ≡ (ltb c (suc n) && t)
passes n c true is = grind (arith, nat_tests)
passes n c false is = grind (arith, nat_tests)

fails : (n c : ℕ) (t : Bool) → (c ≡ n → t ≡ false) → (ltb c n && t) ≡ (ltb c (suc n) && t)
fails n c true is = grind (arith, nat_tests)
fails n c false is = grind (arith, nat_tests)

nothing : (c : ℕ) (t : Bool) → false ≡ (ltb c 0 && t)
nothing c t = grind (arith, nat_tests)

pub ranges_below-are : (n : ℕ) (test : ℕ → Bool) → AreRanges n test (ranges_below n test)
unfolding ranges_below free_from
ranges_below-are zero test = record {
  sorted = tt;
  free = omega arith;
  members = λ c. has-nil c ∙ nothing c (test c);
}
ranges_below-are (suc n) test = more (test n) refl (ranges_below-are n test)
  where
    more : (now : Bool) → test n ≡ now → AreRanges n test (ranges_below n test) → AreRanges (suc n) test (if now then extended (ranges_below n test) n else ranges_below n test)
    more true is old =
        let e = extended-is 0 (ranges_below n test) n old.sorted (omega arith) old.free in
        record {
          sorted = e.sorted;
          free = omega (arith, e.free);
          members = λ c. e.members c ∙ ap (λ b. b || eqb c n) (old.members c) ∙ passes n c (test c) (λ same. ap test same ∙ is);
        }
    more false is old = record {
      sorted = old.sorted;
      free = omega (arith, old.free);
      members = λ c. old.members c ∙ fails n c (test c) (λ same. ap test same ∙ is);
    }

-- Two sorted lists that hold the same codes are equal.
begins : (low : ℕ) (r : ℕ × ℕ) (rs : List (ℕ × ℕ)) → Above low (r ∷ rs) → has (r ∷ rs) r.0 ≡ true
begins low r rs h = has-cons r rs r.0 ∙ or_left _ _ (within-true r.0 r.1 r.0 (le_refl _) h.1)

not-earlier : (low : ℕ) (r : ℕ × ℕ) (rs : List (ℕ × ℕ)) (c : ℕ) → Above low (r ∷ rs) → has (r ∷ rs) c ≡ true → r.0 ≤ c
not-earlier low r rs c h held = elim (cases_lt c r.0) [
  | inl before ↦ absurd (true≢false (sym held ∙ has-below r.0 (r ∷ rs) c (le_refl _, h.1, h.2) before))
  | inr after ↦ after
]

not-longer : (low : ℕ) (r s : ℕ × ℕ) (rs ss : List (ℕ × ℕ)) → Above low (r ∷ rs) → Above low (s ∷ ss) → ((c : ℕ) → has (r ∷ rs) c ≡ has (s ∷ ss) c) → r.0 ≡ s.0 → s.1 ≤ r.1
not-longer low r s rs ss h k same first = elim (cases_lt r.1 s.1) [
  | inl longer ↦
      let held : has (s ∷ ss) (r.1 + 1) ≡ true = has-cons s ss (r.1 + 1) ∙ or_left _ _ (within-true s.0 s.1 (r.1 + 1) (omega (arith, h.1)) (omega arith)) in
      let past : has (r ∷ rs) (r.1 + 1) ≡ false = has-cons r rs (r.1 + 1) ∙ ap₂ ◌||◌ (within-above r.0 r.1 (r.1 + 1) (omega arith)) (has-below (r.1 + 2) rs (r.1 + 1) h.2 (omega arith)) in
      absurd (true≢false (sym held ∙ sym (same (r.1 + 1)) ∙ past))
  | inr not ↦ not
]

rest-same : (low : ℕ) (r : ℕ × ℕ) (rs ss : List (ℕ × ℕ)) → Above (r.1 + 2) rs → Above (r.1 + 2) ss → ((c : ℕ) → has (r ∷ rs) c ≡ has (r ∷ ss) c) → (c : ℕ) → has rs c ≡ has ss c
rest-same low r rs ss h k same c = elim (cases_lt c (r.1 + 2)) [
  | inl before ↦ has-below (r.1 + 2) rs c h before ∙ sym (has-below (r.1 + 2) ss c k before)
  | inr after ↦
      let out : is_between r.0 r.1 c ≡ false = within-above r.0 r.1 c (omega arith) in
      let here : (ts : List (ℕ × ℕ)) → has (r ∷ ts) c ≡ has ts c = λ (ts : List (ℕ × ℕ)). has-cons r ts c ∙ ap (λ b. b || has ts c) out in
      sym (here rs) ∙ same c ∙ here ss
]

pub Above-same : (low : ℕ) (rs ss : List (ℕ × ℕ)) → Above low rs → Above low ss → ((c : ℕ) → has rs c ≡ has ss c) → rs ≡ ss
Above-same low [] [] h k same = refl
Above-same low [] (s ∷ ss) h k same = absurd (true≢false (sym (begins low s ss k) ∙ sym (same s.0) ∙ has-nil s.0))
Above-same low (r ∷ rs) [] h k same = absurd (true≢false (sym (begins low r rs h) ∙ same r.0 ∙ has-nil r.0))
Above-same low (r ∷ rs) (s ∷ ss) h k same =
    let first : r.0 ≡ s.0 = le_antisymm
    (not-earlier low r rs s.0 h (same s.0 ∙ begins low s ss k))
    (not-earlier low s ss r.0 k (sym (same r.0) ∙ begins low r rs h)) in
    let last : r.1 ≡ s.1 = le_antisymm
    (not-longer low s r ss rs k h (λ c. sym (same c)) (sym first))
    (not-longer low r s rs ss h k same first) in
    let one : r ≡ s = ap₂ (λ a b. (a, b)) first last in
    let k' : Above (r.1 + 2) ss = subst (λ (x : ℕ). Above (x + 2) ss) (sym last) k.2 in
    let same' : (c : ℕ) → has (r ∷ rs) c ≡ has (r ∷ ss) c = λ c. same c ∙ ap (λ (x : ℕ × ℕ). has (x ∷ ss) c) (sym one) in
    ap₂ (λ (x : ℕ × ℕ) (l : List (ℕ × ℕ)). x ∷ l) one (Above-same (r.1 + 2) rs ss h.2 k' (rest-same low r rs ss h.2 k' same'))

-- ---- what other crates cite

pub has-ranges_below : (n : ℕ) (test : ℕ → Bool) (c : ℕ) → has (ranges_below n test) c ≡ (ltb c n && test c)
has-ranges_below n test c = (ranges_below-are n test).members c

pub Above-ranges_below : (n : ℕ) (test : ℕ → Bool) → Above 0 (ranges_below n test)
Above-ranges_below n test = (ranges_below-are n test).sorted

-- A sorted list that holds the codes below `n` that satisfy the test.
pub listed-as : (n : ℕ) (test : ℕ → Bool) (rs : List (ℕ × ℕ)) → Above 0 rs → ((c : ℕ) → has rs c ≡ (ltb c n && test c)) → rs ≡ ranges_below n test
listed-as n test rs h holds = Above-same 0 rs (ranges_below n test) h (Above-ranges_below n test) (λ c. holds c ∙ sym (has-ranges_below n test c))

-- Two tests that agree on the codes below `n`.
pub ranges_below-same : (n : ℕ) (f g : ℕ → Bool) → ((c : ℕ) → c < n → f c ≡ g c) → ranges_below n f ≡ ranges_below n g
ranges_below-same n f g same = listed-as n g (ranges_below n f) (Above-ranges_below n f) (λ c. has-ranges_below n f c ∙ step c (cases_lt c n))
  where
    step : (c : ℕ) → (c < n) ⊎ (n ≤ c) → (ltb c n && f c) ≡ (ltb c n && g c)
    step c (inl below) = ap (λ b. ltb c n && b) (same c below)
    step c (inr above) = let out : ltb c n ≡ false = grind (arith, nat_tests) in ap (λ b. b && f c) out ∙ sym (ap (λ b. b && g c) out)

-- A sorted list of ranges in a universe is the list of the ranges of its codes.
held-inside : (c n : ℕ) (t : Bool) → (t ≡ true → c < n) → t ≡ (ltb c n && t)
held-inside c n true inside = let below = inside refl in grind (arith, nat_tests)
held-inside c n false inside = grind (arith, nat_tests)

pub listed-inside : (u : Universe) (rs : List (ℕ × ℕ)) → Above 0 rs → IsInside u rs → rs ≡ ranges_below (code_count u) (has rs)
listed-inside u rs h inside =
    listed-as (code_count u) (has rs) rs h (λ c. held-inside c (code_count u) (has rs c) (inside c))
