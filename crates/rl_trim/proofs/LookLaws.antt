-- Laws of looking at the first set pairs one after another. Once more than the limit are found, no further ones need be looked for.
use Rattle.std.proofs.Common.{◌≡◌, ◌∙◌, ℕ, zero, suc, ◌+◌, ◌<◌, ◌≤◌, ◌⊎◌, inl, inr, List, [], ◌∷◌, ◌++◌, length, get_or, take, slice_get, Some, All, true, false, sym, ap, subst, arith}
use Rattle.std.proofs.lemmas.Bool.{cases_lt}
use Rattle.std.proofs.lemmas.List.{length-append, length-take, take-append-le, take_all, get_or_default, get_or_append_left}
use Rattle.std.proofs.lemmas.List.Elements.{All-more}
use Rattle.std.proofs.lemmas.Option.{slice_get-get_or, slice_get_within, get_or_from_slice_get}
use Rattle.rl_sets.proofs.WalkLemmas.{get_kept}
use Rattle.rl_equiv.specs.declared.pair.SetPair.{SetPair}
use Rattle.rl_equiv.specs.SetPairs.{first_pair, SetPairs, differs}
use Rattle.rl_equiv.specs.Numbering.{with_more, found_after, first_ones, AreMore}
use Rattle.rl_equiv.proofs.SearchLaws.{more-grows}
use Rattle.rl_equiv.proofs.RunLaws.{found-zero, found-extends, found-steady, found-looked, get-taken}
use Rattle.rl_trim.specs.declared.judgement.Judgement.TheVariants.{Equal, Apart}
use Rattle.rl_trim.specs.Judged.{IsFound}

all-taken : (P : SetPair → Type 0) (l : List SetPair) (n : ℕ) → n ≤ length l → ((k : ℕ) → k < n → P (get_or l k first_pair)) → All P (take n l)
all-taken P l zero le each = λ k d lt. absurd (omega (arith, length-take 0 l, lt))
all-taken P l (suc n) le each =
    let one : n + 1 ≡ suc n = omega arith in
    subst (λ (m : ℕ). All P (take m l)) one (All-more P l n first_pair (omega arith) (all-taken P l n (omega arith) (λ k lt. each k (omega arith))) (each n (omega arith)))

-- The first ones, up to a place, show no difference; of as many of them as were looked for the next ones are found.
pub record IsLooking (d : SetPairs) (limit place : ℕ) (pairs : List SetPair) : Type 0 where
  pub upto : ℕ
  pub early : upto ≤ place
  pub is : pairs ≡ found_after d upto
  pub full : (upto ≡ place) ⊎ (limit < length pairs)
  pub inside : place ≤ length pairs
  pub none : (i : ℕ) → i < place → differs d (get_or pairs i first_pair) ≡ false

pub looking-start : (d : SetPairs) (limit : ℕ) (pairs : List SetPair) → pairs ≡ first_pair ∷ [] → IsLooking d limit 0 pairs
looking-start d limit pairs e = record {
  upto = 0;
  early = omega arith;
  is = e ∙ sym (found-zero d);
  full = inl (omega arith);
  inside = omega arith;
  none = λ i lt. absurd (omega arith);
}

module _ (d : SetPairs) (limit place : ℕ) (pairs : List SetPair) (l : IsLooking d limit place pairs) where
  -- One more shows none.
  none-more : (more rest : List SetPair) → more ≡ pairs ++ rest → place < length pairs → differs d (get_or pairs place first_pair) ≡ false → (i : ℕ) → i < place + 1 → differs d (get_or more i first_pair) ≡ false
  none-more more rest e lt calm i less =
      let same : get_or more i first_pair ≡ get_or pairs i first_pair = ap (λ (xs : List SetPair). get_or xs i first_pair) e ∙ get_or_append_left pairs rest first_pair i (omega arith) in
      ap (differs d) same ∙ elim (cases_lt i place) [
        | inl before ↦ l.none i before
        | inr after ↦ let here : place ≡ i = omega arith in subst (λ (k : ℕ). differs d (get_or pairs k first_pair) ≡ false) here calm
      ]

  pub looking-more : (more : List SetPair) → place < length pairs → length pairs ≤ limit → differs d (get_or pairs place first_pair) ≡ false → more ≡ with_more pairs (d.nexts (get_or pairs place first_pair))
      → IsLooking d limit (place + 1) more
  looking-more more lt few calm e = by l.full
    where
      by : (l.upto ≡ place) ⊎ (limit < length pairs) → IsLooking d limit (place + 1) more
      by (inr many) = absurd (omega arith)
      by (inl here) =
          let p = get_or pairs place first_pair in
          let is : pairs ≡ found_after d place = l.is ∙ ap (found_after d) here in
          let there : slice_get (found_after d place) place ≡ Some p = ap (λ (xs : List SetPair). slice_get xs place) (sym is) ∙ slice_get-get_or pairs place first_pair lt in
          let grows = more-grows pairs (d.nexts p) in
          let one : suc place ≡ place + 1 = omega arith in
          record {
            upto = suc place;
            early = omega arith;
            is = e ∙ ap (λ (xs : List SetPair). with_more xs (d.nexts p)) is ∙ sym (found-looked d place p there);
            full = inl one;
            inside = omega (arith, ap length (e ∙ grows.1), length-append pairs grows.0);
            none = none-more more grows.0 (e ∙ grows.1) lt calm;
          }

  pub looking-stay : place < length pairs → limit < length pairs → differs d (get_or pairs place first_pair) ≡ false → IsLooking d limit (place + 1) pairs
  looking-stay lt many calm = record {
    upto = l.upto;
    early = omega (arith, l.early);
    is = l.is;
    full = inr many;
    inside = omega arith;
    none = λ i less. elim (cases_lt i place) [
      | inl before ↦ l.none i before
      | inr after ↦ let here : place ≡ i = omega arith in subst (λ (k : ℕ). differs d (get_or pairs k first_pair) ≡ false) here calm
    ];
  }

  -- All are looked at.
  pub looking-equal : length pairs ≤ place → place ≤ limit → IsFound d limit Equal
  looking-equal all low = by l.full
    where
      by : (l.upto ≡ place) ⊎ (limit < length pairs) → IsFound d limit Equal
      by (inr many) = absurd (omega arith)
      by (inl here) =
          let is : pairs ≡ found_after d place = l.is ∙ ap (found_after d) here in
          let steady : found_after d limit ≡ found_after d place = found-steady d place limit (omega (arith, ap length is)) low in
          let whole : pairs ≡ found_after d limit = is ∙ sym steady in
          let few : length (found_after d limit) ≤ limit = omega (arith, ap length whole) in
          let none : All (λ p. differs d p ≡ false) pairs = λ i x lt. ap (differs d) (get_or_default pairs i x first_pair lt) ∙ l.none i (omega arith) in
          (few, subst (All (λ p. differs d p ≡ false)) (whole ∙ sym (take_all limit (found_after d limit) few)) none)

  -- One shows a difference.
  pub looking-apart : place < length pairs → place < limit → differs d (get_or pairs place first_pair) ≡ true → IsFound d limit Apart
  looking-apart lt low apart =
      let p = get_or pairs place first_pair in
      let there : slice_get pairs place ≡ Some p = slice_get-get_or pairs place first_pair lt in
      let x = found-extends d l.upto limit (omega (arith, l.early)) in
      let whole : found_after d limit ≡ pairs ++ x.0 = x.1 ∙ ap (λ (xs : List SetPair). xs ++ x.0) (sym l.is) in
      let then : slice_get (first_ones d limit) place ≡ Some p =
      get-taken (found_after d limit) limit place p low (ap (λ (xs : List SetPair). slice_get xs place) whole ∙ get_kept pairs x.0 place p there) in
      (place, p, slice_get_within (first_ones d limit) place p then, get_or_from_slice_get (first_ones d limit) place p p then, apart)

  -- The first ones are looked at, and there are more.
  pub looking-passed : place ≡ limit → limit < length pairs → AreMore d limit
  looking-passed e many =
      let x = found-extends d l.upto limit (omega (arith, l.early)) in
      let whole : found_after d limit ≡ pairs ++ x.0 = x.1 ∙ ap (λ (xs : List SetPair). xs ++ x.0) (sym l.is) in
      record {
        more = omega (arith, ap length whole, length-append pairs x.0);
        none_differs =
            subst (All (λ p. differs d p ≡ false)) (sym (ap (take limit) whole ∙ take-append-le limit pairs x.0 (omega arith)))
            (all-taken (λ p. differs d p ≡ false) pairs limit (omega arith) (λ k lt. l.none k (omega arith)));
      }
