-- Laws of the table that has it for each state which sets hold it, and of the sets that hold a state that isn't kept.
use Rattle.std.proofs.Common.{◌≡◌, ◌∙◌, ℕ, ◌+◌, ◌<◌, ◌≤◌, ◌⊎◌, inl, inr, List, [], ◌∷◌, ◌++◌, length, get_or, set, take, replicate, Option, None, Some, All, Bool, true, false, not, ◌||◌, eqb, eqb-true, sym, ap, subst, arith}
use Rattle.std.proofs.lemmas.Bool.{cases_Bool, cases_lt, cases_eq, both_ways, or_cases, false≢true}
use Rattle.std.proofs.lemmas.List.{take_more, length-set, length-replicate, get_or-set_same, get_or-set_other}
use Rattle.std.proofs.lemmas.List.Folds.{list_any-append}
use Rattle.rl_lanes.specs.Tables.{image as union}
use Rattle.rl_lanes.proofs.ImageLemmas.{get_or-image, length-image, row_lengths-replicate, row_lengths-set}
use Rattle.rl_prio.specs.Automaton.{Automaton}
use Rattle.rl_sets.specs.Live.{holds}
use Rattle.rl_sets.specs.Walk.{Walk, set_at, IsMadeFor}
use Rattle.rl_trim.specs.declared.store.Reached.{Reached}
use Rattle.rl_trim.specs.Reached.{IsNoted, AreHolders, AreReached, IsStored}
use Rattle.rl_trim.specs.Twins.{is_kept}
use Rattle.rl_trim.specs.internal.Trims.{trimmed}
use Rattle.rl_trim.specs.internal.Noting.{IsWide, IsNoting, AreTouched}
use Rattle.rl_trim.specs.internal.Quick.{IsGrown, AreGone}
use Rattle.rl_trim.proofs.SetLaws.{filter-all, holds-member, member-small}
use Rattle.rl_trim.proofs.ClosingLaws.{closed-stays, closed-longer}

-- ---- one place of a table

noted-here : (table : List (List Bool)) (q k : ℕ) → q < length table → k < length (get_or table q []) → IsNoted (set table q (set (get_or table q []) k true)) q k
noted-here table q k lt inside =
    ap (λ (row : List Bool). get_or row k false) (get_or-set_same table q (set (get_or table q []) k true) [] lt) ∙ get_or-set_same (get_or table q []) k true false inside

noted-kept : (table : List (List Bool)) (q k r j : ℕ) → q < length table → k < length (get_or table q []) → IsNoted table r j → IsNoted (set table q (set (get_or table q []) k true)) r j
noted-kept table q k r j lt inside h = by (cases_eq r q) (cases_eq j k)
  where
    row : List Bool
    row = set (get_or table q []) k true

    by : (r ≡ q) ⊎ (r ≡ q → ⊥) → (j ≡ k) ⊎ (j ≡ k → ⊥) → IsNoted (set table q (set (get_or table q []) k true)) r j
    by (inr other) more = ap (λ (l : List Bool). get_or l j false) (get_or-set_other table q r (set (get_or table q []) k true) [] other) ∙ h
    by (inl same) (inl here) = subst (λ (n : ℕ). IsNoted (set table q (set (get_or table q []) k true)) n j) (sym same) (subst (λ (n : ℕ). IsNoted (set table q (set (get_or table q []) k true)) q n) (sym here) (noted-here table q k lt inside))
    by (inl same) (inr other) =
        ap (λ (n : ℕ). get_or (get_or (set table q (set (get_or table q []) k true)) n []) j false) same
        ∙ ap (λ (l : List Bool). get_or l j false) (get_or-set_same table q (set (get_or table q []) k true) [] lt)
        ∙ get_or-set_other (get_or table q []) k j true false other
        ∙ ap (λ (n : ℕ). get_or (get_or table n []) j false) (sym same)
        ∙ h

-- ---- the states of one set

pub noting-wide : (old mid : List (List Bool)) (states : List ℕ) (place : ℕ) → IsWide place old → IsNoting old mid states place → IsWide place mid
noting-wide old mid states place w n = record { count = w.count; each = n.wide w.count w.each; inside = w.inside }

pub noting-more : (old mid new : List (List Bool)) (states : List ℕ) (i q place : ℕ) → i < length states → get_or states i 0 ≡ q → q < length mid → IsWide place old → IsNoting old mid (take i states) place
    → new ≡ set mid q (set (get_or mid q []) place true) → IsNoting old new (take (i + 1) states) place
noting-more old mid new states i q place lt here row w n e = subst (λ (t : List (List Bool)). IsNoting old t (take (i + 1) states) place) (sym e) (record {
  high = length-set mid q (set (get_or mid q []) place true) ∙ n.high;
  wide = λ count each. row_lengths-set count q place true mid row (n.wide count each);
  kept = λ r j h. noted-kept mid q place r j row inside (n.kept r j h);
  noted = λ r h. by r (or_cases (holds (take i states) r) (eqb q r || false) (sym (split r) ∙ h));
})
  where
    m : IsWide place mid
    m = noting-wide old mid (take i states) place w n

    inside : place < length (get_or mid q [])
    inside = omega (arith, m.inside, m.each q [] row)

    split : (r : ℕ) → holds (take (i + 1) states) r ≡ (holds (take i states) r || (eqb q r || false))
    split r =
        ap (λ (l : List ℕ). holds l r) (take_more states i 0 lt ∙ ap (λ (x : ℕ). take i states ++ x ∷ []) here)
        ∙ list_any-append (λ x. eqb x r) (take i states) (q ∷ [])

    by : (r : ℕ) → (holds (take i states) r ≡ true) ⊎ ((eqb q r || false) ≡ true) → IsNoted (set mid q (set (get_or mid q []) place true)) r place
    by r (inl before) = noted-kept mid q place r place row inside (n.noted r before)
    by r (inr now) = elim (or_cases (eqb q r) false now) [
      | inl same ↦ subst (λ (s : ℕ). IsNoted (set mid q (set (get_or mid q []) place true)) s place) (eqb-true q r same) (noted-here mid q place row inside)
      | inr never ↦ absurd (false≢true never)
    ]

-- ---- the states of all sets

pub record IsFilling (a : Automaton) (w : Walk) (count done : ℕ) (table : List (List Bool)) : Type 0 where
  pub high : length table ≡ a.states
  pub wide : All (λ row. length row ≡ count) table
  pub noted : (k q : ℕ) → k < done → q < a.states → holds (set_at w k) q ≡ true → IsNoted table q k

pub filling-none : (a : Automaton) (w : Walk) (count : ℕ) (table : List (List Bool)) → table ≡ replicate a.states (replicate count false) → IsFilling a w count 0 table
filling-none a w count table e = subst (IsFilling a w count 0) (sym e) (record {
  high = length-replicate a.states (replicate count false);
  wide = row_lengths-replicate a.states count;
  noted = λ k q lt small h. absurd (omega arith);
})

pub filling-wide : (a : Automaton) (w : Walk) (count done : ℕ) (table : List (List Bool)) → done < count → IsFilling a w count done table → IsWide done table
filling-wide a w count done table lt f = record { count = count; each = f.wide; inside = lt }

pub filling-rows : (a : Automaton) (w : Walk) (count done : ℕ) (table : List (List Bool)) → IsMadeFor w a → done < length w.sets → IsFilling a w count done table → All (λ q. q < length table) (set_at w done)
filling-rows a w count done table made lt f k d small =
    omega (arith, f.high, member-small a (set_at w done) (made.sets done lt) (get_or (set_at w done) k d) (holds-member (set_at w done) k d small))

pub filling-more : (a : Automaton) (w : Walk) (count done : ℕ) (table more : List (List Bool)) (states : List ℕ) → states ≡ set_at w done → IsNoting table more states done → IsFilling a w count done table
    → IsFilling a w count (done + 1) more
filling-more a w count done table more states e n f = record {
  high = n.high ∙ f.high;
  wide = n.wide count f.wide;
  noted = λ k q lt small h. by k q lt small h (cases_lt k done);
}
  where
    by : (k q : ℕ) → k < done + 1 → q < a.states → holds (set_at w k) q ≡ true → (k < done) ⊎ (done ≤ k) → IsNoted more q k
    by k q lt small h (inl before) = n.kept q k (f.noted k q before small h)
    by k q lt small h (inr after) =
        let same : done ≡ k = omega arith in
        subst (IsNoted more q) same (n.noted q (ap (λ (l : List ℕ). holds l q) (e ∙ ap (set_at w) same) ∙ h))

pub filling-all : (a : Automaton) (w : Walk) (count done : ℕ) (table : List (List Bool)) → done ≡ count → IsFilling a w count done table → AreHolders a w count table
filling-all a w count done table e f = record { high = f.high; wide = f.wide; noted = λ k q lt small h. f.noted k q (omega (arith, e)) small h }

-- ---- sets that hold one

pub touched-sets : (a : Automaton) (keep : List Bool) (w : Walk) (count : ℕ) (table : List (List Bool)) (chosen row : List Bool) → IsMadeFor w a → count ≤ length w.sets → AreHolders a w count table
    → AreGone keep a.states chosen → row ≡ union table chosen count → AreTouched keep w count row
touched-sets a keep w count table chosen row made few h c e = subst (AreTouched keep w count) (sym e) (record {
  wide = length-image table chosen count h.wide;
  whole = λ k lt none. filter-all (is_kept keep) (set_at w k) (λ i d small. by k lt none (get_or (set_at w k) i d) (holds-member (set_at w k) i d small) (cases_Bool (is_kept keep (get_or (set_at w k) i d))));
})
  where
    by : (k : ℕ) → k < count → get_or (union table chosen count) k false ≡ false → (q : ℕ) → holds (set_at w k) q ≡ true → (is_kept keep q ≡ true) ⊎ (is_kept keep q ≡ false) → is_kept keep q ≡ true
    by k lt none q there (inl kept) = kept
    by k lt none q there (inr gone) =
        let small = member-small a (set_at w k) (made.sets k (omega arith)) q there in
        absurd (both_ways (get_or (union table chosen count) k false) none ((get_or-image table chosen count k h.wide).1 (q, c.exact q small ∙ ap not gone, h.noted k q lt small there)))

-- ---- walks that grow

pub touched-grown : (a : Automaton) (keep : List Bool) (v w : Walk) (count : ℕ) (row : List Bool) → IsGrown a v w → count ≤ length v.sets → AreTouched keep v count row → AreTouched keep w count row
touched-grown a keep v w count row g few t = record {
  wide = t.wide;
  whole = λ k lt none. let e = g.same k (omega arith) in ap (trimmed keep) e ∙ t.whole k lt none ∙ sym e;
}

pub holders-grown : (a : Automaton) (v w : Walk) (count : ℕ) (table : List (List Bool)) → IsGrown a v w → count ≤ length v.sets → AreHolders a v count table → AreHolders a w count table
holders-grown a v w count table g few h = record {
  high = h.high;
  wide = h.wide;
  noted = λ k q lt small there. h.noted k q lt small (ap (λ (l : List ℕ). holds l q) (sym (g.same k (omega arith))) ∙ there);
}

pub reached-grown : (a : Automaton) (v w : Walk) (r : Reached) → IsGrown a v w → AreReached a v r → AreReached a w r
reached-grown a v w r g h = record { closed = closed-stays a v w r.count r.count g h.closed; holders = holders-grown a v w r.count r.holders g h.closed.few h.holders }

-- What is known of a walk stays known of it.
pub stored-grown : (a : Automaton) (v w : Walk) (o : Option Reached) → IsGrown a v w → IsStored a v o → IsStored a w o
stored-grown a v w None g c = closed-longer a v w 0 g c
stored-grown a v w (Some r) g c = reached-grown a v w r g c
