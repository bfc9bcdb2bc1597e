-- Laws of walks that grow, and of sets without the states that aren't kept.
use Rattle.std.proofs.Common.{◌≡◌, ◌≢◌, ◌∙◌, ℕ, ◌<◌, ◌≤◌, ◌⊎◌, inl, inr, List, [], ◌∷◌, ◌++◌, length, get_or, filter, All, Contains, Bool, true, false, ◌&&◌, ◌||◌, cond, eqb, eqb-true, eq-eqb, refl, sym, ap, subst, arith}
use Rattle.std.specs.List.{list_all}
use Rattle.std.proofs.lemmas.Bool.{cases_Bool, both_ways, and_from}
use Rattle.std.proofs.lemmas.List.{get_or_append_left}
use Rattle.std.proofs.lemmas.List.Elements.{All-head, All-tail}
use Rattle.std.proofs.lemmas.List.Folds.{list_any_at}
use Rattle.std.proofs.lemmas.List.Sums.{AllPass-from_list_all}
use Rattle.std.proofs.lemmas.Option.{get_or_from_slice_get}
use Rattle.rl_prio.specs.Automaton.{Automaton, dead_state}
use Rattle.rl_sets.specs.Live.{holds}
use Rattle.rl_sets.specs.Walk.{Walk, set_at, IsSetOf, IsMadeFor, IsListed}
use Rattle.rl_sets.proofs.SetLemmas.{holds-there}
use Rattle.rl_trim.specs.Twins.{is_kept}
use Rattle.rl_trim.specs.internal.Trims.{trimmed}
use Rattle.rl_trim.specs.internal.Quick.{IsGrown, IsNumbered}

-- ---- walks that grow

pub grown-refl : (a : Automaton) (w : Walk) → IsMadeFor w a → IsGrown a w w
grown-refl a w made = record { made = made; longer = omega arith; same = λ k lt. refl }

pub grown-grown : (a : Automaton) (v w x : Walk) → IsGrown a v w → IsGrown a w x → IsGrown a v x
grown-grown a v w x g h = record {
  made = h.made;
  longer = omega (arith, g.longer, h.longer);
  same = λ k lt. h.same k (omega (arith, g.longer)) ∙ g.same k lt;
}

-- The number that a walk gives.
pub numbered : (a : Automaton) (old new : Walk) (set : List ℕ) (n : ℕ) → IsMadeFor new a → n < length new.sets → length old.sets ≤ length new.sets → IsListed old.sets new.sets set n → IsNumbered a old new set n
numbered a old new set n made inside longer listed = record {
  grown = record { made = made; longer = longer; same = λ k lt. by k lt listed.grown };
  inside = inside;
  is = get_or_from_slice_get new.sets n set [] listed.stands;
}
  where
    by : (k : ℕ) → k < length old.sets → (new.sets ≡ old.sets) ⊎ ((Contains old.sets set → ⊥) × (new.sets ≡ old.sets ++ set ∷ [])) → set_at new k ≡ set_at old k
    by k lt (inl e) = ap (λ (l : List (List ℕ)). get_or l k []) e
    by k lt (inr m) = ap (λ (l : List (List ℕ)). get_or l k []) m.1 ∙ get_or_append_left old.sets (set ∷ []) [] k lt

pub numbered-here : (a : Automaton) (w : Walk) (set : List ℕ) (n : ℕ) → IsMadeFor w a → n < length w.sets → set_at w n ≡ set → IsNumbered a w w set n
numbered-here a w set n made inside is = record { grown = grown-refl a w made; inside = inside; is = is }

pub numbered-same : (a : Automaton) (old new : Walk) (set other : List ℕ) (n : ℕ) → set ≡ other → IsNumbered a old new set n → IsNumbered a old new other n
numbered-same a old new set other n e is = record { grown = is.grown; inside = is.inside; is = is.is ∙ e }

-- ---- the members of a set

pub holds-member : (set : List ℕ) (k d : ℕ) → k < length set → holds set (get_or set k d) ≡ true
holds-member set k d lt = list_any_at (λ x. eqb x (get_or set k d)) set k d lt (eq-eqb (get_or set k d) (get_or set k d) refl)

pub member-small : (a : Automaton) (set : List ℕ) → IsSetOf a set → (q : ℕ) → holds set q ≡ true → q < a.states
member-small a set is q e = (holds-there (holds set) a.states q (subst (λ (l : List ℕ). holds l q ≡ true) is.rising e)).0

pub members-states : (a : Automaton) (set : List ℕ) → IsSetOf a set → All (λ q. (q < a.states) × (q ≢ dead_state a)) set
members-states a set is k d lt =
    let there = holds-member set k d lt in (
      member-small a set is (get_or set k d) there,
      λ e. both_ways (holds set (dead_state a)) is.no_dead (subst (λ q. holds set q ≡ true) e there),
    )

-- ---- filters

holds-step : (p : ℕ → Bool) (x q : ℕ) (rest : List ℕ) (b : Bool) → p x ≡ b → holds (filter p rest) q ≡ (p q && holds rest q) → holds (cond b (x ∷ filter p rest) (filter p rest)) q ≡ (p q && (eqb x q || holds rest q))
holds-step p x q rest true e h = by (cases_Bool (eqb x q))
  where
    by : (eqb x q ≡ true) ⊎ (eqb x q ≡ false) → (eqb x q || holds (filter p rest) q) ≡ (p q && (eqb x q || holds rest q))
    by (inl s) = let f : p q ≡ true = subst (λ k. p k ≡ true) (eqb-true x q s) e in rw (s, f) refl
    by (inr s) = rw (s, h) refl
holds-step p x q rest false e h = by (cases_Bool (eqb x q))
  where
    by : (eqb x q ≡ true) ⊎ (eqb x q ≡ false) → holds (filter p rest) q ≡ (p q && (eqb x q || holds rest q))
    by (inl s) = let f : p q ≡ false = subst (λ k. p k ≡ false) (eqb-true x q s) e in rw (h, f) refl
    by (inr s) = rw (h, s) refl

pub holds-trimmed : (p : ℕ → Bool) (set : List ℕ) (q : ℕ) → holds (filter p set) q ≡ (p q && holds set q)
holds-trimmed p [] q = by (p q)
  where
    by : (b : Bool) → false ≡ (b && false)
    by true = refl
    by false = refl
holds-trimmed p (x ∷ rest) q = holds-step p x q rest (p x) refl (holds-trimmed p rest q)

both-step : (p h : ℕ → Bool) (x : ℕ) (rest : List ℕ) (b c : Bool) → p x ≡ b → h x ≡ c → filter (λ q. p q && h q) rest ≡ filter p (filter h rest)
    → cond (b && c) (x ∷ filter (λ q. p q && h q) rest) (filter (λ q. p q && h q) rest) ≡ filter p (cond c (x ∷ filter h rest) (filter h rest))
both-step p h x rest true true e f more = ap (λ (l : List ℕ). x ∷ l) more ∙ ap (λ (t : Bool). cond t (x ∷ filter p (filter h rest)) (filter p (filter h rest))) (sym e)
both-step p h x rest true false e f more = more
both-step p h x rest false true e f more = more ∙ ap (λ (t : Bool). cond t (x ∷ filter p (filter h rest)) (filter p (filter h rest))) (sym e)
both-step p h x rest false false e f more = more

pub filter-both : (p h : ℕ → Bool) (xs : List ℕ) → filter (λ q. p q && h q) xs ≡ filter p (filter h xs)
filter-both p h [] = refl
filter-both p h (x ∷ rest) = both-step p h x rest (p x) (h x) refl refl (filter-both p h rest)

pub filter-all : (p : ℕ → Bool) (xs : List ℕ) → All (λ x. p x ≡ true) xs → filter p xs ≡ xs
filter-all p [] all = refl
filter-all p (x ∷ rest) all =
    ap (λ (t : Bool). cond t (x ∷ filter p rest) (filter p rest)) (All-head (λ y. p y ≡ true) x rest all)
    ∙ ap (λ (l : List ℕ). x ∷ l) (filter-all p rest (All-tail (λ y. p y ≡ true) x rest all))

all-step : (p : ℕ → Bool) (x : ℕ) (rest : List ℕ) (b : Bool) → p x ≡ b → list_all p (filter p rest) ≡ true → list_all p (cond b (x ∷ filter p rest) (filter p rest)) ≡ true
all-step p x rest true e more = and_from (p x) (list_all p (filter p rest)) e more
all-step p x rest false e more = more

pub filter-passes : (p : ℕ → Bool) (xs : List ℕ) → list_all p (filter p xs) ≡ true
filter-passes p [] = refl
filter-passes p (x ∷ rest) = all-step p x rest (p x) refl (filter-passes p rest)

-- ---- sets without the states that aren't kept

-- Without them once more it is the same.
pub trimmed-twice : (keep : List Bool) (set : List ℕ) → trimmed keep (trimmed keep set) ≡ trimmed keep set
trimmed-twice keep set = filter-all (is_kept keep) (trimmed keep set) (AllPass-from_list_all (is_kept keep) (trimmed keep set) (filter-passes (is_kept keep) set))
