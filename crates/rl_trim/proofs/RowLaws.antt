-- Laws of rows of bits that are filled state by state.
use Rattle.std.proofs.Common.{◌≡◌, ◌∙◌, ℕ, ◌+◌, ◌<◌, ◌≤◌, ◌⊎◌, inl, inr, List, ◌∷◌, [], length, get_or, set, replicate, filter, All, Bool, true, false, not, cond, refl, sym, ap, subst, arith}
use Rattle.std.specs.List.{list_any}
use Rattle.std.proofs.lemmas.Bool.{cases_Bool, cases_lt, cases_eq, both_ways}
use Rattle.std.proofs.lemmas.List.{get_or-set_same, get_or-set_other, length-set, length-replicate}
use Rattle.std.proofs.lemmas.List.Elements.{All-head, All-tail}
use Rattle.rl_lanes.proofs.RowLemmas.{get_or-replicate_false}
use Rattle.rl_prio.specs.Automaton.{Automaton}
use Rattle.rl_sets.specs.Live.{holds, left_out}
use Rattle.rl_sets.specs.Walk.{IsSetOf}
use Rattle.rl_sets.proofs.LiveLemmas.{found_from}
use Rattle.rl_trim.specs.Twins.{is_kept}
use Rattle.rl_trim.specs.Endings.{state_ends, AreEnding}
use Rattle.rl_trim.specs.internal.Trims.{trimmed}
use Rattle.rl_trim.specs.internal.Quick.{AreGone}
use Rattle.rl_trim.proofs.SetLaws.{holds-member, member-small, filter-all}

-- The bits of the first states are those that a test gives, and the others aren't set.
pub record IsFilled (f : ℕ → Bool) (states done : ℕ) (row : List Bool) : Type 0 where
  pub wide : length row ≡ states
  pub front : (q : ℕ) → q < done → get_or row q false ≡ f q
  pub rest : (q : ℕ) → done ≤ q → get_or row q false ≡ false

pub filled-none : (f : ℕ → Bool) (states : ℕ) (row : List Bool) → row ≡ replicate states false → IsFilled f states 0 row
filled-none f states row e = record {
  wide = ap length e ∙ length-replicate states false;
  front = λ q lt. absurd (omega arith);
  rest = λ q le. ap (λ (r : List Bool). get_or r q false) e ∙ get_or-replicate_false states q;
}

pub filled-unset : (f : ℕ → Bool) (states done : ℕ) (row : List Bool) → f done ≡ false → IsFilled f states done row → IsFilled f states (done + 1) row
filled-unset f states done row e is = record { wide = is.wide; front = λ q lt. by q lt (cases_lt q done); rest = λ q le. is.rest q (omega arith) }
  where
    by : (q : ℕ) → q < done + 1 → (q < done) ⊎ (done ≤ q) → get_or row q false ≡ f q
    by q lt (inl before) = is.front q before
    by q lt (inr after) = let same : done ≡ q = omega arith in is.rest q after ∙ sym e ∙ ap f same

pub filled-set : (f : ℕ → Bool) (states done : ℕ) (row more : List Bool) → f done ≡ true → more ≡ set row done true → done < states → IsFilled f states done row → IsFilled f states (done + 1) more
filled-set f states done row more e m small is = subst (IsFilled f states (done + 1)) (sym m) (record {
  wide = length-set row done true ∙ is.wide;
  front = λ q lt. by q lt (cases_eq q done);
  rest = λ q le. get_or-set_other row done q true false (λ s. omega (arith, s)) ∙ is.rest q (omega arith);
})
  where
    by : (q : ℕ) → q < done + 1 → (q ≡ done) ⊎ (q ≡ done → ⊥) → get_or (set row done true) q false ≡ f q
    by q lt (inl same) = ap (λ (k : ℕ). get_or (set row done true) k false) same ∙ get_or-set_same row done true false (omega (arith, is.wide)) ∙ sym e ∙ ap f (sym same)
    by q lt (inr other) = let less : q < done = grind (arith, lt, other) in get_or-set_other row done q true false other ∙ is.front q less

-- ---- the states that aren't kept

pub gone-all : (keep : List Bool) (states done : ℕ) (row : List Bool) → done ≡ states → IsFilled (λ q. not (is_kept keep q)) states done row → AreGone keep states row
gone-all keep states done row e is = record { wide = is.wide; exact = λ q lt. is.front q (omega (arith, e)) }

-- Two tests that agree on all members keep the same ones.
pub filter-alike : (p r : ℕ → Bool) (xs : List ℕ) → All (λ x. p x ≡ r x) xs → filter p xs ≡ filter r xs
filter-alike p r [] all = refl
filter-alike p r (x ∷ xs) all =
    ap (λ (t : Bool). cond t (x ∷ filter p xs) (filter p xs)) (All-head (λ y. p y ≡ r y) x xs all)
    ∙ ap (λ (l : List ℕ). cond (r x) (x ∷ l) l) (filter-alike p r xs (All-tail (λ y. p y ≡ r y) x xs all))

-- A set without the states that aren't kept is what is left without the row.
pub left-trimmed : (a : Automaton) (keep row : List Bool) (members : List ℕ) → IsSetOf a members → AreGone keep a.states row → left_out row members ≡ trimmed keep members
unfolding left_out
left-trimmed a keep row members is are =
    filter-alike (λ q. not (get_or row q false)) (is_kept keep) members
    (λ k d lt. let q = get_or members k d in ap not (are.exact q (member-small a members is q (holds-member members k d lt))) ∙ not-not (is_kept keep q))
  where
    not-not : (b : Bool) → not (not b) ≡ b
    not-not true = refl
    not-not false = refl

-- A set that has none of them is the same without them.
pub untouched : (a : Automaton) (keep row : List Bool) (members : List ℕ) → IsSetOf a members → AreGone keep a.states row → list_any (λ q. get_or row q false) members ≡ false → trimmed keep members ≡ members
untouched a keep row members is are none =
    filter-all (is_kept keep) members (λ k d lt. by (get_or members k d) (holds-member members k d lt) (cases_Bool (is_kept keep (get_or members k d))))
  where
    by : (q : ℕ) → holds members q ≡ true → (is_kept keep q ≡ true) ⊎ (is_kept keep q ≡ false) → is_kept keep q ≡ true
    by q there (inl e) = e
    by q there (inr e) =
        absurd (both_ways (list_any (λ q. get_or row q false) members) none (found_from (λ q. get_or row q false) members q there (are.exact q (member-small a members is q there) ∙ ap not e)))

-- ---- the states that the end letter leads to the accepting state

pub ending-all : (a : Automaton) (states done : ℕ) (row : List Bool) → done ≡ states → IsFilled (state_ends a) states done row → AreEnding a states row
ending-all a states done row e is = (is.wide, λ q lt. is.front q (omega (arith, e)))
