-- Numbering codes by their values, run by run.
use Rattle.std.proofs.Common.{Bool, List, None, Option, Some, [], ap, arith, false, get_or, inl, inr, length, not-suc-le-zero, refl, replicate, set, subst, suc, sym, true, zero, ℕ, ◌++◌, ◌+◌, ◌-◌, ◌<◌, ◌==◌, ◌∙◌, ◌∷◌, ◌≡◌, ◌≤◌, le_refl}
use Rattle.std.proofs.lemmas.Bool.{cases_eq, cases_lt, eq-eqb, eqb-true, le-leb, le-ltb, lt-leb, lt-ltb, ne_eqb, or_from, or_left, or_right}
use Rattle.std.proofs.lemmas.List.{get_or-replicate, get_or-set_other, get_or-set_same, get_or_append_left, get_or_at, length-replicate, length-set, length_push}
use Rattle.std.specs.List.{list_any}
use Rattle.std.specs.Prelude.{if◌then◌else◌}
use Rattle.rl_ranges.proofs.FirstsLemmas.{IsLikeness, any-push, firsts-longer, firsts-found, firsts-new, firsts-zero, piece-known, piece-new, place-append, place-lt, place-push}
use Rattle.rl_ranges.proofs.StretchLemmas.{Covers-push, letter_from-at, letter_from-push}
use Rattle.rl_ranges.specs.Building.{range_at}
use Rattle.rl_ranges.specs.Letters.{letter_from, place_where}
use Rattle.rl_ranges.specs.Numbering.{Covers, IsNumbered, ValuesBelow, firsts, same_value}
use Rattle.rl_ranges.specs.declared.letters.TheConstants.{MOST_LETTERS}
use Rattle.rl_ranges.specs.internal.Splitting.{HasNumber, start_or}

-- Whether the code has the value.
unfoldable pub has_value : (ℕ → ℕ) → ℕ → ℕ → Bool
has_value value v d = v == value d

-- What is known about a value: its number, or that no code so far has it.
abbrev pub KnowsNumber : (ℕ → ℕ) → List ℕ → ℕ → Option ℕ → Type 0
KnowsNumber value least v None = list_any (has_value value v) least ≡ false
KnowsNumber value least v (Some n) = (list_any (has_value value v) least ≡ true) × (n ≡ place_where (has_value value v) least)

-- The codes below `at` have been numbered.
pub record Progress (value : ℕ → ℕ) (values at : ℕ) (known : List (Option ℕ)) (stretches : List (ℕ × ℕ)) (least : List ℕ) : Type 0 where
  pub width : length known ≡ values
  pub few : length least ≤ MOST_LETTERS
  pub same_firsts : least ≡ firsts (same_value value) at
  pub numbers : (v : ℕ) → v < values → KnowsNumber value least v (get_or known v None)
  pub begun : at ≡ 0 → stretches ≡ []
  pub covers : 0 < at → Covers stretches at
  pub below : ValuesBelow (length least) stretches
  pub numbered : (c : ℕ) → c < at → letter_from 0 stretches c ≡ place_where (has_value value (value c)) least

pub IsLikeness-same_value : (value : ℕ → ℕ) → IsLikeness (same_value value)
IsLikeness-same_value value = record {
  itself = λ c. eq-eqb _ _ refl;
  back = λ c d h. eq-eqb _ _ (sym (eqb-true (value c) (value d) h));
  onward = λ c d e h k. eq-eqb _ _ (eqb-true (value c) (value d) h ∙ eqb-true (value d) (value e) k);
}

pub start_or-in : (s : List (ℕ × ℕ)) (k count : ℕ) → k < length s → start_or s k count ≡ (range_at s k).0
start_or-in s k count lt = ap (λ b. if b then (range_at s k).0 else count) (lt-ltb k (length s) lt)

pub start_or-past : (s : List (ℕ × ℕ)) (k count : ℕ) → length s ≤ k → start_or s k count ≡ count
start_or-past s k count le = ap (λ b. if b then (range_at s k).0 else count) (le-ltb k (length s) le)

-- Where a stretch ends.
pub start_or-next : (s : List (ℕ × ℕ)) (k count : ℕ) → Covers s count → k < length s
    → ((range_at s k).0 < start_or s (k + 1) count) × (start_or s (k + 1) count ≤ count) × ((c : ℕ) → c < start_or s (k + 1) count → (j : ℕ) → k < j → j < length s → c < (range_at s j).0)
start_or-next s k count h lt = elim (cases_lt (k + 1) (length s)) [
  | inl less ↦
      let is = start_or-in s (k + 1) count less in
      let rise = h.rising k (k + 1) (omega arith) less in
      let inside = h.within (k + 1) less in (
        omega arith,
        omega arith,
        λ c below j kj j_in. elim (cases_lt (k + 1) j) [
          | inl later ↦ let rise2 = h.rising (k + 1) j later j_in in omega arith
          | inr here ↦ let at : k + 1 ≡ j = omega arith in omega (arith, ap (λ i. (range_at s i).0) at)
        ],
      )
  | inr more ↦
      let is = start_or-past s (k + 1) count more in
      let inside = h.within k lt in
      (omega arith, omega arith, λ c below j kj j_in. absurd (omega arith))
]

-- The codes of a stretch have its value.
pub stretch_value : (s : List (ℕ × ℕ)) (k count c : ℕ) → Covers s count → k < length s → (range_at s k).0 ≤ c → c < start_or s (k + 1) count → letter_from 0 s c ≡ (range_at s k).1
stretch_value s k count c h lt low high = letter_from-at 0 s k c lt low ((start_or-next s k count h lt).2 c high)

-- ---- one more run

Covers-longer : (s : List (ℕ × ℕ)) (m n : ℕ) → m ≤ n → Covers s m → Covers s n
Covers-longer s m n le h = record { some = h.some; start = h.start; rising = h.rising; within = λ k k_in. omega (arith, h.within k k_in) }

Covers-first : (s : List (ℕ × ℕ)) (at next n : ℕ) → s ≡ [] → at ≡ 0 → at < next → Covers (s ++ (at, n) ∷ []) next
Covers-first s at next n none zero_at lt = rw (none, zero_at) (record {
  some = omega arith;
  start = refl;
  rising = λ j k jk k_in. absurd (omega arith);
  within = λ k k_in. let first : 0 ≡ k = omega arith in omega (arith, ap (λ i. (range_at ((0, n) ∷ []) i).0) first);
})

below-push : (s : List (ℕ × ℕ)) (at n m m' : ℕ) → ValuesBelow m s → m ≤ m' → n < m' → ValuesBelow m' (s ++ (at, n) ∷ [])
below-push s at n m m' old le new k k_in = elim (cases_lt k (length s)) [
  | inl less ↦ omega (arith, old k less, ap (λ (r : ℕ × ℕ). r.1) (get_or_append_left s ((at, n) ∷ []) (0, 0) k less))
  | inr more ↦
      let is : length s ≡ k = omega (arith, length_push s (at, n)) in
      omega (arith, new, ap (λ (r : ℕ × ℕ). r.1) (get_or_at s (at, n) [] (0, 0) k is))
]

-- What the next run changes: the value of its codes now has the number, and the numbers of earlier codes stay.
record Grown (value : ℕ → ℕ) (values at next n : ℕ) (known : List (Option ℕ)) (least least' : List ℕ) : Type 0 where
  pub width : length known ≡ values
  pub few : length least' ≤ MOST_LETTERS
  pub same_firsts : least' ≡ firsts (same_value value) next
  pub numbers : (v : ℕ) → v < values → KnowsNumber value least' v (get_or known v None)
  pub named : list_any (has_value value (value at)) least' ≡ true
  pub number : n ≡ place_where (has_value value (value at)) least'
  pub kept : (c : ℕ) → c < at → place_where (has_value value (value c)) least' ≡ place_where (has_value value (value c)) least
  pub longer : length least ≤ length least'

Progress-grown : (value : ℕ → ℕ) (values at next n : ℕ) (known known' : List (Option ℕ)) (stretches : List (ℕ × ℕ)) (least least' : List ℕ)
    → at < next → ((c : ℕ) → at ≤ c → c < next → value c ≡ value at) → Progress value values at known stretches least → Grown value values at next n known' least least'
    → Progress value values next known' (stretches ++ (at, n) ∷ []) least'
Progress-grown value values at next n known known' stretches least least' lt run p g = record {
  width = g.width;
  few = g.few;
  same_firsts = g.same_firsts;
  numbers = g.numbers;
  begun = λ none. absurd (omega arith);
  covers = λ _. elim (cases_lt 0 at) [
    | inl some ↦ let old = p.covers some in Covers-push stretches next at n (Covers-longer stretches at next (omega arith) old) (old.within (length stretches - 1) (omega (arith, old.some))) lt
    | inr none ↦ let zero_at : at ≡ 0 = omega arith in Covers-first stretches at next n (p.begun zero_at) zero_at lt
  ];
  below = below-push stretches at n (length least) (length least') p.below g.longer (rw g.number (place-lt (has_value value (value at)) least' g.named));
  numbered = λ c c_in. letter_from-push 0 stretches (at, n) c ∙ elim (cases_lt c at) [
    | inl before ↦ ap (λ b. if b then n else letter_from 0 stretches c) (lt-leb at c before) ∙ p.numbered c before ∙ sym (g.kept c before)
    | inr here ↦ ap (λ b. if b then n else letter_from 0 stretches c) (le-leb at c here) ∙ g.number ∙ ap (λ v. place_where (has_value value v) least') (sym (run c here c_in))
  ];
}

run_alike : (value : ℕ → ℕ) (at next : ℕ) → ((c : ℕ) → at ≤ c → c < next → value c ≡ value at) → (c : ℕ) → at ≤ c → c < next → same_value value at c ≡ true
run_alike value at next run c low high = eq-eqb _ _ (sym (run c low high))

-- Every code so far has its value in the list.
found : (value : ℕ → ℕ) (at c : ℕ) (least : List ℕ) → least ≡ firsts (same_value value) at → c < at → list_any (has_value value (value c)) least ≡ true
unfolding has_value
found value at c least is lt = rw is (firsts-found (same_value value) (IsLikeness-same_value value) at c lt)

grown_known : (value : ℕ → ℕ) (values at next n m : ℕ) (known known' : List (Option ℕ)) (stretches : List (ℕ × ℕ)) (least least' : List ℕ)
    → at < next → ((c : ℕ) → at ≤ c → c < next → value c ≡ value at) → value at < values → Progress value values at known stretches least
    → Some m ≡ get_or known (value at) None → (n ≡ m) × (known' ≡ known) × (least' ≡ least) → Grown value values at next n known' least least'
unfolding has_value
grown_known value values at next n m known known' stretches least least' lt run v_in p there is =
    let like = same_value value in
    let knows : KnowsNumber value least (value at) (Some m) = subst (KnowsNumber value least (value at)) (sym there) (p.numbers (value at) v_in) in
    let hit : list_any (like at) (firsts like at) ≡ true = subst (λ l. list_any (like at) l ≡ true) p.same_firsts knows.0 in
    let more : at + (next - at) ≡ next = omega arith in
    let same : firsts like next ≡ firsts like at =
    ap (firsts like) (sym more) ∙ piece-known like (IsLikeness-same_value value) at (next - at) hit (λ c low high. run_alike value at next run c low (omega arith)) in
    record {
      width = ap length is.1 ∙ p.width;
      few = rw is.2 p.few;
      same_firsts = is.2 ∙ p.same_firsts ∙ sym same;
      numbers = λ w w_in. rw (is.1, is.2) (p.numbers w w_in);
      named = rw is.2 knows.0;
      number = is.0 ∙ knows.1 ∙ ap (place_where (has_value value (value at))) (sym is.2);
      kept = λ c c_in. ap (place_where (has_value value (value c))) is.2;
      longer = omega (arith, ap length is.2);
    }

-- What is known about a value doesn't change when a code with another value is added.
knows-push : (value : ℕ → ℕ) (least : List ℕ) (w code : ℕ) (o : Option ℕ) → has_value value w code ≡ false → KnowsNumber value least w o → KnowsNumber value (least ++ code ∷ []) w o
knows-push value least w code None other h = any-push (has_value value w) least code ∙ or_from _ _ h other
knows-push value least w code (Some n) other h =
    (any-push (has_value value w) least code ∙ or_left _ _ h.0, h.1 ∙ sym (place-append (has_value value w) least (code ∷ []) h.0))

value_itself : (value : ℕ → ℕ) (at : ℕ) → has_value value (value at) at ≡ true
unfolding has_value
value_itself value at = eq-eqb _ _ refl

value_other : (value : ℕ → ℕ) (at w : ℕ) → (w ≡ value at → ⊥) → has_value value w at ≡ false
unfolding has_value
value_other value at w other = ne_eqb _ _ other

grown_new : (value : ℕ → ℕ) (values at next n : ℕ) (known known' : List (Option ℕ)) (stretches : List (ℕ × ℕ)) (least least' : List ℕ)
    → at < next → ((c : ℕ) → at ≤ c → c < next → value c ≡ value at) → value at < values → Progress value values at known stretches least
    → None ≡ get_or known (value at) None → (n ≡ length least) × (known' ≡ set known (value at) (Some n)) × (least' ≡ least ++ at ∷ []) × (length least < MOST_LETTERS)
    → Grown value values at next n known' least least'
unfolding has_value
grown_new value values at next n known known' stretches least least' lt run v_in p there is =
    let like = same_value value in
    let v = value at in
    let none : KnowsNumber value least v None = subst (KnowsNumber value least v) (sym there) (p.numbers v v_in) in
    let miss : list_any (like at) (firsts like at) ≡ false = subst (λ l. list_any (like at) l ≡ false) p.same_firsts none in
    let more : at + suc (next - at - 1) ≡ next = omega arith in
    let same : firsts like next ≡ firsts like at ++ at ∷ [] =
    ap (firsts like) (sym more) ∙ piece-new like (IsLikeness-same_value value) at (next - at - 1) miss (λ c low high. run_alike value at next run c low (omega arith)) in
    let itself = value_itself value at in
    record {
      width = ap length is.1 ∙ length-set known v (Some n) ∙ p.width;
      few = rw is.2 (omega (arith, length_push least at, is.3));
      same_firsts = is.2 ∙ ap (λ l. l ++ at ∷ []) p.same_firsts ∙ sym same;
      numbers = λ w w_in. elim (cases_eq w v) [
        | inl here ↦ rw (is.1, is.2, here, get_or-set_same known v (Some n) None (omega (arith, v_in, p.width)))
            (any-push (has_value value v) least at ∙ or_right _ _ itself, is.0 ∙ sym (place-push (has_value value v) least at none itself))
        | inr other ↦ rw (is.1, is.2, get_or-set_other known v w (Some n) None other)
            (knows-push value least w at (get_or known w None) (value_other value at w other) (p.numbers w w_in))
      ];
      named = rw is.2 (any-push (has_value value v) least at ∙ or_right _ _ itself);
      number = is.0 ∙ sym (place-push (has_value value v) least at none itself) ∙ ap (place_where (has_value value v)) (sym is.2);
      kept = λ c c_in. ap (place_where (has_value value (value c))) is.2 ∙ place-append (has_value value (value c)) least (at ∷ []) (found value at c least p.same_firsts c_in);
      longer = omega (arith, ap length is.2, length_push least at);
    }

grown_go : (value : ℕ → ℕ) (values at next n : ℕ) (known known' : List (Option ℕ)) (stretches : List (ℕ × ℕ)) (least least' : List ℕ) (o : Option ℕ)
    → at < next → ((c : ℕ) → at ≤ c → c < next → value c ≡ value at) → value at < values → Progress value values at known stretches least
    → o ≡ get_or known (value at) None → HasNumber o n known known' least least' (value at) at → Grown value values at next n known' least least'
grown_go value values at next n known known' stretches least least' None lt run v_in p there is = grown_new value values at next n known known' stretches least least' lt run v_in p there is
grown_go value values at next n known known' stretches least least' (Some m) lt run v_in p there is = grown_known value values at next n m known known' stretches least least' lt run v_in p there is

-- One more run of codes with equal values has been numbered.
pub Progress-more : (value : ℕ → ℕ) (values at next n v : ℕ) (known known' : List (Option ℕ)) (stretches : List (ℕ × ℕ)) (least least' : List ℕ)
    → at < next → ((c : ℕ) → at ≤ c → c < next → value c ≡ v) → v < values → Progress value values at known stretches least
    → HasNumber (get_or known v None) n known known' least least' v at
    → Progress value values next known' (stretches ++ (at, n) ∷ []) least'
Progress-more value values at next n v known known' stretches least least' lt run v_in p is =
    let here : value at ≡ v = run at (le_refl at) lt in
    let alike : (c : ℕ) → at ≤ c → c < next → value c ≡ value at = λ c low high. run c low high ∙ sym here in
    let is' : HasNumber (get_or known (value at) None) n known known' least least' (value at) at = subst (λ w. HasNumber (get_or known w None) n known known' least least' w at) (sym here) is in
    Progress-grown value values at next n known known' stretches least least' lt alike p
    (grown_go value values at next n known known' stretches least least' (get_or known (value at) None) lt alike (omega (arith, here, v_in)) p refl is')

pub Progress-none : (value : ℕ → ℕ) (values : ℕ) (known : List (Option ℕ)) (stretches : List (ℕ × ℕ)) (least : List ℕ) → known ≡ replicate values None → stretches ≡ [] → least ≡ []
    → Progress value values 0 known stretches least
Progress-none value values known stretches least known_is stretches_is least_is = record {
  width = ap length known_is ∙ length-replicate values None;
  few = rw least_is (omega arith);
  same_firsts = least_is ∙ sym (firsts-zero (same_value value));
  numbers = λ v v_in. rw (known_is, least_is, get_or-replicate {A = Option ℕ} values v None None v_in) refl;
  begun = λ _. stretches_is;
  covers = λ some. absurd (omega arith);
  below = rw stretches_is (λ k k_in. absurd (not-suc-le-zero k_in));
  numbered = λ c lt. absurd (not-suc-le-zero lt);
}

-- All codes have been numbered.
pub Progress-all : (value : ℕ → ℕ) (count values at : ℕ) (known : List (Option ℕ)) (stretches : List (ℕ × ℕ)) (least : List ℕ) → 0 < count → at ≡ count → Progress value values at known stretches least
    → IsNumbered value count stretches least
unfolding has_value
Progress-all value count values at known stretches least some all p = record {
  covers = subst (Covers stretches) all (p.covers (omega arith));
  below = p.below;
  few = p.few;
  same_firsts = p.same_firsts ∙ ap (firsts (same_value value)) all;
  same_number = λ c lt. p.numbered c (omega arith);
}

-- A run has a new value, and all numbers are taken.
pub Progress-too_many : (value : ℕ → ℕ) (count values at v : ℕ) (known : List (Option ℕ)) (stretches : List (ℕ × ℕ)) (least : List ℕ) → at < count → value at ≡ v → v < values
    → Progress value values at known stretches least → get_or known v None ≡ None → length least ≡ MOST_LETTERS → MOST_LETTERS < length (firsts (same_value value) count)
unfolding has_value
Progress-too_many value count values at v known stretches least lt here v_in p there full =
    let like = same_value value in
    let none : KnowsNumber value least v None = subst (KnowsNumber value least v) there (p.numbers v v_in) in
    let miss : list_any (like at) (firsts like at) ≡ false = subst (λ l. list_any (like at) l ≡ false) p.same_firsts (subst (λ w. list_any (has_value value w) least ≡ false) (sym here) none) in
    let more : suc at + (count - suc at) ≡ count = omega arith in
    let longer = subst (λ n. length (firsts like (suc at)) ≤ length (firsts like n)) more (firsts-longer like (suc at) (count - suc at)) in
    omega (arith, longer, ap length (firsts-new like at miss), length_push (firsts like at) at, ap length p.same_firsts, full)

-- The last stretch that has begun.
pub last_begun : (s : List (ℕ × ℕ)) (c n : ℕ) → n ≤ length s → 0 < n → (range_at s 0).0 ≤ c → (i : ℕ) × (i < n) × ((range_at s i).0 ≤ c) × ((k : ℕ) → i < k → k < n → c < (range_at s k).0)
last_begun s c zero le some start = absurd (not-suc-le-zero some)
last_begun s c (suc n) le some start = elim (cases_lt c (range_at s n).0) [
  | inr begun ↦ (n, omega arith, begun, λ k ik kn. absurd (omega arith))
  | inl later ↦
      let positive : 0 < n = elim (cases_lt 0 n) [
        | inl less ↦ less
        | inr more ↦ let at : n ≡ 0 = omega arith in absurd (omega (arith, ap (λ i. (range_at s i).0) at))
      ] in
      let rest = last_begun s c n (omega arith) positive start in (
        rest.0,
        omega (arith, rest.1),
        rest.2,
        λ k ik kn. elim (cases_lt k n) [
          | inl less ↦ rest.3 k ik less
          | inr more ↦ let at : n ≡ k = omega arith in omega (arith, ap (λ i. (range_at s i).0) at)
        ],
      )
]

-- Every code has one of the values.
pub value-below : (s : List (ℕ × ℕ)) (count m c : ℕ) → Covers s count → ValuesBelow m s → letter_from 0 s c < m
value-below s count m c h below =
    let at = last_begun s c (length s) (le_refl _) h.some (omega (arith, h.start)) in
    rw (letter_from-at 0 s at.0 c at.1 at.2 at.3) (below at.0 at.1)
