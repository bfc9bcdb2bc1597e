-- One more run in a stretch of codes that is split by the ranges.
use Rattle.std.proofs.Common.{Bool, List, None, Option, Some, ap, ap₂, arith, get_or, inl, inr, length, refl, replicate, subst, sym, true, false, add-zero, ℕ, ◌*◌, ◌++◌, ◌+◌, ◌<◌, ◌∙◌, ◌∷◌, ◌≡◌, ◌≤◌, le_refl, []}
use Rattle.std.proofs.lemmas.Bool.{cases_lt}
use Rattle.std.proofs.lemmas.List.{get_or-set_other, get_or-set_same, get_or_default, length_push}
use Rattle.std.specs.Prelude.{if◌then◌else◌}
use Rattle.rl_ranges.proofs.NumberingLemmas.{Progress, Progress-all, Progress-more, Progress-none, Progress-too_many, start_or-in, start_or-next, start_or-past, stretch_value}
use Rattle.rl_ranges.proofs.SetLemmas.{Above-at, Above-gap, has-at, has-outside, within-true}
use Rattle.rl_ranges.specs.Building.{range_at}
use Rattle.rl_ranges.specs.Codes.{Above, has}
use Rattle.rl_ranges.specs.Numbering.{Covers, IsNumbered, ValuesBelow, firsts, same_value}
use Rattle.rl_ranges.specs.declared.letters.TheConstants.{MOST_LETTERS}
use Rattle.rl_ranges.specs.internal.Splitting.{IsFirstReaching, HasNumber, start_or, value_in}

-- The value has its number from now on, and no other value's number changes.
number_own : (o : Option ℕ) (n v code : ℕ) (known known' : List (Option ℕ)) (least least' : List ℕ) → v < length known → o ≡ get_or known v None
    → HasNumber o n known known' least least' v code → Some n ≡ get_or known' v None
number_own None n v code known known' least least' lt there is = rw is.1 (sym (get_or-set_same known v (Some n) None lt))
number_own (Some m) n v code known known' least least' lt there is = rw (is.0, is.1) there

number_other : (o : Option ℕ) (n v w code : ℕ) (known known' : List (Option ℕ)) (least least' : List ℕ) → (w ≡ v → ⊥)
    → HasNumber o n known known' least least' v code → get_or known' w None ≡ get_or known w None
number_other None n v w code known known' least least' other is = rw is.1 (get_or-set_other known v w (Some n) None other)
number_other (Some m) n v w code known known' least least' other is = rw is.1 refl

-- The codes of a range.
in_range : (s : List (ℕ × ℕ)) (p x : ℕ) → p < length s → (range_at s p).0 ≤ x → x ≤ (range_at s p).1 → has s x ≡ true
in_range s p x lt low high = has-at s p x lt (within-true (range_at s p).0 (range_at s p).1 x low high)

-- The codes before the next range. There may be no next range.
in_front : (s : List (ℕ × ℕ)) (p at x count : ℕ) → Above 0 s → IsFirstReaching s p at → at ≤ x → x < start_or s p count → has s x ≡ false
in_front s p at x count sorted h low high = has-outside s x (λ k k_in. elim (cases_lt k p) [
  | inl less ↦ inr (omega (arith, h.before k less k_in))
  | inr more ↦
      let p_in : p < length s = omega arith in
      let is = start_or-in s p count p_in in
      inl (elim (cases_lt p k) [
        | inl later ↦ omega (arith, Above-gap 0 s p k sorted later k_in, Above-at 0 s p sorted p_in)
        | inr here ↦ let same : p ≡ k = omega arith in omega (arith, ap (λ i. (range_at s i).0) same)
      ])
])

-- The ranges that have been passed once the next one, or a part of it, has been.
passed_one : (s : List (ℕ × ℕ)) (p at : ℕ) → Above 0 s → IsFirstReaching s p at → p < length s → IsFirstReaching s (p + 1) ((range_at s p).1 + 1)
passed_one s p at sorted h p_in = record {
  before = λ k lt k_in. elim (cases_lt k p) [
    | inl less ↦ omega (arith, h.before k less k_in, h.unpassed p_in)
    | inr more ↦ let same : p ≡ k = omega arith in omega (arith, ap (λ i. (range_at s i).1) same)
  ];
  unpassed = λ next_in. omega (arith, Above-gap 0 s p (p + 1) sorted (omega arith) next_in, Above-at 0 s (p + 1) sorted next_in);
}

passed_later : (s : List (ℕ × ℕ)) (p at next : ℕ) → IsFirstReaching s p at → at ≤ next → (p < length s → next ≤ (range_at s p).1) → IsFirstReaching s p next
passed_later s p at next h le in_it = record { before = λ k lt k_in. omega (arith, h.before k lt k_in); unpassed = in_it }

-- The next range doesn't end before it begins.
passed_front : (s : List (ℕ × ℕ)) (p at next count : ℕ) → Above 0 s → IsFirstReaching s p at → at ≤ next → next ≤ start_or s p count → IsFirstReaching s p next
passed_front s p at next count sorted h le front =
    passed_later s p at next h le (λ p_in. omega (arith, start_or-in s p count p_in, Above-at 0 s p sorted p_in))

-- The stretch at index `place`, from its first code to its end. `v` is twice its number.
pub record InPlace (left held : List (ℕ × ℕ)) (count values place start end v : ℕ) : Type 0 where
  pub covers : Covers left count
  pub sorted : Above 0 held
  pub place_in : place < length left
  pub start_is : start ≡ (range_at left place).0
  pub end_is : end ≡ start_or left (place + 1) count
  pub value_is : v ≡ 2 * (range_at left place).1
  pub values_in : v + 1 < values

pub in_place : (left held : List (ℕ × ℕ)) (count values m many place end : ℕ) (x d : ℕ × ℕ) → Covers left count → ValuesBelow m left → Above 0 held → place < many → many ≡ length left
    → x ≡ get_or left place d → end ≡ start_or left (place + 1) count → values ≡ 2 * m → InPlace left held count values place x.0 end (2 * x.1)
in_place left held count values m many place end x d covers below sorted place_in all read ends twice =
    let lt : place < length left = subst (λ n. place < n) all place_in in
    let is : x ≡ range_at left place = read ∙ get_or_default left place d (0, 0) lt in
    record {
      covers = covers;
      sorted = sorted;
      place_in = lt;
      start_is = ap (λ (r : ℕ × ℕ). r.0) is;
      end_is = ends;
      value_is = ap (λ (r : ℕ × ℕ). 2 * r.1) is;
      values_in = omega (arith, twice, below place lt, ap (λ (r : ℕ × ℕ). r.1) is);
    }

-- The stretch ends within the codes.
end_in : (left held : List (ℕ × ℕ)) (count values place start end v : ℕ) → InPlace left held count values place start end v → (start < end) × (end ≤ count)
end_in left held count values place start end v h =
    let next = start_or-next left place count h.covers h.place_in in
    (omega (arith, next.0, h.start_is, h.end_is), omega (arith, next.1, h.end_is))

-- A range that begins before the end of the stretch is in the list.
range_next : (s : List (ℕ × ℕ)) (k end count : ℕ) → start_or s k count < end → end ≤ count → k < length s
range_next s k end count lt le = elim (cases_lt k (length s)) [
  | inl less ↦ less
  | inr more ↦ absurd (omega (arith, start_or-past s k count more))
]

-- The codes below `at` have been numbered, and it is known whether the stretch's two values have numbers.
pub record InRun (left held : List (ℕ × ℕ)) (values start end v range at : ℕ) (outside inside : Option ℕ) (numbers : List (Option ℕ)) (stretches : List (ℕ × ℕ)) (least : List ℕ) : Type 0 where
  pub low : start ≤ at
  pub high : at ≤ end
  pub passed : IsFirstReaching held range at
  pub progress : Progress (value_in left held) values at numbers stretches least
  pub outside_is : outside ≡ get_or numbers v None
  pub inside_is : inside ≡ get_or numbers (v + 1) None

-- The codes from `at` on have the same value.
run_value : (left held : List (ℕ × ℕ)) (count values place start end v at next bit c : ℕ) → InPlace left held count values place start end v → start ≤ at → next ≤ end
    → at ≤ c → c < next → (if has held c then 1 else 0) ≡ bit → value_in left held c ≡ v + bit
run_value left held count values place start end v at next bit c h low ends above below alike =
    ap₂ (λ v b. 2 * v + b) (stretch_value left place count c h.covers h.place_in (omega (arith, h.start_is)) (omega (arith, h.end_is))) alike
    ∙ omega (arith, h.value_is)

advance : (left held : List (ℕ × ℕ)) (count values place start end v at next bit n : ℕ) (numbers numbers' : List (Option ℕ)) (stretches stretches' : List (ℕ × ℕ)) (least least' : List ℕ)
    → InPlace left held count values place start end v → start ≤ at → next ≤ end → at < next → v + bit < values
    → ((c : ℕ) → at ≤ c → c < next → (if has held c then 1 else 0) ≡ bit)
    → Progress (value_in left held) values at numbers stretches least → HasNumber (get_or numbers (v + bit) None) n numbers numbers' least least' (v + bit) at
    → stretches' ≡ stretches ++ (at, n) ∷ [] → Progress (value_in left held) values next numbers' stretches' least'
advance left held count values place start end v at next bit n numbers numbers' stretches stretches' least least' h low ends some v_in alike p has_it pushed =
    subst (λ l. Progress (value_in left held) values next numbers' l least') (sym pushed)
    (Progress-more (value_in left held) values at next n (v + bit) numbers numbers' stretches least least' some
    (λ c above below. run_value left held count values place start end v at next bit c h low ends above below (alike c above below)) v_in p has_it)

full : (left held : List (ℕ × ℕ)) (count values place start end v at bit : ℕ) (numbers : List (Option ℕ)) (stretches : List (ℕ × ℕ)) (least : List ℕ)
    → InPlace left held count values place start end v → start ≤ at → at < end → v + bit < values → (if has held at then 1 else 0) ≡ bit
    → Progress (value_in left held) values at numbers stretches least → (get_or numbers (v + bit) None ≡ None) × (length least ≡ MOST_LETTERS)
    → MOST_LETTERS < length (firsts (same_value (value_in left held)) count)
full left held count values place start end v at bit numbers stretches least h low some v_in alike p is =
    let ends = end_in left held count values place start end v h in
    Progress-too_many (value_in left held) count values at (v + bit) numbers stretches least (omega (arith, ends.1))
    (run_value left held count values place start end v at (at + 1) bit at h low (omega arith) (le_refl at) (omega arith) alike) v_in p is.0 is.1

bit_of : (held : List (ℕ × ℕ)) (c : ℕ) (b : Bool) → has held c ≡ b → ◌≡◌ {A = ℕ} (if has held c then 1 else 0) (if b then 1 else 0)
bit_of held c b is = let bit : Bool → ℕ = λ x. if x then 1 else 0 in ap bit is

-- One more run outside the ranges.
outside_run : (left held : List (ℕ × ℕ)) (count values place start end v range at next n : ℕ) (outside inside : Option ℕ) (numbers numbers' : List (Option ℕ)) (stretches stretches' : List (ℕ × ℕ)) (least least' : List ℕ)
    → InPlace left held count values place start end v → InRun left held values start end v range at outside inside numbers stretches least
    → at < next → next ≤ end → next ≤ start_or held range count
    → HasNumber (get_or numbers v None) n numbers numbers' least least' v at → stretches' ≡ stretches ++ (at, n) ∷ []
    → InRun left held values start end v range next (Some n) inside numbers' stretches' least'
outside_run left held count values place start end v range at next n outside inside numbers numbers' stretches stretches' least least' h r some ends front has_it pushed =
    record {
      low = omega (arith, r.low);
      high = ends;
      passed = passed_front held range at next count h.sorted r.passed (omega arith) front;
      progress = advance left held count values place start end v at next 0 n numbers numbers' stretches stretches' least least' h r.low ends some (omega (arith, h.values_in))
          (λ c above below. bit_of held c false (in_front held range at c count h.sorted r.passed above (omega arith))) r.progress
          (subst (λ w. HasNumber (get_or numbers w None) n numbers numbers' least least' w at) (sym (add-zero v)) has_it) pushed;
      outside_is = number_own (get_or numbers v None) n v at numbers numbers' least least' (omega (arith, h.values_in, r.progress.width)) refl has_it;
      inside_is = r.inside_is ∙ sym (number_other (get_or numbers v None) n v (v + 1) at numbers numbers' least least' (λ e. absurd (omega arith)) has_it);
    }

-- One more run in a range, which has been passed then or not.
inside_run : (left held : List (ℕ × ℕ)) (count values place start end v range range' at next n : ℕ) (outside inside : Option ℕ) (numbers numbers' : List (Option ℕ)) (stretches stretches' : List (ℕ × ℕ)) (least least' : List ℕ)
    → InPlace left held count values place start end v → InRun left held values start end v range at outside inside numbers stretches least
    → range < length held → (range_at held range).0 ≤ at → at < next → next ≤ end → next ≤ (range_at held range).1 + 1 → IsFirstReaching held range' next
    → HasNumber (get_or numbers (v + 1) None) n numbers numbers' least least' (v + 1) at → stretches' ≡ stretches ++ (at, n) ∷ []
    → InRun left held values start end v range' next outside (Some n) numbers' stretches' least'
inside_run left held count values place start end v range range' at next n outside inside numbers numbers' stretches stretches' least least' h r range_in begun some ends within passed has_it pushed =
    record {
      low = omega (arith, r.low);
      high = ends;
      passed = passed;
      progress = advance left held count values place start end v at next 1 n numbers numbers' stretches stretches' least least' h r.low ends some h.values_in
          (λ c above below. bit_of held c true (in_range held range c range_in (omega arith) (omega arith))) r.progress has_it pushed;
      outside_is = r.outside_is ∙ sym (number_other (get_or numbers (v + 1) None) n (v + 1) v at numbers numbers' least least' (λ e. absurd (omega arith)) has_it);
      inside_is = number_own (get_or numbers (v + 1) None) n (v + 1) at numbers numbers' least least' (omega (arith, h.values_in, r.progress.width)) refl has_it;
    }

-- A run has no number, and all numbers are taken.
outside_full : (left held : List (ℕ × ℕ)) (count values place start end v range at : ℕ) (outside inside : Option ℕ) (numbers : List (Option ℕ)) (stretches : List (ℕ × ℕ)) (least : List ℕ)
    → InPlace left held count values place start end v → InRun left held values start end v range at outside inside numbers stretches least → at < end → at < start_or held range count
    → (get_or numbers v None ≡ None) × (length least ≡ MOST_LETTERS) → MOST_LETTERS < length (firsts (same_value (value_in left held)) count)
outside_full left held count values place start end v range at outside inside numbers stretches least h r some front is =
    full left held count values place start end v at 0 numbers stretches least h r.low some (omega (arith, h.values_in))
    (bit_of held at false (in_front held range at at count h.sorted r.passed (le_refl at) front)) r.progress
    (subst (λ w. get_or numbers w None ≡ None) (sym (add-zero v)) is.0, is.1)

pub inside_full : (left held : List (ℕ × ℕ)) (count values place start end v range at : ℕ) (outside inside : Option ℕ) (numbers : List (Option ℕ)) (stretches : List (ℕ × ℕ)) (least : List ℕ)
    → InPlace left held count values place start end v → InRun left held values start end v range at outside inside numbers stretches least → at < end
    → range < length held → (range_at held range).0 ≤ at
    → (get_or numbers (v + 1) None ≡ None) × (length least ≡ MOST_LETTERS) → MOST_LETTERS < length (firsts (same_value (value_in left held)) count)
inside_full left held count values place start end v range at outside inside numbers stretches least h r some range_in begun is =
    full left held count values place start end v at 1 numbers stretches least h r.low some h.values_in
    (bit_of held at true (in_range held range at range_in begun (r.passed.unpassed range_in))) r.progress is

-- The stretches before `place` have been numbered, and there is room for the runs of the others.
pub record InStretches (left held : List (ℕ × ℕ)) (count values place range : ℕ) (numbers : List (Option ℕ)) (stretches : List (ℕ × ℕ)) (least : List ℕ) (room : ℕ) : Type 0 where
  pub passed : IsFirstReaching held range (start_or left place count)
  pub short : (range < length held → start_or left place count ≤ (range_at held range).0) → length stretches ≤ place + 2 * range
  pub short_begun : length stretches ≤ place + 2 * range + 1
  pub range_in : range ≤ length held
  pub capacity : room ≡ length left + 2 * length held
  pub progress : Progress (value_in left held) values (start_or left place count) numbers stretches least

-- The codes below `at` have been numbered, and there is room for the runs after them.
pub record InStretch (left held : List (ℕ × ℕ)) (count values place start end v range at : ℕ) (outside inside : Option ℕ) (numbers : List (Option ℕ)) (stretches : List (ℕ × ℕ)) (least : List ℕ) (room : ℕ) : Type 0 where
  pub here : InPlace left held count values place start end v
  pub run : InRun left held values start end v range at outside inside numbers stretches least
  pub short : (range < length held → at ≤ (range_at held range).0) → length stretches ≤ place + 2 * range
  pub short_begun : at < end → length stretches ≤ place + 2 * range + 1
  pub short_after : length stretches ≤ place + 2 * range + 2
  pub range_in : range ≤ length held
  pub capacity : room ≡ length left + 2 * length held

-- The codes before the next range, which begins in the stretch, have been numbered.
pub record InGap (left held : List (ℕ × ℕ)) (count values place start end v range at : ℕ) (outside inside : Option ℕ) (numbers : List (Option ℕ)) (stretches : List (ℕ × ℕ)) (least : List ℕ) (room : ℕ) : Type 0 where
  pub here : InPlace left held count values place start end v
  pub run : InRun left held values start end v range at outside inside numbers stretches least
  pub begun : (range_at held range).0 ≤ at
  pub some : at < end
  pub range_in : range < length held
  pub short : length stretches ≤ place + 2 * range + 1
  pub capacity : room ≡ length left + 2 * length held

-- The next range begins in the stretch.
pub record BeginsIn (held : List (ℕ × ℕ)) (count end range : ℕ) : Type 0 where
  pub range_in : range < length held
  pub front : start_or held range count ≡ (range_at held range).0
  pub below : (range_at held range).0 < end

pub begins_in : {left held : List (ℕ × ℕ)} {count values place start end v range next : ℕ}
    → InPlace left held count values place start end v
    → next ≡ start_or held range count → next < end → BeginsIn held count end range
begins_in {left} {held} {count} {values} {place} {start} {end} {v} {range} {next} h is lt =
    let front_below = subst (λ n. n < end) is lt in
    let range_in = range_next held range end count front_below (end_in left held count values place start end v h).1 in
    let front = start_or-in held range count range_in in
    record { range_in = range_in; front = front; below = subst (λ n. n < end) front front_below }

pub stretches_none : (left held : List (ℕ × ℕ)) (count values : ℕ) (numbers : List (Option ℕ)) (stretches : List (ℕ × ℕ)) (least : List ℕ) (room : ℕ) → Covers left count
    → numbers ≡ replicate values None → stretches ≡ [] → least ≡ [] → room ≡ length left + 2 * length held → InStretches left held count values 0 0 numbers stretches least room
stretches_none left held count values numbers stretches least room covers numbers_are stretches_are least_are capacity =
    let start : start_or left 0 count ≡ 0 = start_or-in left 0 count covers.some ∙ covers.start in
    let none = ap length stretches_are in
    record {
      passed = subst (λ a. IsFirstReaching held 0 a) (sym start) (record { before = λ k lt k_in. absurd (omega arith); unpassed = λ _. omega arith });
      short = λ _. omega arith;
      short_begun = omega arith;
      range_in = omega arith;
      capacity = capacity;
      progress = subst (λ a. Progress (value_in left held) values a numbers stretches least) (sym start)
          (Progress-none (value_in left held) values numbers stretches least numbers_are stretches_are least_are);
    }

pub stretch_begun : {left held : List (ℕ × ℕ)} {count values place start end v range : ℕ} {outside inside : Option ℕ} (d e : Option ℕ) {numbers : List (Option ℕ)} {stretches : List (ℕ × ℕ)} {least : List ℕ} {room : ℕ}
    → InPlace left held count values place start end v → InStretches left held count values place range numbers stretches least room
    → outside ≡ get_or numbers v d → inside ≡ get_or numbers (v + 1) e → InStretch left held count values place start end v range start outside inside numbers stretches least room
stretch_begun {left} {held} {count} {values} {place} {start} {end} {v} {range} {outside} {inside} d e {numbers} {stretches} {least} {room} h was outside_is inside_is =
    let here : start_or left place count ≡ start = start_or-in left place count h.place_in ∙ sym h.start_is in
    record {
      here = h;
      run = record {
        low = le_refl start;
        high = omega (arith, (end_in left held count values place start end v h).0);
        passed = subst (λ a. IsFirstReaching held range a) here was.passed;
        progress = subst (λ a. Progress (value_in left held) values a numbers stretches least) here was.progress;
        outside_is = outside_is ∙ get_or_default numbers v d None (omega (arith, h.values_in, was.progress.width));
        inside_is = inside_is ∙ get_or_default numbers (v + 1) e None (omega (arith, h.values_in, was.progress.width));
      };
      short = λ before. was.short (λ r_in. subst (λ a. a ≤ (range_at held range).0) (sym here) (before r_in));
      short_begun = λ _. was.short_begun;
      short_after = omega (arith, was.short_begun);
      range_in = was.range_in;
      capacity = was.capacity;
    }

pub gap_numbered : {left held : List (ℕ × ℕ)} {count values place start end v range at n : ℕ} {outside inside : Option ℕ} {numbers numbers' : List (Option ℕ)} {stretches stretches' : List (ℕ × ℕ)} {least least' : List ℕ} {room room' : ℕ}
    → InStretch left held count values place start end v range at outside inside numbers stretches least room
    → BeginsIn held count end range → at < (range_at held range).0
    → HasNumber (get_or numbers v None) n numbers numbers' least least' v at → stretches' ≡ stretches ++ (at, n) ∷ [] → room' ≡ room
    → InGap left held count values place start end v range (range_at held range).0 (Some n) inside numbers' stretches' least' room'
gap_numbered {left} {held} {count} {values} {place} {start} {end} {v} {range} {at} {n} {outside} {inside} {numbers} {numbers'} {stretches} {stretches'} {least} {least'} {room} {room'} was next some has_it pushed same =
    let short = was.short (λ _. omega arith) in
    record {
      here = was.here;
      run = outside_run left held count values place start end v range at (range_at held range).0 n outside inside numbers numbers' stretches stretches' least least' was.here was.run some (omega (arith, next.below))
          (omega (arith, next.front)) has_it pushed;
      begun = le_refl _;
      some = next.below;
      range_in = next.range_in;
      short = omega (arith, short, ap length pushed, length_push stretches (at, n));
      capacity = same ∙ was.capacity;
    }

pub gap_none : {left held : List (ℕ × ℕ)} {count values place start end v range at : ℕ} {outside inside : Option ℕ} {numbers : List (Option ℕ)} {stretches : List (ℕ × ℕ)} {least : List ℕ} {room : ℕ}
    → InStretch left held count values place start end v range at outside inside numbers stretches least room → BeginsIn held count end range → at < end → (range_at held range).0 ≤ at
    → InGap left held count values place start end v range at outside inside numbers stretches least room
gap_none {left} {held} {count} {values} {place} {start} {end} {v} {range} {at} {outside} {inside} {numbers} {stretches} {least} {room} was next some begun =
    record { here = was.here; run = was.run; begun = begun; some = some; range_in = next.range_in; short = was.short_begun some; capacity = was.capacity }

pub gap_full : {left held : List (ℕ × ℕ)} {count values place start end v range at : ℕ} {outside inside : Option ℕ} {numbers : List (Option ℕ)} {stretches : List (ℕ × ℕ)} {least : List ℕ} {room : ℕ}
    → InStretch left held count values place start end v range at outside inside numbers stretches least room
    → BeginsIn held count end range → at < end → at < (range_at held range).0
    → (get_or numbers v None ≡ None) × (length least ≡ MOST_LETTERS) → MOST_LETTERS < length (firsts (same_value (value_in left held)) count)
gap_full {left} {held} {count} {values} {place} {start} {end} {v} {range} {at} {outside} {inside} {numbers} {stretches} {least} {room} was next some before is =
    outside_full left held count values place start end v range at outside inside numbers stretches least was.here was.run some (subst (λ a. at < a) (sym next.front) before) is

pub gap_room : {left held : List (ℕ × ℕ)} {count values place start end v range at : ℕ} {outside inside : Option ℕ} {numbers : List (Option ℕ)} {stretches : List (ℕ × ℕ)} {least : List ℕ} {room many : ℕ}
    → InGap left held count values place start end v range at outside inside numbers stretches least room → many ≡ length stretches → many < room
gap_room {left} {held} {count} {values} {place} {start} {end} {v} {range} {at} {outside} {inside} {numbers} {stretches} {least} {room} {many} gap is =
    omega (arith, gap.here.place_in, gap.range_in, gap.short, gap.capacity)

-- The whole range lies in the stretch.
pub range_numbered : {left held : List (ℕ × ℕ)} {count values place start end v range at n : ℕ} {outside inside : Option ℕ} {numbers numbers' : List (Option ℕ)} {stretches stretches' : List (ℕ × ℕ)} {least least' : List ℕ} {room room' : ℕ}
    → InGap left held count values place start end v range at outside inside numbers stretches least room → (range_at held range).1 < end
    → HasNumber (get_or numbers (v + 1) None) n numbers numbers' least least' (v + 1) at → stretches' ≡ stretches ++ (at, n) ∷ [] → room' ≡ room
    → InStretch left held count values place start end v (range + 1) ((range_at held range).1 + 1) outside (Some n) numbers' stretches' least' room'
range_numbered {left} {held} {count} {values} {place} {start} {end} {v} {range} {at} {n} {outside} {inside} {numbers} {numbers'} {stretches} {stretches'} {least} {least'} {room} {room'} gap inner has_it pushed same =
    let last = (range_at held range).1 in
    let unpassed : at ≤ last = gap.run.passed.unpassed gap.range_in in
    let short : length stretches' ≤ place + 2 * (range + 1) = omega (arith, gap.short, ap length pushed, length_push stretches (at, n)) in
    record {
      here = gap.here;
      run = inside_run left held count values place start end v range (range + 1) at (last + 1) n outside inside numbers numbers' stretches stretches' least least' gap.here gap.run gap.range_in gap.begun (omega arith) (omega arith) (le_refl _)
          (passed_one held range at gap.here.sorted gap.run.passed gap.range_in) has_it pushed;
      short = λ _. short;
      short_begun = λ _. omega arith;
      short_after = omega arith;
      range_in = omega (arith, gap.range_in);
      capacity = same ∙ gap.capacity;
    }

-- The range continues after the stretch.
pub range_begun : {left held : List (ℕ × ℕ)} {count values place start end v range at n : ℕ} {outside inside : Option ℕ} {numbers numbers' : List (Option ℕ)} {stretches stretches' : List (ℕ × ℕ)} {least least' : List ℕ} {room room' : ℕ}
    → InGap left held count values place start end v range at outside inside numbers stretches least room → end ≤ (range_at held range).1
    → HasNumber (get_or numbers (v + 1) None) n numbers numbers' least least' (v + 1) at → stretches' ≡ stretches ++ (at, n) ∷ [] → room' ≡ room
    → InStretch left held count values place start end v range end outside (Some n) numbers' stretches' least' room'
range_begun {left} {held} {count} {values} {place} {start} {end} {v} {range} {at} {n} {outside} {inside} {numbers} {numbers'} {stretches} {stretches'} {least} {least'} {room} {room'} gap beyond has_it pushed same =
    let some = gap.some in
    record {
      here = gap.here;
      run = inside_run left held count values place start end v range range at end n outside inside numbers numbers' stretches stretches' least least' gap.here gap.run gap.range_in gap.begun some (le_refl _) (omega arith)
          (passed_later held range at end gap.run.passed (omega arith) (λ _. beyond)) has_it pushed;
      short = λ before. absurd (omega (arith, before gap.range_in, gap.begun));
      short_begun = λ lt. absurd (omega arith);
      short_after = omega (arith, gap.short, ap length pushed, length_push stretches (at, n));
      range_in = omega (arith, gap.range_in);
      capacity = same ∙ gap.capacity;
    }

-- No range begins in the rest of the stretch.
pub rest_numbered : {left held : List (ℕ × ℕ)} {count values place start end v range at : ℕ} (n : ℕ) {outside inside : Option ℕ} {numbers numbers' : List (Option ℕ)} {stretches stretches' : List (ℕ × ℕ)} {least least' : List ℕ} {room room' : ℕ}
    → InStretch left held count values place start end v range at outside inside numbers stretches least room → at < end → end ≤ start_or held range count
    → HasNumber (get_or numbers v None) n numbers numbers' least least' v at → stretches' ≡ stretches ++ (at, n) ∷ [] → room' ≡ room
    → InStretches left held count values (place + 1) range numbers' stretches' least' room'
rest_numbered {left} {held} {count} {values} {place} {start} {end} {v} {range} {at} n {outside} {inside} {numbers} {numbers'} {stretches} {stretches'} {least} {least'} {room} {room'} was some front has_it pushed same =
    let r = outside_run left held count values place start end v range at end n outside inside numbers numbers' stretches stretches' least least' was.here was.run some (le_refl end) front has_it pushed in
    let short : length stretches' ≤ place + 1 + 2 * range =
    omega (arith, was.short (λ r_in. omega (arith, start_or-in held range count r_in)), ap length pushed, length_push stretches (at, n)) in
    record {
      passed = subst (λ a. IsFirstReaching held range a) was.here.end_is r.passed;
      short = λ _. short;
      short_begun = omega arith;
      range_in = was.range_in;
      capacity = same ∙ was.capacity;
      progress = subst (λ a. Progress (value_in left held) values a numbers' stretches' least') was.here.end_is r.progress;
    }

pub rest_full : {left held : List (ℕ × ℕ)} {count values place start end v range at : ℕ} {outside inside : Option ℕ} {numbers : List (Option ℕ)} {stretches : List (ℕ × ℕ)} {least : List ℕ} {room : ℕ}
    → InStretch left held count values place start end v range at outside inside numbers stretches least room → at < end → end ≤ start_or held range count
    → (get_or numbers v None ≡ None) × (length least ≡ MOST_LETTERS) → MOST_LETTERS < length (firsts (same_value (value_in left held)) count)
rest_full {left} {held} {count} {values} {place} {start} {end} {v} {range} {at} {outside} {inside} {numbers} {stretches} {least} {room} was some front is =
    outside_full left held count values place start end v range at outside inside numbers stretches least was.here was.run some (omega arith) is

pub rest_room : {left held : List (ℕ × ℕ)} {count values place start end v range at : ℕ} {outside inside : Option ℕ} {numbers : List (Option ℕ)} {stretches : List (ℕ × ℕ)} {least : List ℕ} {room many : ℕ}
    → InStretch left held count values place start end v range at outside inside numbers stretches least room → at < end → end ≤ start_or held range count
    → many ≡ length stretches → many < room
rest_room {left} {held} {count} {values} {place} {start} {end} {v} {range} {at} {outside} {inside} {numbers} {stretches} {least} {room} {many} was some front is =
    let short : length stretches ≤ place + 2 * range = was.short (λ r_in. omega (arith, start_or-in held range count r_in)) in
    omega (arith, was.here.place_in, was.range_in, was.capacity)

-- Both values of the stretch have a place among the numbers.
pub reach_values : {left held : List (ℕ × ℕ)} {count values place start end v range at : ℕ} {outside inside : Option ℕ} {numbers : List (Option ℕ)} {stretches : List (ℕ × ℕ)} {least : List ℕ}
    → InPlace left held count values place start end v → InRun left held values start end v range at outside inside numbers stretches least → (v < length numbers) × (v + 1 < length numbers)
reach_values {left} {held} {count} {values} {place} {start} {end} {v} h r =
    (omega (arith, h.values_in, r.progress.width), omega (arith, h.values_in, r.progress.width))

-- Nothing is left of the stretch.
pub rest_none : {left held : List (ℕ × ℕ)} {count values place start end v range at : ℕ} {outside inside : Option ℕ} {numbers : List (Option ℕ)} {stretches : List (ℕ × ℕ)} {least : List ℕ} {room : ℕ}
    → InStretch left held count values place start end v range at outside inside numbers stretches least room → end ≤ at
    → InStretches left held count values (place + 1) range numbers stretches least room
rest_none {left} {held} {count} {values} {place} {start} {end} {v} {range} {at} {outside} {inside} {numbers} {stretches} {least} {room} was none =
    let is : at ≡ start_or left (place + 1) count = omega (arith, was.run.high, was.here.end_is) in
    record {
      passed = subst (λ a. IsFirstReaching held range a) is was.run.passed;
      short = λ before. omega (arith, was.short (λ r_in. subst (λ a. a ≤ (range_at held range).0) (sym is) (before r_in)));
      short_begun = omega (arith, was.short_after);
      range_in = was.range_in;
      capacity = was.capacity;
      progress = subst (λ a. Progress (value_in left held) values a numbers stretches least) is was.run.progress;
    }

pub stretches_all : (left held : List (ℕ × ℕ)) (count values place many range : ℕ) (numbers : List (Option ℕ)) (stretches : List (ℕ × ℕ)) (least : List ℕ) (room : ℕ)
    → Covers left count → InStretches left held count values place range numbers stretches least room → many ≡ length left → many ≤ place → IsNumbered (value_in left held) count stretches least
stretches_all left held count values place many range numbers stretches least room covers was is all =
    Progress-all (value_in left held) count values (start_or left place count) numbers stretches least (omega (arith, covers.within 0 covers.some))
    (start_or-past left place count (omega arith)) was.progress
