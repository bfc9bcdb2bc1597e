-- Lemmas on sets of guards: a set is met if each guard of its list holds.
use Rattle.std.proofs.Common.{◌≡◌, ℕ, zero, suc, ◌+◌, ◌*◌, ◌/◌, ◌%◌, ◌^◌, ◌-◌, ◌<◌, ◌≤◌, Bool, true, false, not, ◌&&◌, ◌||◌, ◌==◌, List, [], ◌∷◌, ◌++◌, length, get_or, take, Option, None, Some, refl, sym, ap, ap₂, ◌∙◌, arith, ⊎_elim, if◌then◌else◌}
use Rattle.std.specs.Int.{w128, bit_not, bit_at}
use Rattle.std.specs.Int.Bits.{bit_and, bit_or}
use Rattle.std.proofs.Math.Bool.{beq}
use Rattle.std.proofs.lemmas.List.{take_more, length-take-le}
use Rattle.std.proofs.lemmas.Nat.{and_le_l, and_le_r, le_or_l, le_or_r, or_comm, or_shifted, one_shl, pow_below}
use Rattle.std.proofs.lemmas.Nat.Bits.{bit_at-zero, bit_at_and, bit_at_or, same_from_bits, bit_at_lowest, bit_at-suc, and_pow}
use Rattle.std.proofs.lemmas.Bool.{false≢true, and_parts, and_from, cases_eq, cond-true, cond-false, eq-eqb, ne_eqb, eqb-true}
use Rattle.rl_ranges.specs.Codes.{has}
use Rattle.rl_ranges.specs.Letters.{LetterTable, IsLetters, alike, letter_at}
use Rattle.rl_ranges.specs.declared.letters.TheConstants.{MOST_LETTERS}
use Rattle.rl_ranges.proofs.LetterLemmas.{beq-true, class_of-only, class_of-lt}
use Rattle.rl_ranges.proofs.SetLemmas.{or_assoc, and-true}
use Rattle.rl_syntax.specs.declared.anchors.Guard.{Guard}
use Rattle.rl_syntax.specs.declared.anchors.Guard.TheVariants.{Start, LineStart, LineEnd, TextEnd, Word, NotWord, Look}
use Rattle.rl_syntax.specs.Guards.{is_in, sees, holds, sets_named}
use Rattle.rl_prio.specs.Items.{all_hold}
use Rattle.rl_prio.specs.internal.GuardSets.{no_looks, requires_none, one_look, looks_joined, looks_met, looks_holding, kinds_refused, within, no_guards, has_none, only, joined, guard_set, flags_met, met, shown, nothing_shown, code_shown, holding}
use Rattle.rl_prio.specs.declared.build.guards.Guards.{Guards}
use Rattle.rl_prio.specs.declared.build.guards.Looks.{Looks}
use Rattle.rl_prio.proofs.LikenessLemmas.{Finer, GuardsKnown}

-- ---- sets of kinds

or_zero : (m : ℕ) → bit_or 0 m ≡ m
or_zero m = same_from_bits (bit_or 0 m) m (λ i. omega (arith, bit_at_or 0 m i, bit_at-zero i))

zero_or : (m : ℕ) → bit_or m 0 ≡ m
zero_or m = same_from_bits (bit_or m 0) m (λ i. omega (arith, bit_at_or m 0 i, bit_at-zero i))

and_zero : (m : ℕ) → bit_and 0 m ≡ 0
and_zero m = omega (arith, and_le_l 0 m)

or_of_three : (a b c : ℕ) → bit_or (bit_or a b) c ≡ bit_or a (bit_or b c)
or_of_three a b c =
    same_from_bits (bit_or (bit_or a b) c) (bit_or a (bit_or b c))
    (λ i. omega (arith, bit_at_or (bit_or a b) c i, bit_at_or a b i, bit_at_or a (bit_or b c) i, bit_at_or b c i))

and_of_or : (a b c : ℕ) → bit_and (bit_or a b) c ≡ bit_or (bit_and a c) (bit_and b c)
and_of_or a b c =
    same_from_bits (bit_and (bit_or a b) c) (bit_or (bit_and a c) (bit_and b c))
    (λ i. omega (arith, bit_at_and (bit_or a b) c i, bit_at_or a b i, bit_at_or (bit_and a c) (bit_and b c) i, bit_at_and a c i, bit_at_and b c i))

no_bits : (x y : ℕ) → (bit_or x y == 0) ≡ ((x == 0) && (y == 0))
no_bits x y = ⊎_elim
    (λ is. ⊎_elim
    (λ also.
    eq-eqb (bit_or x y) 0 (ap₂ bit_or is also ∙ or_zero 0) ∙ sym (ap₂ (λ s t. s && t) (eq-eqb x 0 is) (eq-eqb y 0 also)))
    (λ more.
    ne_eqb (bit_or x y) 0 (λ e. more (omega (arith, e, le_or_r x y))) ∙ sym (ap₂ (λ s t. s && t) (eq-eqb x 0 is) (ne_eqb y 0 more)))
    (cases_eq y 0))
    (λ more. ne_eqb (bit_or x y) 0 (λ e. more (omega (arith, e, le_or_l x y))) ∙ sym (ap (λ s. s && (y == 0)) (ne_eqb x 0 more)))
    (cases_eq x 0)

-- ---- the empty set, and unions

looks_joined-none : (a : Looks) → looks_joined no_looks a ≡ a
unfolding looks_joined no_looks
looks_joined-none a = λ i. record a { not_before = or_zero a.not_before i; not_next = or_zero a.not_next i }

pub joined-none : (a : Guards) → joined no_guards a ≡ a
unfolding joined no_guards
joined-none a = λ i. record a { looks = looks_joined-none a.looks i }

or_false : (x : Bool) → (x || false) ≡ x
or_false true = refl
or_false false = refl

looks_joined_with_none : (a : Looks) → looks_joined a no_looks ≡ a
unfolding looks_joined no_looks
looks_joined_with_none a = λ i. record {
  some_before = or_false a.some_before i;
  some_next = or_false a.some_next i;
  not_before = zero_or a.not_before i;
  not_next = zero_or a.not_next i;
}

pub joined_with_none : (a : Guards) → joined a no_guards ≡ a
unfolding joined no_guards
joined_with_none a = λ i. record {
  start = or_false a.start i;
  line_start = or_false a.line_start i;
  line_end = or_false a.line_end i;
  text_end = or_false a.text_end i;
  word = or_false a.word i;
  ascii_word = or_false a.ascii_word i;
  not_word = or_false a.not_word i;
  not_ascii_word = or_false a.not_ascii_word i;
  looks = looks_joined_with_none a.looks i;
}

looks_joined_assoc : (a b c : Looks) → looks_joined (looks_joined a b) c ≡ looks_joined a (looks_joined b c)
unfolding looks_joined
looks_joined_assoc a b c = λ i. record {
  some_before = sym (or_assoc a.some_before b.some_before c.some_before) i;
  some_next = sym (or_assoc a.some_next b.some_next c.some_next) i;
  not_before = or_of_three a.not_before b.not_before c.not_before i;
  not_next = or_of_three a.not_next b.not_next c.not_next i;
}

pub joined_assoc : (a b c : Guards) → joined (joined a b) c ≡ joined a (joined b c)
unfolding joined
joined_assoc a b c = λ i. record {
  start = sym (or_assoc a.start b.start c.start) i;
  line_start = sym (or_assoc a.line_start b.line_start c.line_start) i;
  line_end = sym (or_assoc a.line_end b.line_end c.line_end) i;
  text_end = sym (or_assoc a.text_end b.text_end c.text_end) i;
  word = sym (or_assoc a.word b.word c.word) i;
  ascii_word = sym (or_assoc a.ascii_word b.ascii_word c.ascii_word) i;
  not_word = sym (or_assoc a.not_word b.not_word c.not_word) i;
  not_ascii_word = sym (or_assoc a.not_ascii_word b.not_ascii_word c.not_ascii_word) i;
  looks = looks_joined_assoc a.looks b.looks c.looks i;
}

pub guard_set-append : (kinds : LetterTable) (gs hs : List Guard) → guard_set kinds (gs ++ hs) ≡ joined (guard_set kinds gs) (guard_set kinds hs)
guard_set-append kinds [] hs = sym (joined-none (guard_set kinds hs))
guard_set-append kinds (g ∷ gs) hs = ap (joined (only kinds g)) (guard_set-append kinds gs hs) ∙ sym (joined_assoc (only kinds g) (guard_set kinds gs) (guard_set kinds hs))

pub only-joined : (kinds : LetterTable) (g : Guard) → joined (only kinds g) no_guards ≡ only kinds g
only-joined kinds g = joined_with_none (only kinds g)

none_within : (h : ℕ) → within 0 h ≡ true
none_within h = eq-eqb (bit_and 0 (bit_not w128 h)) 0 (and_zero (bit_not w128 h))

no_looks-met : (h : Looks) → looks_met no_looks h ≡ true
unfolding looks_met no_looks
no_looks-met h = ap₂ (λ x y. x && y) (none_within h.not_before) (none_within h.not_next)

none-met : (h : Guards) → met no_guards h ≡ true
unfolding met flags_met no_guards
none-met h = no_looks-met h.looks

either_flag : (x y z : Bool) → (not (x || y) || z) ≡ ((not x || z) && (not y || z))
either_flag true true true = refl
either_flag true true false = refl
either_flag true false true = refl
either_flag true false false = refl
either_flag false y z = refl

pairwise : (x y u v : Bool) → ((x && y) && (u && v)) ≡ ((x && u) && (y && v))
pairwise true true u v = refl
pairwise true false true v = refl
pairwise true false false v = refl
pairwise false y u v = refl

-- A test is two tests.
record Splits (m x y : Bool) : Type 0 where
  same : m ≡ (x && y)

split : (x y z : Bool) → Splits (not (x || y) || z) (not x || z) (not y || z)
split x y z = record { same = either_flag x y z }

step : {m x y k u v : Bool} → Splits m x y → Splits k u v → Splits (m && k) (x && u) (y && v)
step {m = m} {x = x} {y = y} {k = k} {u = u} {v = v} p q = record { same = ap₂ (λ s t. s && t) p.same q.same ∙ pairwise x y u v }

split_kinds : (x y z : ℕ) → Splits (within (bit_or x y) z) (within x z) (within y z)
split_kinds x y z = record {
  same = ap (λ n. n == 0) (and_of_or x y (bit_not w128 z)) ∙ no_bits (bit_and x (bit_not w128 z)) (bit_and y (bit_not w128 z));
}

split_looks : (a b h : Looks) → Splits (looks_met (looks_joined a b) h) (looks_met a h) (looks_met b h)
unfolding looks_met looks_joined
split_looks a b h =
    step (step (step
    (split a.some_before b.some_before h.some_before)
    (split a.some_next b.some_next h.some_next))
    (split_kinds a.not_before b.not_before h.not_before))
    (split_kinds a.not_next b.not_next h.not_next)

met-joined : (a b h : Guards) → met (joined a b) h ≡ (met a h && met b h)
unfolding met flags_met joined
met-joined a b h =
    (step (step (step (step (step (step (step (step
    (split a.start b.start h.start)
    (split a.line_start b.line_start h.line_start))
    (split a.line_end b.line_end h.line_end))
    (split a.text_end b.text_end h.text_end))
    (split a.word b.word h.word))
    (split a.ascii_word b.ascii_word h.ascii_word))
    (split a.not_word b.not_word h.not_word))
    (split a.not_ascii_word b.not_ascii_word h.not_ascii_word))
    (split_looks a.looks b.looks h.looks)).same

-- A test that holds says that another one holds.
record Gives (m k : Bool) : Type 0 where
  true_too : m ≡ true → k ≡ true

flag-unguarded : (x z : Bool) → Gives (not x) (not x || z)
flag-unguarded true z = record { true_too = λ e. absurd (false≢true e) }
flag-unguarded false z = record { true_too = λ e. refl }

kinds-unguarded : (x z : ℕ) → Gives (x == 0) (within x z)
kinds-unguarded x z = record { true_too = λ e. ap (λ n. within n z) (eqb-true x 0 e) ∙ none_within z }

both_unguarded : {m k u v : Bool} → Gives m u → Gives k v → Gives (m && k) (u && v)
both_unguarded {m = m} {k = k} {u = u} {v = v} p q = record {
  true_too = λ e. let parts = and_parts m k e in and_from u v (p.true_too parts.0) (q.true_too parts.1);
}

looks-unguarded : (a h : Looks) → Gives (requires_none a) (looks_met a h)
unfolding requires_none looks_met
looks-unguarded a h =
    both_unguarded (both_unguarded (both_unguarded
    (flag-unguarded a.some_before h.some_before)
    (flag-unguarded a.some_next h.some_next))
    (kinds-unguarded a.not_before h.not_before))
    (kinds-unguarded a.not_next h.not_next)

-- No guard is always met.
pub unguarded-met : (a h : Guards) → has_none a ≡ true → met a h ≡ true
unfolding met flags_met has_none
unguarded-met a h =
    (both_unguarded (both_unguarded (both_unguarded (both_unguarded (both_unguarded (both_unguarded (both_unguarded (both_unguarded
    (flag-unguarded a.start h.start)
    (flag-unguarded a.line_start h.line_start))
    (flag-unguarded a.line_end h.line_end))
    (flag-unguarded a.text_end h.text_end))
    (flag-unguarded a.word h.word))
    (flag-unguarded a.ascii_word h.ascii_word))
    (flag-unguarded a.not_word h.not_word))
    (flag-unguarded a.not_ascii_word h.not_ascii_word))
    (looks-unguarded a.looks h.looks)).true_too

-- ---- one guard

-- Whether a set holds a guard.
abbrev flag : LetterTable → Guard → Guards → Bool
flag kinds Start h = h.start
flag kinds LineStart h = h.line_start
flag kinds LineEnd h = h.line_end
flag kinds TextEnd h = h.text_end
flag kinds (Word false) h = h.word
flag kinds (Word true) h = h.ascii_word
flag kinds (NotWord false) h = h.not_word
flag kinds (NotWord true) h = h.not_ascii_word
flag kinds (Look true negated ranges) h = (negated || h.looks.some_before) && within (kinds_refused negated (has ranges) kinds.samples) h.looks.not_before
flag kinds (Look false negated ranges) h = (negated || h.looks.some_next) && within (kinds_refused negated (has ranges) kinds.samples) h.looks.not_next

twice_not : (x z : Bool) → (not (not x) || z) ≡ (x || z)
twice_not true z = refl
twice_not false z = refl

one-met : (kinds : LetterTable) (g : Guard) (h : Guards) → met (only kinds g) h ≡ flag kinds g h
unfolding met flags_met only one_look no_guards looks_met no_looks
one-met kinds Start h = simp and-true
one-met kinds LineStart h = simp and-true
one-met kinds LineEnd h = simp and-true
one-met kinds TextEnd h = simp and-true
one-met kinds (Word false) h = simp and-true
one-met kinds (Word true) h = simp and-true
one-met kinds (NotWord false) h = simp and-true
one-met kinds (NotWord true) h = simp and-true
one-met kinds (Look true negated ranges) h = simp (and-true, none_within, twice_not)
one-met kinds (Look false negated ranges) h = simp (and-true, none_within, twice_not)

-- The bits of the kinds that a lookaround refuses.
refused-bit : (negated : Bool) (set : ℕ → Bool) (kinds : List ℕ) (k : ℕ) → k < length kinds
    → bit_at (kinds_refused negated set kinds) k ≡ (if sees negated set (Some (get_or kinds k 0)) then 0 else 1)
refused-bit negated set [] k lt = absurd (omega arith)
refused-bit negated set (c ∷ kinds) zero lt = first_bit (sees negated set (Some c)) (kinds_refused negated set kinds)
  where
    first_bit : (b : Bool) (m : ℕ) → bit_at ((if b then 0 else 1) + 2 * m) 0 ≡ (if b then 0 else 1)
    first_bit true m = omega (arith, bit_at_lowest (0 + 2 * m))
    first_bit false m = omega (arith, bit_at_lowest (1 + 2 * m))
refused-bit negated set (c ∷ kinds) (suc k) lt =
    bit_at-suc ((if sees negated set (Some c) then 0 else 1) + 2 * kinds_refused negated set kinds) k
    ∙ ap (λ n. bit_at n k) (later_bits (sees negated set (Some c)) (kinds_refused negated set kinds))
    ∙ refused-bit negated set kinds k (omega arith)
  where
    later_bits : (b : Bool) (m : ℕ) → ((if b then 0 else 1) + 2 * m) / 2 ≡ m
    later_bits true m = omega arith
    later_bits false m = omega arith

-- One kind more: it has the highest bit.
refused-below : (negated : Bool) (set : ℕ → Bool) (kinds : List ℕ) → kinds_refused negated set kinds < 2 ^ length kinds
refused-below negated set [] = omega arith
refused-below negated set (c ∷ kinds) = at_most (sees negated set (Some c)) (refused-below negated set kinds)
  where
    at_most : (b : Bool) → kinds_refused negated set kinds < 2 ^ length kinds → (if b then 0 else 1) + 2 * kinds_refused negated set kinds < 2 ^ suc (length kinds)
    at_most true lt = omega arith
    at_most false lt = omega arith

refused-append : (negated : Bool) (set : ℕ → Bool) (kinds : List ℕ) (c : ℕ)
    → kinds_refused negated set (kinds ++ c ∷ []) ≡ kinds_refused negated set kinds + (if sees negated set (Some c) then 0 else 2 ^ length kinds)
refused-append negated set [] c = last_one (sees negated set (Some c))
  where
    last_one : (b : Bool) → (if b then 0 else 1) + 2 * 0 ≡ 0 + (if b then 0 else 2 ^ 0)
    last_one true = omega arith
    last_one false = omega arith
refused-append negated set (x ∷ kinds) c =
    ap (λ n. (if sees negated set (Some x) then 0 else 1) + 2 * n) (refused-append negated set kinds c)
    ∙ doubled (sees negated set (Some c)) (if sees negated set (Some x) then 0 else 1) (kinds_refused negated set kinds) (length kinds)
  where
    twice_power : (k : ℕ) → 2 ^ suc k ≡ 2 * 2 ^ k
    twice_power k = omega arith

    grows : (first m x y : ℕ) → y ≡ 2 * x → first + 2 * (m + x) ≡ first + 2 * m + y
    grows first m x y e = omega (arith, e)

    doubled : (b : Bool) (first m k : ℕ) → first + 2 * (m + (if b then 0 else 2 ^ k)) ≡ first + 2 * m + (if b then 0 else 2 ^ suc k)
    doubled true first m k = omega arith
    doubled false first m k = grows first m (2 ^ k) (2 ^ suc k) (twice_power k)

pub refused_more : (negated : Bool) (set : ℕ → Bool) (kinds : List ℕ) (k d : ℕ) → k < length kinds
    → kinds_refused negated set (take (k + 1) kinds) ≡ kinds_refused negated set (take k kinds) + (if sees negated set (Some (get_or kinds k d)) then 0 else 2 ^ k)
refused_more negated set kinds k d lt =
    let size : length (take k kinds) ≡ k = length-take-le k kinds (omega arith) in
    ap (kinds_refused negated set) (take_more kinds k d lt) ∙ refused-append negated set (take k kinds) (get_or kinds k d)
    ∙ ap (λ n. kinds_refused negated set (take k kinds) + (if sees negated set (Some (get_or kinds k d)) then 0 else 2 ^ n)) size

-- The bit of the kind is put to those of the kinds before.
pub refused-put : (negated : Bool) (set : ℕ → Bool) (kinds : List ℕ) (k d old new : ℕ) → k < length kinds → k < 128 → old ≡ kinds_refused negated set (take k kinds)
    → new ≡ bit_or old (1 * 2 ^ k % 2 ^ 128) → sees negated set (Some (get_or kinds k d)) ≡ false → new ≡ kinds_refused negated set (take (k + 1) kinds)
refused-put negated set kinds k d old new lt small so_far is refuses =
    let size : length (take k kinds) ≡ k = length-take-le k kinds (omega arith) in
    let below : old < 2 ^ k = omega (arith, so_far, refused-below negated set (take k kinds), ap (λ n. 2 ^ n) size) in
    let one_bit : bit_or old (1 * 2 ^ k % 2 ^ 128) ≡ 1 * 2 ^ k + old =
    ap (bit_or old) (one_shl k 128 small) ∙ or_comm old (2 ^ k) ∙ ap (λ x. bit_or x old) (sym one_times) ∙ or_shifted 1 k old below in
    is ∙ one_bit
    ∙ omega (
      arith,
      so_far,
      refused_more negated set kinds k d lt,
      cond-false (sees negated set (Some (get_or kinds k d))) 0 (2 ^ k) refuses,
    )
  where
    one_times : 1 * 2 ^ k ≡ 2 ^ k
    one_times = omega arith

pub refused-kept : (negated : Bool) (set : ℕ → Bool) (kinds : List ℕ) (k d old : ℕ) → k < length kinds → old ≡ kinds_refused negated set (take k kinds)
    → sees negated set (Some (get_or kinds k d)) ≡ true → old ≡ kinds_refused negated set (take (k + 1) kinds)
refused-kept negated set kinds k d old lt so_far holds =
    omega (arith, so_far, refused_more negated set kinds k d lt, cond-true (sees negated set (Some (get_or kinds k d))) 0 (2 ^ k) holds)

-- Whether a lookaround holds where a code is, by what its set says of the code.
pub sees-not : (negated found : Bool) (set : ℕ → Bool) (c : ℕ) → found ≡ set c → beq found negated ≡ true → sees negated set (Some c) ≡ false
unfolding sees is_in
sees-not false found set c is e = sym is ∙ beq-true found false e
sees-not true found set c is e = ap not (sym is ∙ beq-true found true e)

pub sees-so : (negated found : Bool) (set : ℕ → Bool) (c : ℕ) → found ≡ set c → beq found negated ≡ false → sees negated set (Some c) ≡ true
unfolding sees is_in
sees-so false true set c is e = sym is
sees-so false false set c is e = absurd (false≢true (sym e))
sees-so true true set c is e = absurd (false≢true (sym e))
sees-so true false set c is e = ap not (sym is)

some_power : (j : ℕ) → 0 < 2 ^ j
some_power zero = omega arith
some_power (suc j) = omega (arith, some_power j)

-- The kinds apart from the kind `k`, and all kinds.
within_others : (m k : ℕ) (b : Bool) → k < 128 → bit_at m k ≡ (if b then 0 else 1) → within m (bit_not w128 (2 ^ k)) ≡ b
within_others m k b lt is =
    ap (λ x. bit_and m x == 0) (twice (2 ^ k) (pow_below k 128 lt)) ∙ ap (λ x. x == 0) (and_pow m k) ∙ bit_is b is
  where
    twice : (x : ℕ) → x < 2 ^ 128 → bit_not w128 (bit_not w128 x) ≡ x
    twice x small = omega arith

    bit_is : (b : Bool) → bit_at m k ≡ (if b then 0 else 1) → (bit_at m k * 2 ^ k == 0) ≡ b
    bit_is true e = eq-eqb (bit_at m k * 2 ^ k) 0 (ap (λ x. x * 2 ^ k) e ∙ omega arith)
    bit_is false e = ne_eqb (bit_at m k * 2 ^ k) 0 (λ z. absurd (omega (arith, z, ap (λ x. x * 2 ^ k) e, some_power k)))

within_all : (m : ℕ) → within m (2 ^ 128 - 1) ≡ true
within_all m =
    let none : bit_not w128 (2 ^ 128 - 1) ≡ 0 = omega arith in
    eq-eqb (bit_and m (bit_not w128 (2 ^ 128 - 1))) 0 (omega (arith, and_le_r m (bit_not w128 (2 ^ 128 - 1)), none))

-- The code is missing, or one of the first `n` codes.
abbrev pub Below : ℕ → Option ℕ → Type 0
Below n None = Unit {0}
Below n (Some c) = c < n

-- What the kinds of a tree say of its guards.
module _ (kinds : LetterTable) (sets : List (ℕ → Bool)) (n : ℕ) (are : IsLetters kinds sets n) (few : length kinds.samples ≤ MOST_LETTERS) where
  -- The sample of a code's kind.
  abbrev sample : ℕ → ℕ
  sample c = get_or kinds.samples (letter_at kinds c) 0

  kind_in : (c : ℕ) → c < n → letter_at kinds c < length kinds.samples
  kind_in c lt = omega (arith, are.same_letter c lt, class_of-lt sets n c lt, are.same_count)

  sample-alike : (c : ℕ) → c < n → alike sets (sample c) c ≡ true
  sample-alike c lt =
      let s = are.same_sample (letter_at kinds c) (kind_in c lt) in
      class_of-only sets n (sample c) c s.within lt (s.in_it ∙ are.same_letter c lt)

  sees-same : (negated : Bool) (set : ℕ → Bool) (c : ℕ) → Finer sets (set ∷ []) → c < n → sees negated set (Some (sample c)) ≡ sees negated set (Some c)
  unfolding sees is_in
  sees-same negated set c finer lt = both_ways negated
    where
      same : set (sample c) ≡ set c
      same = beq-true (set (sample c)) (set c) (and_parts (beq (set (sample c)) (set c)) true (finer (sample c) c (sample-alike c lt))).0

      both_ways : (b : Bool) → sees b set (Some (sample c)) ≡ sees b set (Some c)
      both_ways false = same
      both_ways true = ap not same

  sees-code : (negated : Bool) (set : ℕ → Bool) (c : ℕ) → Finer sets (set ∷ []) → c < n
      → within (kinds_refused negated set kinds.samples) (bit_not w128 (2 ^ letter_at kinds c)) ≡ sees negated set (Some c)
  sees-code negated set c finer lt =
      within_others (kinds_refused negated set kinds.samples) (letter_at kinds c) (sees negated set (Some (sample c))) (omega (arith, kind_in c lt))
      (refused-bit negated set kinds.samples (letter_at kinds c) (kind_in c lt))
      ∙ sees-same negated set c finer lt

  sees-none : (negated : Bool) (set : ℕ → Bool) → ((negated || false) && within (kinds_refused negated set kinds.samples) (2 ^ 128 - 1)) ≡ sees negated set None
  unfolding sees is_in
  sees-none true set = within_all (kinds_refused true set kinds.samples)
  sees-none false set = refl

  sees-some : (negated : Bool) (set : ℕ → Bool) (c : ℕ) → Finer sets (set ∷ []) → c < n
      → ((negated || true) && within (kinds_refused negated set kinds.samples) (bit_not w128 (2 ^ letter_at kinds c))) ≡ sees negated set (Some c)
  sees-some true set c finer lt = sees-code true set c finer lt
  sees-some false set c finer lt = sees-code false set c finer lt

  flag-holds : (g : Guard) (b d : Option ℕ) → Finer sets (sets_named g) → Below n b → Below n d → flag kinds g (holding (shown kinds b) (shown kinds d)) ≡ holds g b d
  unfolding holding looks_holding nothing_shown code_shown holds is_in
  flag-holds Start None d f p q = refl
  flag-holds Start (Some c) d f p q = refl
  flag-holds LineStart None d f p q = refl
  flag-holds LineStart (Some c) d f p q = refl
  flag-holds LineEnd b None f p q = refl
  flag-holds LineEnd b (Some e) f p q = refl
  flag-holds TextEnd b None f p q = refl
  flag-holds TextEnd b (Some e) f p q = refl
  flag-holds (Word false) None None f p q = refl
  flag-holds (Word false) None (Some e) f p q = refl
  flag-holds (Word false) (Some c) None f p q = refl
  flag-holds (Word false) (Some c) (Some e) f p q = refl
  flag-holds (Word true) None None f p q = refl
  flag-holds (Word true) None (Some e) f p q = refl
  flag-holds (Word true) (Some c) None f p q = refl
  flag-holds (Word true) (Some c) (Some e) f p q = refl
  flag-holds (NotWord false) None None f p q = refl
  flag-holds (NotWord false) None (Some e) f p q = refl
  flag-holds (NotWord false) (Some c) None f p q = refl
  flag-holds (NotWord false) (Some c) (Some e) f p q = refl
  flag-holds (NotWord true) None None f p q = refl
  flag-holds (NotWord true) None (Some e) f p q = refl
  flag-holds (NotWord true) (Some c) None f p q = refl
  flag-holds (NotWord true) (Some c) (Some e) f p q = refl
  flag-holds (Look true negated ranges) None d f p q = sees-none negated (has ranges)
  flag-holds (Look true negated ranges) (Some c) d f p q = sees-some negated (has ranges) c f p
  flag-holds (Look false negated ranges) b None f p q = sees-none negated (has ranges)
  flag-holds (Look false negated ranges) b (Some e) f p q = sees-some negated (has ranges) e f q

  -- Each guard of a list holds if the set of the list is met.
  pub met-all_hold : (gs : List Guard) (b d : Option ℕ) → GuardsKnown sets gs → Below n b → Below n d
      → met (guard_set kinds gs) (holding (shown kinds b) (shown kinds d)) ≡ all_hold gs b d
  met-all_hold [] b d known p q = none-met (holding (shown kinds b) (shown kinds d))
  met-all_hold (g ∷ gs) b d known p q =
      met-joined (only kinds g) (guard_set kinds gs) (holding (shown kinds b) (shown kinds d))
      ∙ ap₂ (λ x y. x && y) (one-met kinds g (holding (shown kinds b) (shown kinds d)) ∙ flag-holds g b d known.0 p q) (met-all_hold gs b d known.1 p q)
