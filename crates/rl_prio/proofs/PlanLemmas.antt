-- Lemmas on plans: the attempts of a state, what is shown before it, and the targets of attempts.
use Rattle.std.proofs.Common.{◌≡◌, ℕ, zero, suc, ◌+◌, ◌*◌, ◌^◌, ◌-◌, ◌/◌, ◌%◌, ◌<◌, ◌≤◌, Bool, true, false, ◌&&◌, nat_lt, List, [], ◌∷◌, ◌++◌, length, map, get_or, All, take, refl, sym, ap, ap₂, subst, ◌∙◌, append_assoc, length-append, inl, inr, arith}
use Rattle.std.specs.List.{list_all, flat_map, range_with_len}
use Rattle.std.proofs.lemmas.Bool.{cond-true, cond-false, lt-ltb, le-ltb, cases_lt}
use Rattle.std.proofs.lemmas.List.{get_or_default, get_or_append_left, get_or-append-add, map_more, flat_map_more, take_more}
use Rattle.std.proofs.lemmas.List.FromFn.{length-map-range_with_len, get_or-map-range_with_len, map-range_with_len_more}
use Rattle.std.proofs.lemmas.Nat.{mul-add-lt, mul-le}
use Rattle.std.proofs.Math.Nat.{div-lt_iff_lt-mul}
use Rattle.std.proofs.lemmas.Bool.{and_parts, ltb-true}
use Rattle.rl_ranges.specs.declared.letters.TheConstants.{MOST_LETTERS}
use Rattle.rl_syntax.specs.declared.limits.TheConstants.{MOST_NODES}
use Rattle.rl_prio.specs.internal.GuardSets.{met, nothing_shown, holding}
use Rattle.rl_prio.specs.internal.Attempts.{guards_of, is_unguarded}
use Rattle.rl_prio.specs.internal.Rows.{Rows}
use Rattle.rl_prio.specs.internal.Plans.{plan_letters, plan_kinds, plan_place_states, plan_states, holds_at, test_goes, may_end, end_goes, target_of, move_of, moves_of, attempts_at, before_at, row_of, row_at, each_letter, rows_of_state, rows_before, IsPlaced, IsSound, AreRows}
use Rattle.rl_prio.specs.declared.build.guards.Guards.{Guards}
use Rattle.rl_prio.specs.declared.build.guards.Shown.{Shown}
use Rattle.rl_prio.specs.declared.build.attempts.Attempt.{Attempt}
use Rattle.rl_prio.specs.declared.build.plan.Plan.{Plan}
use Rattle.rl_prio.proofs.GuardLemmas.{unguarded-met}

pub attempts_at-start : (p : Plan) (q : ℕ) → q ≡ 0 → p.first ≡ attempts_at p q
unfolding attempts_at
attempts_at-start p q is = ap (attempts_at p) (sym is)

pub attempts_at-place : (p : Plan) (q : ℕ) → 0 < q → q - 1 < plan_place_states p → get_or p.after.items ((q - 1) / plan_kinds p) [] ≡ attempts_at p q
unfolding attempts_at
attempts_at-place p zero some lt = absurd (omega arith)
attempts_at-place p (suc r) some lt =
    let back : suc r - 1 ≡ r = omega arith in
    ap (λ x. get_or p.after.items (x / plan_kinds p) []) back
    ∙ sym (cond-true (nat_lt r (plan_place_states p)) (get_or p.after.items (r / plan_kinds p) []) [] (lt-ltb r (plan_place_states p) (omega arith)))

pub attempts_at-none : (p : Plan) (q : ℕ) → 0 < q → plan_place_states p ≤ q - 1 → [] ≡ attempts_at p q
unfolding attempts_at
attempts_at-none p zero some le = absurd (omega arith)
attempts_at-none p (suc r) some le =
    sym (cond-false (nat_lt r (plan_place_states p)) (get_or p.after.items (r / plan_kinds p) []) [] (le-ltb r (plan_place_states p) (omega arith)))

pub attempts_at-placed : (p : Plan) (q : ℕ) (l : List Attempt) → IsSound p → l ≡ attempts_at p q → All (IsPlaced (length p.after.items)) l
attempts_at-placed p q l sound is =
    let P : List Attempt → Type 0 = λ x. All (IsPlaced (length p.after.items)) x in subst P (sym is) (sound.placed q)

pub before_at-start : (p : Plan) (q : ℕ) → q ≡ 0 → get_or p.before.items 0 nothing_shown ≡ before_at p q
unfolding before_at
before_at-start p q is = ap (before_at p) (sym is)

pub before_at-place : (p : Plan) (q : ℕ) → 0 < q → get_or p.before.items (1 + (q - 1) % plan_kinds p) nothing_shown ≡ before_at p q
unfolding before_at
before_at-place p zero some = absurd (omega arith)
before_at-place p (suc r) some =
    let back : suc r - 1 ≡ r = omega arith in
    let more : 1 + r % plan_kinds p ≡ suc (r % plan_kinds p) = omega arith in
    let at : 1 + (suc r - 1) % plan_kinds p ≡ suc (r % plan_kinds p) = ap (λ x. 1 + x % plan_kinds p) back ∙ more in
    ap (λ x. get_or p.before.items x nothing_shown) at

pub test_goes-hit : (p : Plan) (place letter : ℕ) → holds_at p place letter ≡ true → suc (place * plan_kinds p + get_or p.kinds_of.items letter 0) ≡ test_goes p place letter
unfolding test_goes
test_goes-hit p place letter hit = sym (cond-true (holds_at p place letter) (suc (place * plan_kinds p + get_or p.kinds_of.items letter 0)) (plan_place_states p + 2) hit)

pub test_goes-miss : (p : Plan) (place letter : ℕ) → holds_at p place letter ≡ false → plan_place_states p + 2 ≡ test_goes p place letter
unfolding test_goes
test_goes-miss p place letter miss = sym (cond-false (holds_at p place letter) (suc (place * plan_kinds p + get_or p.kinds_of.items letter 0)) (plan_place_states p + 2) miss)

pub holds_at-in : (p : Plan) (place letter : ℕ) → holds_at p place letter ≡ true → letter < plan_letters p
unfolding holds_at
holds_at-in p place letter hit = ltb-true letter (plan_letters p) (and_parts (nat_lt letter (plan_letters p)) (get_or (get_or p.members.items place []) letter false) hit).0

pub end_goes-hit : (p : Plan) (letter : ℕ) → may_end p.ending letter (plan_letters p) ≡ true → plan_place_states p + 1 ≡ end_goes p letter
unfolding end_goes
end_goes-hit p letter hit = sym (cond-true (may_end p.ending letter (plan_letters p)) (plan_place_states p + 1) (plan_place_states p + 2) hit)

pub end_goes-miss : (p : Plan) (letter : ℕ) → may_end p.ending letter (plan_letters p) ≡ false → plan_place_states p + 2 ≡ end_goes p letter
unfolding end_goes
end_goes-miss p letter miss = sym (cond-false (may_end p.ending letter (plan_letters p)) (plan_place_states p + 1) (plan_place_states p + 2) miss)

-- The state of a place and a kind is one of the places'
pub place_state : (places kinds place kind : ℕ) → place < places → kind < kinds → place * kinds + kind < places * kinds
place_state places kinds place kind p_in k_in = omega (arith, mul-add-lt place kinds kind places p_in k_in)

-- ---- what is read of a plan

pub attempts_at-read : (p : Plan) (q kinds places : ℕ) (l d : List Attempt) → IsSound p → (q ≡ 0 → ⊥) → places ≡ plan_place_states p → q - 1 < places → kinds ≡ plan_kinds p
    → l ≡ get_or p.after.items ((q - 1) / kinds) d → l ≡ attempts_at p q
attempts_at-read p q kinds places l d sound some same lt is read =
    let below : q - 1 < length p.after.items * plan_kinds p = omega arith in
    let here : (q - 1) / plan_kinds p < length p.after.items = (div-lt_iff_lt-mul {k = plan_kinds p} {x = q - 1} {y = length p.after.items} sound.some_kind).1 below in
    read ∙ ap (λ k. get_or p.after.items ((q - 1) / k) d) is ∙ get_or_default p.after.items ((q - 1) / plan_kinds p) d [] here
    ∙ attempts_at-place p q (omega arith) (omega arith)

pub before_at-read : (p : Plan) (q kinds : ℕ) (x d : Shown) → IsSound p → (q ≡ 0 → ⊥) → kinds ≡ plan_kinds p → x ≡ get_or p.before.items (1 + (q - 1) % kinds) d → x ≡ before_at p q
before_at-read p q kinds x d sound some is read =
    let kept : 0 < plan_kinds p = omega (arith, sound.some_kind) in
    let here : 1 + (q - 1) % plan_kinds p < length p.before.items = omega arith in
    read ∙ ap (λ k. get_or p.before.items (1 + (q - 1) % k) d) is ∙ get_or_default p.before.items (1 + (q - 1) % plan_kinds p) d nothing_shown here
    ∙ before_at-place p q (omega arith)

pub before_at-first : (p : Plan) (q : ℕ) (x d : Shown) → IsSound p → q ≡ 0 → x ≡ get_or p.before.items 0 d → x ≡ before_at p q
before_at-first p q x d sound zero_is read =
    let here : 0 < length p.before.items = omega (arith, sound.some_kind) in
    read ∙ get_or_default p.before.items 0 d nothing_shown here ∙ before_at-start p q zero_is

pub holds_at-read : (p : Plan) (place letter : ℕ) (row d : List Bool) → IsSound p → place < length p.after.items → letter < plan_letters p → row ≡ get_or p.members.items place d
    → get_or row letter false ≡ holds_at p place letter
unfolding holds_at
holds_at-read p place letter row d sound p_in l_in read =
    let here : place < length p.members.items = omega (arith, sound.same_places) in
    ap (λ r. get_or r letter false) (read ∙ get_or_default p.members.items place d [] here)
    ∙ ap (λ b. b && get_or (get_or p.members.items place []) letter false) (sym (lt-ltb letter (plan_letters p) l_in))

pub holds_at-beyond : (p : Plan) (place letter : ℕ) → plan_letters p ≤ letter → nat_lt letter (plan_letters p) ≡ holds_at p place letter
unfolding holds_at
holds_at-beyond p place letter le =
    le-ltb letter (plan_letters p) le ∙ ap (λ b. b && get_or (get_or p.members.items place []) letter false) (sym (le-ltb letter (plan_letters p) le))

-- The state of a place and a kind is small.
pub state_small : (p : Plan) (place kind : ℕ) → IsSound p → place < length p.after.items → kind < plan_kinds p → place * plan_kinds p + kind < MOST_NODES * MOST_LETTERS
state_small p place kind sound p_in k_in =
    omega (arith, place_state (length p.after.items) (plan_kinds p) place kind p_in k_in, mul-le (length p.after.items) (plan_kinds p) MOST_NODES MOST_LETTERS sound.few_places sound.few_kinds)

-- ---- the finished rows

length-rows_of_state : (p : Plan) (q : ℕ) → length (rows_of_state p q) ≡ suc (plan_letters p)
length-rows_of_state p q = length-map-range_with_len (row_at p q) 0 (suc (plan_letters p))

length-rows_before : (p : Plan) (n : ℕ) → length (rows_before p n) ≡ n * suc (plan_letters p)
length-rows_before p zero = omega arith
length-rows_before p (suc n) =
    omega (arith, length-append (rows_before p n) (rows_of_state p n), length-rows_before p n, length-rows_of_state p n)

rows_before-each : (p : Plan) (n q l : ℕ) → q < n → l ≤ plan_letters p → get_or (rows_before p n) (q * suc (plan_letters p) + l) [] ≡ row_at p q l
rows_before-each p zero q l q_in l_in = absurd (omega arith)
rows_before-each p (suc n) q l q_in l_in =
    let l_lt : l < suc (plan_letters p) = omega arith in
    elim (cases_lt q n) [
      | inl lt ↦
          let below : q * suc (plan_letters p) + l < length (rows_before p n) = omega (arith, length-rows_before p n, mul-add-lt q (suc (plan_letters p)) l n lt l_lt) in
          get_or_append_left (rows_before p n) (rows_of_state p n) [] (q * suc (plan_letters p) + l) below ∙ rows_before-each p n q l lt l_in
      | inr le ↦
          let same : q ≡ n = omega arith in
          ap (λ k. get_or (rows_before p (suc n)) (k * suc (plan_letters p) + l) []) same
          ∙ ap (λ k. get_or (rows_before p (suc n)) (k + l) []) (sym (length-rows_before p n))
          ∙ get_or-append-add (rows_before p n) (rows_of_state p n) l []
          ∙ get_or-map-range_with_len (row_at p n) 0 (suc (plan_letters p)) l l [] l_lt (omega arith)
          ∙ ap (λ k. row_at p k l) (sym same)
    ]

kind-read : (p : Plan) (place letter kind d : ℕ) → holds_at p place letter ≡ true → kind ≡ get_or p.kinds_of.items letter d → kind ≡ get_or p.kinds_of.items letter 0
kind-read p place letter kind d hit read = read ∙ get_or_default p.kinds_of.items letter d 0 (holds_at-in p place letter hit)

pub test_goes-small : (p : Plan) (place letter kinds kind d : ℕ) → IsSound p → place < length p.after.items → holds_at p place letter ≡ true → kinds ≡ plan_kinds p
    → kind ≡ get_or p.kinds_of.items letter d → 1 + place * kinds + kind < 2 ^ 32
test_goes-small p place letter kinds kind d sound p_in hit k_is read =
    let below : kind < plan_kinds p = omega (arith, kind-read p place letter kind d hit read, sound.kinds_below letter (holds_at-in p place letter hit)) in
    omega (arith, ap (λ k. place * k) k_is, state_small p place kind sound p_in below)

pub test_goes-read : (p : Plan) (place letter kinds kind d : ℕ) → holds_at p place letter ≡ true → kinds ≡ plan_kinds p
    → kind ≡ get_or p.kinds_of.items letter d → 1 + place * kinds + kind ≡ test_goes p place letter
test_goes-read p place letter kinds kind d hit k_is read =
    let same : 1 + place * kinds + kind ≡ suc (place * plan_kinds p + get_or p.kinds_of.items letter 0) =
    omega (arith, ap (λ k. place * k) k_is, kind-read p place letter kind d hit read) in
    same ∙ test_goes-hit p place letter hit

pub rows-all : (p : Plan) (rows : List (List ℕ)) (n : ℕ) → n ≡ plan_states p → rows ≡ rows_before p n → AreRows p rows
rows-all p rows n is same = record {
  count = ap length same ∙ length-rows_before p n ∙ ap (λ s. s * suc (plan_letters p)) is;
  each = λ q l q_in l_in.
      ap (λ r. get_or r (q * suc (plan_letters p) + l) []) same ∙ rows_before-each p n q l (omega arith) l_in;
}

-- ---- rows that are appended

abbrev put : List ℕ → Rows → Rows
put row r = record r { open_row = r.open_row ++ row }

abbrev closed : Rows → Rows
closed r = record { rows = r.rows ++ r.open_row ∷ []; open_row = [] }

abbrev only : List (List ℕ) → Rows
only rows = record { rows = rows; open_row = [] }

-- The target of one more attempt.
pub target_more : (f : Attempt → ℕ) (old now new : Rows) (l : List Attempt) (i : ℕ) (d : Attempt) (target : ℕ) → i < length l → now ≡ put (map f (take i l)) old → target ≡ f (get_or l i d)
    → new ≡ put (target ∷ []) now → new ≡ put (map f (take (i + 1) l)) old
target_more f old now new l i d target lt so_far goes is =
    is ∙ ap₂ (λ x r. put (x ∷ []) r) goes so_far
    ∙ ap (λ row. let r : Rows = record old { open_row = row } in r)
    (append_assoc old.open_row (map f (take i l)) (f (get_or l i d) ∷ []) ∙ ap (λ row. old.open_row ++ row) (sym (map_more f l i d lt)))

-- The moves of one attempt more.
pub moves_more : (f : Attempt → List ℕ) (old now new : Rows) (l : List Attempt) (i : ℕ) (d : Attempt) → i < length l → now ≡ put (flat_map f (take i l)) old → new ≡ put (f (get_or l i d)) now
    → new ≡ put (flat_map f (take (i + 1) l)) old
moves_more f old now new l i d lt so_far is =
    is ∙ ap (put (f (get_or l i d))) so_far
    ∙ ap (λ row. let r : Rows = record old { open_row = row } in r)
    (flat_map_more f old.open_row (take i l) (get_or l i d) ∙ ap (λ m. old.open_row ++ flat_map f m) (sym (take_more l i d lt)))

-- The row of one letter more.
pub letter_more : (f : ℕ → List ℕ) (old now moved new : Rows) (n : ℕ) → now ≡ only (old.rows ++ map f (range_with_len 0 n)) → moved ≡ put (f n) now → new ≡ closed moved
    → new ≡ only (old.rows ++ map f (range_with_len 0 (n + 1)))
letter_more f old now moved new n before goes ends =
    ends ∙ ap closed (goes ∙ ap (put (f n)) before)
    ∙ ap only (append_assoc old.rows (map f (range_with_len 0 n)) (f n ∷ []) ∙ ap (λ rows. old.rows ++ rows) (sym (map-range_with_len_more f 0 n n (omega arith))))

-- The same if the moves are the moves of attempts whose guards hold.
pub guarded_more : (p : Plan) (before next d : Shown) (l : List Attempt) (held : Guards) (old now moved new : Rows) (n : ℕ) → n < length p.next.items → next ≡ get_or p.next.items n d → held ≡ holding before next
    → now ≡ only (old.rows ++ map (row_of p before l) (range_with_len 0 n)) → moved ≡ put (moves_of p held n l) now → new ≡ closed moved
    → new ≡ only (old.rows ++ map (row_of p before l) (range_with_len 0 (n + 1)))
guarded_more p before next d l held old now moved new n n_in read holds so_far goes ends =
    let same : held ≡ holding before (get_or p.next.items n nothing_shown) =
    holds ∙ ap (holding before) (read ∙ get_or_default p.next.items n d nothing_shown n_in) in
    letter_more (row_of p before l) old now moved new n so_far (goes ∙ ap (λ h. put (moves_of p h n l) now) same) ends

-- The rows of all letters.
pub letters_all : (p : Plan) (f : ℕ → List ℕ) (old now : Rows) (n : ℕ) → n ≡ suc (plan_letters p) → now ≡ only (old.rows ++ map f (range_with_len 0 n))
    → now ≡ only (old.rows ++ each_letter p f)
letters_all p f old now n all so_far = so_far ∙ ap (λ m. only (old.rows ++ map f (range_with_len 0 m))) all

-- ---- attempts without guards

unguarded_moves : (p : Plan) (held : Guards) (letter : ℕ) (l : List Attempt) → list_all is_unguarded l ≡ true → map (target_of p letter) l ≡ moves_of p held letter l
unguarded_moves p held letter [] bare = refl
unguarded_moves p held letter (a ∷ l) bare =
    let parts = and_parts (is_unguarded a) (list_all is_unguarded l) bare in
    let one : move_of p held letter a ≡ target_of p letter a ∷ [] =
    cond-true (met (guards_of a) held) (target_of p letter a ∷ []) [] (unguarded-met (guards_of a) held parts.0) in
    ap (λ r. target_of p letter a ∷ r) (unguarded_moves p held letter l parts.1) ∙ sym (ap (λ m. m ++ moves_of p held letter l) one)

unguarded_rows : (p : Plan) (before : Shown) (l : List Attempt) (letters : List ℕ) → list_all is_unguarded l ≡ true
    → map (λ letter. map (target_of p letter) l) letters ≡ map (row_of p before l) letters
unguarded_rows p before l letters bare =
    ap (λ (f : ℕ → List ℕ). map f letters) (λ i letter. unguarded_moves p (holding before (get_or p.next.items letter nothing_shown)) letter l bare i)

-- Their targets make the rows of their state.
pub unguarded_state : (p : Plan) (q : ℕ) (l : List Attempt) (old new : Rows) → l ≡ attempts_at p q → list_all is_unguarded l ≡ true
    → new ≡ only (old.rows ++ each_letter p (λ letter. map (target_of p letter) l)) → new ≡ only (old.rows ++ rows_of_state p q)
unguarded_state p q l old new is bare goes =
    let letters : List ℕ = range_with_len 0 (suc (plan_letters p)) in
    goes ∙ ap (λ rows. only (old.rows ++ rows)) (unguarded_rows p (before_at p q) l letters bare ∙ ap (λ m. map (row_of p (before_at p q) m) letters) is)
