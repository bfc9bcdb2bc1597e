-- The lengths of the item lists of a tree: the lists of a part are no longer than the longest list of the whole.
use Rattle.std.proofs.Common.{◌≡◌, ℕ, zero, suc, ◌+◌, ◌-◌, ◌<◌, ◌≤◌, ◌⊎◌, inl, inr, Bool, true, false, List, [], ◌∷◌, ◌++◌, length, get_or, nat_lt, refl, sym, ap, ◌∙◌, arith, length-append}
use Rattle.std.proofs.lemmas.Bool.{cases_lt, cond-true, cond-false, lt-ltb, le-ltb}
use Rattle.std.proofs.lemmas.List.{get_or-append-add, get_or_append_left}
use Rattle.rl_syntax.specs.declared.anchors.Guard.{Guard}
use Rattle.rl_syntax.specs.Tree.{Tree, empty, one, guard, both, either, many, places}
use Rattle.rl_syntax.specs.Run.{one_more}
use Rattle.rl_prio.specs.Items.{Item, test_at, pass, all_guarded, replaced, first, after, longest_of, longest}
use Rattle.rl_prio.specs.internal.Attempts.{followed, lists_of, widest, width_of}

-- ---- some list of a tree has an end

abbrev HasEnd : List Item → Type 0
HasEnd [] = ⊥
HasEnd (test_at gs p ∷ l) = HasEnd l
HasEnd (pass gs ∷ l) = Unit {0}

abbrev SomeEnd : List (List Item) → Type 0
SomeEnd [] = ⊥
SomeEnd (l ∷ ls) = HasEnd l ⊎ SomeEnd ls

HasEnd-left : (l m : List Item) → HasEnd l → HasEnd (l ++ m)
HasEnd-left [] m h = absurd h
HasEnd-left (test_at gs p ∷ l) m h = HasEnd-left l m h
HasEnd-left (pass gs ∷ l) m h = tt

HasEnd-right : (l m : List Item) → HasEnd m → HasEnd (l ++ m)
HasEnd-right [] m h = h
HasEnd-right (test_at gs p ∷ l) m h = HasEnd-right l m h
HasEnd-right (pass gs ∷ l) m h = tt

HasEnd-guarded : (gs : List Guard) (l : List Item) → HasEnd l → HasEnd (all_guarded gs l)
HasEnd-guarded gs [] h = absurd h
HasEnd-guarded gs (test_at hs p ∷ l) h = HasEnd-guarded gs l h
HasEnd-guarded gs (pass hs ∷ l) h = tt

HasEnd-replaced : (l m : List Item) → HasEnd l → HasEnd m → HasEnd (replaced l m)
HasEnd-replaced [] m h k = absurd h
HasEnd-replaced (test_at gs p ∷ l) m h k = HasEnd-replaced l m h k
HasEnd-replaced (pass gs ∷ l) m h k = HasEnd-left (all_guarded gs m) (replaced l m) (HasEnd-guarded gs m k)

SomeEnd-left : (xs ys : List (List Item)) → SomeEnd xs → SomeEnd (xs ++ ys)
SomeEnd-left [] ys h = absurd h
SomeEnd-left (l ∷ xs) ys (inl h) = inl h
SomeEnd-left (l ∷ xs) ys (inr h) = inr (SomeEnd-left xs ys h)

SomeEnd-right : (xs ys : List (List Item)) → SomeEnd ys → SomeEnd (xs ++ ys)
SomeEnd-right [] ys h = h
SomeEnd-right (l ∷ xs) ys h = inr (SomeEnd-right xs ys h)

SomeEnd-followed : (ls : List (List Item)) (m : List Item) → SomeEnd ls → HasEnd m → SomeEnd (followed ls m)
SomeEnd-followed [] m h k = absurd h
SomeEnd-followed (l ∷ ls) m (inl h) k = inl (HasEnd-replaced l m h k)
SomeEnd-followed (l ∷ ls) m (inr h) k = inr (SomeEnd-followed ls m h k)

one_more-end : (greedy : Bool) (l : List Item) → HasEnd (one_more greedy (pass []) l)
one_more-end true l = HasEnd-right l (pass [] ∷ []) tt
one_more-end false l = tt

some_end : (t : Tree) (b : ℕ) → HasEnd (first t b) ⊎ SomeEnd (lists_of t b)
some_end empty b = inl tt
some_end (one s) b = inr (inl tt)
some_end (guard g) b = inl tt
some_end (both e f) b = elim (some_end f (b + places e)) [
  | inr h ↦ inr (SomeEnd-right (followed (lists_of e b) (first f (b + places e))) (lists_of f (b + places e)) h)
  | inl h ↦ elim (some_end e b) [
    | inl k ↦ inl (HasEnd-replaced (first e b) (first f (b + places e)) k h)
    | inr k ↦ inr (SomeEnd-left (followed (lists_of e b) (first f (b + places e))) (lists_of f (b + places e)) (SomeEnd-followed (lists_of e b) (first f (b + places e)) k h))
  ]
]
some_end (either e f) b = elim (some_end e b) [
  | inl h ↦ inl (HasEnd-left (first e b) (first f (b + places e)) h)
  | inr h ↦ inr (SomeEnd-left (lists_of e b) (lists_of f (b + places e)) h)
]
some_end (many e greedy) b = inl (one_more-end greedy (first e b))

-- ---- lengths

length-guarded : (gs : List Guard) (l : List Item) → length (all_guarded gs l) ≡ length l
length-guarded gs [] = refl
length-guarded gs (m ∷ l) = ap suc (length-guarded gs l)

replaced-longer : (l m : List Item) → 1 ≤ length m → length l ≤ length (replaced l m)
replaced-longer [] m some = omega arith
replaced-longer (test_at gs p ∷ l) m some = omega (arith, replaced-longer l m some)
replaced-longer (pass gs ∷ l) m some =
    omega (arith, length-append (all_guarded gs m) (replaced l m), length-guarded gs m, replaced-longer l m some)

replaced-further : (l m : List Item) → HasEnd l → length m ≤ length (replaced l m)
replaced-further [] m h = absurd h
replaced-further (test_at gs p ∷ l) m h = omega (arith, replaced-further l m h)
replaced-further (pass gs ∷ l) m h = omega (arith, length-append (all_guarded gs m) (replaced l m), length-guarded gs m)

length-more : (greedy : Bool) (x : Item) (l : List Item) → length (one_more greedy x l) ≡ suc (length l)
length-more true x l = omega (arith, length-append l (x ∷ []))
length-more false x l = refl

first-some : (t : Tree) (b : ℕ) → 1 ≤ length (first t b)
first-some empty b = omega arith
first-some (one s) b = omega arith
first-some (guard g) b = omega arith
first-some (both e f) b =
    omega (arith, first-some e b, replaced-longer (first e b) (first f (b + places e)) (first-some f (b + places e)))
first-some (either e f) b = omega (arith, first-some e b, length-append (first e b) (first f (b + places e)))
first-some (many e greedy) b = omega (arith, length-more greedy (pass []) (first e b))

pub widest-left : (xs ys : List (List Item)) → widest xs ≤ widest (xs ++ ys)
widest-left [] ys = omega arith
widest-left (l ∷ xs) ys = omega (arith, widest-left xs ys)

widest-right : (xs ys : List (List Item)) → widest ys ≤ widest (xs ++ ys)
widest-right [] ys = omega arith
widest-right (l ∷ xs) ys = omega (arith, widest-right xs ys)

pub widest-within : (xs ys : List (List Item)) (n : ℕ) → widest xs ≤ n → widest ys ≤ n → widest (xs ++ ys) ≤ n
widest-within [] ys n p q = q
widest-within (l ∷ xs) ys n p q = omega (arith, widest-within xs ys n (omega arith) q)

widest-followed : (ls : List (List Item)) (m : List Item) → 1 ≤ length m → widest ls ≤ widest (followed ls m)
widest-followed [] m some = omega arith
widest-followed (l ∷ ls) m some = omega (arith, replaced-longer l m some, widest-followed ls m some)

followed-further : (ls : List (List Item)) (m : List Item) → SomeEnd ls → length m ≤ widest (followed ls m)
followed-further [] m h = absurd h
followed-further (l ∷ ls) m (inl h) = omega (arith, replaced-further l m h)
followed-further (l ∷ ls) m (inr h) = omega (arith, followed-further ls m h)

pub widest-at : (ls : List (List Item)) (k : ℕ) → k < length ls → length (get_or ls k []) ≤ widest ls
widest-at [] k lt = absurd (omega arith)
widest-at (l ∷ ls) zero lt = omega arith
widest-at (l ∷ ls) (suc k) lt = omega (arith, widest-at ls k (omega arith))

pub widest-all : (ls : List (List Item)) (n : ℕ) → ((k : ℕ) → k < length ls → length (get_or ls k []) ≤ n) → widest ls ≤ n
widest-all [] n h = omega arith
widest-all (l ∷ ls) n h =
    let here : length l ≤ n = h 0 (omega arith) in
    omega (arith, widest-all ls n (λ k lt. h (suc k) (omega arith)))

-- ---- the parts of a tree

module _ (e f : Tree) (b : ℕ) where
  pub width-both_left : width_of e b ≤ width_of (both e f) b
  width-both_left =
      let m = first f (b + places e) in
      omega (
        arith,
        replaced-longer (first e b) m (first-some f (b + places e)),
        widest-followed (lists_of e b) m (first-some f (b + places e)),
        widest-left (followed (lists_of e b) m) (lists_of f (b + places e)),
      )

  further_within : length (first f (b + places e)) ≤ width_of (both e f) b
  further_within =
      let m = first f (b + places e) in
      elim (some_end e b) [
        | inl h ↦ omega (arith, replaced-further (first e b) m h)
        | inr h ↦ omega (arith, followed-further (lists_of e b) m h, widest-left (followed (lists_of e b) m) (lists_of f (b + places e)))
      ]

  pub width-both_right : width_of f (b + places e) ≤ width_of (both e f) b
  width-both_right =
      omega (arith, further_within, widest-right (followed (lists_of e b) (first f (b + places e))) (lists_of f (b + places e)))

  pub width-either_left : width_of e b ≤ width_of (either e f) b
  width-either_left =
      omega (arith, length-append (first e b) (first f (b + places e)), widest-left (lists_of e b) (lists_of f (b + places e)))

  pub width-either_right : width_of f (b + places e) ≤ width_of (either e f) b
  width-either_right =
      omega (arith, length-append (first e b) (first f (b + places e)), widest-right (lists_of e b) (lists_of f (b + places e)))

pub width-many : (e : Tree) (greedy : Bool) (b : ℕ) → width_of e b ≤ width_of (many e greedy) b
width-many e greedy b =
    omega (arith, length-more greedy (pass []) (first e b), widest-followed (lists_of e b) (first (many e greedy) b) (first-some (many e greedy) b))

-- ---- the lists by place

pub length-followed : (ls : List (List Item)) (m : List Item) → length (followed ls m) ≡ length ls
length-followed [] m = refl
length-followed (l ∷ ls) m = ap suc (length-followed ls m)

pub length-lists_of : (t : Tree) (b : ℕ) → length (lists_of t b) ≡ places t
length-lists_of empty b = refl
length-lists_of (one s) b = refl
length-lists_of (guard g) b = refl
length-lists_of (both e f) b =
    omega (
      arith,
      length-append (followed (lists_of e b) (first f (b + places e))) (lists_of f (b + places e)),
      length-followed (lists_of e b) (first f (b + places e)),
      length-lists_of e b,
      length-lists_of f (b + places e),
    )
length-lists_of (either e f) b =
    omega (arith, length-append (lists_of e b) (lists_of f (b + places e)), length-lists_of e b, length-lists_of f (b + places e))
length-lists_of (many e greedy) b = length-followed (lists_of e b) (first (many e greedy) b) ∙ length-lists_of e b

pub get_or-followed : (ls : List (List Item)) (m : List Item) (k : ℕ) → k < length ls → get_or (followed ls m) k [] ≡ replaced (get_or ls k []) m
get_or-followed [] m k lt = absurd (omega arith)
get_or-followed (l ∷ ls) m zero lt = refl
get_or-followed (l ∷ ls) m (suc k) lt = get_or-followed ls m k (omega arith)

-- A place of the second of two parts.
later : (xs ys : List (List Item)) (k n : ℕ) → length xs ≡ n → n ≤ k → get_or (xs ++ ys) k [] ≡ get_or ys (k - n) []
later xs ys k n len le =
    let at : k ≡ length xs + (k - n) = omega arith in
    ap (λ j. get_or (xs ++ ys) j []) at ∙ get_or-append-add xs ys (k - n) []

pub lists_of-after : (t : Tree) (b k : ℕ) → k < places t → get_or (lists_of t b) k [] ≡ after t b (b + k)
lists_of-after empty b k lt = absurd (omega arith)
lists_of-after (one s) b k lt = let at : k ≡ 0 = omega arith in ap (λ j. get_or ((pass [] ∷ []) ∷ []) j []) at
lists_of-after (guard g) b k lt = absurd (omega arith)
lists_of-after (both e f) b k lt =
    let m = first f (b + places e) in
    let xs = followed (lists_of e b) m in
    let len : length xs ≡ places e = length-followed (lists_of e b) m ∙ length-lists_of e b in
    elim (cases_lt k (places e)) [
      | inl h ↦
          let inside : k < length xs = omega arith in
          let known : k < length (lists_of e b) = omega (arith, length-lists_of e b) in
          get_or_append_left xs (lists_of f (b + places e)) [] k inside
          ∙ get_or-followed (lists_of e b) m k known
          ∙ ap (λ l. replaced l m) (lists_of-after e b k h)
          ∙ sym (cond-true (nat_lt (b + k) (b + places e)) (replaced (after e b (b + k)) m) (after f (b + places e) (b + k)) (lt-ltb (b + k) (b + places e) (omega arith)))
      | inr h ↦
          let at : (b + places e) + (k - places e) ≡ b + k = omega arith in
          later xs (lists_of f (b + places e)) k (places e) len h
          ∙ lists_of-after f (b + places e) (k - places e) (omega arith)
          ∙ ap (after f (b + places e)) at
          ∙ sym (cond-false (nat_lt (b + k) (b + places e)) (replaced (after e b (b + k)) m) (after f (b + places e) (b + k)) (le-ltb (b + k) (b + places e) (omega arith)))
    ]
lists_of-after (either e f) b k lt =
    let xs = lists_of e b in
    let len : length xs ≡ places e = length-lists_of e b in
    elim (cases_lt k (places e)) [
      | inl h ↦
          let inside : k < length xs = omega arith in
          get_or_append_left xs (lists_of f (b + places e)) [] k inside
          ∙ lists_of-after e b k h
          ∙ sym (cond-true (nat_lt (b + k) (b + places e)) (after e b (b + k)) (after f (b + places e) (b + k)) (lt-ltb (b + k) (b + places e) (omega arith)))
      | inr h ↦
          let at : (b + places e) + (k - places e) ≡ b + k = omega arith in
          later xs (lists_of f (b + places e)) k (places e) len h
          ∙ lists_of-after f (b + places e) (k - places e) (omega arith)
          ∙ ap (after f (b + places e)) at
          ∙ sym (cond-false (nat_lt (b + k) (b + places e)) (after e b (b + k)) (after f (b + places e) (b + k)) (le-ltb (b + k) (b + places e) (omega arith)))
    ]
lists_of-after (many e greedy) b k lt =
    let known : k < length (lists_of e b) = omega (arith, length-lists_of e b) in
    get_or-followed (lists_of e b) (first (many e greedy) b) k known ∙ ap (λ l. replaced l (first (many e greedy) b)) (lists_of-after e b k lt)

-- ---- the longest list

pub lists-at : (t : Tree) (p : ℕ) → p < places t → get_or (lists_of t 0) p [] ≡ after t 0 p
lists-at t p lt = let at : 0 + p ≡ p = omega arith in lists_of-after t 0 p lt ∙ ap (after t 0) at

-- Neither the first list nor that after a place is longer.
pub longest-start : (t : Tree) (n : ℕ) → length (first t 0) ≤ longest_of t n
longest-start t zero = omega arith
longest-start t (suc n) = omega (arith, longest-start t n)

pub longest-at : (t : Tree) (n p : ℕ) → p < n → length (after t 0 p) ≤ longest_of t n
longest-at t zero p lt = absurd (omega arith)
longest-at t (suc n) p lt = elim (cases_lt p n) [
  | inl h ↦ omega (arith, longest-at t n p h)
  | inr h ↦ let at : p ≡ n = omega arith in omega (arith, ap (λ q. length (after t 0 q)) at)
]

pub width-longest : (t : Tree) → width_of t 0 ≤ longest t
width-longest t =
    let ls = lists_of t 0 in
    let each : (k : ℕ) → k < length ls → length (get_or ls k []) ≤ longest t = λ k lt.
    let here : k < places t = omega (arith, length-lists_of t 0) in
    omega (arith, ap length (lists-at t k here), longest-at t (places t) k here) in
    omega (arith, longest-start t (places t), widest-all ls (longest t) each)

longest-width_of : (t : Tree) (n : ℕ) → n ≤ places t → longest_of t n ≤ width_of t 0
longest-width_of t zero le = omega arith
longest-width_of t (suc n) le =
    let here : n < places t = omega arith in
    omega (arith, longest-width_of t n (omega arith), ap length (lists-at t n here), widest-at (lists_of t 0) n (omega (arith, length-lists_of t 0)))

pub longest-width : (t : Tree) → longest t ≤ width_of t 0
longest-width t = longest-width_of t (places t) (omega arith)
