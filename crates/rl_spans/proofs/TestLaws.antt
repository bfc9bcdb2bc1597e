-- The tests of the places of a tree.
use Rattle.std.proofs.Common.{◌≡◌, ℕ, ◌+◌, ◌-◌, ◌<◌, inl, inr, Bool, false, nat_lt, [], ◌∷◌, ◌++◌, length, map, get_or, zero-add, refl, sym, ap, ◌∙◌, arith}
use Rattle.std.specs.Prelude.{if◌then◌else◌}
use Rattle.std.proofs.lemmas.Bool.{cases_lt, cond-true, cond-false, lt-ltb, le-ltb}
use Rattle.std.proofs.lemmas.List.{length-append, length-map, get_or-map, get_or_append_left, get_or-append_right}
use Rattle.rl_syntax.specs.Tree.{Tree, empty, one, guard, both, either, many, places, sets_in}
use Rattle.rl_prio.specs.Items.{set_of}
use Rattle.rl_marks.specs.Marked.{Marked, plain}
use Rattle.rl_marks.specs.internal.MarkItems as Marks
use Rattle.rl_spans.specs.internal.Sides.{tests_at}

length-sets_in : (t : Tree) → length (sets_in t) ≡ places t
length-sets_in empty = refl
length-sets_in (one s) = refl
length-sets_in (guard g) = refl
length-sets_in (both e f) = omega (arith, length-append (sets_in e) (sets_in f), length-sets_in e, length-sets_in f)
length-sets_in (either e f) = omega (arith, length-append (sets_in e) (sets_in f), length-sets_in e, length-sets_in f)
length-sets_in (many e greedy) = length-sets_in e

set_parts : (e f : Tree) (b k c : ℕ) (d : ℕ → Bool) → k < places e + places f
    → (k < places e → get_or (sets_in e) k d c ≡ set_of e b (b + k) c)
    → ((j : ℕ) → j < places f → get_or (sets_in f) j d c ≡ set_of f (b + places e) (b + places e + j) c)
    → get_or (sets_in e ++ sets_in f) k d c ≡ (if nat_lt (b + k) (b + places e) then set_of e b (b + k) c else set_of f (b + places e) (b + k) c)
set_parts e f b k c d lt left right = elim (cases_lt k (places e)) [
  | inl h ↦
      let inside : k < length (sets_in e) = omega (arith, length-sets_in e) in
      ap (λ s. s c) (get_or_append_left (sets_in e) (sets_in f) d k inside) ∙ left h
      ∙ sym (cond-true (nat_lt (b + k) (b + places e)) (set_of e b (b + k) c) (set_of f (b + places e) (b + k) c) (lt-ltb (b + k) (b + places e) (omega arith)))
  | inr h ↦
      let at : b + places e + (k - places e) ≡ b + k = omega arith in
      ap (λ s. s c) (get_or-append_right (sets_in e) (sets_in f) (places e) k d (length-sets_in e) h) ∙ right (k - places e) (omega arith)
      ∙ ap (λ j. set_of f (b + places e) j c) at
      ∙ sym (cond-false (nat_lt (b + k) (b + places e)) (set_of e b (b + k) c) (set_of f (b + places e) (b + k) c) (le-ltb (b + k) (b + places e) (omega arith)))
]

-- The set at a place.
set_at : (t : Tree) (b k c : ℕ) (d : ℕ → Bool) → k < places t → get_or (sets_in t) k d c ≡ set_of t b (b + k) c
set_at empty b k c d lt = absurd (omega arith)
set_at (one s) b k c d lt = let at : k ≡ 0 = omega arith in ap (λ j. get_or (s ∷ []) j d c) at
set_at (guard g) b k c d lt = absurd (omega arith)
set_at (both e f) b k c d lt = set_parts e f b k c d lt (λ h. set_at e b k c d h) (λ j h. set_at f (b + places e) j c d h)
set_at (either e f) b k c d lt = set_parts e f b k c d lt (λ h. set_at e b k c d h) (λ j h. set_at f (b + places e) j c d h)
set_at (many e greedy) b k c d lt = set_at e b k c d lt

pub tests-count : (m : Marked) (code : ℕ) → length (tests_at m code) ≡ Marks.places m
tests-count m code = length-map (sets_in (plain m)) (λ (set : ℕ → Bool). set code) ∙ length-sets_in (plain m)

pub tests-are : (m : Marked) (code p : ℕ) → p < length (tests_at m code) → get_or (tests_at m code) p false ≡ Marks.set_of m 0 p code
tests-are m code p lt =
    let inside : p < places (plain m) = omega (arith, tests-count m code) in
    let here : p < length (sets_in (plain m)) = omega (arith, length-sets_in (plain m)) in
    let of_set : get_or (map (λ (set : ℕ → Bool). set code) (sets_in (plain m))) p false ≡ get_or (sets_in (plain m)) p (λ x. false) code
    = get_or-map (λ (set : ℕ → Bool). set code) (sets_in (plain m)) p (λ x. false) false here in
    of_set ∙ set_at (plain m) 0 p code (λ x. false) inside ∙ ap (λ j. set_of (plain m) 0 j code) (zero-add p)
