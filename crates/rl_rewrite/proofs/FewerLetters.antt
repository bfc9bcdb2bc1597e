-- A tree with fewer alternatives distinguishes no more codes.
use Rattle.std.proofs.Common.{◌≡◌, ℕ, ◌≤◌, Bool, true, false, ◌&&◌, List, [], ◌∷◌, ◌++◌, length, refl, sym, ap, ◌∙◌}
use Rattle.std.proofs.Math.Bool.{beq}
use Rattle.rl_ranges.specs.declared.universe.Universe.{Universe}
use Rattle.rl_ranges.specs.Letters.{alike, classes}
use Rattle.rl_ranges.specs.Text.{code_count}
use Rattle.rl_ranges.proofs.FirstsLemmas.{firsts-finer}
use Rattle.rl_ranges.proofs.LetterLemmas.{classes-firsts, IsLikeness-alike}
use Rattle.rl_syntax.specs.Tree.{Tree, sets_in, guard_sets}
use Rattle.rl_prio.specs.Letters.{all_sets}
use Rattle.rl_equiv.specs.SetPairs.{joint_letters}
use Rattle.rl_equiv.proofs.BaseLaws.{joint-known}
use Rattle.rl_rewrite.proofs.Fewer.{Fewer, same_tree, in_both, in_either, in_many, first_goes, second_goes, and_first, and_second}

both_hold : (a b : Bool) → a ≡ true → b ≡ true → (a && b) ≡ true
both_hold a b p q = ap (λ z. z && b) p ∙ q

join_alike : (xs ys : List (ℕ → Bool)) (c d : ℕ) → (alike (xs ++ ys) c d) ≡ (alike xs c d && alike ys c d)
join_alike [] ys c d = refl
join_alike (x ∷ xs) ys c d = ap (λ b. beq (x c) (x d) && b) (join_alike xs ys c d) ∙ assoc (beq (x c) (x d)) (alike xs c d) (alike ys c d)
  where
    assoc : (a b e : Bool) → (a && (b && e)) ≡ ((a && b) && e)
    assoc true b e = refl
    assoc false b e = refl

-- Codes that the smaller tree distinguishes are distinguished by the greater one.
sets_fewer : {s t : Tree} → Fewer s t → (c d : ℕ) → alike (sets_in t) c d ≡ true → alike (sets_in s) c d ≡ true
sets_fewer same_tree c d h = h
sets_fewer (in_both {a = a} {b = b} {e = e} {f = f} h k) c d x =
    let y = sym (join_alike (sets_in b) (sets_in f) c d) ∙ x in
    join_alike (sets_in a) (sets_in e) c d ∙ both_hold (alike (sets_in a) c d) (alike (sets_in e) c d) (sets_fewer h c d (and_first (alike (sets_in b) c d) (alike (sets_in f) c d) y)) (sets_fewer k c d (and_second (alike (sets_in b) c d) (alike (sets_in f) c d) y))
sets_fewer (in_either {a = a} {b = b} {e = e} {f = f} h k) c d x =
    let y = sym (join_alike (sets_in b) (sets_in f) c d) ∙ x in
    join_alike (sets_in a) (sets_in e) c d ∙ both_hold (alike (sets_in a) c d) (alike (sets_in e) c d) (sets_fewer h c d (and_first (alike (sets_in b) c d) (alike (sets_in f) c d) y)) (sets_fewer k c d (and_second (alike (sets_in b) c d) (alike (sets_in f) c d) y))
sets_fewer (in_many h) c d x = sets_fewer h c d x
sets_fewer (first_goes {e = e} {f = f} h) c d x = sets_fewer h c d (and_second (alike (sets_in e) c d) (alike (sets_in f) c d) (sym (join_alike (sets_in e) (sets_in f) c d) ∙ x))
sets_fewer (second_goes {e = e} {f = f} h) c d x = sets_fewer h c d (and_first (alike (sets_in e) c d) (alike (sets_in f) c d) (sym (join_alike (sets_in e) (sets_in f) c d) ∙ x))

guards_fewer : {s t : Tree} → Fewer s t → (c d : ℕ) → alike (guard_sets t) c d ≡ true → alike (guard_sets s) c d ≡ true
guards_fewer same_tree c d h = h
guards_fewer (in_both {a = a} {b = b} {e = e} {f = f} h k) c d x =
    let y = sym (join_alike (guard_sets b) (guard_sets f) c d) ∙ x in
    join_alike (guard_sets a) (guard_sets e) c d ∙ both_hold (alike (guard_sets a) c d) (alike (guard_sets e) c d) (guards_fewer h c d (and_first (alike (guard_sets b) c d) (alike (guard_sets f) c d) y)) (guards_fewer k c d (and_second (alike (guard_sets b) c d) (alike (guard_sets f) c d) y))
guards_fewer (in_either {a = a} {b = b} {e = e} {f = f} h k) c d x =
    let y = sym (join_alike (guard_sets b) (guard_sets f) c d) ∙ x in
    join_alike (guard_sets a) (guard_sets e) c d ∙ both_hold (alike (guard_sets a) c d) (alike (guard_sets e) c d) (guards_fewer h c d (and_first (alike (guard_sets b) c d) (alike (guard_sets f) c d) y)) (guards_fewer k c d (and_second (alike (guard_sets b) c d) (alike (guard_sets f) c d) y))
guards_fewer (in_many h) c d x = guards_fewer h c d x
guards_fewer (first_goes {e = e} {f = f} h) c d x = guards_fewer h c d (and_second (alike (guard_sets e) c d) (alike (guard_sets f) c d) (sym (join_alike (guard_sets e) (guard_sets f) c d) ∙ x))
guards_fewer (second_goes {e = e} {f = f} h) c d x = guards_fewer h c d (and_first (alike (guard_sets e) c d) (alike (guard_sets f) c d) (sym (join_alike (guard_sets e) (guard_sets f) c d) ∙ x))

pub all_fewer : {s t : Tree} → Fewer s t → (c d : ℕ) → alike (all_sets t) c d ≡ true → alike (all_sets s) c d ≡ true
all_fewer {s} {t} h c d x =
    let y = sym (join_alike (sets_in t) (guard_sets t) c d) ∙ x in
    join_alike (sets_in s) (guard_sets s) c d ∙ both_hold (alike (sets_in s) c d) (alike (guard_sets s) c d) (sets_fewer h c d (and_first (alike (sets_in t) c d) (alike (guard_sets t) c d) y)) (guards_fewer h c d (and_second (alike (sets_in t) c d) (alike (guard_sets t) c d) y))

-- The letters of both trees are the letters of the greater one.
pub joint_fewer : (u : Universe) {s t : Tree} → Fewer s t → joint_letters u t s ≡ classes (all_sets t) (code_count u)
joint_fewer u {s} {t} h = joint-known u t s (all_fewer h)

-- And it has no more letters.
pub letters_fewer : (n : ℕ) {s t : Tree} → Fewer s t → length (classes (all_sets s) n) ≤ length (classes (all_sets t) n)
letters_fewer n {s} {t} h =
    rw (classes-firsts (all_sets s) n, classes-firsts (all_sets t) n) (firsts-finer (alike (all_sets s)) (alike (all_sets t)) (IsLikeness-alike (all_sets s)) (all_fewer h) n)
