-- A place one byte further.
use Rattle.std.proofs.Common.{◌≡◌, ℕ, zero, suc, ◌+◌, ◌-◌, ◌<◌, ◌≤◌, min, max, cond, not, List, [], ◌∷◌, ◌++◌, length, get_or, take, drop, reverse, refl, ap, ap₂, sym, ◌∙◌, arith, ⊎_elim}
use Rattle.std.specs.List.{count_by, take_while, prefix_len}
use Rattle.std.proofs.lemmas.List.{reverse-append, length-drop, drop-drop, length-take, length-reverse, take_more}
use Rattle.std.proofs.lemmas.List.Sums.{take_while-cons, sum_by_push, sum_by-cons, count_by-le-length}
use Rattle.std.proofs.lemmas.Bool.{cases_lt}
use Rattle.rl_pylex.specs.Bytes.{text_start}
use Rattle.rl_report.specs.declared.places.Place.{Place}
use Rattle.rl_report.specs.declared.places.Role.{Role}
use Rattle.rl_report.specs.declared.places.Role.TheVariants.{EndsLine, BeginsCode, GoesOn}
use Rattle.rl_report.specs.Places.{roles, role_at, ends_line, begins_code, of_last_line, place_behind, place_of, after}

last_line_more : (before : List Role) (r : Role) → of_last_line (before ++ r ∷ []) ≡ cond (not (ends_line r)) (r ∷ of_last_line before) []
last_line_more before r =
    ap (take_while (λ q. not (ends_line q))) (reverse-append before (r ∷ [])) ∙ take_while-cons (λ q. not (ends_line q)) r (reverse before)

line_more : (before : List Role) (r : Role) → count_by ends_line (before ++ r ∷ []) ≡ count_by ends_line before + cond (ends_line r) 1 0
line_more before r = sum_by_push (λ q. cond (ends_line q) 1 0) before r

column_more : (before : List Role) (r : Role) → count_by begins_code (of_last_line (before ++ r ∷ []))
    ≡ cond (not (ends_line r)) (cond (begins_code r) 1 0 + count_by begins_code (of_last_line before)) 0
column_more before EndsLine = ap (count_by begins_code) (last_line_more before EndsLine)
column_more before BeginsCode =
    ap (count_by begins_code) (last_line_more before BeginsCode) ∙ sum_by-cons (λ q. cond (begins_code q) 1 0) BeginsCode (of_last_line before)
column_more before GoesOn =
    ap (count_by begins_code) (last_line_more before GoesOn) ∙ sum_by-cons (λ q. cond (begins_code q) 1 0) GoesOn (of_last_line before)

at_place : ℕ → ℕ → Place
at_place l c = record { line = l; column = c }

-- The place after one more byte.
behind_more : (before : List Role) (r : Role) → place_behind (before ++ r ∷ []) ≡ after r (place_behind before)
unfolding at_place
behind_more before EndsLine =
    ap₂ at_place (omega (arith, line_more before EndsLine)) (omega (arith, column_more before EndsLine))
behind_more before BeginsCode =
    ap₂ at_place (omega (arith, line_more before BeginsCode)) (omega (arith, column_more before BeginsCode))
behind_more before GoesOn =
    ap₂ at_place (omega (arith, line_more before GoesOn)) (omega (arith, column_more before GoesOn))

-- Each byte of a text has a role.
pub length-roles : (text : List ℕ) → length (roles text) ≡ length text
length-roles [] = refl
length-roles (c ∷ rest) = ap suc (length-roles rest)

role_there : (text : List ℕ) (n : ℕ) (d : Role) → n < length text → get_or (roles text) n d ≡ role_at (drop n text)
role_there [] n d h = absurd (omega arith)
role_there (c ∷ rest) zero d h = refl
role_there (c ∷ rest) (suc n) d h = role_there rest n d (omega arith)

roles_more : (text : List ℕ) (n : ℕ) → n < length text → take (n + 1) (roles text) ≡ take n (roles text) ++ role_at (drop n text) ∷ []
roles_more text n h =
    take_more (roles text) n BeginsCode (omega (arith, length-roles text))
    ∙ ap (λ r. take n (roles text) ++ r ∷ []) (role_there text n BeginsCode h)

step_is : (s : List ℕ) (t n at : ℕ) → t + n ≡ at → at < length s
    → take (n + 1) (roles (drop t s)) ≡ take n (roles (drop t s)) ++ role_at (drop at s) ∷ []
step_is s t n at e h =
    let within : n < length (drop t s) = omega (arith, length-drop t s) in
    roles_more (drop t s) n within ∙ ap (λ xs. take n (roles (drop t s)) ++ role_at xs ∷ []) (drop-drop n t s ∙ ap (λ k. drop k s) e)

pub place_more : (s : List ℕ) (at : ℕ) → text_start s ≤ at → at < length s → after (role_at (drop at s)) (place_of s at) ≡ place_of s (at + 1)
unfolding place_of
place_more s at front h =
    let n : at + 1 - text_start s ≡ at - text_start s + 1 = omega arith in
    sym (ap (λ k. place_behind (take k (roles (drop (text_start s) s)))) n
    ∙ ap place_behind (step_is s (text_start s) (at - text_start s) at (omega arith) h)
    ∙ behind_more (take (at - text_start s) (roles (drop (text_start s) s))) (role_at (drop at s)))

-- Up to the beginning of the text the place stays the same.
pub place_front : (s : List ℕ) (a b : ℕ) → a ≤ text_start s → b ≤ text_start s → place_of s a ≡ place_of s b
unfolding place_of
place_front s a b h k =
    let e : a - text_start s ≡ b - text_start s = omega arith in
    ap (λ n. place_behind (take n (roles (drop (text_start s) s)))) e

pub place_enters : (s : List ℕ) (a byte : ℕ) (p : Place) → p ≡ place_of s a → a ≤ byte → p ≡ place_of s (min (max a (text_start s)) byte)
place_enters s a byte p e h =
    ⊎_elim
    (λ (before : a < text_start s). e ∙ place_front s a (min (max a (text_start s)) byte) (omega arith) (omega arith))
    (λ (behind : text_start s ≤ a). e ∙ ap (place_of s) (enter a (text_start s) byte behind h))
    (cases_lt a (text_start s))
  where
    enter : (m n k : ℕ) → n ≤ m → m ≤ k → m ≡ min (max m n) k
    enter m n k l r = omega arith

few_take : (n : ℕ) (rs : List Role) → length (take n rs) ≤ n
few_take n rs = omega (arith, length-take n rs)

few_last : (rs : List Role) → length (of_last_line rs) ≤ length rs
few_last rs =
    omega (arith, length-take (prefix_len (λ r. not (ends_line r)) (reverse rs)) (reverse rs), length-reverse rs)

pub place_small : (s : List ℕ) (n : ℕ) → ((place_of s n).line ≤ n + 1) × ((place_of s n).column ≤ n + 1)
unfolding place_of
place_small s n =
    let before = take (n - text_start s) (roles (drop (text_start s) s)) in
    let few = few_take (n - text_start s) (roles (drop (text_start s) s)) in (
      omega (arith, few, count_by-le-length ends_line before),
      omega (arith, few, few_last before, count_by-le-length begins_code (of_last_line before)),
    )

pub place_start : (s : List ℕ) → record { line = 1; column = 1 } ≡ place_of s 0
unfolding place_of
place_start s = let e : 0 - text_start s ≡ 0 = omega arith in ap (λ n. place_behind (take n (roles (drop (text_start s) s)))) (sym e)

pub ruleset steps = (place_more, place_enters, place_small, place_start)
