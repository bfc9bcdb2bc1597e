-- The arguments one by one: whether one has a form, and which one has an index.
use Rattle.std.proofs.Common.{◌≡◌, ℕ, zero, suc, ◌-◌, ◌<◌, ◌≤◌, Bool, true, false, cond, List, [], ◌∷◌, drop, refl, ap, ap₂, sym, ◌∙◌, arith, subst, Some, None}
use Rattle.std.specs.Prelude.{filter, slice_get}
use Rattle.rl_sites.specs.declared.significant.SignificantToken.{SignificantToken}
use Rattle.rl_sites.specs.declared.arguments.Form.{Form}
use Rattle.rl_sites.specs.Arguments.{arguments_of}
use Rattle.rl_sites.specs.internal.Walks.{argument_size, first_argument, others_from, has_form, IsTable}
use Rattle.rl_sites.proofs.Tables.{table_drop}
use Rattle.rl_sites.proofs.Walking.{arguments-front}

parts_of : (s : List ℕ) (rest argument behind : List SignificantToken) → argument ≡ first_argument s rest → behind ≡ drop (argument_size s 0 false rest) rest
    → arguments_of s rest ≡ argument ∷ others_from s behind
parts_of s rest argument behind h k =
    arguments-front s 0 false rest ∙ ap₂ (λ (x y : List SignificantToken). x ∷ others_from s y) (sym h) (sym k)

filter_true : (p : List SignificantToken → Bool) (x : List SignificantToken) (xs : List (List SignificantToken)) → p x ≡ true → filter p (x ∷ xs) ≡ x ∷ filter p xs
filter_true p x xs h = ap (λ b. cond b (x ∷ filter p xs) (filter p xs)) h

filter_false : (p : List SignificantToken → Bool) (x : List SignificantToken) (xs : List (List SignificantToken)) → p x ≡ false → filter p (x ∷ xs) ≡ filter p xs
filter_false p x xs h = ap (λ b. cond b (x ∷ filter p xs) (filter p xs)) h

-- The first argument has the form.
pub find_here : (s : List ℕ) (form : Form) (rest argument behind : List SignificantToken) → argument ≡ first_argument s rest → behind ≡ drop (argument_size s 0 false rest) rest
    → has_form s form argument ≡ true → filter (has_form s form) (arguments_of s rest) ≡ argument ∷ filter (has_form s form) (others_from s behind)
find_here s form rest argument behind h k e =
    ap (filter (has_form s form)) (parts_of s rest argument behind h k) ∙ filter_true (has_form s form) argument (others_from s behind) e

-- The first argument doesn't have the form.
pub find_on : (s : List ℕ) (form : Form) (rest argument behind : List SignificantToken) → argument ≡ first_argument s rest → behind ≡ drop (argument_size s 0 false rest) rest
    → has_form s form argument ≡ false → filter (has_form s form) (arguments_of s rest) ≡ filter (has_form s form) (others_from s behind)
find_on s form rest argument behind h k e =
    ap (filter (has_form s form)) (parts_of s rest argument behind h k) ∙ filter_false (has_form s form) argument (others_from s behind) e

pub table_others : (s : List ℕ) (rest behind others : List SignificantToken) (t : List ℕ) (k : ℕ) → IsTable s rest t → behind ≡ drop k rest → others ≡ drop 1 behind → IsTable s others t
table_others s rest behind others t k h b o =
    subst (λ (xs : List SignificantToken). IsTable s xs t) (sym o) (table_drop s behind t 1 (subst (λ (xs : List SignificantToken). IsTable s xs t) (sym b) (table_drop s rest t k h)))

get_past : (x : List SignificantToken) (n : ℕ) → 0 < n → slice_get (x ∷ []) n ≡ None
get_past x zero h = absurd (omega arith)
get_past x (suc n) h = refl

get_tail : (x : List SignificantToken) (xs : List (List SignificantToken)) (n : ℕ) → 0 < n → slice_get (x ∷ xs) n ≡ slice_get xs (n - 1)
get_tail x xs zero h = absurd (omega arith)
get_tail x xs (suc n) h = ap (slice_get xs) (omega arith)

get_front : (x : List SignificantToken) (xs : List (List SignificantToken)) (n : ℕ) → n ≤ 0 → slice_get (x ∷ xs) n ≡ Some x
get_front x xs zero h = refl
get_front x xs (suc n) h = absurd (omega arith)

-- There are no more arguments.
pub place_none : (s : List ℕ) (rest behind : List SignificantToken) (n : ℕ) → behind ≡ drop (argument_size s 0 false rest) rest → others_from s behind ≡ [] → 0 < n
    → slice_get (arguments_of s rest) n ≡ None
place_none s rest behind n k none h =
    ap (λ (xs : List (List SignificantToken)). slice_get xs n) (parts_of s rest (first_argument s rest) behind refl k ∙ ap (λ (xs : List (List SignificantToken)). first_argument s rest ∷ xs) none)
    ∙ get_past (first_argument s rest) n h

-- One argument is skipped.
pub place_on : (s : List ℕ) (rest behind others : List SignificantToken) (n : ℕ) → behind ≡ drop (argument_size s 0 false rest) rest → others_from s behind ≡ arguments_of s others → 0 < n
    → slice_get (arguments_of s rest) n ≡ slice_get (arguments_of s others) (n - 1)
place_on s rest behind others n k more h =
    ap (λ (xs : List (List SignificantToken)). slice_get xs n) (parts_of s rest (first_argument s rest) behind refl k ∙ ap (λ (xs : List (List SignificantToken)). first_argument s rest ∷ xs) more)
    ∙ get_tail (first_argument s rest) (arguments_of s others) n h

pub place_here : (s : List ℕ) (rest argument : List SignificantToken) (n : ℕ) → argument ≡ first_argument s rest → n ≤ 0 → slice_get (arguments_of s rest) n ≡ Some argument
place_here s rest argument n h k =
    ap (λ (xs : List (List SignificantToken)). slice_get xs n) (parts_of s rest argument (drop (argument_size s 0 false rest) rest) h refl)
    ∙ get_front argument (others_from s (drop (argument_size s 0 false rest) rest)) n k
