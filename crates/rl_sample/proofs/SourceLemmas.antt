-- One more line of the source.
use Rattle.std.proofs.Common.{◌≡◌, ℕ, zero, suc, ◌+◌, List, [], ◌∷◌, ◌++◌, refl, ap, ◌∙◌, map, codes, append_assoc, arith}
use Rattle.std.specs.Fn.{iterate}
use Rattle.std.specs.List.{concat, range_with_len}
use Rattle.std.proofs.lemmas.List.{append-nil}
use Rattle.std.proofs.lemmas.List.FromFn.{map-range_with_len_more}
use Rattle.std.proofs.lemmas.List.Folds.{concat-append}
use Rattle.rl_sample.specs.Generator.{line_of, next_value, source_of, value_at}

pub joined : (text a b c x y z : List ℕ) → x ≡ text ++ a → y ≡ x ++ b → z ≡ y ++ c → z ≡ text ++ (a ++ b ++ c)
joined text a b c x y z e f g =
    g ∙ ap (λ l. l ++ c) (f ∙ ap (λ l. l ++ b) e) ∙ simp append_assoc

iterate-last : (h : ℕ → ℕ) (k x : ℕ) → iterate h (suc k) x ≡ h (iterate h k x)
iterate-last h zero x = refl
iterate-last h (suc k) x = iterate-last h k (h x)

-- The number that follows the one reached from the seed in `k` steps.
pub value_at-more : (seed k : ℕ) → value_at seed (k + 1) ≡ next_value (value_at seed k)
value_at-more seed k = let e : k + 1 ≡ suc k = omega arith in ap (value_at seed) e ∙ iterate-last next_value k seed

pub source_of-more : (seed k : ℕ) → source_of seed (k + 1) ≡ source_of seed k ++ line_of (value_at seed (k + 1))
source_of-more seed k =
    let line = λ (j : ℕ). line_of (value_at seed j) in
    let more = map-range_with_len_more line 1 k (k + 1) (omega arith) in
    let last = ap concat more ∙ concat-append (map line (range_with_len 1 k)) (line (k + 1) ∷ []) in
    ap (λ l. codes "import re\n" ++ l) last ∙ simp (append_assoc, append-nil)
