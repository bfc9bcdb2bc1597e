-- A list of keys knows each of its keys.
use Rattle.std.proofs.Common.{◌≡◌, ℕ, ◌+◌, ◌<◌, true, cond, not, nat_lt, List, [], ◌∷◌, ◌++◌, length, take, map, filter, refl, ap, sym, ◌∙◌, arith, append_assoc, length-append}
use Rattle.std.specs.List.{enumerate_from}
use Rattle.std.proofs.Math.Seq.{take-append_seam}
use Rattle.std.proofs.lemmas.Bool.Decides.{nat_tests}
use Rattle.std.proofs.lemmas.List.Sums.{sum_by-append}
use Rattle.rl_sarif.specs.Keys.{EntryKey, same_key}
use Rattle.rl_sarif.specs.Known.{times, is_known, is_unknown, unknown_key_positions}
use Rattle.rl_sarif.proofs.KeyLemmas.{same_key-itself}

below-more : (a b : ℕ) → 0 < b → nat_lt a (a + b) ≡ true
below-more a b h = grind (arith, nat_tests)

counts-itself : (k : EntryKey) (ks : List EntryKey) → 0 < times (k ∷ ks) k
counts-itself k ks =
    let split : times (k ∷ ks) k ≡ times (k ∷ []) k + times ks k = sum_by-append (λ (x : EntryKey). cond (same_key k x) 1 0) (k ∷ []) ks in
    let one : times (k ∷ []) k ≡ 1 = ap (λ b. 0 + cond b 1 0) (same_key-itself k) in
    omega arith

-- A key is known if fewer equal keys come before it than there are in all.
known-here : (before : List EntryKey) (k : EntryKey) (ks : List EntryKey) → is_known (before ++ k ∷ ks) (take (length before) (before ++ k ∷ ks)) k ≡ true
known-here before k ks =
    ap (λ l. nat_lt (times l k) (times (before ++ k ∷ ks) k)) (take-append_seam before (k ∷ ks))
    ∙ ap (nat_lt (times before k)) (sum_by-append (λ (x : EntryKey). cond (same_key k x) 1 0) before (k ∷ ks))
    ∙ below-more (times before k) (times (k ∷ ks) k) (counts-itself k ks)

none-unknown : (all before ks : List EntryKey) (n : ℕ) → n ≡ length before → all ≡ before ++ ks → filter (is_unknown all all) (enumerate_from n ks) ≡ []
none-unknown all before [] n at e = refl
none-unknown all before (k ∷ ks) n at e =
    let known : is_known all (take n all) k ≡ true = (λ i. is_known (e i) (take (at i) (e i)) k) ∙ known-here before k ks in
    let next : n + 1 ≡ length (before ++ k ∷ []) = omega (arith, at, length-append before (k ∷ [])) in
    ap (λ b. cond (not b) ((n, k) ∷ filter (is_unknown all all) (enumerate_from (n + 1) ks)) (filter (is_unknown all all) (enumerate_from (n + 1) ks))) known
    ∙ none-unknown all (before ++ k ∷ []) ks (n + 1) next (e ∙ sym (append_assoc before (k ∷ []) ks))

pub all-known : (ks : List EntryKey) → unknown_key_positions ks ks ≡ []
all-known ks = ap (map (λ (p : ℕ × EntryKey). p.0)) (none-unknown ks [] ks 0 refl refl)
