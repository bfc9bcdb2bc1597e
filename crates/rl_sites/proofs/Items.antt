-- The items of an import, one by one.
use Rattle.std.proofs.Common.{◌≡◌, ℕ, zero, suc, ◌≤◌, true, cond, List, [], ◌∷◌, ◌++◌, drop, length, get_or, refl, ap, sym, ◌∙◌, arith, append_assoc, add-one, subst}
use Rattle.std.specs.Prelude.{codes, option_to_list}
use Rattle.std.proofs.lemmas.List.{drop-drop}
use Rattle.rl_sites.specs.declared.significant.SignificantToken.{SignificantToken}
use Rattle.rl_sites.specs.declared.imports.Alias.{Alias}
use Rattle.rl_sites.specs.declared.imports.Import.{Import}
use Rattle.rl_sites.specs.Significant.{is_name, is_op, is_at}
use Rattle.rl_sites.specs.Imports.{item_size, item_alias, items_from}

-- Tokens that are skipped.
pub items-skip : (s : List ℕ) (k : Import) (n : ℕ) (ms : List SignificantToken) → items_from s k n ms ≡ items_from s k 0 (drop n ms)
items-skip s k zero ms = refl
items-skip s k (suc n) [] = refl
items-skip s k (suc n) (m ∷ ms) = items-skip s k n ms

pub items-front : (s : List ℕ) (k : Import) (m : SignificantToken) (ms : List SignificantToken) → is_name m ≡ true → is_at (item_size s k ms) (is_op s (codes ",")) ms ≡ true
    → items_from s k 0 (m ∷ ms) ≡ option_to_list (item_alias s k m ms) ++ items_from s k 0 (drop 1 (drop (item_size s k ms) ms))
items-front s k m ms named comma =
    ap (λ b. cond b (option_to_list (item_alias s k m ms) ++ cond (is_at (item_size s k ms) (is_op s (codes ",")) ms) (items_from s k (suc (item_size s k ms)) ms) []) []) named
    ∙ ap (λ b. option_to_list (item_alias s k m ms) ++ cond b (items_from s k (suc (item_size s k ms)) ms) []) comma
    ∙ ap (λ (xs : List Alias). option_to_list (item_alias s k m ms) ++ xs) (items-skip s k (suc (item_size s k ms)) ms ∙ ap (items_from s k 0) (ap (λ n. drop n ms) (sym (add-one (item_size s k ms))) ∙ sym (drop-drop 1 (item_size s k ms) ms)))

-- One item and a `,`.
pub items_step : (s : List ℕ) (k : Import) (ms after next : List SignificantToken) (d : SignificantToken) (size : ℕ) (old pushed : List Alias)
    → 1 ≤ length ms → after ≡ drop 1 ms → is_name (get_or ms 0 d) ≡ true → size ≡ item_size s k after
    → is_at size (is_op s (codes ",")) after ≡ true → next ≡ drop 1 (drop size after)
    → pushed ≡ old ++ option_to_list (item_alias s k (get_or ms 0 d) after)
    → old ++ items_from s k 0 ms ≡ pushed ++ items_from s k 0 next
items_step s k [] after next d size old pushed some a named b comma n p = absurd (omega arith)
items_step s k (m ∷ ms) after next d size old pushed some a named b comma n p =
    let here = items-front s k m ms named (subst (λ (x : List SignificantToken). is_at (item_size s k x) (is_op s (codes ",")) x ≡ true) a (subst (λ (x : ℕ). is_at x (is_op s (codes ",")) after ≡ true) b comma)) in
    let same : next ≡ drop 1 (drop (item_size s k ms) ms) = n ∙ ap (λ x. drop 1 (drop x after)) b ∙ ap (λ (x : List SignificantToken). drop 1 (drop (item_size s k x) x)) a in
    ap (λ (xs : List Alias). old ++ xs) here
    ∙ sym (append_assoc old (option_to_list (item_alias s k m ms)) (items_from s k 0 (drop 1 (drop (item_size s k ms) ms))))
    ∙ ap (λ (xs : List SignificantToken). (old ++ option_to_list (item_alias s k m ms)) ++ items_from s k 0 xs) (sym same)
    ∙ ap (λ (xs : List Alias). xs ++ items_from s k 0 next) (sym (p ∙ ap (λ (x : List SignificantToken). old ++ option_to_list (item_alias s k m x)) a))

pub ruleset items = (items-skip)
