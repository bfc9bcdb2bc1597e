-- Searching for a name in a table.
use Rattle.std.proofs.Common.{◌≡◌, ℕ, ◌+◌, ◌<◌, ◌≤◌, List, [], ◌∷◌, length, get_or, drop, map, None, Bor, refl, ap, sym, ◌∙◌, arith}
use Rattle.std.proofs.lemmas.List.{drop_more, length-drop}
use Rattle.rl_sarif.specs.Baseline.{one_of}

abbrev pub names : List (Bor (List ℕ)) → List (List ℕ)
names = map (λ (n : Bor (List ℕ)). n.now)

front : (ns : List (Bor (List ℕ))) (i : ℕ) (n : Bor (List ℕ)) → i < length ns → n ≡ get_or ns i n → drop i ns ≡ n ∷ drop (i + 1) ns
front ns i n h e = drop_more ns i n h ∙ ap (λ y. y ∷ drop (i + 1) ns) (sym e)

pub no-name : (ns : List (Bor (List ℕ))) (i : ℕ) (text : List ℕ) → length ns ≤ i → one_of (names (drop i ns)) text ≡ None
no-name ns i text h = by (drop i ns) (omega (arith, length-drop i ns))
  where
    by : (l : List (Bor (List ℕ))) → length l ≤ 0 → one_of (names l) text ≡ None
    by [] h = refl
    by (x ∷ xs) h = absurd (omega arith)
