-- What holds of texts, text by text, and what is made of each of them.
use Rattle.std.proofs.Common.{◌≡◌, ◌≢◌, ◌∙◌, ℕ, ◌+◌, ◌<◌, ◌≤◌, ◌↔◌, ◌==◌, true, false, IsTrue, All, List, [], ◌∷◌, ◌++◌, length, map, take, get_or, refl, sym, ap, subst, arith, true≢false}
use Rattle.std.proofs.lemmas.Bool.{eqb-true, eqb-false}
use Rattle.std.proofs.lemmas.List.{map-append, take_more, take_all}
use Rattle.std.proofs.lemmas.List.Elements.{All-get_or, All-more}

module _ {X : Type 0} (P : X → Type 0) (xs : List X) (i : ℕ) where
  pub all-at : (x : X) → i < length xs → x ≡ get_or xs i x → All P xs → P x
  all-at x lt is all = subst P (sym is) (All-get_or P xs i x lt all)

  pub all-fails : (x : X) → i < length xs → x ≡ get_or xs i x → (P x → ⊥) → IsTrue false ↔ All P xs
  all-fails x lt is fails = (λ e. absurd (true≢false (sym e)), λ all. absurd (fails (all-at x lt is all)))

  pub all-next : (x : X) → i < length xs → x ≡ get_or xs i x → All P (take i xs) → P x → All P (take (i + 1) xs)
  all-next x lt is all p = All-more P xs i x lt all (subst P is p)

  pub all-passed : length xs ≤ i → All P (take i xs) → IsTrue true ↔ All P xs
  all-passed past all = (λ e. subst (All P) (take_all i xs past) all, λ h. refl)

-- One more item made of one more text.
pub map-more : {X Y : Type 0} (f : X → Y) (xs : List X) (i : ℕ) (x : X) (y : Y) (old new : List Y) → i < length xs → x ≡ get_or xs i x → old ≡ map f (take i xs) → y ≡ f x → new ≡ old ++ y ∷ [] → new ≡ map f (take (i + 1) xs)
map-more {X = X} {Y = Y} f xs i x y old new lt is so_far same pushed =
    pushed ∙ (ap (λ (l : List Y). l ++ y ∷ []) so_far ∙ (ap (λ (z : Y). map f (take i xs) ++ z ∷ []) (same ∙ ap f is)
    ∙ sym (ap (map f) (take_more xs i x lt) ∙ map-append f (take i xs) (get_or xs i x ∷ []))))

pub is-empty : (l : List ℕ) → (length l == 0) ≡ true → l ≡ []
is-empty [] e = refl
is-empty (x ∷ l) e = let none = eqb-true (length (x ∷ l)) 0 e in absurd (omega (arith, none))

pub not-empty : (l : List ℕ) → (length l == 0) ≡ false → l ≢ []
not-empty l e same = eqb-false (length l) 0 e (ap length same)
