-- Laws about the run of a tree: where its ends are, and that the rounds of `many` need no counter.
use Rattle.std.proofs.Common.{◌≡◌, ℕ, zero, suc, ◌+◌, ◌-◌, ◌<◌, ◌≤◌, Bool, true, false, List, [], ◌∷◌, ◌++◌, length, slice_get, nat_lt, if◌then◌else◌, refl, sym, ap, ◌∙◌, arith, append_assoc}
use Rattle.std.proofs.lemmas.Bool.{cond_both, ltb-true}
use Rattle.rl_syntax.specs.Guards.{is_in, holds_at}
use Rattle.rl_syntax.specs.Tree.{Tree, empty, one, guard, both, either, many}
use Rattle.rl_syntax.specs.Run.{Step, test, end, onward, one_more, rounds, run}

-- Each end among the steps is at a position with the property.
abbrev pub Ends : (ℕ → Type 0) → List Step → Type 0
Ends P [] = Unit {0}
Ends P (test ∷ l) = Ends P l
Ends P (end j ∷ l) = P j × Ends P l

pub Ends-append : (P : ℕ → Type 0) (l m : List Step) → Ends P l → Ends P m → Ends P (l ++ m)
Ends-append P [] m p q = q
Ends-append P (test ∷ l) m p q = Ends-append P l m p q
Ends-append P (end j ∷ l) m p q = (p.0, Ends-append P l m p.1 q)

pub Ends-along : (P Q : ℕ → Type 0) → ((j : ℕ) → P j → Q j) → (l : List Step) → Ends P l → Ends Q l
Ends-along P Q f [] p = tt
Ends-along P Q f (test ∷ l) p = Ends-along P Q f l p
Ends-along P Q f (end j ∷ l) p = (f j p.0, Ends-along P Q f l p.1)

pub Ends-onward : (P Q : ℕ → Type 0) (next : ℕ → List Step) → ((j : ℕ) → P j → Ends Q (next j)) → (l : List Step) → Ends P l → Ends Q (onward l next)
Ends-onward P Q next f [] p = tt
Ends-onward P Q next f (test ∷ l) p = Ends-onward P Q next f l p
Ends-onward P Q next f (end j ∷ l) p = Ends-append Q (next j) (onward l next) (f j p.0) (Ends-onward P Q next f l p.1)

pub Ends-one_more : (P : ℕ → Type 0) (greedy : Bool) (j : ℕ) (l : List Step) → P j → Ends P l → Ends P (one_more greedy (end j) l)
Ends-one_more P true j l p q = Ends-append P l (end j ∷ []) q (p, tt)
Ends-one_more P false j l p q = (p, q)

-- Two continuations that agree at every end give the same steps.
pub onward-same : (P : ℕ → Type 0) (next other : ℕ → List Step) → ((j : ℕ) → P j → next j ≡ other j) → (l : List Step) → Ends P l → onward l next ≡ onward l other
onward-same P next other f [] p = refl
onward-same P next other f (test ∷ l) p = ap (λ m. test ∷ m) (onward-same P next other f l p)
onward-same P next other f (end j ∷ l) p = ap (λ m. m ++ onward l next) (f j p.0) ∙ ap (λ m. other j ++ m) (onward-same P next other f l p.1)

-- If every end is kept, the steps don't change.
pub onward-kept : (l : List Step) → onward l (λ j. end j ∷ []) ≡ l
onward-kept [] = refl
onward-kept (test ∷ l) = ap (λ m. test ∷ m) (onward-kept l)
onward-kept (end j ∷ l) = ap (λ m. end j ∷ m) (onward-kept l)

pub onward-append : (next : ℕ → List Step) (l m : List Step) → onward (l ++ m) next ≡ onward l next ++ onward m next
onward-append next [] m = refl
onward-append next (test ∷ l) m = ap (λ n. test ∷ n) (onward-append next l m)
onward-append next (end j ∷ l) m = ap (λ n. next j ++ n) (onward-append next l m) ∙ sym (append_assoc (next j) (onward l next) (onward m next))

pub onward-onward : (next last : ℕ → List Step) (l : List Step) → onward (onward l next) last ≡ onward l (λ j. onward (next j) last)
onward-onward next last [] = refl
onward-onward next last (test ∷ l) = ap (λ n. test ∷ n) (onward-onward next last l)
onward-onward next last (end j ∷ l) = onward-append last (next j) (onward l next) ∙ ap (λ n. onward (next j) last ++ n) (onward-onward next last l)

-- Two choices are equal if their first sides are equal whenever they are taken.
pub either_way : (i j : ℕ) (x y z : List Step) → (i < j → x ≡ y) → ◌≡◌ {A = List Step} (if nat_lt i j then x else z) (if nat_lt i j then y else z)
either_way i j x y z f = cond_both (nat_lt i j) x z (λ v. v ≡ (if nat_lt i j then y else z)) (λ e. f (ltb-true i j e) ∙ ap (λ b. if b then y else z) (sym e)) (λ e. ap (λ b. if b then y else z) (sym e))

-- A run from `i` ends at `i` or later, and not after the end of the text.
abbrev pub Goes : List ℕ → ℕ → ℕ → Type 0
Goes w i j = (i ≤ j) × (i < j → j ≤ length w)

pub Goes-trans : (w : List ℕ) (i j k : ℕ) → Goes w i j → Goes w j k → Goes w i k
Goes-trans w i j k p q = (omega (arith, p.0, q.0), λ h. grind (arith, p.0, p.1, q.0, q.1))

pub is_in-below : (set : ℕ → Bool) (w : List ℕ) (i : ℕ) → is_in set (slice_get w i) ≡ true → suc i ≤ length w
unfolding is_in
is_in-below set [] i h = cc
is_in-below set (c ∷ w) zero h = omega arith
is_in-below set (c ∷ w) (suc i) h = let e : suc i ≤ length w = is_in-below set w i h in omega (arith, e)

module _ (w : List ℕ) (body : ℕ → List Step) (goes : (i : ℕ) → Ends (Goes w i) (body i)) where
  pub rounds_go : (greedy : Bool) (n i : ℕ) → Ends (Goes w i) (rounds body greedy n i)
  rounds_go greedy zero i = Ends-one_more (Goes w i) greedy i (body i) (omega arith, λ h. omega arith) (goes i)
  rounds_go greedy (suc n) i =
      Ends-one_more (Goes w i) greedy i _ (omega arith, λ h. omega arith)
      (Ends-onward (Goes w i) (Goes w i) (λ j. if nat_lt i j then rounds body greedy n j else end j ∷ [])
      (λ j p. cond_both (nat_lt i j) (rounds body greedy n j) (end j ∷ []) (Ends (Goes w i))
      (λ e. Ends-along (Goes w j) (Goes w i) (λ k q. Goes-trans w i j k p q) (rounds body greedy n j) (rounds_go greedy n j))
      (λ e. (p, tt)))
      (body i) (goes i))

  -- The rounds are the same for every counter that is large enough.
  pub rounds-same : (greedy : Bool) (n m i : ℕ) → length w ≤ n + i → length w ≤ m + i → rounds body greedy n i ≡ rounds body greedy m i
  rounds-same greedy zero zero i p q = refl
  rounds-same greedy zero (suc m) i p q =
      ap (one_more greedy (end i)) (sym (onward-kept (body i)) ∙ onward-same (Goes w i) (λ j. end j ∷ []) (λ j. if nat_lt i j then rounds body greedy m j else end j ∷ [])
      (λ j g. cond_both (nat_lt i j) (rounds body greedy m j) (end j ∷ []) (λ x. (end j ∷ []) ≡ x)
      (λ e. let lt : i < j = ltb-true i j e in let le : j ≤ length w = g.1 lt in absurd (omega arith)) (λ e. refl))
      (body i) (goes i))
  rounds-same greedy (suc n) zero i p q =
      ap (one_more greedy (end i)) (onward-same (Goes w i) (λ j. if nat_lt i j then rounds body greedy n j else end j ∷ []) (λ j. end j ∷ [])
      (λ j g. cond_both (nat_lt i j) (rounds body greedy n j) (end j ∷ []) (λ x. x ≡ (end j ∷ []))
      (λ e. let lt : i < j = ltb-true i j e in let le : j ≤ length w = g.1 lt in absurd (omega arith)) (λ e. refl))
      (body i) (goes i) ∙ onward-kept (body i))
  rounds-same greedy (suc n) (suc m) i p q =
      ap (one_more greedy (end i)) (onward-same (Goes w i) (λ j. if nat_lt i j then rounds body greedy n j else end j ∷ []) (λ j. if nat_lt i j then rounds body greedy m j else end j ∷ [])
      (λ j g. either_way i j (rounds body greedy n j) (rounds body greedy m j) (end j ∷ [])
      (λ lt. rounds-same greedy n m j (omega arith) (omega arith)))
      (body i) (goes i))

-- Each end of a run from `i` is at `i` or later, and not after the end of the text.
pub run_goes : (t : Tree) (w : List ℕ) (i : ℕ) → Ends (Goes w i) (run t w i)
run_goes empty w i = ((omega arith, λ h. omega arith), tt)
run_goes (one set) w i =
    cond_both (is_in set (slice_get w i)) (end (suc i) ∷ []) [] (Ends (Goes w i))
    (λ e. ((omega arith, λ _. is_in-below set w i e), tt)) (λ e. tt)
run_goes (guard g) w i =
    cond_both (holds_at g w i) (end i ∷ []) [] (Ends (Goes w i))
    (λ e. ((omega arith, λ h. omega arith), tt)) (λ e. tt)
run_goes (both e f) w i =
    Ends-onward (Goes w i) (Goes w i) (run f w)
    (λ j p. Ends-along (Goes w j) (Goes w i) (λ k q. Goes-trans w i j k p q) (run f w j) (run_goes f w j)) (run e w i) (run_goes e w i)
run_goes (either e f) w i = Ends-append (Goes w i) (run e w i) (run f w i) (run_goes e w i) (run_goes f w i)
run_goes (many e greedy) w i = rounds_go w (run e w) (run_goes e w) greedy (length w - i) i

-- The rule of `many`: each end of the body that lies further on is followed by the whole loop again, an end at the same
-- position is kept, and the flag says where one more end is.
pub run-many : (e : Tree) (greedy : Bool) (w : List ℕ) (i : ℕ)
    → run (many e greedy) w i ≡ one_more greedy (end i) (onward (run e w i) (λ j. if nat_lt i j then run (many e greedy) w j else end j ∷ []))
run-many e greedy w i =
    rounds-same w (run e w) (run_goes e w) greedy (length w - i) (suc (length w - i)) i (omega arith) (omega arith)
    ∙ ap (one_more greedy (end i)) (onward-same (Goes w i) (λ j. if nat_lt i j then rounds (run e w) greedy (length w - i) j else end j ∷ []) (λ j. if nat_lt i j then run (many e greedy) w j else end j ∷ [])
    (λ j g. either_way i j (rounds (run e w) greedy (length w - i) j) (run (many e greedy) w j) (end j ∷ [])
    (λ lt. rounds-same w (run e w) (run_goes e w) greedy (length w - i) (length w - j) j (omega arith) (omega arith)))
    (run e w i) (run_goes e w i))
