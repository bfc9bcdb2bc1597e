-- Where the ends of what a marked tree finds lie.
use Rattle.std.proofs.Common.{◌≡◌, ℕ, zero, suc, ◌-◌, ◌<◌, Bool, true, false, ◌&&◌, ◌||◌, List, [], ◌∷◌, ◌++◌, length, map, slice_get, nat_lt, if◌then◌else◌, refl, arith}
use Rattle.std.proofs.lemmas.Bool.{cond_both}
use Rattle.rl_syntax.specs.Guards.{is_in, holds_at}
use Rattle.rl_syntax.specs.Run.{one_more}
use Rattle.rl_syntax.proofs.RunLaws.{Goes, Goes-trans, is_in-below}
use Rattle.rl_marks.specs.Marked.{Marked, empty, one, guard, both, either, many, further, mark, takes_code}
use Rattle.rl_marks.specs.Finds.{GroupSpan, Found, ended, later, onward, closed, rounds, finds, ends}

-- Each place of the list has the property.
abbrev pub Each : (ℕ → Type 0) → List ℕ → Type 0
Each P [] = Unit {0}
Each P (j ∷ l) = P j × Each P l

pub Each-along : (P Q : ℕ → Type 0) → ((j : ℕ) → P j → Q j) → (l : List ℕ) → Each P l → Each Q l
Each-along P Q f [] p = tt
Each-along P Q f (j ∷ l) p = (f j p.0, Each-along P Q f l p.1)

Each-append : (P : ℕ → Type 0) (l m : List Found) → Each P (ends l) → Each P (ends m) → Each P (ends (l ++ m))
Each-append P [] m p q = q
Each-append P (x ∷ l) m p q = (p.0, Each-append P l m p.1 q)

Each-later : (P : ℕ → Type 0) (spans : List GroupSpan) (l : List Found) → Each P (ends l) → Each P (ends (map (later spans) l))
Each-later P spans [] p = tt
Each-later P spans (x ∷ l) p = (p.0, Each-later P spans l p.1)

Each-closed : (P : ℕ → Type 0) (n i : ℕ) (l : List Found) → Each P (ends l) → Each P (ends (map (closed n i) l))
Each-closed P n i [] p = tt
Each-closed P n i (x ∷ l) p = (p.0, Each-closed P n i l p.1)

pub Each-onward : (P Q : ℕ → Type 0) (next : ℕ → List Found) → ((j : ℕ) → P j → Each Q (ends (next j))) → (l : List Found) → Each P (ends l) → Each Q (ends (onward l next))
Each-onward P Q next f [] p = tt
Each-onward P Q next f (x ∷ l) p =
    Each-append Q (map (later x.spans) (next x.end)) (onward l next) (Each-later Q x.spans (next x.end) (f x.end p.0)) (Each-onward P Q next f l p.1)

Each-one_more : (P : ℕ → Type 0) (greedy : Bool) (j : ℕ) (l : List Found) → P j → Each P (ends l) → Each P (ends (one_more greedy (ended j) l))
Each-one_more P true j l p q = Each-append P l (ended j ∷ []) q (p, tt)
Each-one_more P false j l p q = (p, q)

module _ (w : List ℕ) (body : ℕ → List Found) (goes : (i : ℕ) → Each (Goes w i) (ends (body i))) where
  -- What follows an end of the body, if it took a code.
  pub further_go : (next : ℕ → List Found) → ((j : ℕ) → Each (Goes w j) (ends (next j))) → (i : ℕ)
      → Each (Goes w i) (ends (onward (body i) (λ j. if nat_lt i j then next j else ended j ∷ [])))
  further_go next f i =
      Each-onward (Goes w i) (Goes w i) (λ j. if nat_lt i j then next j else ended j ∷ [])
      (λ j p. cond_both (nat_lt i j) (next j) (ended j ∷ []) (λ s. Each (Goes w i) (ends s))
      (λ e. Each-along (Goes w j) (Goes w i) (λ k q. Goes-trans w i j k p q) (ends (next j)) (f j))
      (λ e. (p, tt)))
      (body i) (goes i)

  rounds_go : (greedy : Bool) (n i : ℕ) → Each (Goes w i) (ends (rounds body greedy n i))
  rounds_go greedy zero i = Each-one_more (Goes w i) greedy i (body i) (omega arith, λ h. omega arith) (goes i)
  rounds_go greedy (suc n) i =
      Each-one_more (Goes w i) greedy i (onward (body i) (λ j. if nat_lt i j then rounds body greedy n j else ended j ∷ [])) (omega arith, λ h. omega arith)
      (further_go (rounds body greedy n) (rounds_go greedy n) i)

-- Each end is at the place or further on, and no further than the text.
pub finds_go : (m : Marked) (w : List ℕ) (i : ℕ) → Each (Goes w i) (ends (finds m w i))
finds_go empty w i = ((omega arith, λ h. omega arith), tt)
finds_go (one set) w i =
    cond_both (is_in set (slice_get w i)) (ended (suc i) ∷ []) [] (λ s. Each (Goes w i) (ends s))
    (λ e. ((omega arith, λ _. is_in-below set w i e), tt)) (λ e. tt)
finds_go (guard g) w i =
    cond_both (holds_at g w i) (ended i ∷ []) [] (λ s. Each (Goes w i) (ends s))
    (λ e. ((omega arith, λ h. omega arith), tt)) (λ e. tt)
finds_go (both e f) w i =
    Each-onward (Goes w i) (Goes w i) (finds f w)
    (λ j p. Each-along (Goes w j) (Goes w i) (λ k q. Goes-trans w i j k p q) (ends (finds f w j)) (finds_go f w j)) (finds e w i) (finds_go e w i)
finds_go (either e f) w i = Each-append (Goes w i) (finds e w i) (finds f w i) (finds_go e w i) (finds_go f w i)
finds_go (many e greedy) w i = rounds_go w (finds e w) (finds_go e w) greedy (length w - i) i
finds_go (further e f) w i = further_go w (finds e w) (finds_go e w) (finds f w) (finds_go f w) i
finds_go (mark n e) w i = Each-closed (Goes w i) n i (finds e w i) (finds_go e w i)

or_cases : (a b : Bool) → (a || b) ≡ true → (P : Type 0) → (a ≡ true → P) → (b ≡ true → P) → P
or_cases true b e P f g = f refl
or_cases false b e P f g = g e

and_left : (a b : Bool) → (a && b) ≡ true → a ≡ true
and_left true b e = refl
and_left false b e = e

and_right : (a b : Bool) → (a && b) ≡ true → b ≡ true
and_right true b e = e
and_right false b e = cc

-- A tree that always takes a code ends further on.
pub takes : (m : Marked) (w : List ℕ) (i : ℕ) → takes_code m ≡ true → Each (λ j. i < j) (ends (finds m w i))
takes empty w i e = cc
takes (one set) w i e =
    cond_both (is_in set (slice_get w i)) (ended (suc i) ∷ []) [] (λ s. Each (λ j. i < j) (ends s)) (λ _. (omega arith, tt)) (λ _. tt)
takes (guard g) w i e = cc
takes (both a b) w i e =
    or_cases (takes_code a) (takes_code b) e (Each (λ j. i < j) (ends (finds (both a b) w i)))
    (λ t. Each-onward (λ j. i < j) (λ j. i < j) (finds b w)
    (λ j p. Each-along (Goes w j) (λ k. i < k) (λ k q. omega (arith, p, q.0)) (ends (finds b w j)) (finds_go b w j)) (finds a w i) (takes a w i t))
    (λ t. Each-onward (Goes w i) (λ j. i < j) (finds b w)
    (λ j p. Each-along (λ k. j < k) (λ k. i < k) (λ k q. omega (arith, p.0, q)) (ends (finds b w j)) (takes b w j t)) (finds a w i) (finds_go a w i))
takes (either a b) w i e =
    Each-append (λ j. i < j) (finds a w i) (finds b w i) (takes a w i (and_left (takes_code a) (takes_code b) e)) (takes b w i (and_right (takes_code a) (takes_code b) e))
takes (many a greedy) w i e = cc
takes (further a b) w i e =
    Each-onward (λ j. i < j) (λ j. i < j) (λ j. if nat_lt i j then finds b w j else ended j ∷ [])
    (λ j p. cond_both (nat_lt i j) (finds b w j) (ended j ∷ []) (λ s. Each (λ k. i < k) (ends s))
    (λ _. Each-along (Goes w j) (λ k. i < k) (λ k q. omega (arith, p, q.0)) (ends (finds b w j)) (finds_go b w j))
    (λ _. (p, tt)))
    (finds a w i) (takes a w i e)
takes (mark n a) w i e = Each-closed (λ j. i < j) n i (finds a w i) (takes a w i e)
