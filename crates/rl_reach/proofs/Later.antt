-- Runs in a text that has one more character at its start. A tree in which no guard looks behind does the same there, one place
-- later. So does every tree from any place but the first.
use Rattle.std.proofs.Common.{◌≡◌, ℕ, zero, suc, ◌-◌, ◌<◌, ◌≤◌, ◌⊎◌, inl, inr, Bool, true, false, ◌||◌, List, [], ◌∷◌, ◌++◌, length, slice_get, nat_lt, if◌then◌else◌, refl, sym, ap, ◌∙◌, true≢false, lt-ltb, le-ltb, arith}
use Rattle.std.proofs.lemmas.Bool.{cases_lt}
use Rattle.rl_syntax.specs.declared.anchors.Guard.{Guard}
use Rattle.rl_syntax.specs.declared.anchors.Guard.TheVariants.{Start, LineStart, LineEnd, TextEnd, Word, NotWord, Look}
use Rattle.rl_syntax.specs.Guards.{is_in, holds, holds_at}
use Rattle.rl_syntax.specs.Tree.{Tree, empty, one, guard, both, either, many}
use Rattle.rl_syntax.specs.Run.{Step, test, end, onward, one_more, rounds, run}
use Rattle.rl_syntax.proofs.RunLaws.{Ends, Ends-along, Goes, run_goes}
use Rattle.rl_reach.specs.Behind.{guard_looks_behind, looks_behind}

-- The steps, with each end one place later.
abbrev pub later : List Step → List Step
later [] = []
later (test ∷ l) = test ∷ later l
later (end j ∷ l) = end (suc j) ∷ later l

later-append : (l m : List Step) → later (l ++ m) ≡ later l ++ later m
later-append [] m = refl
later-append (test ∷ l) m = ap (λ n. test ∷ n) (later-append l m)
later-append (end j ∷ l) m = ap (λ n. end (suc j) ∷ n) (later-append l m)

later-if : (b : Bool) (l m : List Step) → ◌≡◌ {A = List Step} (if b then later l else later m) (later (if b then l else m))
later-if true l m = refl
later-if false l m = refl

later-onward : (P : ℕ → Type 0) (next other : ℕ → List Step) → ((j : ℕ) → P j → other (suc j) ≡ later (next j)) → (l : List Step) → Ends P l → onward (later l) other ≡ later (onward l next)
later-onward P next other same [] p = refl
later-onward P next other same (test ∷ l) p = ap (λ n. test ∷ n) (later-onward P next other same l p)
later-onward P next other same (end j ∷ l) p =
    ap (λ n. n ++ onward (later l) other) (same j p.0) ∙ ap (λ n. later (next j) ++ n) (later-onward P next other same l p.1) ∙ sym (later-append (next j) (onward l next))

later-one_more : (greedy : Bool) (i : ℕ) (l : List Step) → one_more greedy (end (suc i)) (later l) ≡ later (one_more greedy (end i) l)
later-one_more true i l = sym (later-append l (end i ∷ []))
later-one_more false i l = refl

lt-later : (i j : ℕ) → nat_lt (suc i) (suc j) ≡ nat_lt i j
lt-later i j = by (cases_lt i j)
  where
    by : (i < j) ⊎ (j ≤ i) → nat_lt (suc i) (suc j) ≡ nat_lt i j
    by (inl lt) = lt-ltb (suc i) (suc j) (omega arith) ∙ sym (lt-ltb i j lt)
    by (inr le) = le-ltb (suc i) (suc j) (omega arith) ∙ sym (le-ltb i j le)

later-turn : (i j : ℕ) (l m : List Step) → l ≡ later m → ◌≡◌ {A = List Step} (if nat_lt (suc i) (suc j) then l else end (suc j) ∷ []) (later (if nat_lt i j then m else end j ∷ []))
later-turn i j l m same =
    ap (λ (b : Bool). if b then l else end (suc j) ∷ []) (lt-later i j)
    ∙ ap (λ (n : List Step). if nat_lt i j then n else end (suc j) ∷ []) same
    ∙ later-if (nat_lt i j) m (end j ∷ [])

module _ (P : ℕ → Type 0) (body other : ℕ → List Step) (same : (i : ℕ) → P i → other (suc i) ≡ later (body i)) (ends : (i : ℕ) → P i → Ends P (body i)) (greedy : Bool) where
  later-rounds : (n i : ℕ) → P i → rounds other greedy n (suc i) ≡ later (rounds body greedy n i)
  later-rounds zero i p = ap (one_more greedy (end (suc i))) (same i p) ∙ later-one_more greedy i (body i)
  later-rounds (suc n) i p =
      ap (λ l. one_more greedy (end (suc i)) (onward l (λ j. if nat_lt (suc i) j then rounds other greedy n j else end j ∷ []))) (same i p)
      ∙ ap (one_more greedy (end (suc i)))
      (later-onward P (λ j. if nat_lt i j then rounds body greedy n j else end j ∷ []) (λ j. if nat_lt (suc i) j then rounds other greedy n j else end j ∷ [])
      (λ j q. later-turn i j (rounds other greedy n (suc j)) (rounds body greedy n j) (later-rounds n j q)) (body i) (ends i p))
      ∙ later-one_more greedy i (onward (body i) (λ j. if nat_lt i j then rounds body greedy n j else end j ∷ []))

-- Holds if one more character at the start of the text can't change a guard at position `i` or a later one: no guard looks
-- behind, as the flag says, or the position isn't the first.
abbrev pub Settled : Bool → ℕ → Type 0
Settled behind i = (behind ≡ false) ⊎ (1 ≤ i)

settled-on : (behind : Bool) (i j : ℕ) → i ≤ j → Settled behind i → Settled behind j
settled-on behind i j le (inl h) = inl h
settled-on behind i j le (inr some) = inr (omega arith)

settled-ends : (behind : Bool) (t : Tree) (w : List ℕ) (i : ℕ) → Settled behind i → Ends (Settled behind) (run t w i)
settled-ends behind t w i h = Ends-along (Goes w i) (Settled behind) (λ j g. settled-on behind i j g.0 h) (run t w i) (run_goes t w i)

guard-later : (g : Guard) (c : ℕ) (w : List ℕ) (i : ℕ) → Settled (guard_looks_behind g) i → holds_at g (c ∷ w) (suc i) ≡ holds_at g w i
unfolding holds
guard-later g c w (suc i) h = refl
guard-later g c w zero (inr h) = absurd (omega arith)
guard-later Start c w zero (inl h) = absurd (true≢false h)
guard-later LineStart c w zero (inl h) = absurd (true≢false h)
guard-later LineEnd c w zero (inl h) = refl
guard-later TextEnd c w zero (inl h) = refl
guard-later (Word ascii) c w zero (inl h) = absurd (true≢false h)
guard-later (NotWord ascii) c w zero (inl h) = absurd (true≢false h)
guard-later (Look true negated ranges) c w zero (inl h) = absurd (true≢false h)
guard-later (Look false negated ranges) c w zero (inl h) = refl

neither : (x y : Bool) → (x || y) ≡ false → (x ≡ false) × (y ≡ false)
neither true y h = absurd (true≢false h)
neither false y h = (refl, h)

settled-each : (x y : Bool) (i : ℕ) → Settled (x || y) i → Settled x i × Settled y i
settled-each x y i (inl h) = let parts = neither x y h in (inl parts.0, inl parts.1)
settled-each x y i (inr h) = (inr h, inr h)

pub run-later : (t : Tree) (c : ℕ) (w : List ℕ) (i : ℕ) → Settled (looks_behind t) i → run t (c ∷ w) (suc i) ≡ later (run t w i)
run-later empty c w i h = refl
run-later (one set) c w i h = ap (λ n. test ∷ n) (later-if (is_in set (slice_get w i)) (end (suc i) ∷ []) [])
run-later (guard g) c w i h =
    ap (λ (b : Bool). if b then end (suc i) ∷ [] else []) (guard-later g c w i h) ∙ later-if (holds_at g w i) (end i ∷ []) []
run-later (both e f) c w i h =
    let parts = settled-each (looks_behind e) (looks_behind f) i h in
    ap (λ l. onward l (run f (c ∷ w))) (run-later e c w i parts.0)
    ∙ later-onward (Settled (looks_behind f)) (run f w) (run f (c ∷ w)) (λ j q. run-later f c w j q) (run e w i) (settled-ends (looks_behind f) e w i parts.1)
run-later (either e f) c w i h =
    let parts = settled-each (looks_behind e) (looks_behind f) i h in
    ap (λ l. l ++ run f (c ∷ w) (suc i)) (run-later e c w i parts.0) ∙ ap (λ l. later (run e w i) ++ l) (run-later f c w i parts.1) ∙ sym (later-append (run e w i) (run f w i))
run-later (many e greedy) c w i h =
    let count : length (c ∷ w) - suc i ≡ length w - i = omega arith in
    ap (λ n. rounds (run e (c ∷ w)) greedy n (suc i)) count
    ∙ later-rounds (Settled (looks_behind e)) (run e w) (run e (c ∷ w)) (λ j q. run-later e c w j q) (λ j q. settled-ends (looks_behind e) e w j q) greedy (length w - i) i h
