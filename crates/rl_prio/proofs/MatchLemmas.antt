-- The match law: a text is matched if and only if the tree spans it, or spans a prefix of it.
use Rattle.std.proofs.Common.{◌≡◌, ℕ, zero, suc, ◌+◌, ◌<◌, ◌≤◌, Bool, true, false, List, [], ◌∷◌, ◌++◌, length, slice_get, nat_lt, if◌then◌else◌, ◌⊎◌, inl, inr, ⊎_elim, ◌↔◌, IsTrue, refl, sym, ap, subst, ◌∙◌, arith}
use Rattle.std.proofs.lemmas.Bool.{cond_both, ltb-true, ltb-false, lt-ltb, cond-true, or_cases, or_left, or_right, eqb-true, eq-eqb}
use Rattle.rl_syntax.specs.declared.re.Ending.TheVariants.{AtEnd, Anywhere}
use Rattle.rl_syntax.specs.Guards.{is_in, holds_at}
use Rattle.rl_syntax.specs.Tree.{Tree, empty, one, guard, both, either, many}
use Rattle.rl_syntax.specs.Language.{Rounds, stop, again, Spans}
use Rattle.rl_syntax.specs.Run.{Step, test, end, onward, one_more, run}
use Rattle.rl_syntax.specs.Cost.{tests, has_hit, is_hit, all_tests, matched}
use Rattle.rl_syntax.proofs.RunLaws.{Ends, Goes, run_goes, run-many}

-- Some end of the steps is at the place.
abbrev pub EndsAt : List Step → ℕ → Type 0
EndsAt [] j = ⊥
EndsAt (test ∷ l) j = EndsAt l j
EndsAt (end k ∷ l) j = (k ≡ j) ⊎ EndsAt l j

pub EndsAt-left : (l m : List Step) (j : ℕ) → EndsAt l j → EndsAt (l ++ m) j
EndsAt-left [] m j h = absurd h
EndsAt-left (test ∷ l) m j h = EndsAt-left l m j h
EndsAt-left (end k ∷ l) m j (inl e) = inl e
EndsAt-left (end k ∷ l) m j (inr h) = inr (EndsAt-left l m j h)

pub EndsAt-right : (l m : List Step) (j : ℕ) → EndsAt m j → EndsAt (l ++ m) j
EndsAt-right [] m j h = h
EndsAt-right (test ∷ l) m j h = EndsAt-right l m j h
EndsAt-right (end k ∷ l) m j h = inr (EndsAt-right l m j h)

pub EndsAt-parts : (l m : List Step) (j : ℕ) → EndsAt (l ++ m) j → EndsAt l j ⊎ EndsAt m j
EndsAt-parts [] m j h = inr h
EndsAt-parts (test ∷ l) m j h = EndsAt-parts l m j h
EndsAt-parts (end k ∷ l) m j (inl e) = inl (inl e)
EndsAt-parts (end k ∷ l) m j (inr h) = ⊎_elim (λ a. inl (inr a)) (λ b. inr b) (EndsAt-parts l m j h)

pub EndsAt-onward : (next : ℕ → List Step) (l : List Step) (k j : ℕ) → EndsAt l k → EndsAt (next k) j → EndsAt (onward l next) j
EndsAt-onward next [] k j h n = absurd h
EndsAt-onward next (test ∷ l) k j h n = EndsAt-onward next l k j h n
EndsAt-onward next (end m ∷ l) k j (inl e) n = EndsAt-left (next m) (onward l next) j (subst (λ x. EndsAt (next x) j) (sym e) n)
EndsAt-onward next (end m ∷ l) k j (inr h) n = EndsAt-right (next m) (onward l next) j (EndsAt-onward next l k j h n)

pub EndsAt-through : (next : ℕ → List Step) (l : List Step) (j : ℕ) → EndsAt (onward l next) j → (k : ℕ) × EndsAt l k × EndsAt (next k) j
EndsAt-through next [] j h = absurd h
EndsAt-through next (test ∷ l) j h = EndsAt-through next l j h
EndsAt-through next (end m ∷ l) j h = ⊎_elim
    (λ here. (m, inl refl, here))
    (λ later. let r = EndsAt-through next l j later in (r.0, inr r.1, r.2))
    (EndsAt-parts (next m) (onward l next) j h)

EndsAt-more : (greedy : Bool) (i j : ℕ) (l : List Step) → (i ≡ j) ⊎ EndsAt l j → EndsAt (one_more greedy (end i) l) j
EndsAt-more true i j l (inl e) = EndsAt-right l (end i ∷ []) j (inl e)
EndsAt-more true i j l (inr h) = EndsAt-left l (end i ∷ []) j h
EndsAt-more false i j l h = h

EndsAt-fewer : (greedy : Bool) (i j : ℕ) (l : List Step) → EndsAt (one_more greedy (end i) l) j → (i ≡ j) ⊎ EndsAt l j
EndsAt-fewer true i j l h = ⊎_elim (λ a. inr a) (λ b. ⊎_elim (λ e. inl e) (λ x. absurd x) b) (EndsAt-parts l (end i ∷ []) j h)
EndsAt-fewer false i j l h = h

-- What holds of each end holds of this one.
pub at_end : (P : ℕ → Type 0) (l : List Step) (j : ℕ) → Ends P l → EndsAt l j → P j
at_end P [] j all h = absurd h
at_end P (test ∷ l) j all h = at_end P l j all h
at_end P (end k ∷ l) j all (inl e) = subst P e all.0
at_end P (end k ∷ l) j all (inr h) = at_end P l j all.1 h

EndsAt-if : (b : Bool) (i j : ℕ) → EndsAt (if b then end i ∷ [] else []) j → (b ≡ true) × (i ≡ j)
EndsAt-if true i j (inl e) = (refl, e)
EndsAt-if true i j (inr h) = absurd h
EndsAt-if false i j h = absurd h

EndsAt-then : (b : Bool) (i j : ℕ) → b ≡ true → i ≡ j → EndsAt (if b then end i ∷ [] else []) j
EndsAt-then true i j t e = inl e
EndsAt-then false i j t e = cc

-- ---- each end of the run is a span

round_ends : (e : Tree) (greedy : Bool) (w : List ℕ) (i j : ℕ) → ((k : ℕ) → EndsAt (run e w i) k → Spans e w i k)
    → ((k : ℕ) → i < k → k ≤ length w → EndsAt (run (many e greedy) w k) j → Rounds (Spans e w) k j)
    → EndsAt (run (many e greedy) w i) j → Rounds (Spans e w) i j
round_ends e greedy w i j at_e onwards h =
    let further = λ (k : ℕ). if nat_lt i k then run (many e greedy) w k else end k ∷ [] in
    let here : (i ≡ j) → Rounds (Spans e w) i j = λ same. subst (λ x. Rounds (Spans e w) i x) same stop in
    ⊎_elim here
    (λ on. let r = EndsAt-through further (run e w i) j on in
    let go : Goes w i r.0 = at_end (Goes w i) (run e w i) r.0 (run_goes e w i) r.1 in
    cond_both (nat_lt i r.0) (run (many e greedy) w r.0) (end r.0 ∷ []) (λ s. EndsAt s j → Rounds (Spans e w) i j)
    (λ t last. let lt : i < r.0 = ltb-true i r.0 t in again lt (at_e r.0 r.1) (onwards r.0 lt (go.1 lt) last))
    (λ t last. ⊎_elim (λ same. let ge : r.0 ≤ i = ltb-false i r.0 t in here (omega (arith, go.0))) (λ x. absurd x) last)
    r.2)
    (EndsAt-fewer greedy i j (onward (run e w i) further) (subst (λ s. EndsAt s j) (run-many e greedy w i) h))

end_rounds : (e : Tree) (greedy : Bool) (w : List ℕ) → ((i j : ℕ) → EndsAt (run e w i) j → Spans e w i j)
    → (n i j : ℕ) → length w ≤ n + i → EndsAt (run (many e greedy) w i) j → Rounds (Spans e w) i j
end_rounds e greedy w at_e zero i j le = round_ends e greedy w i j (at_e i) (λ k lt in_text last. absurd (omega arith))
end_rounds e greedy w at_e (suc n) i j le = round_ends e greedy w i j (at_e i) (λ k lt in_text last. end_rounds e greedy w at_e n k j (omega arith) last)

pub end-span : (e : Tree) (w : List ℕ) (i j : ℕ) → EndsAt (run e w i) j → Spans e w i j
end-span empty w i j h = ⊎_elim (λ same. same) (λ x. absurd x) h
end-span (one s) w i j h = EndsAt-if (is_in s (slice_get w i)) (suc i) j h
end-span (guard g) w i j h = EndsAt-if (holds_at g w i) i j h
end-span (both e f) w i j h =
    let r = EndsAt-through (run f w) (run e w i) j h in
    (r.0, end-span e w i r.0 r.1, end-span f w r.0 j r.2)
end-span (either e f) w i j h = ⊎_elim (λ a. inl (end-span e w i j a)) (λ b. inr (end-span f w i j b)) (EndsAt-parts (run e w i) (run f w i) j h)
end-span (many e greedy) w i j h = end_rounds e greedy w (end-span e w) (length w) i j (omega arith) h

-- ---- each span is an end of the run

rounds_end : (e : Tree) (greedy : Bool) (w : List ℕ) → ((i j : ℕ) → Spans e w i j → EndsAt (run e w i) j)
    → {i j : ℕ} → Rounds (Spans e w) i j → EndsAt (run (many e greedy) w i) j
rounds_end e greedy w at_e (stop {i = i}) =
    subst (λ s. EndsAt s i) (sym (run-many e greedy w i)) (EndsAt-more greedy i i _ (inl refl))
rounds_end e greedy w at_e (again {i = i} {k = k} {j = j} lt span rest) =
    let further = λ (m : ℕ). if nat_lt i m then run (many e greedy) w m else end m ∷ [] in
    let last : EndsAt (further k) j =
    subst (λ s. EndsAt s j) (sym (cond-true (nat_lt i k) (run (many e greedy) w k) (end k ∷ []) (lt-ltb i k lt))) (rounds_end e greedy w at_e rest) in
    subst (λ s. EndsAt s j) (sym (run-many e greedy w i))
    (EndsAt-more greedy i j (onward (run e w i) further) (inr (EndsAt-onward further (run e w i) k j (at_e i k span) last)))

pub span-end : (e : Tree) (w : List ℕ) (i j : ℕ) → Spans e w i j → EndsAt (run e w i) j
span-end empty w i j h = inl h
span-end (one s) w i j h = EndsAt-then (is_in s (slice_get w i)) (suc i) j h.0 h.1
span-end (guard g) w i j h = EndsAt-then (holds_at g w i) i j h.0 h.1
span-end (both e f) w i j h = EndsAt-onward (run f w) (run e w i) h.0 j (span-end e w i h.0 h.1) (span-end f w h.0 j h.2)
span-end (either e f) w i j h =
    ⊎_elim (λ a. EndsAt-left (run e w i) (run f w i) j (span-end e w i j a)) (λ b. EndsAt-right (run e w i) (run f w i) j (span-end f w i j b)) h
span-end (many e greedy) w i j h = rounds_end e greedy w (span-end e w) h

-- ---- hits

hit_at : (hit : ℕ → Bool) (l : List Step) → has_hit (tests hit l) ≡ true → (j : ℕ) × EndsAt l j × (hit j ≡ true)
hit_at hit [] h = cc
hit_at hit (test ∷ l) h = hit_at hit l h
hit_at hit (end j ∷ l) h = ⊎_elim
    (λ here. (j, inl refl, here))
    (λ later. let r = hit_at hit l later in (r.0, inr r.1, r.2))
    (or_cases (hit j) (has_hit (tests hit l)) h)

hit_from : (hit : ℕ → Bool) (l : List Step) (j : ℕ) → EndsAt l j → hit j ≡ true → has_hit (tests hit l) ≡ true
hit_from hit [] j h t = absurd h
hit_from hit (test ∷ l) j h t = hit_from hit l j h t
hit_from hit (end k ∷ l) j (inl e) t = or_left (hit k) (has_hit (tests hit l)) (ap hit e ∙ t)
hit_from hit (end k ∷ l) j (inr h) t = or_right (hit k) (has_hit (tests hit l)) (hit_from hit l j h t)

pub matched_to_end : (t : Tree) (w : List ℕ) → IsTrue (matched t AtEnd w) ↔ Spans t w 0 (length w)
unfolding all_tests
matched_to_end t w = (
  λ h. let r = hit_at (is_hit AtEnd (length w)) (run t w 0) h in
      subst (λ j. Spans t w 0 j) (eqb-true r.0 (length w) r.2) (end-span t w 0 r.0 r.1),
  λ s. hit_from (is_hit AtEnd (length w)) (run t w 0) (length w) (span-end t w 0 (length w) s) (eq-eqb (length w) (length w) refl),
)

pub matched_to_some : (t : Tree) (w : List ℕ) → IsTrue (matched t Anywhere w) ↔ ((j : ℕ) × Spans t w 0 j)
unfolding all_tests
matched_to_some t w = (
  λ h. let r = hit_at (is_hit Anywhere (length w)) (run t w 0) h in (r.0, end-span t w 0 r.0 r.1),
  λ s. hit_from (is_hit Anywhere (length w)) (run t w 0) s.0 (span-end t w 0 s.0 s.1) refl,
)
