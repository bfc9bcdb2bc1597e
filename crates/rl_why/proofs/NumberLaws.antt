-- The move numbers of the automaton of a path of the graph of its live pairs are a path of the automaton, and different paths
-- have different numbers.
use Rattle.std.proofs.Common.{◌≡◌, ℕ, zero, suc, ◌+◌, ◌-◌, ◌<◌, ◌≤◌, ◌==◌, ◌⊎◌, inl, inr, ⊎_elim, true, false, List, [], ◌∷◌, ◌++◌, length, map, drop, get_or, Some, slice_get, slice_index, option_map, if◌then◌else◌, refl, sym, ap, ap₂, ◌∙◌, subst, arith, add-one, drop-cons, append_assoc}
use Rattle.std.proofs.lemmas.Bool.{cases_lt, eq-eqb, ne_eqb}
use Rattle.std.proofs.lemmas.List.{drop_all}
use Rattle.std.proofs.lemmas.Bool.Decides.{eqb_tells}
use Rattle.std.proofs.lemmas.Option.{slice_get-map, none-some, same_Some}
use Rattle.rl_graph.specs.Paths.{onto, led, IsPath, Has}
use Rattle.rl_graph.proofs.Sums.{Has-at, at-short, at-get_or}
use Rattle.rl_graph.proofs.TwinPaths.{onto-some}
use Rattle.rl_prio.specs.Automaton.{Automaton, letters_count, moves_at}
use Rattle.rl_prio.proofs.AutomatonLemmas.{moves_at-outside}
use Rattle.rl_sets.specs.Live.{image, joined}
use Rattle.rl_pairs.specs.declared.pair.Pair.{Pair}
use Rattle.rl_pairs.specs.LivePairs.{pairs_from}
use Rattle.rl_pairs.specs.PairGraph.{KeptLive, IsPairGraph}
use Rattle.rl_why.specs.internal.Numbers.{kept_place, numbers_along}

-- ---- some of a list, in order

-- The kept states are some of the targets, in order.
abbrev pub Among : List ℕ → List ℕ → Type 0
Among [] targets = Unit {0}
Among (k ∷ kept) [] = ⊥
Among (k ∷ kept) (target ∷ targets) = ((k ≡ target) × Among kept targets) ⊎ Among (k ∷ kept) targets

among-more : (kept targets : List ℕ) (target : ℕ) → Among kept targets → Among kept (target ∷ targets)
among-more [] targets target h = tt
among-more (k ∷ kept) targets target h = inr h

among-drop : (k : ℕ) (kept targets : List ℕ) → Among (k ∷ kept) targets → Among kept targets
among-drop k kept [] h = absurd h
among-drop k kept (target ∷ targets) (inl (e, h)) = among-more kept targets target h
among-drop k kept (target ∷ targets) (inr h) = among-more kept targets target (among-drop k kept targets h)

-- The rest of the targets has the rest of the kept ones.
among-met : (k target : ℕ) (kept targets : List ℕ) → Among (k ∷ kept) (target ∷ targets) → Among kept targets
among-met k target kept targets (inl (e, h)) = h
among-met k target kept targets (inr h) = among-drop k kept targets h

among-missed : (k target : ℕ) (kept targets : List ℕ) → (target ≡ k → ⊥) → Among (k ∷ kept) (target ∷ targets) → Among (k ∷ kept) targets
among-missed k target kept targets other (inl (e, h)) = absurd (other (sym e))
among-missed k target kept targets other (inr h) = h

-- ---- where the kept ones are

place-met : (k target j : ℕ) (kept targets : List ℕ) → (target == k) ≡ true → kept_place (k ∷ kept) (target ∷ targets) (suc j) ≡ suc (kept_place kept targets j)
place-met k target j kept targets e = ap (λ b. if b then suc (kept_place kept targets j) else suc (kept_place (k ∷ kept) targets (suc j))) e

place-found : (k target : ℕ) (kept targets : List ℕ) → (target == k) ≡ true → kept_place (k ∷ kept) (target ∷ targets) 0 ≡ 0
place-found k target kept targets e = ap (λ b. if b then 0 else suc (kept_place (k ∷ kept) targets 0)) e

place-missed : (k target j : ℕ) (kept targets : List ℕ) → (target == k) ≡ false → kept_place (k ∷ kept) (target ∷ targets) j ≡ suc (kept_place (k ∷ kept) targets j)
place-missed k target zero kept targets e = ap (λ b. if b then 0 else suc (kept_place (k ∷ kept) targets 0)) e
place-missed k target (suc j) kept targets e = ap (λ b. if b then suc (kept_place kept targets j) else suc (kept_place (k ∷ kept) targets (suc j))) e

pub kept-found : (kept targets : List ℕ) (j s : ℕ) → Among kept targets → slice_get kept j ≡ Some s → slice_get targets (kept_place kept targets j) ≡ Some s
kept-found [] targets j s h e = absurd (none-some s e)
kept-found (k ∷ kept) [] j s h e = absurd h
kept-found (k ∷ kept) (target ∷ targets) zero s h e =
    ⊎_elim
    (λ x. ap (slice_get (target ∷ targets)) (place-found k target kept targets x.0) ∙ ap Some x.1 ∙ e)
    (λ x. ap (slice_get (target ∷ targets)) (place-missed k target 0 kept targets x.0) ∙ kept-found (k ∷ kept) targets 0 s (among-missed k target kept targets x.1 h) e)
    (eqb_tells target k)
kept-found (k ∷ kept) (target ∷ targets) (suc j) s h e =
    ⊎_elim
    (λ x. ap (slice_get (target ∷ targets)) (place-met k target j kept targets x.0) ∙ kept-found kept targets j s (among-met k target kept targets h) e)
    (λ x. ap (slice_get (target ∷ targets)) (place-missed k target (suc j) kept targets x.0) ∙ kept-found (k ∷ kept) targets (suc j) s (among-missed k target kept targets x.1 h) e)
    (eqb_tells target k)

pub kept-apart : (kept targets : List ℕ) (i j : ℕ) → Among kept targets → i < length kept → j < length kept → kept_place kept targets i ≡ kept_place kept targets j → i ≡ j
kept-apart [] targets i j h i_in j_in e = absurd (omega (arith, i_in))
kept-apart (k ∷ kept) [] i j h i_in j_in e = absurd h
kept-apart (k ∷ kept) (target ∷ targets) i j h i_in j_in e =
    ⊎_elim
    (λ x. met (λ c d c_in d_in same. kept-apart kept targets c d (among-met k target kept targets h) c_in d_in same) i j i_in j_in e x.0)
    (λ x. kept-apart (k ∷ kept) targets i j (among-missed k target kept targets x.1 h) i_in j_in
    (omega (arith, e, place-missed k target i kept targets x.0, place-missed k target j kept targets x.0)))
    (eqb_tells target k)
  where
    met : ((c d : ℕ) → c < length kept → d < length kept → kept_place kept targets c ≡ kept_place kept targets d → c ≡ d)
        → (i j : ℕ) → i < length (k ∷ kept) → j < length (k ∷ kept) → kept_place (k ∷ kept) (target ∷ targets) i ≡ kept_place (k ∷ kept) (target ∷ targets) j → (target == k) ≡ true → i ≡ j
    met deeper zero zero i_in j_in e is = refl
    met deeper zero (suc j) i_in j_in e is = absurd (omega (arith, e, place-found k target kept targets is, place-met k target j kept targets is))
    met deeper (suc i) zero i_in j_in e is = absurd (omega (arith, e, place-found k target kept targets is, place-met k target i kept targets is))
    met deeper (suc i) (suc j) i_in j_in e is =
        ap suc
        (deeper i j (omega (arith, i_in)) (omega (arith, j_in))
        (omega (arith, e, place-met k target i kept targets is, place-met k target j kept targets is)))

-- ---- one step through the targets

pub next-drop : {A : Type 0} (l : List A) (k : ℕ) (d : A) → k < length l → drop k l ≡ get_or l k d ∷ drop (k + 1) l
next-drop l k d lt = drop-cons l k d lt ∙ ap (λ m. get_or l k d ∷ drop m l) (sym (add-one k))

pub found-here : (kept targets : List ℕ) (next place number : ℕ) → next ≡ number → next < length kept → place < length targets → get_or targets place 0 ≡ get_or kept next 0
    → place + kept_place (drop next kept) (drop place targets) (number - next) ≡ kept_place kept targets number → place ≡ kept_place kept targets number
found-here kept targets next place number e next_in place_in same rest =
    let k = get_or kept next 0 in
    let t = get_or targets place 0 in
    let none : number - next ≡ 0 = omega (arith, e) in
    let zero_here : kept_place (drop next kept) (drop place targets) (number - next) ≡ 0 =
    ap (kept_place (drop next kept) (drop place targets)) none
    ∙ ap₂ (λ x y. kept_place x y 0) (next-drop kept next 0 next_in) (next-drop targets place 0 place_in)
    ∙ place-found k t (drop (next + 1) kept) (drop (place + 1) targets) (eq-eqb t k same) in
    omega (arith, rest, zero_here)

pub met-here : (kept targets : List ℕ) (next more place number all : ℕ) → (next ≡ number → ⊥) → next ≤ number → more ≡ next + 1 → next < length kept → place < length targets
    → get_or targets place 0 ≡ get_or kept next 0 → place + kept_place (drop next kept) (drop place targets) (number - next) ≡ all
    → (more ≤ number) × (place + 1 + kept_place (drop more kept) (drop (place + 1) targets) (number - more) ≡ all)
met-here kept targets next more place number all other le e next_in place_in same rest =
    let k = get_or kept next 0 in
    let t = get_or targets place 0 in
    let some : number - next ≡ suc (number - more) = omega (arith, other, le, e) in
    let one_more : kept_place (drop next kept) (drop place targets) (number - next) ≡ suc (kept_place (drop more kept) (drop (place + 1) targets) (number - more)) =
    ap (kept_place (drop next kept) (drop place targets)) some
    ∙ ap₂ (λ x y. kept_place x y (suc (number - more))) (next-drop kept next 0 next_in) (next-drop targets place 0 place_in)
    ∙ place-met k t (number - more) (drop (next + 1) kept) (drop (place + 1) targets) (eq-eqb t k same)
    ∙ ap (λ x. suc (kept_place (drop x kept) (drop (place + 1) targets) (number - more))) (sym e) in
    (omega (arith, other, le, e), omega (arith, rest, one_more))

pub missed-here : (kept targets : List ℕ) (next more place number all : ℕ) → next ≤ number → more ≡ next → next < length kept → place < length targets
    → (get_or targets place 0 ≡ get_or kept next 0 → ⊥) → place + kept_place (drop next kept) (drop place targets) (number - next) ≡ all
    → (more ≤ number) × (place + 1 + kept_place (drop more kept) (drop (place + 1) targets) (number - more) ≡ all)
missed-here kept targets next more place number all le e next_in place_in other rest =
    let k = get_or kept next 0 in
    let t = get_or targets place 0 in
    let one_more : kept_place (drop next kept) (drop place targets) (number - next) ≡ suc (kept_place (drop more kept) (drop (place + 1) targets) (number - more)) =
    ap₂ (λ x y. kept_place x y (number - next)) (next-drop kept next 0 next_in) (next-drop targets place 0 place_in)
    ∙ place-missed k t (number - next) (drop (next + 1) kept) (drop (place + 1) targets) (ne_eqb t k other)
    ∙ ap (λ x. suc (kept_place x (drop (place + 1) targets) (number - next))) (sym (next-drop kept next 0 next_in))
    ∙ ap (λ x. suc (kept_place (drop x kept) (drop (place + 1) targets) (number - x))) (sym e) in
    (omega (arith, le, e), omega (arith, rest, one_more))

-- ---- the moves that the graph keeps

among-live : (a : Automaton) (at : ℕ → Pair) (set targets numbers : List ℕ) → KeptLive a at (pairs_from a set targets) numbers → Among (map (λ k. (at k).state) numbers) targets
among-live a at set [] numbers e = subst (λ l. Among (map (λ k. (at k).state) l) []) (sym e) tt
among-live a at set (target ∷ targets) numbers (inl (dead, more)) =
    among-more (map (λ k. (at k).state) numbers) targets target (among-live a at (joined a target set) targets numbers more)
among-live a at set (target ∷ targets) numbers (inr (k, rest, live, e, same, more)) =
    subst (λ l. Among (map (λ k. (at k).state) l) (target ∷ targets)) (sym e)
    (inl (ap (λ p. p.state) same, among-live a at (joined a target set) targets rest more))

pub among-graph : (a : Automaton) (next : ℕ → ℕ → List ℕ) (at : ℕ → Pair) (n : ℕ) → IsPairGraph a next at n → (i letter : ℕ) → i < n
    → Among (map (λ k. (at k).state) (next i letter)) (moves_at a (at i).state letter)
among-graph a next at n g i letter lt =
    ⊎_elim
    (λ in_letters. among-live a at (image a (at i).set letter) (moves_at a (at i).state letter) (next i letter) (g.moves i letter lt (omega (arith, in_letters))))
    (λ beyond. subst (λ l. Among (map (λ k. (at k).state) l) (moves_at a (at i).state letter)) (sym (g.empty i letter (inr (omega (arith, beyond))))) tt)
    (cases_lt letter (suc (letters_count a)))

-- ---- paths

pub path-long : (next : ℕ → ℕ → List ℕ) (s t : ℕ) (w p : List ℕ) → IsPath next s t p w → length p ≡ length w
path-long next s t [] [] path = refl
path-long next s t [] (i ∷ p) path = absurd (none-some t path)
path-long next s t (l ∷ w) [] path = absurd (none-some t path)
path-long next s t (l ∷ w) (i ∷ p) path =
    let x = onto-some (λ m. led next m p w) (slice_get (next s l) i) t path in ap suc (path-long next x.0 t w p x.2)

-- The move of a path at the place `k`, and what follows it.
pub record IsMove (next : ℕ → ℕ → List ℕ) (word path : List ℕ) (at to k : ℕ) : Type 0 where
  pub in_kept : get_or path k 0 < length (next at (get_or word k 0))
  pub in_path : k < length path
  pub rest : IsPath next (get_or (next at (get_or word k 0)) (get_or path k 0) 0) to (drop (k + 1) path) (drop (k + 1) word)

pub move-at : (next : ℕ → ℕ → List ℕ) (word path : List ℕ) (at to k : ℕ) → k < length word → IsPath next at to (drop k path) (drop k word) → IsMove next word path at to k
move-at next word path at to k lt there =
    let l = get_or word k 0 in
    let here : led next at (drop k path) (l ∷ drop (k + 1) word) ≡ Some to = subst (λ w. led next at (drop k path) w ≡ Some to) (next-drop word k 0 lt) there in
    ⊎_elim
    (λ in_path.
    let j = get_or path k 0 in
    let x = onto-some (λ m. led next m (drop (k + 1) path) (drop (k + 1) word)) (slice_get (next at l) j) to
    (subst (λ p. led next at p (l ∷ drop (k + 1) word) ≡ Some to) (next-drop path k 0 in_path) here) in
    record {
      in_kept = at-short (next at l) j x.0 x.1;
      in_path = in_path;
      rest = subst (λ m. IsPath next m to (drop (k + 1) path) (drop (k + 1) word)) (sym (at-get_or (next at l) j x.0 0 x.1)) x.2;
    })
    (λ beyond. absurd (none-some to (subst (λ p. led next at p (l ∷ drop (k + 1) word) ≡ Some to) (drop_all k path beyond) here)))
    (cases_lt k (length path))

-- A state that has a kept move is one of the automaton.
pub state-in : (a : Automaton) (next : ℕ → ℕ → List ℕ) (at : ℕ → Pair) (n : ℕ) → IsPairGraph a next at n → (i letter j : ℕ) → i < n → j < length (next i letter) → (at i).state < a.states
state-in a next at n g i letter j lt some =
    ⊎_elim (λ inside. inside)
    (λ beyond. absurd (none (next i letter) some (subst (Among (map (λ k. (at k).state) (next i letter))) (moves_at-outside a (at i).state letter (inl beyond)) (among-graph a next at n g i letter lt))))
    (cases_lt (at i).state a.states)
  where
    none : (l : List ℕ) → j < length l → Among (map (λ k. (at k).state) l) [] → ⊥
    none [] h among = omega (arith, h)
    none (k ∷ l) h among = among

pub numbers-step : (next : ℕ → ℕ → List ℕ) (state : ℕ → ℕ) (moves : ℕ → ℕ → List ℕ) (word path numbers more all kept targets : List ℕ) (at k number : ℕ) → k < length word → k < length path
    → kept ≡ next at (get_or word k 0) → targets ≡ moves (state at) (get_or word k 0) → number ≡ kept_place (map state kept) targets (get_or path k 0) → more ≡ numbers ++ number ∷ []
    → numbers ++ numbers_along next state moves at (drop k word) (drop k path) ≡ all
    → more ++ numbers_along next state moves (get_or kept (get_or path k 0) 0) (drop (k + 1) word) (drop (k + 1) path) ≡ all
numbers-step next state moves word path numbers more all kept targets at k number in_word in_path kept_is targets_is number_is more_is rest =
    let l = get_or word k 0 in
    let j = get_or path k 0 in
    let after : ℕ → List ℕ = λ m. numbers_along next state moves m (drop (k + 1) word) (drop (k + 1) path) in
    let same : number ≡ kept_place (map state (next at l)) (moves (state at) l) j = number_is ∙ ap₂ (λ x y. kept_place (map state x) y j) kept_is targets_is in
    let here : numbers_along next state moves at (drop k word) (drop k path) ≡ number ∷ after (get_or kept j 0) =
    ap₂ (λ w p. numbers_along next state moves at w p) (next-drop word k 0 in_word) (next-drop path k 0 in_path)
    ∙ ap₂ (λ x y. x ∷ after y) (sym same) (ap (λ x. get_or x j 0) (sym kept_is)) in
    ap (λ x. x ++ after (get_or kept j 0)) more_is ∙ append_assoc numbers (number ∷ []) (after (get_or kept j 0)) ∙ ap (λ x. numbers ++ x) (sym here) ∙ rest

module _ (next : ℕ → ℕ → List ℕ) (state : ℕ → ℕ) (moves : ℕ → ℕ → List ℕ) (n : ℕ)
    (among : (i l : ℕ) → i < n → Among (map state (next i l)) (moves (state i) l)) (inside : (i l k : ℕ) → i < n → Has k (next i l) → k < n) where
  pub numbers-path : (w p : List ℕ) (i t : ℕ) → i < n → IsPath next i t p w → IsPath moves (state i) (state t) (numbers_along next state moves i w p) w
  numbers-path [] [] i t lt path = ap Some (ap state (same_Some i t path))
  numbers-path [] (j ∷ p) i t lt path = absurd (none-some t path)
  numbers-path (l ∷ w) [] i t lt path = absurd (none-some t path)
  numbers-path (l ∷ w) (j ∷ p) i t lt path =
      let x = onto-some (λ m. led next m p w) (slice_get (next i l) j) t path in
      let m = x.0 in
      let kept = map state (next i l) in
      let there : slice_get kept j ≡ Some (state m) = slice_get-map state (next i l) j ∙ ap (option_map state) x.1 in
      let found = kept-found kept (moves (state i) l) j (state m) (among i l lt) there in
      let rest = numbers_along next state moves (slice_index (next i l) j) w p in
      let same : slice_index (next i l) j ≡ m = at-get_or (next i l) j m 0 x.1 in
      ap (onto (λ q. led moves q rest w)) found
      ∙ subst (λ q. led moves (state m) (numbers_along next state moves q w p) w ≡ Some (state t)) (sym same)
      (numbers-path w p m t (inside i l m lt (Has-at (next i l) j m x.1)) x.2)

  pub numbers-apart : (w p r : List ℕ) (i t u : ℕ) → i < n → IsPath next i t p w → IsPath next i u r w
      → numbers_along next state moves i w p ≡ numbers_along next state moves i w r → p ≡ r
  numbers-apart [] [] [] i t u lt one other same = refl
  numbers-apart [] (j ∷ p) r i t u lt one other same = absurd (none-some t one)
  numbers-apart [] [] (k ∷ r) i t u lt one other same = absurd (none-some u other)
  numbers-apart (l ∷ w) [] r i t u lt one other same = absurd (none-some t one)
  numbers-apart (l ∷ w) (j ∷ p) [] i t u lt one other same = absurd (none-some u other)
  numbers-apart (l ∷ w) (j ∷ p) (k ∷ r) i t u lt one other same =
      let x = onto-some (λ m. led next m p w) (slice_get (next i l) j) t one in
      let y = onto-some (λ m. led next m r w) (slice_get (next i l) k) u other in
      let kept = map state (next i l) in
      let here : slice_get kept j ≡ Some (state x.0) = slice_get-map state (next i l) j ∙ ap (option_map state) x.1 in
      let there : slice_get kept k ≡ Some (state y.0) = slice_get-map state (next i l) k ∙ ap (option_map state) y.1 in
      let e : j ≡ k = kept-apart kept (moves (state i) l) j k (among i l lt) (at-short kept j (state x.0) here) (at-short kept k (state y.0) there) (heads same) in
      let alike : x.0 ≡ y.0 = same_Some x.0 y.0 (sym x.1 ∙ ap (slice_get (next i l)) e ∙ y.1) in
      let one_is : slice_index (next i l) j ≡ x.0 = at-get_or (next i l) j x.0 0 x.1 in
      let other_is : slice_index (next i l) k ≡ x.0 = at-get_or (next i l) k y.0 0 y.1 ∙ sym alike in
      let rest : numbers_along next state moves x.0 w p ≡ numbers_along next state moves x.0 w r =
      ap (λ q. numbers_along next state moves q w p) (sym one_is) ∙ tails same ∙ ap (λ q. numbers_along next state moves q w r) other_is in
      ap₂ (λ q qs. q ∷ qs) e
      (numbers-apart w p r x.0 t u (inside i l x.0 lt (Has-at (next i l) j x.0 x.1)) x.2 (subst (λ q. led next q r w ≡ Some u) (sym alike) y.2) rest)
    where
      heads : {c d : ℕ} {xs ys : List ℕ} → c ∷ xs ≡ d ∷ ys → c ≡ d
      heads h = cc

      tails : {c d : ℕ} {xs ys : List ℕ} → c ∷ xs ≡ d ∷ ys → xs ≡ ys
      tails h = cc
