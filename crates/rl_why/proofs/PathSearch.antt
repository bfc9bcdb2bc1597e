-- The first path to a state along a word that leads there.
use Rattle.std.proofs.Common.{◌≡◌, ℕ, suc, ◌+◌, ◌-◌, ◌<◌, ◌≤◌, ◌||◌, Bool, true, false, List, [], ◌∷◌, ◌++◌, length, drop, get_or, All, ⊎_elim, ap₂, append_assoc, Some, slice_index, if◌then◌else◌, refl, sym, ap, ◌∙◌, subst, inl, inr, arith}
use Rattle.std.specs.List.{list_any}
use Rattle.std.proofs.lemmas.Bool.{eq-eqb, eqb-true, cases_lt}
use Rattle.std.proofs.lemmas.List.{get_or_append_left, get_or_default, get_or_push, drop_all, append-nil}
use Rattle.rl_graph.specs.Graph.{Graph, edges_of, IsWhole}
use Rattle.rl_pairs.proofs.StillLaws.{All-has}
use Rattle.rl_why.proofs.NumberLaws.{next-drop}
use Rattle.rl_graph.specs.Paths.{paths, onto, led, IsPath, Has}
use Rattle.rl_graph.proofs.PathLaws.{nil-same}
use Rattle.rl_graph.proofs.Sums.{total-there, get_or-at, Has-get_or}
use Rattle.rl_ranges.specs.Letters.{place_where}
use Rattle.rl_why.specs.internal.Paths.{is_led, path_to, flag, AreFlags}

-- ---- tests on lists

any-has : (f : ℕ → Bool) (l : List ℕ) (x : ℕ) → Has x l → f x ≡ true → list_any f l ≡ true
any-has f [] x h e = absurd h
any-has f (y ∷ l) x (inl same) e = ap (λ b. b || list_any f l) (ap f (sym same) ∙ e)
any-has f (y ∷ l) x (inr h) e = by (f y) (any-has f l x h e)
  where
    by : (b : Bool) → list_any f l ≡ true → (b || list_any f l) ≡ true
    by true rest = refl
    by false rest = rest

-- The first member that passes the test, where one does.
pub place-any : (f : ℕ → Bool) (l : List ℕ) → list_any f l ≡ true → (place_where f l < length l) × (f (get_or l (place_where f l) 0) ≡ true)
place-any f [] e = cc
place-any f (x ∷ l) e = by (f x) refl (place-any f l) e
  where
    by : (b : Bool) → f x ≡ b → (list_any f l ≡ true → (place_where f l < length l) × (f (get_or l (place_where f l) 0) ≡ true)) → (b || list_any f l) ≡ true
        → ((if b then 0 else suc (place_where f l)) < length (x ∷ l)) × (f (get_or (x ∷ l) (if b then 0 else suc (place_where f l)) 0) ≡ true)
    by true is deeper h = (omega arith, is)
    by false is deeper h = let rest = deeper h in (omega (arith, rest.0), rest.1)

pub place-same : (f g : ℕ → Bool) (l : List ℕ) → ((x : ℕ) → Has x l → f x ≡ g x) → place_where f l ≡ place_where g l
place-same f g [] same = refl
place-same f g (x ∷ l) same =
    ap (λ b. if b then 0 else suc (place_where f l)) (same x (inl refl))
    ∙ ap (λ k. if g x then 0 else suc k) (place-same f g l (λ y h. same y (inr h)))

pub any-same : (f g : ℕ → Bool) (l : List ℕ) → ((x : ℕ) → Has x l → f x ≡ g x) → list_any f l ≡ list_any g l
any-same f g [] same = refl
any-same f g (x ∷ l) same =
    ap (λ b. b || list_any f l) (same x (inl refl)) ∙ ap (λ b. g x || b) (any-same f g l (λ y h. same y (inr h)))

-- ---- paths

pub paths-led : (next : ℕ → ℕ → List ℕ) (to : ℕ) (w : List ℕ) (q : ℕ) → 1 ≤ paths next q to w → is_led next to w q ≡ true
paths-led next to [] q h = eq-eqb q to (nil-same next q to h)
paths-led next to (l ∷ w) q h =
    let x = total-there (λ m. paths next m to w) (next q l) h in any-has (is_led next to w) (next q l) x.0 x.1 (paths-led next to w x.0 x.2)

pub led-path : (next : ℕ → ℕ → List ℕ) (to : ℕ) (w : List ℕ) (q : ℕ) → is_led next to w q ≡ true → IsPath next q to (path_to next to w q) w
led-path next to [] q h = ap Some (eqb-true q to h)
led-path next to (l ∷ w) q h =
    let i = place_where (is_led next to w) (next q l) in
    let x = place-any (is_led next to w) (next q l) h in
    let m = slice_index (next q l) i in
    ap (onto (λ s. led next s (path_to next to w m) w)) (get_or-at (next q l) i 0 x.0) ∙ led-path next to w m x.1

-- ---- what the program finds on the way

-- The targets of a state are states.
pub edges-inside : (g : Graph) (q l n : ℕ) (edges : List ℕ) → IsWhole g → edges ≡ edges_of g q l → n ≡ g.states → All (λ m. m < n) edges
edges-inside g q l n edges whole is size = λ k d lt. omega (arith, size, whole.targets q l (get_or edges k d) (subst (Has (get_or edges k d)) is (Has-get_or edges k d lt)))

module _ (n : ℕ) (next : ℕ → ℕ → List ℕ) (to : ℕ) (word : List ℕ) where
  -- One more layer of flags.
  pub layers-push : (k letter : ℕ) (layers more : List (List Bool)) (last flags : List Bool) → k < length word → length layers ≡ k + 1 → ((q l m : ℕ) → Has m (next q l) → m < n)
      → ((j : ℕ) → j ≤ k → AreFlags n (is_led next to (drop (length word - j) word)) (get_or layers j [])) → letter ≡ get_or word (length word - 1 - k) 0
      → last ≡ get_or layers k last → AreFlags n (λ q. list_any (flag last) (next q letter)) flags → more ≡ layers ++ flags ∷ []
      → (j : ℕ) → j ≤ k + 1 → AreFlags n (is_led next to (drop (length word - j) word)) (get_or more j [])
  layers-push k letter layers more last flags lt size inside right letter_is last_is flags_are more_is j le =
      ⊎_elim
      (λ before. subst (AreFlags n (is_led next to (drop (length word - j) word)))
      (sym (ap (λ x. get_or x j []) more_is ∙ get_or_append_left layers (flags ∷ []) [] j (omega (arith, before, size)))) (right j (omega (arith, before))))
      (λ here.
      let e : j ≡ k + 1 = omega (arith, here, le) in
      let w = drop (length word - k) word in
      let last_here : last ≡ get_or layers k [] = last_is ∙ get_or_default layers k last [] (omega (arith, size)) in
      let below : AreFlags n (is_led next to w) last = subst (AreFlags n (is_led next to w)) (sym last_here) (right k (omega arith)) in
      let place : length word - 1 - k ≡ length word - j = omega (arith, e, lt) in
      let next_place : length word - j + 1 ≡ length word - k = omega (arith, e, lt) in
      let word_is : drop (length word - j) word ≡ letter ∷ w =
      next-drop word (length word - j) 0 (omega (arith, e, lt)) ∙ ap₂ (λ x i. x ∷ drop i word) (sym (letter_is ∙ ap (λ i. get_or word i 0) place)) next_place in
      let test : (q : ℕ) → list_any (flag last) (next q letter) ≡ is_led next to (drop (length word - j) word) q = λ q.
      any-same (flag last) (is_led next to w) (next q letter) (λ m h. below.right m (inside q letter m h)) ∙ ap (λ x. is_led next to x q) (sym word_is) in
      subst (AreFlags n (is_led next to (drop (length word - j) word))) (sym (ap (λ x. get_or x j []) more_is ∙ get_or_push layers flags [] j (omega (arith, size, e))))
      (record { size = flags_are.size; right = λ q q_in. flags_are.right q q_in ∙ test q }))
      (cases_lt j (k + 1))

  pub layer-at : (layers list : List (List Bool)) (x : List Bool) (k : ℕ) → k < length word → length layers ≡ length word + 1
      → ((j : ℕ) → j ≤ length word → AreFlags n (is_led next to (drop (length word - j) word)) (get_or layers j [])) → list ≡ layers
      → x ≡ get_or list (length word - 1 - k) x → AreFlags n (is_led next to (drop (k + 1) word)) x
  layer-at layers list x k lt size right same is =
      let j = length word - 1 - k in
      let x_is : x ≡ get_or layers j [] = is ∙ ap (λ l. get_or l j x) same ∙ get_or_default layers j x [] (omega (arith, size, lt)) in
      let e : length word - j ≡ k + 1 = omega (arith, lt) in
      subst (λ i. AreFlags n (is_led next to (drop i word)) x) e
      (subst (AreFlags n (is_led next to (drop (length word - j) word))) (sym x_is) (right j (omega (arith, lt))))

  -- One step of the path.
  pub record IsStep (k q number : ℕ) (targets : List ℕ) : Type 0 where
    pub in_targets : number < length targets
    pub leads : is_led next to (drop (k + 1) word) (get_or targets number 0) ≡ true
    pub path : path_to next to (drop k word) q ≡ number ∷ path_to next to (drop (k + 1) word) (get_or targets number 0)

  pub step-at : (k q number : ℕ) (targets : List ℕ) (flags : List Bool) → k < length word → is_led next to (drop k word) q ≡ true → targets ≡ next q (get_or word k 0)
      → AreFlags n (is_led next to (drop (k + 1) word)) flags → All (λ m. m < n) targets → number ≡ place_where (flag flags) targets → IsStep k q number targets
  step-at k q number targets flags lt leads targets_are flags_are inside number_is =
      let l = get_or word k 0 in
      let w = drop (k + 1) word in
      let f = is_led next to w in
      let word_is : drop k word ≡ l ∷ w = next-drop word k 0 lt in
      let any : list_any f (next q l) ≡ true = sym (ap (λ x. is_led next to x q) word_is) ∙ leads in
      let here : number ≡ place_where f (next q l) =
      number_is ∙ place-same (flag flags) f targets (λ m h. flags_are.right m (All-has (λ x. x < n) targets m inside h)) ∙ ap (place_where f) targets_are in
      let x = place-any f (next q l) any in
      let target : get_or (next q l) (place_where f (next q l)) 0 ≡ get_or targets number 0 = ap₂ (λ y i. get_or y i 0) (sym targets_are) (sym here) in
      record {
        in_targets = omega (arith, here, x.0, ap length targets_are);
        leads = ap f (sym target) ∙ x.1;
        path = ap (λ y. path_to next to y q) word_is ∙ ap₂ (λ i m. i ∷ path_to next to w m) (sym here) target;
      }

  pub path-step : (k q number : ℕ) (targets path more all : List ℕ) → IsStep k q number targets → more ≡ path ++ number ∷ [] → path ++ path_to next to (drop k word) q ≡ all
      → more ++ path_to next to (drop (k + 1) word) (get_or targets number 0) ≡ all
  path-step k q number targets path more all step more_is rest =
      let after = path_to next to (drop (k + 1) word) (get_or targets number 0) in
      ap (λ x. x ++ after) more_is ∙ append_assoc path (number ∷ []) after ∙ ap (λ x. path ++ x) (sym step.path) ∙ rest

  pub path-whole : (k q from : ℕ) (path : List ℕ) → length word ≤ k → 1 ≤ paths next from to word → path ++ path_to next to (drop k word) q ≡ path_to next to word from → IsPath next from to path word
  path-whole k q from path le leads rest =
      let none : path_to next to (drop k word) q ≡ [] = ap (λ w. path_to next to w q) (drop_all k word le) in
      let whole : path ≡ path_to next to word from = sym (append-nil path) ∙ ap (λ x. path ++ x) (sym none) ∙ rest in
      subst (λ p. IsPath next from to p word) (sym whole) (led-path next to word from (paths-led next to word from leads))
