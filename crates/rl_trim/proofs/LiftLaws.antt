-- Pairs of sets of one automaton's states are, with the kept states numbered anew, the set pairs of the whole tree and of the tree
-- without some branches; so a cover of the former and a word that leads apart show that the latter differ.
use Rattle.std.proofs.Common.{◌≡◌, ◌∙◌, ℕ, zero, suc, ◌+◌, ◌<◌, ◌≤◌, inl, inr, List, [], ◌∷◌, ◌++◌, length, map, filter, slice_index_or, Bool, true, false, cond, not, ◌&&◌, ◌||◌, eqb, refl, sym, ap, ap₂, subst, arith}
use Rattle.std.specs.List.{list_any, list_all}
use Rattle.std.proofs.Math.Bool.{beq}
use Rattle.std.proofs.lemmas.Bool.{cases_lt, cases_eq, eq-eqb, ne_eqb, and_parts, and_left}
use Rattle.std.proofs.lemmas.List.{append-nil, map-append, get_or_past}
use Rattle.std.proofs.lemmas.List.Elements.{filter-append, filter_passes}
use Rattle.std.proofs.lemmas.List.Sums.{list_all-from_AllPass}
use Rattle.rl_ranges.specs.declared.universe.Universe.{Universe}
use Rattle.rl_ranges.specs.Letters.{alike, classes}
use Rattle.rl_ranges.specs.Text.{code_count}
use Rattle.rl_ranges.proofs.LetterLemmas.{alike-append}
use Rattle.rl_syntax.specs.declared.re.Ending.TheVariants.{AtEnd}
use Rattle.rl_syntax.specs.Tree.{Tree, places}
use Rattle.rl_prio.specs.Automaton.{Automaton, letters_count, accepting_state}
use Rattle.rl_prio.specs.Letters.{all_sets}
use Rattle.rl_prio.specs.StandsFor.{StandsOver}
use Rattle.rl_prio.specs.States.{accepting, dead, state_count, moves_over}
use Rattle.rl_sets.specs.Live.{below, holds, image}
use Rattle.rl_sets.proofs.SetLemmas.{filter-below_suc, holds-filter}
use Rattle.rl_equiv.specs.declared.pair.SetPair.{SetPair}
use Rattle.rl_equiv.specs.SetPairs.{joint_sets, image_over, differs, set_pairs}
use Rattle.rl_equiv.specs.Bases.{DistinguishesNoMore, IsBase}
use Rattle.rl_equiv.proofs.BaseLaws.{same-stands}
use Rattle.rl_equiv.proofs.ImageLaws.{map-below, image-over}
use Rattle.rl_trim.specs.Twins.{is_kept}
use Rattle.rl_trim.specs.internal.Sunk.{kept_before, sunk, AreSunk}
use Rattle.rl_trim.specs.internal.Trims.{trimmed, trim_on, trim_nexts, trim_differs}

-- ---- lists

pub map-twice : {A B C : Type 0} (f : B → C) (g : A → B) (xs : List A) → map f (map g xs) ≡ map (λ x. f (g x)) xs
map-twice f g [] = refl
map-twice {C = C} f g (x ∷ xs) = ap (λ (l : List C). f (g x) ∷ l) (map-twice f g xs)

pub trimmed-kept : (keep : List Bool) (set : List ℕ) → list_all (is_kept keep) (trimmed keep set) ≡ true
trimmed-kept keep set = list_all-from_AllPass (is_kept keep) (trimmed keep set) (filter_passes (is_kept keep) set)

-- ---- the new numbers of kept states

add-one : (b : Bool) (x m n : ℕ) → n ≡ cond b (suc m) m → x + n ≡ cond b (suc (x + m)) (x + m)
add-one true x m n e = omega (arith, e)
add-one false x m n e = omega (arith, e)

suc-one : (b : Bool) (m n : ℕ) → n ≡ cond b (suc m) m → suc n ≡ cond b (suc (suc m)) (suc m)
suc-one true m n e = ap suc e
suc-one false m n e = ap suc e

kept-suc : (keep : List Bool) (p : ℕ) → kept_before keep (suc p) ≡ cond (slice_index_or keep p true) (suc (kept_before keep p)) (kept_before keep p)
kept-suc [] p = refl
kept-suc (true ∷ keep) zero = omega arith
kept-suc (false ∷ keep) zero = omega arith
kept-suc (k ∷ keep) (suc p) = add-one (slice_index_or keep p true) (cond k 1 0) (kept_before keep p) (kept_before keep (suc p)) (kept-suc keep p)

sunk-suc : (keep : List Bool) (q : ℕ) → sunk keep (suc q) ≡ cond (is_kept keep q) (suc (sunk keep q)) (sunk keep q)
sunk-suc keep zero = refl
sunk-suc keep (suc p) = suc-one (slice_index_or keep p true) (kept_before keep p) (kept_before keep (suc p)) (kept-suc keep p)

pub sunk-next : (keep : List Bool) (q : ℕ) → is_kept keep q ≡ true → sunk keep (suc q) ≡ suc (sunk keep q)
sunk-next keep q kept = sunk-suc keep q ∙ ap (λ b. cond b (suc (sunk keep q)) (sunk keep q)) kept

pub sunk-rises : (keep : List Bool) (q r : ℕ) → q ≤ r → sunk keep q ≤ sunk keep r
sunk-rises keep q zero le = let e : q ≡ zero = omega arith in subst (λ n. n ≤ 0) (sym (ap (sunk keep) e)) (omega arith)
sunk-rises keep q (suc r) le =
    elim (cases_lt r q) [
      | inl lt ↦ let e : q ≡ suc r = omega arith in subst (λ n. sunk keep q ≤ n) (ap (sunk keep) e) (omega arith)
      | inr ge ↦ by (is_kept keep r) (sunk-suc keep r) (sunk-rises keep q r ge)
    ]
  where
    by : (b : Bool) → sunk keep (suc r) ≡ cond b (suc (sunk keep r)) (sunk keep r) → sunk keep q ≤ sunk keep r → sunk keep q ≤ sunk keep (suc r)
    by true e h = omega (arith, e, h)
    by false e h = omega (arith, e, h)

-- Kept ones of the first numbers, numbered anew, are the first numbers.
module _ (keep : List Bool) (p r : ℕ → Bool) where
  last-kept : (n : ℕ) (b : Bool) → is_kept keep n ≡ true → map (sunk keep) (filter (is_kept keep) (cond b (n ∷ []) [])) ≡ cond b (sunk keep n ∷ []) []
  last-kept n true e = ap (λ k. map (sunk keep) (cond k (n ∷ []) [])) e
  last-kept n false e = refl

  last-gone : (n : ℕ) (b : Bool) → is_kept keep n ≡ false → map (sunk keep) (filter (is_kept keep) (cond b (n ∷ []) [])) ≡ []
  last-gone n true e = ap (λ k. map (sunk keep) (cond k (n ∷ []) [])) e
  last-gone n false e = refl

  filter-sunk : (n : ℕ) → ((q : ℕ) → q < n → is_kept keep q ≡ true → p (sunk keep q) ≡ r q) → map (sunk keep) (filter (is_kept keep) (filter r (below n))) ≡ filter p (below (sunk keep n))
  filter-sunk zero same = refl
  filter-sunk (suc n) same =
      let last = cond (r n) (n ∷ []) [] in
      ap (λ l. map (sunk keep) (filter (is_kept keep) l)) (filter-below_suc r n)
      ∙ ap (map (sunk keep)) (filter-append (is_kept keep) (filter r (below n)) last)
      ∙ map-append (sunk keep) (filter (is_kept keep) (filter r (below n))) (filter (is_kept keep) last)
      ∙ ap (λ l. l ++ map (sunk keep) (filter (is_kept keep) last)) (filter-sunk n (λ q lt kept. same q (omega arith) kept))
      ∙ by (is_kept keep n) refl
      ∙ ap (λ m. filter p (below m)) (sym (sunk-suc keep n))
    where
      by : (b : Bool) → is_kept keep n ≡ b
          → filter p (below (sunk keep n)) ++ map (sunk keep) (filter (is_kept keep) (cond (r n) (n ∷ []) [])) ≡ filter p (below (cond b (suc (sunk keep n)) (sunk keep n)))
      by true e =
          ap (λ l. filter p (below (sunk keep n)) ++ l) (last-kept n (r n) e ∙ ap (λ b. cond b (sunk keep n ∷ []) []) (sym (same n (omega arith) e)))
          ∙ sym (filter-below_suc p (sunk keep n))
      by false e = ap (λ l. filter p (below (sunk keep n)) ++ l) (last-gone n (r n) e) ∙ append-nil (filter p (below (sunk keep n)))

-- ---- images of both trees

-- Whether some member of a set moves to a state.
abbrev moves_there : List (ℕ → Bool) → Tree → ℕ → List ℕ → ℕ → ℕ → Bool
moves_there sets t n set letter q = list_any (λ p. holds (moves_over sets t AtEnd n p letter) q) set

-- Whether a state is in the image.
abbrev is_reached : List (ℕ → Bool) → Tree → ℕ → List ℕ → ℕ → ℕ → Bool
is_reached sets t n set letter q = not (eqb q (dead t n)) && moves_there sets t n set letter q

module _ (sets : List (ℕ → Bool)) (n : ℕ) (keep : List Bool) (s t : Tree) (are : AreSunk sets n keep s t) where
  past-kept : (p : ℕ) → places t ≤ p → is_kept keep (suc p) ≡ true
  past-kept p le = get_or_past keep p true (omega (arith, are.flags))

  accepting-place : accepting t n ≡ suc (places t)
  accepting-place = omega (arith, are.second_states)

  pub accepting-kept : is_kept keep (accepting t n) ≡ true
  accepting-kept = ap (is_kept keep) accepting-place ∙ past-kept (places t) (omega arith)

  dead-kept : is_kept keep (dead t n) ≡ true
  dead-kept = past-kept (accepting t n) (omega (arith, accepting-place))

  pub accepting-sunk : sunk keep (accepting t n) ≡ accepting s n
  accepting-sunk = ap (sunk keep) accepting-place ∙ omega (arith, are.kept, are.first_states)

  dead-sunk : sunk keep (dead t n) ≡ dead s n
  dead-sunk = sunk-next keep (accepting t n) accepting-kept ∙ ap suc accepting-sunk

  states-sunk : sunk keep (state_count t n) ≡ state_count s n
  states-sunk = sunk-next keep (dead t n) dead-kept ∙ ap suc dead-sunk

  moves-sunk : (set : List ℕ) → list_all (is_kept keep) set ≡ true → (letter q : ℕ) → q < dead t n → is_kept keep q ≡ true
      → moves_there sets s n (map (sunk keep) set) letter (sunk keep q) ≡ moves_there sets t n set letter q
  moves-sunk [] all letter q lt kept = refl
  moves-sunk (p ∷ set) all letter q lt kept =
      let parts = and_parts (is_kept keep p) (list_all (is_kept keep) set) all in
      ap₂ (λ x y. x || y) (are.moves p q letter lt parts.0 kept) (moves-sunk set parts.1 letter q lt kept)

  reached-sunk : (set : List ℕ) → list_all (is_kept keep) set ≡ true → (letter q : ℕ) → q < state_count t n → is_kept keep q ≡ true
      → is_reached sets s n (map (sunk keep) set) letter (sunk keep q) ≡ is_reached sets t n set letter q
  reached-sunk set all letter q lt kept =
      let there = moves_there sets s n (map (sunk keep) set) letter (sunk keep q) in
      let here = moves_there sets t n set letter q in
      elim (cases_eq q (dead t n)) [
        | inl e ↦
            and_left (not (eqb (sunk keep q) (dead s n))) there (ap not (eq-eqb (sunk keep q) (dead s n) (ap (sunk keep) e ∙ dead-sunk)))
            ∙ sym (and_left (not (eqb q (dead t n))) here (ap not (eq-eqb q (dead t n) e)))
        | inr other ↦
            let less : q < dead t n = grind (arith, lt, other) in
            let under : sunk keep q < dead s n = omega (arith, sunk-next keep q kept, sunk-rises keep (suc q) (dead t n) (omega arith), dead-sunk) in
            ap₂ (λ x y. not x && y) (ne_eqb (sunk keep q) (dead s n) (λ e. omega arith) ∙ sym (ne_eqb q (dead t n) other)) (moves-sunk set all letter q less kept)
      ]

  -- The image without the states that aren't kept, numbered anew, is the image in the smaller tree.
  pub image-sunk : (set : List ℕ) → list_all (is_kept keep) set ≡ true → (letter : ℕ)
      → map (sunk keep) (trimmed keep (image_over sets t n set letter)) ≡ image_over sets s n (map (sunk keep) set) letter
  unfolding image_over
  image-sunk set all letter =
      let p = is_reached sets s n (map (sunk keep) set) letter in
      filter-sunk keep p (is_reached sets t n set letter) (state_count t n) (reached-sunk set all letter)
      ∙ ap (λ m. filter p (below m)) states-sunk

  -- It has the accepting state where the image of the whole tree does.
  pub ends-sunk : (set : List ℕ) → list_all (is_kept keep) set ≡ true → (letter : ℕ)
      → holds (image_over sets t n set letter) (accepting t n) ≡ holds (image_over sets s n (map (sunk keep) set) letter) (accepting s n)
  unfolding image_over
  ends-sunk set all letter =
      let p = is_reached sets s n (map (sunk keep) set) letter in
      let r = is_reached sets t n set letter in
      holds-filter r (state_count t n) (accepting t n) (omega arith)
      ∙ sym (reached-sunk set all letter (accepting t n) (omega arith) accepting-kept)
      ∙ ap p accepting-sunk
      ∙ sym (holds-filter p (state_count s n) (accepting s n) (omega arith))

-- ---- pairs of the automaton and set pairs of both trees

-- The pair with the new numbers in its second set.
abbrev pub lifted : List Bool → SetPair → SetPair
lifted keep p = record { first = p.first; second = map (sunk keep) p.second }

-- The next pair in both trees.
abbrev next_over : List (ℕ → Bool) → ℕ → Tree → Tree → SetPair → ℕ → SetPair
next_over sets n t s p letter = record { first = image_over sets t n p.first letter; second = image_over sets s n p.second letter }

module _ (u : Universe) (a : Automaton) (s t : Tree) (keep : List Bool) (base : IsBase u t a) (fewer : DistinguishesNoMore t s) (are : AreSunk (joint_sets t s) (code_count u) keep s t) where
  alike-joint : (c d : ℕ) → alike (all_sets t) c d ≡ alike (joint_sets t s) c d
  alike-joint c d = sym (alike-append (all_sets t) (all_sets s) c d ∙ by (alike (all_sets t) c d) refl)
    where
      by : (b : Bool) → alike (all_sets t) c d ≡ b → (alike (all_sets t) c d && alike (all_sets s) c d) ≡ alike (all_sets t) c d
      by true e = ap (λ x. x && alike (all_sets s) c d) e ∙ fewer c d e ∙ sym e
      by false e = ap (λ x. x && alike (all_sets s) c d) e ∙ sym e

  pub stands-joint : StandsOver a t AtEnd (joint_sets t s)
  stands-joint = same-stands (all_sets t) (joint_sets t s) alike-joint a t AtEnd base.stands

  count-joint : letters_count a ≡ length (classes (joint_sets t s) (code_count u))
  count-joint = stands-joint.same_letters.same_count ∙ ap (λ (n : ℕ). length (classes (joint_sets t s) n)) base.codes

  pub accepting-joint : accepting_state a ≡ accepting t (code_count u)
  accepting-joint =
      let e : accepting_state a ≡ accepting t a.table.codes = omega (arith, stands-joint.same_states) in
      e ∙ ap (accepting t) base.codes

  image-joint : (set : List ℕ) (letter : ℕ) → letter ≤ letters_count a → image a set letter ≡ image_over (joint_sets t s) t (code_count u) set letter
  image-joint set letter le =
      image-over a t (joint_sets t s) stands-joint set letter le ∙ ap (λ (n : ℕ). image_over (joint_sets t s) t n set letter) base.codes

  image-kept : (set : List ℕ) → list_all (is_kept keep) set ≡ true → (letter : ℕ) → letter ≤ letters_count a
      → map (sunk keep) (trimmed keep (image a set letter)) ≡ image_over (joint_sets t s) s (code_count u) (map (sunk keep) set) letter
  image-kept set all letter le =
      ap (λ l. map (sunk keep) (trimmed keep l)) (image-joint set letter le) ∙ image-sunk (joint_sets t s) (code_count u) keep s t are set all letter

  next-lifted : (p : SetPair) → list_all (is_kept keep) p.second ≡ true → (letter : ℕ) → letter < letters_count a
      → lifted keep (trim_on a keep p letter) ≡ next_over (joint_sets t s) (code_count u) t s (lifted keep p) letter
  next-lifted p all letter lt =
      let x = image-joint p.first letter (omega arith) in
      let y = image-kept p.second all letter (omega arith) in
      λ i. record { first = x i; second = y i }

  pub nexts-lifted : (p : SetPair) → list_all (is_kept keep) p.second ≡ true → map (lifted keep) (trim_nexts a keep p) ≡ (set_pairs u t s).nexts (lifted keep p)
  unfolding set_pairs
  nexts-lifted p all =
      let next = next_over (joint_sets t s) (code_count u) t s (lifted keep p) in
      map-twice (lifted keep) (trim_on a keep p) (below (letters_count a))
      ∙ map-below (λ letter. lifted keep (trim_on a keep p letter)) next (letters_count a) (next-lifted p all)
      ∙ ap (λ (k : ℕ). map next (below k)) count-joint

  pub differs-lifted : (p : SetPair) → list_all (is_kept keep) p.second ≡ true → trim_differs a p ≡ differs (set_pairs u t s) (lifted keep p)
  unfolding set_pairs
  differs-lifted p all =
      let sets = joint_sets t s in
      let n = code_count u in
      let end = length (classes sets n) in
      let ends : (set : List ℕ) → holds (image a set (letters_count a)) (accepting_state a) ≡ holds (image_over sets t n set end) (accepting t n) =
      λ set. ap₂ holds (image-joint set (letters_count a) (omega arith) ∙ ap (image_over sets t n set) count-joint) accepting-joint in
      ap₂ (λ x y. not (beq x y)) (ends p.first) (ends p.second ∙ ends-sunk sets n keep s t are p.second all end)
