-- The pairs of a trial on one automaton have the order of the set pairs of the whole tree and of the tree without the branch: a
-- trimmed set, its states numbered anew, is the set of the smaller tree, and different sets stay different.
use Rattle.std.proofs.Common.{◌≡◌, ◌∙◌, ℕ, zero, suc, ◌<◌, ◌≤◌, ◌⊎◌, inl, inr, List, [], ◌∷◌, length, get_or, map, All, Any, Bool, true, refl, sym, ap, ap₂, subst, arith}
use Rattle.std.specs.List.{list_all}
use Rattle.std.proofs.lemmas.Bool.{cases_lt, and_parts, and_from}
use Rattle.std.proofs.lemmas.List.Elements.{All-nil, All-push, All-map}
use Rattle.rl_ranges.specs.declared.universe.Universe.{Universe}
use Rattle.rl_ranges.specs.Text.{code_count}
use Rattle.rl_syntax.specs.Tree.{Tree, guards_in}
use Rattle.rl_prio.specs.Automaton.{Automaton, letters_count, accepting_state}
use Rattle.rl_prio.specs.Letters.{all_sets}
use Rattle.rl_prio.specs.States.{accepting}
use Rattle.rl_prio.proofs.BuildLemmas.{some_codes}
use Rattle.rl_sets.specs.Live.{below, image}
use Rattle.rl_equiv.specs.declared.pair.SetPair.{SetPair}
use Rattle.rl_equiv.specs.SetPairs.{joint_sets, first_pair, differs, rises, set_pairs}
use Rattle.rl_equiv.specs.Numbering.{found_after, first_ones, NoneDiffers}
use Rattle.rl_equiv.specs.Bases.{DistinguishesNoMore, IsBase}
use Rattle.rl_equiv.specs.internal.Machines.{all_proper}
use Rattle.rl_equiv.proofs.ReaderLaws.{reads}
use Rattle.rl_equiv.proofs.RiseLaws.{rises-parts, rises-cons, rises-lower, rises-filter}
use Rattle.rl_trim.specs.declared.judgement.Judgement.{Judgement}
use Rattle.rl_trim.specs.declared.judgement.Judgement.TheVariants.{Equal, Apart, Exceeded}
use Rattle.rl_trim.specs.Judged.{IsJudged, IsFound}
use Rattle.rl_trim.specs.Without.{Without}
use Rattle.rl_trim.specs.Twins.{is_kept}
use Rattle.rl_trim.specs.internal.Sunk.{sunk, AreSunk}
use Rattle.rl_trim.specs.internal.Trims.{trim_on, trim_nexts, trim_differs, trim_pairs}
use Rattle.rl_trim.proofs.WithoutMoves.{sunk_states, without_tells}
use Rattle.rl_trim.proofs.LiftLaws.{trimmed-kept, sunk-next, sunk-rises, accepting-sunk, lifted, accepting-joint, nexts-lifted, differs-lifted}
use Rattle.rl_trim.proofs.OrderLaws.{found-fit, order-same, order-length, none-same, any-same, order-all}

-- ---- kept states that are numbered anew stay different

sunk-less : (keep : List Bool) (x y : ℕ) → is_kept keep x ≡ true → x < y → sunk keep x < sunk keep y
sunk-less keep x y kept lt = omega (arith, sunk-next keep x kept, sunk-rises keep (suc x) y (omega arith))

sunk-one : (keep : List Bool) (x y : ℕ) → is_kept keep x ≡ true → is_kept keep y ≡ true → sunk keep x ≡ sunk keep y → x ≡ y
sunk-one keep x y k l e = by (cases_lt x y) (cases_lt y x)
  where
    by : (x < y) ⊎ (y ≤ x) → (y < x) ⊎ (x ≤ y) → x ≡ y
    by (inl less) other = absurd (omega (arith, sunk-less keep x y k less, e))
    by (inr ge) (inl less) = absurd (omega (arith, sunk-less keep y x l less, e))
    by (inr ge) (inr le) = omega arith

abbrev rest_of : List ℕ → List ℕ
rest_of [] = []
rest_of (x ∷ xs) = xs

sunk-lists : (keep : List Bool) (xs ys : List ℕ) → list_all (is_kept keep) xs ≡ true → list_all (is_kept keep) ys ≡ true → map (sunk keep) xs ≡ map (sunk keep) ys → xs ≡ ys
sunk-lists keep [] [] k l e = refl
sunk-lists keep [] (y ∷ ys) k l e = absurd (omega (arith, ap length e))
sunk-lists keep (x ∷ xs) [] k l e = absurd (omega (arith, ap length e))
sunk-lists keep (x ∷ xs) (y ∷ ys) k l e =
    let p = and_parts (is_kept keep x) (list_all (is_kept keep) xs) k in
    let q = and_parts (is_kept keep y) (list_all (is_kept keep) ys) l in
    ap₂ (λ (z : ℕ) (zs : List ℕ). z ∷ zs)
    (sunk-one keep x y p.0 q.0 (ap (λ (zs : List ℕ). get_or zs 0 0) e))
    (sunk-lists keep xs ys p.1 q.1 (ap rest_of e))

lifted-one : (keep : List Bool) (p q : SetPair) → list_all (is_kept keep) p.second ≡ true → list_all (is_kept keep) q.second ≡ true → lifted keep p ≡ lifted keep q → p ≡ q
lifted-one keep p q k l e =
    let f = ap (λ (r : SetPair). r.first) e in
    let g = sunk-lists keep p.second q.second k l (ap (λ (r : SetPair). r.second) e) in
    λ i. record { first = f i; second = g i }

-- ---- pairs that a trial finds

-- The second set has only kept states; both rise and have no other states than the start and those of places.
record Fits (a : Automaton) (keep : List Bool) (p : SetPair) : Type 0 where
  pub kept : list_all (is_kept keep) p.second ≡ true
  pub first_proper : all_proper a p.first ≡ true
  pub second_proper : all_proper a p.second ≡ true

pub all-below : (P : ℕ → Type 0) (n : ℕ) → ((l : ℕ) → l < n → P l) → All P (below n)
all-below P zero each = All-nil P
all-below P (suc n) each = All-push P (below n) n (all-below P n (λ l lt. each l (omega arith))) (each n (omega arith))

-- Kept states that rise between two bounds do so by their new numbers too.
pub sunk-rise : (keep : List Bool) (low high : ℕ) (xs : List ℕ) → list_all (is_kept keep) xs ≡ true → rises low high xs ≡ true → rises (sunk keep low) (sunk keep high) (map (sunk keep) xs) ≡ true
sunk-rise keep low high [] k e = refl
sunk-rise keep low high (x ∷ xs) k e =
    let p = and_parts (is_kept keep x) (list_all (is_kept keep) xs) k in
    let q = rises-parts low high x xs e in
    rises-cons (sunk keep low) (sunk keep high) (sunk keep x) (map (sunk keep) xs) (sunk-rises keep low x q.0) (sunk-less keep x high p.0 q.1)
    (subst (λ (n : ℕ). rises n (sunk keep high) (map (sunk keep) xs) ≡ true) (sunk-next keep x p.0) (sunk-rise keep (suc x) high xs p.1 q.2))

pub trim-nexts : (a : Automaton) (keep : List Bool) (p : SetPair) → (trim_pairs a keep).nexts p ≡ trim_nexts a keep p
unfolding trim_pairs
trim-nexts a keep p = refl

pub trim-differs : (a : Automaton) (keep : List Bool) (p : SetPair) → differs (trim_pairs a keep) p ≡ trim_differs a p
unfolding trim_pairs
trim-differs a keep p = refl

module _ (u : Universe) (a : Automaton) (s t : Tree) (keep : List Bool) (base : IsBase u t a) (fewer : DistinguishesNoMore t s) (are : AreSunk (joint_sets t s) (code_count u) keep s t) where
  first-fits : Fits a keep first_pair
  first-fits =
      let proper : all_proper a (0 ∷ []) ≡ true = rises-cons 0 (accepting_state a) 0 [] (omega arith) (omega (arith, base.whole.three_states)) refl in
      record { kept = refl; first_proper = proper; second_proper = proper }

  on-letter : (set : List ℕ) (letter : ℕ) → letter < letters_count a → all_proper a (image a set letter) ≡ true
  on-letter = (reads a t (all_sets t) base.whole base.stands).on_letters

  next-fits : (p : SetPair) (letter : ℕ) → letter < letters_count a → Fits a keep (trim_on a keep p letter)
  next-fits p letter lt = record {
    kept = trimmed-kept keep (image a p.second letter);
    first_proper = on-letter p.first letter lt;
    second_proper = rises-filter (is_kept keep) 0 (accepting_state a) (image a p.second letter) (on-letter p.second letter lt);
  }

  nexts-fit : (p : SetPair) → Fits a keep p → All (Fits a keep) ((trim_pairs a keep).nexts p)
  nexts-fit p h =
      subst (All (Fits a keep)) (sym (trim-nexts a keep p))
      (All-map (Fits a keep) (trim_on a keep p) (below (letters_count a)) (all-below (λ l. Fits a keep (trim_on a keep p l)) (letters_count a) (next-fits p)))

  next-carried : (p : SetPair) → Fits a keep p → map (lifted keep) ((trim_pairs a keep).nexts p) ≡ (set_pairs u t s).nexts (lifted keep p)
  next-carried p h = ap (map (lifted keep)) (trim-nexts a keep p) ∙ nexts-lifted u a s t keep base fewer are p h.kept

  apart-carried : (p q : SetPair) → Fits a keep p → Fits a keep q → lifted keep p ≡ lifted keep q → p ≡ q
  apart-carried p q h k = lifted-one keep p q h.kept k.kept

  differs-carried : (p : SetPair) → Fits a keep p → differs (trim_pairs a keep) p ≡ differs (set_pairs u t s) (lifted keep p)
  differs-carried p h = trim-differs a keep p ∙ differs-lifted u a s t keep base fewer are p h.kept

  proper-carried : (p : SetPair) → Fits a keep p → (set_pairs u t s).proper (lifted keep p) ≡ true
  unfolding set_pairs
  proper-carried p h =
      let n = code_count u in
      let acc = accepting-joint u a s t keep base fewer are in
      let rising : rises 0 (accepting t n) p.second ≡ true = subst (λ (k : ℕ). rises 0 k p.second ≡ true) acc h.second_proper in
      let under : sunk keep (accepting t n) ≡ accepting s n = accepting-sunk (joint_sets t s) n keep s t are in
      and_from (rises 0 (accepting t n) p.first) (rises 0 (accepting s n) (map (sunk keep) p.second))
      (subst (λ (k : ℕ). rises 0 k p.first ≡ true) acc h.first_proper)
      (rises-lower 0 (sunk keep 0) (accepting s n) (map (sunk keep) p.second) (omega arith)
      (subst (λ (k : ℕ). rises (sunk keep 0) k (map (sunk keep) p.second) ≡ true) under (sunk-rise keep 0 (accepting t n) p.second h.kept rising)))

  -- The order of the trial's pairs is that of the set pairs.
  pub trim-order : (k : ℕ) → map (lifted keep) (found_after (trim_pairs a keep) k) ≡ found_after (set_pairs u t s) k
  trim-order = order-same (trim_pairs a keep) (set_pairs u t s) (Fits a keep) (lifted keep) refl first-fits nexts-fit next-carried apart-carried

  pub trim-length : (k : ℕ) → length (found_after (set_pairs u t s) k) ≡ length (found_after (trim_pairs a keep) k)
  trim-length = order-length (trim_pairs a keep) (set_pairs u t s) (Fits a keep) (lifted keep) refl first-fits nexts-fit next-carried apart-carried

  pub trim-none : (limit : ℕ) → NoneDiffers (trim_pairs a keep) limit → NoneDiffers (set_pairs u t s) limit
  trim-none = none-same (trim_pairs a keep) (set_pairs u t s) (Fits a keep) (lifted keep) refl first-fits nexts-fit next-carried apart-carried differs-carried

  pub trim-any : (limit : ℕ) → Any (λ p. differs (trim_pairs a keep) p ≡ true) (first_ones (trim_pairs a keep) limit) → Any (λ p. differs (set_pairs u t s) p ≡ true) (first_ones (set_pairs u t s) limit)
  trim-any = any-same (trim_pairs a keep) (set_pairs u t s) (Fits a keep) (lifted keep) refl first-fits nexts-fit next-carried apart-carried differs-carried

  proper-found : (k : ℕ) → All (λ p. (set_pairs u t s).proper p ≡ true) (found_after (set_pairs u t s) k)
  proper-found k =
      let found = found_after (trim_pairs a keep) k in
      let fit = found-fit (trim_pairs a keep) (Fits a keep) first-fits nexts-fit k in
      subst (All (λ p. (set_pairs u t s).proper p ≡ true)) (trim-order k)
      (All-map (λ p. (set_pairs u t s).proper p ≡ true) (lifted keep) found (λ i x lt. proper-carried (get_or found i x) (fit i x lt)))

  judged-sunk : (limit : ℕ) (j : Judgement) → IsFound (trim_pairs a keep) limit j → IsJudged (set_pairs u t s) limit j
  judged-sunk limit Equal h =
      (found_after (set_pairs u t s) limit, order-all (set_pairs u t s) limit (omega (arith, h.0, trim-length limit)) (proper-found limit) (trim-none limit h.1))
  judged-sunk limit Apart h = trim-any limit h
  judged-sunk limit Exceeded h = record { more = omega (arith, h.more, trim-length limit); none_differs = trim-none limit h.none_differs }

-- What a trial on the automaton of the whole tree tells is so of both trees.
pub judged : (u : Universe) (a : Automaton) (s t : Tree) (keep : List Bool) (limit : ℕ) (j : Judgement) → IsBase u t a → guards_in t ≡ [] → Without keep s t
    → IsFound (trim_pairs a keep) limit j → IsJudged (set_pairs u t s) limit j
judged u a s t keep limit j base unguarded without =
    judged-sunk u a s t keep base (without_tells without) (sunk_states (joint_sets t s) (code_count u) (some_codes u) unguarded without) limit j
