-- Laws of the pairs that a quick trial finds.
use Rattle.std.proofs.Common.{◌≡◌, ◌∙◌, ℕ, ◌+◌, ◌<◌, ◌≤◌, ◌⊎◌, inl, inr, List, [], ◌∷◌, ◌++◌, length, Bool, true, false, not, ◌&&◌, cond, eqb, eqb-true, slice_get, Some, refl, sym, ap, subst, arith}
use Rattle.std.specs.List.{list_any}
use Rattle.std.proofs.Math.Bool.{beq}
use Rattle.std.proofs.lemmas.Bool.{cases_lt, and_parts}
use Rattle.std.proofs.lemmas.List.{length_push, get_or_push, get_or_append_left, get_or_default}
use Rattle.std.proofs.lemmas.List.Folds.{Any-from_list_any}
use Rattle.std.proofs.lemmas.Option.{get_or_from_slice_get}
use Rattle.rl_prio.specs.Automaton.{Automaton, letters_count}
use Rattle.rl_sets.specs.Live.{image}
use Rattle.rl_sets.specs.Walk.{Walk, set_at}
use Rattle.rl_equiv.specs.declared.pair.SetPair.{SetPair}
use Rattle.rl_trim.specs.declared.key.Key.{Key}
use Rattle.rl_trim.specs.internal.Trims.{trimmed, trim_on, set_ends, trim_differs}
use Rattle.rl_trim.specs.Reached.{IsClosedTo}
use Rattle.rl_trim.specs.internal.Quick.{IsGrown, IsNumbered, no_key, key_at, pair_of, pair_at, IsInside, IsKeyOf, IsPut, HasPair, root, IsRoot, IsThere, AreRooted, ArePairs, IsOnward, HasNexts, IsDone, AreDone, NoneApart}
use Rattle.rl_trim.proofs.SetLaws.{grown-refl, grown-grown, trimmed-twice}
use Rattle.rl_trim.proofs.ClosingLaws.{closed-stays}

-- ---- keys

abbrev pub key_eq : Key → Key → Bool
key_eq x y = eqb x.first y.first && eqb x.second y.second

pub same-key : (x y : Key) → key_eq x y ≡ true → x ≡ y
same-key x y e =
    let p = and_parts (eqb x.first y.first) (eqb x.second y.second) e in
    let f = eqb-true x.first y.first p.0 in
    let g = eqb-true x.second y.second p.1 in
    λ i. record { first = f i; second = g i }

put-there : (keys : List Key) (key : Key) → list_any (key_eq key) keys ≡ true → IsPut keys keys key
put-there keys key e =
    let h = Any-from_list_any (key_eq key) keys e in
    record {
      longer = omega arith;
      same = λ i lt. refl;
      new = λ i le lt. absurd (omega arith);
      place = h.0;
      inside = h.2;
      is = get_or_default keys h.0 no_key h.1 h.2 ∙ h.3 ∙ sym (same-key key h.1 h.4);
    }

put-new : (keys : List Key) (key : Key) → IsPut keys (keys ++ key ∷ []) key
put-new keys key = record {
  longer = omega (arith, length_push keys key);
  same = λ i lt. get_or_append_left keys (key ∷ []) no_key i lt;
  new = λ i le lt. get_or_push keys key no_key i (omega (arith, length_push keys key));
  place = length keys;
  inside = omega (arith, length_push keys key);
  is = get_or_push keys key no_key (length keys) refl;
}

-- A key that was read.
pub key-read : (keys : List Key) (place : ℕ) (key : Key) → slice_get keys place ≡ Some key → key_at keys place ≡ key
key-read keys place key e = get_or_from_slice_get keys place key no_key e

-- What `insert` makes of the keys.
pub inserted : (keys more : List Key) (key : Key) → more ≡ cond (list_any (key_eq key) keys) keys (keys ++ key ∷ []) → IsPut keys more key
inserted keys more key e = by (list_any (key_eq key) keys) refl e
  where
    by : (b : Bool) → list_any (key_eq key) keys ≡ b → more ≡ cond b keys (keys ++ key ∷ []) → IsPut keys more key
    by true f g = subst (λ (l : List Key). IsPut keys l key) (sym g) (put-there keys key f)
    by false f g = subst (λ (l : List Key). IsPut keys l key) (sym g) (put-new keys key)

-- ---- keys of walks that grow

pub inside-grown : (a : Automaton) (v w : Walk) (key : Key) → IsGrown a v w → IsInside v key → IsInside w key
inside-grown a v w key g i = record { first_in = omega (arith, i.first_in, g.longer); second_in = omega (arith, i.second_in, g.longer) }

pub pair-grown : (a : Automaton) (v w : Walk) (key : Key) → IsGrown a v w → IsInside v key → pair_of w key ≡ pair_of v key
pair-grown a v w key g i =
    let e = g.same key.first i.first_in in
    let f = g.same key.second i.second_in in
    λ j. record { first = e j; second = f j }

-- The next pair of a pair.
pub next-key : (a : Automaton) (keep : List Bool) (v w x y : Walk) (key : Key) (letter first whole second : ℕ) → IsInside v key
    → IsNumbered a v w (image a (set_at v key.first) letter) first
    → IsNumbered a w x (image a (set_at w key.second) letter) whole
    → IsNumbered a x y (trimmed keep (set_at x whole)) second
    → IsKeyOf a v y (trim_on a keep (pair_of v key) letter) (record { first = first; second = second })
next-key a keep v w x y key letter first whole second i f g h =
    let e : set_at y first ≡ image a (set_at v key.first) letter = h.grown.same first (omega (arith, f.inside, g.grown.longer)) ∙ g.grown.same first f.inside ∙ f.is in
    let s : set_at y second ≡ trimmed keep (image a (set_at v key.second) letter) =
    h.is ∙ ap (trimmed keep) (g.is ∙ ap (λ (l : List ℕ). image a l letter) (f.grown.same key.second i.second_in)) in
    record {
      grown = grown-grown a v w y f.grown (grown-grown a w x y g.grown h.grown);
      inside = record { first_in = omega (arith, f.inside, g.grown.longer, h.grown.longer); second_in = h.inside };
      is = λ j. record { first = e j; second = s j };
    }

-- The same of one set with itself, of which one image is enough.
pub next-same : (a : Automaton) (keep : List Bool) (v w y : Walk) (key : Key) (letter first second : ℕ) → IsInside v key → key.second ≡ key.first
    → IsNumbered a v w (image a (set_at v key.first) letter) first
    → IsNumbered a w y (trimmed keep (set_at w first)) second
    → IsKeyOf a v y (trim_on a keep (pair_of v key) letter) (record { first = first; second = second })
next-same a keep v w y key letter first second i same f h =
    let again : set_at w first ≡ image a (set_at w key.second) letter =
    f.is ∙ ap (λ (l : List ℕ). image a l letter) (sym (f.grown.same key.first i.first_in) ∙ ap (set_at w) (sym same)) in
    next-key a keep v w w y key letter first first second i f (record { grown = grown-refl a w f.grown.made; inside = f.inside; is = again }) h

-- One set with itself shows no difference.
same-ends : (b : Bool) → false ≡ not (beq b b)
same-ends true = refl
same-ends false = refl

pub same-calm : (a : Automaton) (w : Walk) (key : Key) → key.first ≡ key.second → false ≡ trim_differs a (pair_of w key)
same-calm a w key e = same-ends (set_ends a (set_at w key.first)) ∙ ap (λ (n : ℕ). not (beq (set_ends a (set_at w key.first)) (set_ends a (set_at w n)))) e

-- ---- pairs that are found

pub onward-grown : (a : Automaton) (v w : Walk) (keys : List Key) → IsGrown a v w → IsOnward a v w keys keys
onward-grown a v w keys g = record { grown = g; longer = omega arith; same = λ i lt. refl }

pub onward-put : (a : Automaton) (v w : Walk) (keys more : List Key) (key : Key) → IsGrown a v w → IsPut keys more key → IsOnward a v w keys more
onward-put a v w keys more key g p = record { grown = g; longer = p.longer; same = p.same }

pub onward-onward : (a : Automaton) (v w x : Walk) (keys more most : List Key) → IsOnward a v w keys more → IsOnward a w x more most → IsOnward a v x keys most
onward-onward a v w x keys more most o p = record {
  grown = grown-grown a v w x o.grown p.grown;
  longer = omega (arith, o.longer, p.longer);
  same = λ i lt. p.same i (omega (arith, o.longer)) ∙ o.same i lt;
}

pub pair-onward : (a : Automaton) (v w : Walk) (keys more : List Key) → IsOnward a v w keys more → ((i : ℕ) → i < length keys → IsInside v (key_at keys i))
    → (i : ℕ) → i < length keys → pair_at w more i ≡ pair_at v keys i
pair-onward a v w keys more o each i lt = ap (pair_of w) (o.same i lt) ∙ pair-grown a v w (key_at keys i) o.grown (each i lt)

pub has-onward : (a : Automaton) (v w : Walk) (keys more : List Key) (p : SetPair) → IsOnward a v w keys more → ((i : ℕ) → i < length keys → IsInside v (key_at keys i))
    → HasPair v keys p → HasPair w more p
has-onward a v w keys more p o each h = record {
  place = h.place;
  inside = omega (arith, h.inside, o.longer);
  is = pair-onward a v w keys more o each h.place h.inside ∙ h.is;
}

-- The pair of a key that was put.
pub has-put : (w : Walk) (keys more : List Key) (key : Key) (p : SetPair) → IsPut keys more key → pair_of w key ≡ p → HasPair w more p
has-put w keys more key p put e = record { place = put.place; inside = put.inside; is = ap (pair_of w) put.is ∙ e }

keys-put : (a : Automaton) (v w : Walk) (keys more : List Key) (key : Key) → IsGrown a v w → IsPut keys more key → IsInside w key → ((i : ℕ) → i < length keys → IsInside v (key_at keys i))
    → (i : ℕ) → i < length more → IsInside w (key_at more i)
keys-put a v w keys more key g put is each i lt = by (cases_lt i (length keys))
  where
    by : (i < length keys) ⊎ (length keys ≤ i) → IsInside w (key_at more i)
    by (inl less) = subst (IsInside w) (sym (put.same i less)) (inside-grown a v w (key_at keys i) g (each i less))
    by (inr more') = subst (IsInside w) (sym (put.new i more' lt)) is

-- ---- sets with themselves

pub root-grown : (a : Automaton) (keep : List Bool) (v w : Walk) (k : ℕ) → IsGrown a v w → k < length v.sets → root keep w k ≡ root keep v k
root-grown a keep v w k g lt = ap (λ (s : List ℕ). let p : SetPair = record { first = s; second = trimmed keep s } in p) (g.same k lt)

there-onward : (a : Automaton) (keep : List Bool) (v w : Walk) (count : ℕ) (keys more : List Key) (p : SetPair) → count ≤ length v.sets → IsOnward a v w keys more
    → ((i : ℕ) → i < length keys → IsInside v (key_at keys i)) → IsThere keep v count keys p → IsThere keep w count more p
there-onward a keep v w count keys more p few o each (inl r) = inl (record { number = r.number; inside = r.inside; is = root-grown a keep v w r.number o.grown (omega (arith, r.inside, few)) ∙ r.is })
there-onward a keep v w count keys more p few o each (inr h) = inr (has-onward a v w keys more p o each h)

rooted-onward : (a : Automaton) (keep : List Bool) (v w : Walk) (done : ℕ) (keys more : List Key) → done ≤ length v.sets → IsOnward a v w keys more
    → ((i : ℕ) → i < length more → IsInside w (key_at more i)) → AreRooted keep v done keys → AreRooted keep w done more
rooted-onward a keep v w done keys more few o inside r = record { each = inside; roots = λ k lt. by k lt (r.roots k lt) }
  where
    by : (k : ℕ) → k < done → (trimmed keep (set_at v k) ≡ set_at v k) ⊎ HasPair v keys (root keep v k) → (trimmed keep (set_at w k) ≡ set_at w k) ⊎ HasPair w more (root keep w k)
    by k lt (inl whole) = let e : set_at w k ≡ set_at v k = o.grown.same k (omega arith) in inl (ap (trimmed keep) e ∙ whole ∙ sym e)
    by k lt (inr h) = inr (subst (HasPair w more) (sym (root-grown a keep v w k o.grown (omega arith))) (has-onward a v w keys more (root keep v k) o r.each h))

rooted-put : (a : Automaton) (keep : List Bool) (v w : Walk) (done : ℕ) (keys more : List Key) (key : Key) → done ≤ length v.sets → IsGrown a v w → IsPut keys more key → IsInside w key
    → AreRooted keep v done keys → AreRooted keep w done more
rooted-put a keep v w done keys more key few g put is r = rooted-onward a keep v w done keys more few (onward-put a v w keys more key g put) (keys-put a v w keys more key g put is r.each) r

rooted-grown : (a : Automaton) (keep : List Bool) (v w : Walk) (done : ℕ) (keys : List Key) → done ≤ length v.sets → IsGrown a v w → AreRooted keep v done keys → AreRooted keep w done keys
rooted-grown a keep v w done keys few g r = rooted-onward a keep v w done keys keys few (onward-grown a v w keys g) (λ i lt. inside-grown a v w (key_at keys i) g (r.each i lt)) r

pub rooted-none : (keep : List Bool) (w : Walk) (keys : List Key) → keys ≡ [] → AreRooted keep w 0 keys
rooted-none keep w keys e = record {
  each = λ i lt. absurd (omega (arith, ap length e));
  roots = λ k lt. absurd (omega arith);
}

-- One more set.
pub rooted-next : (keep : List Bool) (w : Walk) (done : ℕ) (keys : List Key) → AreRooted keep w done keys → (trimmed keep (set_at w done) ≡ set_at w done) ⊎ HasPair w keys (root keep w done) → AreRooted keep w (done + 1) keys
rooted-next keep w done keys r here = record { each = r.each; roots = λ k less. by k less (cases_lt k done) }
  where
    by : (k : ℕ) → k < done + 1 → (k < done) ⊎ (done ≤ k) → (trimmed keep (set_at w k) ≡ set_at w k) ⊎ HasPair w keys (root keep w k)
    by k less (inl before) = r.roots k before
    by k less (inr after) = let same : done ≡ k = omega arith in subst (λ (m : ℕ). (trimmed keep (set_at w m) ≡ set_at w m) ⊎ HasPair w keys (root keep w m)) same here

-- One more set, which is put with itself without the states that aren't kept.
pub rooted-more : (a : Automaton) (keep : List Bool) (v w : Walk) (done count second : ℕ) (keys more : List Key) → done < count → IsClosedTo a v count count
    → IsNumbered a v w (trimmed keep (set_at v done)) second → IsPut keys more (record { first = done; second = second }) → AreRooted keep v done keys → AreRooted keep w (done + 1) more
rooted-more a keep v w done count second keys more lt c n put r =
    let key : Key = record { first = done; second = second } in
    let here : done < length v.sets = omega (arith, c.few) in
    let s : set_at w second ≡ trimmed keep (set_at w done) = n.is ∙ ap (trimmed keep) (sym (n.grown.same done here)) in
    let inside : IsInside w key = record { first_in = omega (arith, here, n.grown.longer); second_in = n.inside } in
    let old = rooted-put a keep v w done keys more key (omega (arith, here)) n.grown put inside r in
    let pair : pair_of w key ≡ root keep w done = λ j. record { first = set_at w done; second = s j } in
    rooted-next keep w done more old (inr (has-put w keys more key (root keep w done) put pair))

pub pairs-grown : (a : Automaton) (keep : List Bool) (v w : Walk) (count : ℕ) (keys : List Key) → IsGrown a v w → ArePairs a keep v count keys → ArePairs a keep w count keys
pairs-grown a keep v w count keys g p = record {
  closed = closed-stays a v w count count g p.closed;
  rooted = rooted-grown a keep v w count keys p.closed.few g p.rooted;
}

-- The next pair of the one at a place.
module _ (a : Automaton) (keep : List Bool) (v w : Walk) (count : ℕ) (keys more : List Key) (place letter : ℕ) (key next : Key) (lt : place < length keys) (read : key_at keys place ≡ key)
    (p : ArePairs a keep v count keys) (is : IsKeyOf a v w (trim_on a keep (pair_of v key) letter) next) where
  pub visited-pairs : IsPut keys more next → ArePairs a keep w count more
  visited-pairs put = record {
    closed = closed-stays a v w count count is.grown p.closed;
    rooted = rooted-put a keep v w count keys more next p.closed.few is.grown put is.inside p.rooted;
  }

  pub visited-onward : IsPut keys more next → IsOnward a v w keys more
  visited-onward put = onward-put a v w keys more next is.grown put

  pub visited-there : IsPut keys more next → IsThere keep w count more (trim_on a keep (pair_at v keys place) letter)
  visited-there put = inr (subst (λ (k : Key). HasPair w more (trim_on a keep (pair_of v k) letter)) (sym read) (has-put w keys more next (trim_on a keep (pair_of v key) letter) put is.is))

  -- One of the first sets with itself is there.
  pub visited-root : next.first ≡ next.second → next.first < count → IsThere keep w count keys (trim_on a keep (pair_at v keys place) letter)
  visited-root same inside =
      let q = trim_on a keep (pair_of v key) letter in
      let second : set_at w next.first ≡ q.second = ap (set_at w) same ∙ ap (λ (r : SetPair). r.second) is.is in
      let whole : trimmed keep (set_at w next.first) ≡ q.second = ap (trimmed keep) second ∙ trimmed-twice keep (image a (set_at v key.second) letter) in
      let first : set_at w next.first ≡ q.first = ap (λ (r : SetPair). r.first) is.is in
      let e : root keep w next.first ≡ q = λ j. record { first = first j; second = whole j } in
      inl (subst (λ (k : Key). IsRoot keep w count (trim_on a keep (pair_of v k) letter)) (sym read) (record { number = next.first; inside = inside; is = e }))

-- The next pairs of one pair on the first letters.
pub record IsExpanding (a : Automaton) (keep : List Bool) (v w : Walk) (count : ℕ) (keys more : List Key) (place letters : ℕ) : Type 0 where
  pub pairs : ArePairs a keep w count more
  pub onward : IsOnward a v w keys more
  pub nexts : HasNexts a keep w count more (pair_at v keys place) letters

pub expanding-start : (a : Automaton) (keep : List Bool) (w : Walk) (count : ℕ) (keys : List Key) (place : ℕ) → ArePairs a keep w count keys → IsExpanding a keep w w count keys keys place 0
expanding-start a keep w count keys place p = record {
  pairs = p;
  onward = onward-grown a w w keys (grown-refl a w p.closed.made);
  nexts = λ letter small. absurd (omega arith);
}

pub expanding-more : (a : Automaton) (keep : List Bool) (v w x : Walk) (n m k : ℕ) (keys more most : List Key) (place letters : ℕ) → place < length keys → ArePairs a keep v n keys
    → k ≡ m → IsExpanding a keep v w m keys more place letters → ArePairs a keep x k most → IsOnward a w x more most → IsThere keep x k most (trim_on a keep (pair_at w more place) letters)
    → IsExpanding a keep v x k keys most place (letters + 1)
expanding-more a keep v w x n m k keys more most place letters lt p count e q o here = record {
  pairs = q;
  onward = onward-onward a v w x keys more most e.onward o;
  nexts = λ letter small. by letter small (cases_lt letter letters);
}
  where
    by : (letter : ℕ) → letter < letters + 1 → (letter < letters) ⊎ (letters ≤ letter) → IsThere keep x k most (trim_on a keep (pair_at v keys place) letter)
    by letter small (inl less) =
        subst (λ (c : ℕ). IsThere keep x c most (trim_on a keep (pair_at v keys place) letter)) (sym count)
        (there-onward a keep w x m more most (trim_on a keep (pair_at v keys place) letter) e.pairs.closed.few o e.pairs.rooted.each (e.nexts letter less))
    by letter small (inr after) =
        let same : letters ≡ letter = omega arith in
        let pair = pair-onward a v w keys more e.onward p.rooted.each place lt in
        subst (λ (l : ℕ). IsThere keep x k most (trim_on a keep (pair_at v keys place) l)) same (subst (λ (r : SetPair). IsThere keep x k most (trim_on a keep r letters)) pair here)

pub expanding-done : (a : Automaton) (keep : List Bool) (v w : Walk) (n m : ℕ) (keys more : List Key) (place letters : ℕ) → place < length keys → ArePairs a keep v n keys → letters ≡ letters_count a
    → IsExpanding a keep v w m keys more place letters → IsDone a keep w m more place
expanding-done a keep v w n m keys more place letters lt p all e =
    let pair = pair-onward a v w keys more e.onward p.rooted.each place lt in
    inr (λ letter small. subst (λ (r : SetPair). IsThere keep w m more (trim_on a keep r letter)) (sym pair) (e.nexts letter (omega (arith, all))))

-- A pair that shows a difference.
pub differing-done : (a : Automaton) (keep : List Bool) (v w : Walk) (count : ℕ) (keys : List Key) (place : ℕ) (key : Key) → ArePairs a keep v count keys → place < length keys → key_at keys place ≡ key → IsGrown a v w
    → trim_differs a (pair_of v key) ≡ true → IsDone a keep w count keys place
differing-done a keep v w count keys place key p lt read g e =
    inl (ap (trim_differs a) (pair-onward a v w keys keys (onward-grown a v w keys g) p.rooted.each place lt) ∙ ap (λ (k : Key). trim_differs a (pair_of v k)) read ∙ e)

-- What is done stays.
done-onward : (a : Automaton) (keep : List Bool) (v w : Walk) (count : ℕ) (keys more : List Key) (i : ℕ) → i < length keys → ArePairs a keep v count keys → IsOnward a v w keys more
    → IsDone a keep v count keys i → IsDone a keep w count more i
done-onward a keep v w count keys more i lt p o d = by d
  where
    pair : pair_at w more i ≡ pair_at v keys i
    pair = pair-onward a v w keys more o p.rooted.each i lt

    by : IsDone a keep v count keys i → IsDone a keep w count more i
    by (inl e) = inl (ap (trim_differs a) pair ∙ e)
    by (inr h) =
        inr (λ letter small.
        subst (λ (r : SetPair). IsThere keep w count more (trim_on a keep r letter)) (sym pair)
        (there-onward a keep v w count keys more (trim_on a keep (pair_at v keys i) letter) p.closed.few o p.rooted.each (h letter small)))

pub done-more : (a : Automaton) (keep : List Bool) (v w : Walk) (count : ℕ) (keys more : List Key) (places : ℕ) → places < length keys → ArePairs a keep v count keys → IsOnward a v w keys more
    → AreDone a keep v count keys places → IsDone a keep w count more places → AreDone a keep w count more (places + 1)
done-more a keep v w count keys more places lt p o done here i less = by (cases_lt i places)
  where
    by : (i < places) ⊎ (places ≤ i) → IsDone a keep w count more i
    by (inl before) = done-onward a keep v w count keys more i (omega arith) p o (done i before)
    by (inr after) = let same : places ≡ i = omega arith in subst (IsDone a keep w count more) same here

-- One more pair that shows no difference.
pub none-more : (a : Automaton) (v w : Walk) (keys : List Key) (place : ℕ) (key : Key) → IsGrown a v w → IsInside v (key_at keys place) → key_at keys place ≡ key → trim_differs a (pair_of w key) ≡ false
    → NoneApart a v keys place → NoneApart a v keys (place + 1)
none-more a v w keys place key g inside read e none i less = by (cases_lt i place)
  where
    by : (i < place) ⊎ (place ≤ i) → trim_differs a (pair_at v keys i) ≡ false
    by (inl before) = none i before
    by (inr after) =
        let same : place ≡ i = omega arith in
        subst (λ (k : ℕ). trim_differs a (pair_at v keys k) ≡ false) same
        (ap (trim_differs a) (sym (pair-grown a v w (key_at keys place) g inside)) ∙ ap (λ (k : Key). trim_differs a (pair_of w k)) read ∙ e)
