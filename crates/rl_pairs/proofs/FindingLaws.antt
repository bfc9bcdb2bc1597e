-- Laws of the search for live pairs: what stays true of the pairs that are found while the walk grows, a row grows, or one more
-- pair is found.
use Rattle.std.proofs.Common.{◌≡◌, ◌≢◌, ◌∙◌, ℕ, zero, suc, ◌+◌, ◌*◌, ◌<◌, ◌≤◌, ◌⊎◌, inl, inr, List, [], ◌∷◌, ◌++◌, length, get_or, map, position, Bool, true, false, ◌&&◌, eqb, eqb-true, eq-eqb, Some, refl, sym, ap, subst, arith}
use Rattle.std.specs.List.{list_any}
use Rattle.std.proofs.lemmas.Bool.{cases_lt, cases_order, both_ways, and_parts, and_from, or_from, false_from_ne_true}
use Rattle.std.proofs.lemmas.List.{get_or_push, get_or_append_left, length_push, length-map, map-append}
use Rattle.std.proofs.lemmas.List.Folds.{list_any_at}
use Rattle.std.proofs.lemmas.List.Quantifiers.{position-Some}
use Rattle.rl_graph.specs.Paths.{Has, Each, Pairs}
use Rattle.rl_graph.proofs.Sums.{has-map, each-has, Has-append, Has-last, Pairs-push}
use Rattle.rl_prio.specs.Automaton.{Automaton, letters_count}
use Rattle.rl_sets.specs.Live.{below, IsLive}
use Rattle.rl_sets.specs.Rests.{IsRefusedRest}
use Rattle.rl_sets.specs.Walk.{Walk, set_at, IsMadeFor}
use Rattle.rl_pairs.specs.declared.pair.Pair.{Pair}
use Rattle.rl_pairs.specs.declared.finder.Key.{Key}
use Rattle.rl_pairs.specs.LivePairs.{next_pairs, LivePair, move}
use Rattle.rl_pairs.specs.PairGraph.{AreFirstSeen, seen_after}
use Rattle.rl_pairs.specs.Counted.{MoreThan}
use Rattle.rl_pairs.specs.internal.Counting.{Keeps, IsNumberOf}
use Rattle.rl_pairs.specs.internal.Finding.{Found, with_row, first_key, key_at, pair_of, pair_at, lead_at, rest_at, width, next_of, flat, IsLed, IsFound, Stays, IsNoted}
use Rattle.rl_pairs.proofs.SetLaws.{Has-below}
use Rattle.rl_pairs.proofs.CountLaws.{length-below}
use Rattle.rl_pairs.proofs.RowLaws.{AreFirstSeen-push, seen-old, seen-new, flat-last, flat-nil, next-more, next-nil, next-last, Each-push, Each-weaker}

-- Keys

abbrev pub key_eq : Key → Key → Bool
key_eq x y = eqb x.state y.state && eqb x.set y.set

pub same-key : (x y : Key) → x.state ≡ y.state → x.set ≡ y.set → x ≡ y
same-key x y e f = λ i. record { state = e i; set = f i }

pub key_eq-same : (x y : Key) → key_eq x y ≡ true → x ≡ y
key_eq-same x y e = let p = and_parts (eqb x.state y.state) (eqb x.set y.set) e in same-key x y (eqb-true x.state y.state p.0) (eqb-true x.set y.set p.1)

pub same-key_eq : (x y : Key) → x ≡ y → key_eq x y ≡ true
same-key_eq x y e = and_from (eqb x.state y.state) (eqb x.set y.set) (eq-eqb x.state y.state (ap (λ (k : Key). k.state) e)) (eq-eqb x.set y.set (ap (λ (k : Key). k.set) e))

pub keys-absent : (key : Key) (keys : List Key) → ((k : ℕ) → k < length keys → get_or keys k first_key ≢ key) → list_any (key_eq key) keys ≡ false
keys-absent key [] h = refl
keys-absent key (x ∷ keys) h =
    or_from (key_eq key x) (list_any (key_eq key) keys) (false_from_ne_true (key_eq key x) (λ e. h 0 (omega arith) (sym (key_eq-same key x e))))
    (keys-absent key keys (λ k lt. h (suc k) (omega arith)))

pub key-found : (key : Key) (keys : List Key) (n : ℕ) → Some n ≡ position (key_eq key) keys → (n < length keys) × (get_or keys n first_key ≡ key)
key-found key keys n e = let h = position-Some (key_eq key) keys n first_key (sym e) in (h.0, sym (key_eq-same key (get_or keys n first_key) h.1))

pub key-missing : (key : Key) (keys : List Key) → list_any (key_eq key) keys ≡ false → (k : ℕ) → k < length keys → get_or keys k first_key ≢ key
key-missing key keys none k lt e = both_ways (list_any (key_eq key) keys) none (list_any_at (key_eq key) keys k first_key lt (same-key_eq key (get_or keys k first_key) (sym e)))

-- The walk grows

pub number-keeps : (v w : Walk) (set : List ℕ) (n : ℕ) → Keeps v w → IsNumberOf v set n → IsNumberOf w set n
number-keeps v w set n k is = record { within = omega (arith, is.within, k.longer); is = k.same n is.within ∙ is.is }

pub pair-keeps : (v w : Walk) (key : Key) → Keeps v w → key.set < length v.sets → pair_of w key ≡ pair_of v key
pair-keeps v w key k lt = ap (λ (s : List ℕ). let p : Pair = record { state = key.state; set = s } in p) (k.same key.set lt)

pub found-keeps : (a : Automaton) (v w : Walk) (f : Found) → Keeps v w → IsFound a v f → IsFound a w f
found-keeps a v w f k i =
    let same = λ (n : ℕ) (lt : n < length f.keys). pair-keeps v w (key_at f n) k (i.sets n lt) in
    record {
      some = i.some;
      few = i.few;
      first = i.first;
      sets = λ n lt. omega (arith, i.sets n lt, k.longer);
      states = i.states;
      apart = i.apart;
      live = λ n lt. subst (LivePair a) (sym (same n lt)) (i.live n lt);
      led = i.led;
      start = i.start;
      leads = i.leads;
      refused = i.refused;
      rests = λ n lt. subst (λ (p : Pair). IsRefusedRest a p.set (rest_at f n)) (sym (same n lt)) (i.rests n lt);
      targets = i.targets;
      seen = i.seen;
      count = i.count;
    }

-- A row begins

pub found-row : (a : Automaton) (w : Walk) (f : Found) → IsFound a w f → IsFound a w (with_row f [])
found-row a w f i = record {
  some = i.some;
  few = i.few;
  first = i.first;
  sets = i.sets;
  states = i.states;
  apart = i.apart;
  live = i.live;
  led = i.led;
  start = i.start;
  leads = λ k some lt. let l = i.leads k some lt in (l.0, l.1, l.2, next-nil (width a) f.rows l.0 l.1 k l.3, l.4);
  refused = i.refused;
  rests = i.rests;
  targets = subst (Each (λ k. k < length f.keys)) (sym (flat-nil f.rows)) i.targets;
  seen = subst (AreFirstSeen 1) (sym (flat-nil f.rows)) i.seen;
  count = ap (seen_after 1) (flat-nil f.rows) ∙ i.count;
}

-- One more move to a pair that was found before

pub found-old : (a : Automaton) (w : Walk) (f : Found) (row : List ℕ) (j : ℕ) → j < length f.keys → IsFound a w (with_row f row) → IsFound a w (with_row f (row ++ j ∷ []))
found-old a w f row j less i = record {
  some = i.some;
  few = i.few;
  first = i.first;
  sets = i.sets;
  states = i.states;
  apart = i.apart;
  live = i.live;
  led = i.led;
  start = i.start;
  leads = λ k some lt. let l = i.leads k some lt in (l.0, l.1, l.2, next-more (width a) f.rows l.0 l.1 k row j l.3, l.4);
  refused = i.refused;
  rests = i.rests;
  targets = subst (Each (λ k. k < length f.keys)) (sym (flat-last f.rows row j)) (Each-push (λ k. k < length f.keys) (flat (f.rows ++ row ∷ [])) j i.targets less);
  seen = subst (AreFirstSeen 1) (sym (flat-last f.rows row j)) (AreFirstSeen-push 1 j (flat (f.rows ++ row ∷ [])) i.seen (omega (arith, i.count)));
  count = ap (seen_after 1) (flat-last f.rows row j) ∙ seen-old 1 j (flat (f.rows ++ row ∷ [])) (omega (arith, i.count)) ∙ i.count;
}

-- One more pair

abbrev pub pushed : Found → Key → List ℕ → List ℕ → Found
pushed f key lead rest = record { limit = f.limit; keys = f.keys ++ key ∷ []; leads = f.leads ++ lead ∷ []; rests = f.rests ++ rest ∷ []; rows = f.rows }

pub stays-pushed : (f : Found) (key : Key) (lead rest : List ℕ) → Stays f (pushed f key lead rest)
stays-pushed f key lead rest = record { limit = refl; longer = omega (arith, length_push f.keys key); same = λ k lt. get_or_append_left f.keys (key ∷ []) first_key k lt }

pub Stays-refl : (f : Found) → Stays f f
Stays-refl f = record { limit = refl; longer = omega arith; same = λ k lt. refl }

pub Stays-trans : (f g h : Found) → Stays f g → Stays g h → Stays f h
Stays-trans f g h x y = record { limit = y.limit ∙ x.limit; longer = omega (arith, x.longer, y.longer); same = λ k lt. y.same k (omega (arith, x.longer)) ∙ x.same k lt }

-- The pair of the move that leads to it, its number and what is known of it.
pub record IsNew (a : Automaton) (w : Walk) (f : Found) (from letter : ℕ) (key : Key) (rest : List ℕ) : Type 0 where
  pub place : length f.rows ≡ from * width a + letter
  pub from_in : from < length f.keys
  pub letter_in : letter ≤ letters_count a
  pub set_in : key.set < length w.sets
  pub state_in : key.state < a.states
  pub moved : Has (pair_of w key) (next_pairs a (pair_at w f from) letter)
  pub refused : IsRefusedRest a (set_at w key.set) rest
  pub absent : (k : ℕ) → k < length f.keys → key_at f k ≢ key
  pub room : length f.keys < f.limit

module _ (a : Automaton) (w : Walk) (f : Found) (row : List ℕ) (from letter : ℕ) (key : Key) (rest : List ℕ) (i : IsFound a w (with_row f row)) (new : IsNew a w f from letter key rest) where
  abbrev lead : List ℕ
  lead = lead_at f from ++ letter ∷ []

  abbrev g : Found
  g = with_row (pushed f key lead rest) (row ++ length f.keys ∷ [])

  many : length g.keys ≡ length f.keys + 1
  many = length_push f.keys key

  key-old : (k : ℕ) → k < length f.keys → key_at g k ≡ key_at f k
  key-old k lt = get_or_append_left f.keys (key ∷ []) first_key k lt

  key-new : (k : ℕ) → k ≡ length f.keys → key_at g k ≡ key
  key-new k e = get_or_push f.keys key first_key k (sym e)

  lead-old : (k : ℕ) → k < length f.keys → lead_at g k ≡ lead_at f k
  lead-old k lt = get_or_append_left f.leads (lead ∷ []) [] k (omega (arith, i.led))

  lead-new : (k : ℕ) → k ≡ length f.keys → lead_at g k ≡ lead
  lead-new k e = get_or_push f.leads lead [] k (i.led ∙ sym e)

  rest-old : (k : ℕ) → k < length f.keys → rest_at g k ≡ rest_at f k
  rest-old k lt = get_or_append_left f.rests (rest ∷ []) [] k (omega (arith, i.refused))

  rest-new : (k : ℕ) → k ≡ length f.keys → rest_at g k ≡ rest
  rest-new k e = get_or_push f.rests rest [] k (i.refused ∙ sym e)

  either : (k : ℕ) → k < length g.keys → (k < length f.keys) ⊎ (k ≡ length f.keys)
  either k lt = elim (cases_lt k (length f.keys)) [ inl less ↦ inl less | inr more ↦ inr (omega (arith, many)) ]

  -- What holds of the old keys and of the new one holds of each.
  each-key : (P : ℕ → Key → Type 0) → ((k : ℕ) → k < length f.keys → P k (key_at f k)) → ((k : ℕ) → k ≡ length f.keys → P k key) → (k : ℕ) → k < length g.keys → P k (key_at g k)
  each-key P old fresh k lt = elim (either k lt) [ inl less ↦ subst (P k) (sym (key-old k less)) (old k less) | inr e ↦ subst (P k) (sym (key-new k e)) (fresh k e) ]

  new-live : LivePair a (pair_of w key)
  new-live = move letter (i.live from new.from_in) new.letter_in new.moved (rest, new.refused.0, new.refused.1)

  keys-apart : (j k : ℕ) → (j < length f.keys) ⊎ (j ≡ length f.keys) → (k < length f.keys) ⊎ (k ≡ length f.keys) → key_at g j ≡ key_at g k → j ≡ k
  keys-apart j k (inl x) (inl y) e = i.apart j k x y (sym (key-old j x) ∙ e ∙ key-old k y)
  keys-apart j k (inl x) (inr y) e = absurd (new.absent j x (sym (key-old j x) ∙ e ∙ key-new k y))
  keys-apart j k (inr x) (inl y) e = absurd (new.absent k y (sym (key-old k y) ∙ sym e ∙ key-new j x))
  keys-apart j k (inr x) (inr y) e = x ∙ sym y

  led-old : (k : ℕ) → k < length f.keys → IsLed a (with_row f row) k → IsLed a g k
  led-old k lt l = (l.0, l.1, l.2, next-more (width a) f.rows l.0 l.1 k row (length f.keys) l.3, lead-old k lt ∙ l.4 ∙ ap (λ (v : List ℕ). v ++ l.1 ∷ []) (sym (lead-old l.0 (omega (arith, l.2)))))

  led-new : (k : ℕ) → k ≡ length f.keys → IsLed a g k
  led-new k e =
      let here : next_of a g from letter ≡ row ++ length f.keys ∷ [] = next-last (width a) f.rows from letter (row ++ length f.keys ∷ []) (omega (arith, new.letter_in)) new.place in
      (from, letter, omega (arith, new.from_in), subst (λ (n : ℕ). Has n (next_of a g from letter)) (sym e) (subst (Has (length f.keys)) (sym here) (Has-last (length f.keys) row)), lead-new k e ∙ ap (λ (v : List ℕ). v ++ letter ∷ []) (sym (lead-old from new.from_in)))

  pub found-new : IsFound a w g
  found-new = record {
    some = omega (arith, many);
    few = omega (arith, many, new.room);
    first = key-old 0 i.some ∙ i.first;
    sets = each-key (λ k key. key.set < length w.sets) i.sets (λ k e. new.set_in);
    states = each-key (λ k key. key.state < a.states) i.states (λ k e. new.state_in);
    apart = λ j k x y e. keys-apart j k (either j x) (either k y) e;
    live = each-key (λ k key. LivePair a (pair_of w key)) i.live (λ k e. new-live);
    led = length_push f.leads lead ∙ ap (λ (n : ℕ). n + 1) i.led ∙ sym many;
    start = lead-old 0 i.some ∙ i.start;
    leads = λ k some lt. elim (either k lt) [ inl less ↦ led-old k less (i.leads k some less) | inr e ↦ led-new k e ];
    refused = length_push f.rests rest ∙ ap (λ (n : ℕ). n + 1) i.refused ∙ sym many;
    rests = each-key (λ k key. IsRefusedRest a (set_at w key.set) (rest_at g k)) (λ k lt. subst (IsRefusedRest a (set_at w (key_at f k).set)) (sym (rest-old k lt)) (i.rests k lt)) (λ k e. subst (IsRefusedRest a (set_at w key.set)) (sym (rest-new k e)) new.refused);
    targets = subst (Each (λ k. k < length g.keys)) (sym (flat-last f.rows row (length f.keys))) (Each-push (λ k. k < length g.keys) (flat (f.rows ++ row ∷ [])) (length f.keys) (Each-weaker (λ k. k < length f.keys) (λ k. k < length g.keys) (flat (f.rows ++ row ∷ [])) (λ k lt. omega (arith, many)) i.targets) (omega (arith, many)));
    seen = subst (AreFirstSeen 1) (sym (flat-last f.rows row (length f.keys))) (AreFirstSeen-push 1 (length f.keys) (flat (f.rows ++ row ∷ [])) i.seen (omega (arith, i.count)));
    count = ap (seen_after 1) (flat-last f.rows row (length f.keys)) ∙ seen-new 1 (length f.keys) (flat (f.rows ++ row ∷ [])) i.count ∙ sym many;
  }

  pub noted-new : IsNoted a w (pushed f key lead rest) (pair_of w key) row (row ++ length f.keys ∷ [])
  noted-new = inr (length f.keys, (rest, new.refused.0, new.refused.1), omega (arith, many), ap (pair_of w) (key-new (length f.keys) refl), refl)

-- A pair that is found already.
pub noted-old : (a : Automaton) (w : Walk) (f : Found) (row : List ℕ) (key : Key) (j : ℕ) → IsFound a w (with_row f row) → j < length f.keys → key_at f j ≡ key → IsNoted a w f (pair_of w key) row (row ++ j ∷ [])
noted-old a w f row key j i lt e =
    let r = i.rests j lt in
    inr (j, subst (λ (k : Key). IsLive a (set_at w k.set)) e (rest_at f j, r.0, r.1), lt, ap (pair_of w) e, refl)

-- Too many pairs

number-same : (a : Automaton) (w : Walk) → IsMadeFor w a → (m n : ℕ) → m < length w.sets → n < length w.sets → set_at w m ≡ set_at w n → m ≡ n
number-same a w made m n x y e = elim (cases_order m n) [
  | inl same ↦ same
  | inr other ↦ elim other [ inl lt ↦ absurd (made.apart m n lt y e) | inr lt ↦ absurd (made.apart n m lt x (sym e)) ]
]

pub pair-same : (a : Automaton) (w : Walk) → IsMadeFor w a → (x y : Key) → x.set < length w.sets → y.set < length w.sets → pair_of w x ≡ pair_of w y → x ≡ y
pair-same a w made x y p q e = same-key x y (ap (λ (r : Pair). r.state) e) (number-same a w made x.set y.set p q (ap (λ (r : Pair). r.set) e))

pairs-different : (at : ℕ → Pair) (n : ℕ) → ((i k : ℕ) → i < n → k < n → at i ≡ at k → i ≡ k) → Pairs (λ x y. x ≢ y) (map at (below n))
pairs-different at zero h = tt
pairs-different at (suc n) h =
    subst (λ (l : List Pair). Pairs (λ x y. x ≢ y) l) (sym (map-append at (below n) (n ∷ [])))
    (Pairs-push (λ x y. x ≢ y) (map at (below n)) (at n) (pairs-different at n (λ i k x y e. h i k (omega arith) (omega arith) e)) (λ p i e.
    let r = has-map at p (below n) i in
    let lt : r.0 < n = Has-below n r.0 r.1 in
    let same : r.0 ≡ n = h r.0 n (omega arith) (omega arith) (sym r.2 ∙ e) in
    absurd (omega arith)))

pub too-many-pairs : (a : Automaton) (w : Walk) (f : Found) (row : List ℕ) (key : Key) → IsMadeFor w a → IsFound a w (with_row f row) → length f.keys ≡ f.limit → key.set < length w.sets → LivePair a (pair_of w key) → ((k : ℕ) → k < length f.keys → key_at f k ≢ key) → MoreThan f.limit (LivePair a)
too-many-pairs a w f row key made i full lt live absent =
    let at = pair_at w f in
    let n = length f.keys in
    let old = map at (below n) in (
      old ++ pair_of w key ∷ [],
      Pairs-push (λ x y. x ≢ y) old (pair_of w key) (pairs-different at n (λ j k x y e. i.apart j k x y (pair-same a w made (key_at f j) (key_at f k) (i.sets j x) (i.sets k y) e))) (λ p h e.
          let r = has-map at p (below n) h in
          let less = Has-below n r.0 r.1 in
          absent r.0 less (pair-same a w made (key_at f r.0) key (i.sets r.0 less) lt (sym r.2 ∙ e))),
      each-has (LivePair a) (old ++ pair_of w key ∷ []) (λ p h. by p (Has-append p old (pair_of w key ∷ []) h)),
      length_push old (pair_of w key) ∙ omega (arith, length-map (below n) at, length-below n, full),
    )
  where
    by : (p : Pair) → Has p (map (pair_at w f) (below (length f.keys))) ⊎ Has p (pair_of w key ∷ []) → LivePair a p
    by p (inl h) = let r = has-map (pair_at w f) p (below (length f.keys)) h in subst (LivePair a) (sym r.2) (i.live r.0 (Has-below (length f.keys) r.0 r.1))
    by p (inr (inl e)) = subst (LivePair a) (sym e) live
    by p (inr (inr h)) = absurd h

-- ---- one move

-- What a visit makes of the pairs and the row.
pub record IsVisited (a : Automaton) (w : Walk) (f g : Found) (p : Pair) (row new : List ℕ) : Type 0 where
  pub found : IsFound a w (with_row g new)
  pub stays : Stays f g
  pub rows : g.rows ≡ f.rows
  pub noted : IsNoted a w g p row new

pub visited-old : (a : Automaton) (w : Walk) (f : Found) (row new : List ℕ) (key : Key) (j : ℕ) → IsFound a w (with_row f row) → (j < length f.keys) × (key_at f j ≡ key) → new ≡ row ++ j ∷ [] → IsVisited a w f f (pair_of w key) row new
visited-old a w f row new key j i h e =
    subst (IsVisited a w f f (pair_of w key) row) (sym e) (record {
      found = found-old a w f row j h.0 i;
      stays = Stays-refl f;
      rows = refl;
      noted = noted-old a w f row key j i h.0 h.1;
    })

pub visited-new : (a : Automaton) (v w : Walk) (f g : Found) (row new : List ℕ) (from letter n : ℕ) (key : Key) (lead rest : List ℕ) → IsFound a v (with_row f row) → Keeps v w → IsNew a v f from letter key rest
    → lead ≡ lead_at f from ++ letter ∷ [] → g ≡ pushed f key lead rest → n ≡ length f.keys → new ≡ row ++ n ∷ [] → IsVisited a w f g (pair_of v key) row new
visited-new a v w f g row new from letter n key lead rest i k fresh d e m r =
    let there = pushed f key (lead_at f from ++ letter ∷ []) rest in
    let long = row ++ length f.keys ∷ [] in
    let p = pair-keeps v w key k fresh.set_in in
    let j = found-keeps a v w (with_row f row) k i in
    let now : IsNew a w f from letter key rest = record {
      place = fresh.place;
      from_in = fresh.from_in;
      letter_in = fresh.letter_in;
      set_in = omega (arith, fresh.set_in, k.longer);
      state_in = fresh.state_in;
      moved = subst (λ (q : Pair). Has (pair_of w key) (next_pairs a q letter)) (sym (pair-keeps v w (key_at f from) k (i.sets from fresh.from_in))) (subst (λ (q : Pair). Has q (next_pairs a (pair_at v f from) letter)) (sym p) fresh.moved);
      refused = subst (λ (s : List ℕ). IsRefusedRest a s rest) (sym (k.same key.set fresh.set_in)) fresh.refused;
      absent = fresh.absent;
      room = fresh.room;
    } in
    let done : IsVisited a w f there (pair_of w key) row long = record {
      found = found-new a w f row from letter key rest j now;
      stays = stays-pushed f key (lead_at f from ++ letter ∷ []) rest;
      rows = refl;
      noted = noted-new a w f row from letter key rest j now;
    } in
    let same : g ≡ there = e ∙ ap (λ (l : List ℕ). pushed f key l rest) d in
    let same_row : new ≡ long = r ∙ ap (λ (x : ℕ). row ++ x ∷ []) m in
    subst (λ (h : Found). IsVisited a w f h (pair_of v key) row new) (sym same) (subst (IsVisited a w f there (pair_of v key) row) (sym same_row) (subst (λ (q : Pair). IsVisited a w f there q row long) p done))
