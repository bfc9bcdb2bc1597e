-- Laws of the search for live pairs: the moves of a pair on a letter, the letters of a pair, the pairs one after another.
use Rattle.std.proofs.Common.{◌≡◌, ◌∙◌, ℕ, zero, suc, ◌+◌, ◌-◌, ◌*◌, ◌<◌, ◌≤◌, inl, inr, List, [], ◌∷◌, ◌++◌, length, take, get_or, slice_get, Some, refl, sym, ap, subst, arith}
use Rattle.std.proofs.Math.Nat.{suc-mul, mul-le-mul_right}
use Rattle.std.proofs.lemmas.Bool.{cases_lt}
use Rattle.std.proofs.lemmas.List.{take_all, take-append-le, length_push}
use Rattle.std.proofs.lemmas.Nat.{same_from_place}
use Rattle.std.proofs.lemmas.Option.{get_or_from_slice_get}
use Rattle.rl_graph.specs.Paths.{Has}
use Rattle.rl_graph.proofs.Sums.{Each-has, Has-left, Has-right}
use Rattle.rl_prio.specs.Automaton.{Automaton, letters_count, accepting_state, moves_at}
use Rattle.rl_sets.specs.Live.{image}
use Rattle.rl_sets.specs.Walk.{Walk, set_at}
use Rattle.rl_sets.proofs.LiveLemmas.{accepting-dead}
use Rattle.rl_pairs.specs.declared.pair.Pair.{Pair}
use Rattle.rl_pairs.specs.declared.finder.Key.{Key}
use Rattle.rl_pairs.specs.LivePairs.{pairs_from, next_pairs}
use Rattle.rl_pairs.specs.PairGraph.{KeptLive, seen_after}
use Rattle.rl_pairs.specs.Counted.{moved}
use Rattle.rl_pairs.specs.internal.Counting.{IsCounted, IsCounting, Keeps, IsOnward, IsNumberOf, HasNumber}
use Rattle.rl_pairs.specs.internal.Finding.{Found, with_row, first_key, key_at, pair_of, pair_at, rest_at, width, next_in, next_of, flat, IsFound, Stays, IsRowOf, IsMoved, IsNoted, IsTrying, IsFurther, tried, set_for}
use Rattle.rl_pairs.proofs.SetLaws.{has-holds}
use Rattle.rl_pairs.proofs.CountingLaws.{image-counted, Keeps-trans, onward-refl, onward-trans}
use Rattle.rl_pairs.proofs.RowLaws.{flat-push, next-at, next-last, next-old, Each-push, Each-weaker, KeptLive-same, KeptLive-dead, KeptLive-live, pairs-step, pairs-has, tried-for}
use Rattle.rl_pairs.proofs.FindingLaws.{number-keeps, pair-keeps, found-keeps, found-row, Stays-refl, Stays-trans}

-- The pairs of a row stay

stands-keeps : (v w : Walk) (set : List ℕ) → Keeps v w → HasNumber v set → HasNumber w set
stands-keeps v w set k s = (s.0, number-keeps v w set s.0 k s.1)

pub pair-stays : (v w : Walk) (f g : Found) (k : ℕ) → Keeps v w → Stays f g → k < length f.keys → (key_at f k).set < length v.sets → pair_at w g k ≡ pair_at v f k
pair-stays v w f g k keeps stays lt in' = ap (pair_of w) (stays.same k lt) ∙ pair-keeps v w (key_at f k) keeps in'

pub row-stays : (a : Automaton) (v w : Walk) (f g : Found) (ps : List Pair) (row : List ℕ) → Keeps v w → Stays f g → ((k : ℕ) → Has k row → k < length f.keys) → ((k : ℕ) → k < length f.keys → (key_at f k).set < length v.sets) → IsRowOf a v f ps row → IsRowOf a w g ps row
row-stays a v w f g ps row keeps stays inside sets r = record {
  kept = KeptLive-same a (pair_at v f) (pair_at w g) ps row (λ k h. pair-stays v w f g k keeps stays (inside k h) (sets k (inside k h))) r.kept;
  standing = Each-weaker (λ p. HasNumber v p.set) (λ p. HasNumber w p.set) ps (λ p s. stands-keeps v w p.set keeps s) r.standing;
}

row-push : (a : Automaton) (w : Walk) (g : Found) (ps : List Pair) (p : Pair) (row new : List ℕ) → IsRowOf a w g ps row → IsNoted a w g p row new → HasNumber w p.set → IsRowOf a w g (ps ++ p ∷ []) new
row-push a w g ps p row new r (inl (dead, e)) s = record {
  kept = subst (λ (l : List ℕ). KeptLive a (pair_at w g) (ps ++ p ∷ []) l) (sym e) (KeptLive-dead a (pair_at w g) ps row p r.kept dead);
  standing = Each-push (λ q. HasNumber w q.set) ps p r.standing s;
}
row-push a w g ps p row new r (inr (k, live, lt, is, e)) s = record {
  kept = subst (λ (l : List ℕ). KeptLive a (pair_at w g) (ps ++ p ∷ []) l) (sym e) (KeptLive-live a (pair_at w g) ps row p k r.kept live is);
  standing = Each-push (λ q. HasNumber w q.set) ps p r.standing s;
}

-- The targets of a row are among all targets

has-flat : (k p : ℕ) (rows : List (List ℕ)) → Has k (get_or rows p []) → Has k (flat rows)
has-flat k p [] h = h
has-flat k zero (r ∷ rows) h = Has-left k r (flat rows) h
has-flat k (suc p) (r ∷ rows) h = Has-right k r (flat rows) (has-flat k p rows h)

pub row-inside : (a : Automaton) (w : Walk) (g : Found) (row : List ℕ) → IsFound a w (with_row g row) → (k : ℕ) → Has k row → k < length g.keys
row-inside a w g row i k h = Each-has (λ k. k < length g.keys) k (flat (g.rows ++ row ∷ [])) i.targets (subst (Has k) (sym (flat-push g.rows row)) (Has-right k (flat g.rows) row h))

pub next-inside : (a : Automaton) (w : Walk) (f : Found) (q letter : ℕ) → IsFound a w f → letter < width a → (k : ℕ) → Has k (next_of a f q letter) → k < length f.keys
next-inside a w f q letter i lt k h = Each-has (λ k. k < length f.keys) k (flat f.rows) i.targets (has-flat k (q * width a + letter) f.rows (subst (Has k) (next-at (width a) f.rows q letter lt) h))

-- The image of a pair's set.
pub pair-image : (a : Automaton) (w : Walk) (f : Found) (key : Key) (from letter : ℕ) → IsCounting a w → IsFound a w f → from < length f.keys → key ≡ key_at f from → letter ≤ letters_count a → IsCounted a (image a (set_at w key.set) letter)
pair-image a w f key from letter c i lt e le =
    subst (λ (k : Key). IsCounted a (image a (set_at w k.set) letter)) (sym e)
    (image-counted a (set_at w (key_at f from).set) letter (c.counted (key_at f from).set (i.sets from lt)) le (λ h. accepting-dead a (set_at w (key_at f from).set) (has-holds (set_at w (key_at f from).set) (accepting_state a) h) (let r = i.rests from lt in (rest_at f from, r.0, r.1))))

-- The moves in terms of the pair's key.
pub move-pairs : (a : Automaton) (v : Walk) (f : Found) (key : Key) (from letter : ℕ) (ts : List ℕ) → key ≡ key_at f from → ts ≡ moves_at a key.state letter → pairs_from a (image a (pair_at v f from).set letter) ts ≡ next_pairs a (pair_at v f from) letter
move-pairs a v f key from letter ts e t = ap (pairs_from a (image a (pair_at v f from).set letter)) (t ∙ ap (λ (k : Key). moves_at a k.state letter) e)

pub key-read : (f : Found) (from : ℕ) (key : Key) → slice_get f.keys from ≡ Some key → key ≡ key_at f from
key-read f from key e = sym (get_or_from_slice_get f.keys from key first_key e)

pub number-read : (a : Automaton) (v w : Walk) (f : Found) (key : Key) (from letter set : ℕ) → key ≡ key_at f from → IsNumberOf w (image a (set_at v key.set) letter) set → IsNumberOf w (image a (pair_at v f from).set letter) set
number-read a v w f key from letter set e is = subst (λ (k : Key). IsNumberOf w (image a (set_at v k.set) letter) set) e is

-- ---- the moves of a pair on a letter

pub trying-start : (a : Automaton) (v w : Walk) (f : Found) (img ts : List ℕ) (set : ℕ) → IsFound a v f → IsOnward a v w → IsNumberOf w img set → IsTrying a v w f f img ts [] 0 set
trying-start a v w f img ts set i o is = record {
  onward = o;
  found = found-row a w f (found-keeps a v w f o.keeps i);
  stays = Stays-refl f;
  rows = refl;
  row_of = record { kept = refl; standing = tt };
  number = is;
}

module _ (a : Automaton) (v : Walk) (f : Found) (from letter : ℕ) (img ts : List ℕ) (whole : pairs_from a img ts ≡ next_pairs a (pair_at v f from) letter) (i : IsFound a v f) (from_in : from < length f.keys) (le : letter ≤ letters_count a) where
  abbrev nth : ℕ → Pair
  nth k = record { state = get_or ts k 0; set = tried a img (take k ts) }

  move-has : (k : ℕ) → k < length ts → Has (nth k) (next_pairs a (pair_at v f from) letter)
  move-has k lt = subst (Has (nth k)) whole (pairs-has a img ts k lt)

  pub trying-counted : (w : Walk) (g : Found) (row : List ℕ) (k set : ℕ) → IsTrying a v w f g img ts row k set → k < length ts → IsCounted a (set_for a ts k (set_at w set))
  trying-counted w g row k set t lt =
      subst (IsCounted a) (tried-for a img ts k lt ∙ ap (set_for a ts k) (sym t.number.is)) (inr (moved (get_or ts k 0) letter (i.live from from_in) le (move-has k lt)))

  module _ (w x : Walk) (g : Found) (row : List ℕ) (k set n : ℕ) (t : IsTrying a v w f g img ts row k set) (lt : k < length ts) (o : IsOnward a w x) (is : IsNumberOf x (set_for a ts k (set_at w set)) n) where
    set-is : set_at x n ≡ tried a img (take k ts)
    set-is = is.is ∙ ap (set_for a ts k) t.number.is ∙ sym (tried-for a img ts k lt)

    nth-is : (state : ℕ) → state ≡ get_or ts k 0 → pair_of x (record { state = state; set = n }) ≡ nth k
    nth-is state e = λ j. record { state = e j; set = set-is j }

    pub trying-reached : (state : ℕ) → state ≡ get_or ts k 0 → Has (pair_of x (record { state = state; set = n })) (next_pairs a (pair_at x g from) letter)
    trying-reached state e =
        let same = pair-stays v x f g from (Keeps-trans v w x t.onward.keeps o.keeps) t.stays from_in (i.sets from from_in) in
        subst (λ (p : Pair). Has (pair_of x (record { state = state; set = n })) (next_pairs a p letter)) (sym same) (subst (λ (p : Pair). Has p (next_pairs a (pair_at v f from) letter)) (sym (nth-is state e)) (move-has k lt))

    pub trying-found : IsFound a x (with_row g row)
    trying-found = found-keeps a w x (with_row g row) o.keeps t.found

    pub trying-more : (y : Walk) (h : Found) (new : List ℕ) (state : ℕ) → state ≡ get_or ts k 0 → IsOnward a x y → IsFound a y (with_row h new) → Stays g h → h.rows ≡ g.rows → IsNoted a y h (pair_of x (record { state = state; set = n })) row new → IsTrying a v y f h img ts new (k + 1) n
    trying-more y h new state e p found stays rows noted =
        let keeps = Keeps-trans w x y o.keeps p.keeps in
        let next : suc k ≡ k + 1 = omega arith in
        let back : k ≡ (k + 1) - 1 = omega arith in
        let before = row-stays a w y g h (pairs_from a img (take k ts)) row keeps stays (row-inside a w g row t.found) t.found.sets t.row_of in
        let standing : HasNumber y (nth k).set = (n, record { within = omega (arith, is.within, p.keeps.longer); is = p.keeps.same n is.within ∙ set-is }) in
        record {
          onward = onward-trans a v x y (Keeps-trans v w x t.onward.keeps o.keeps) p;
          found = found;
          stays = Stays-trans f g h t.stays stays;
          rows = rows ∙ t.rows;
          row_of = subst (λ (m : ℕ). IsRowOf a y h (pairs_from a img (take m ts)) new) next (subst (λ (ps : List Pair). IsRowOf a y h ps new) (sym (pairs-step a img ts k lt)) (row-push a y h (pairs_from a img (take k ts)) (nth k) row new before (subst (λ (q : Pair). IsNoted a y h q row new) (nth-is state e) noted) standing));
          number = subst (λ (m : ℕ). IsNumberOf y (tried a img (take m ts)) n) back (record { within = omega (arith, is.within, p.keeps.longer); is = p.keeps.same n is.within ∙ set-is });
        }

  -- ---- the end of a letter

  module _ (w : Walk) (g : Found) (row : List ℕ) (k set : ℕ) (t : IsTrying a v w f g img ts row k set) (all : length ts ≤ k) (m : IsMoved a v f (from * width a + letter)) where
    abbrev h : Found
    h = with_row g row

    stays-row : Stays f h
    stays-row = record { limit = t.stays.limit; longer = t.stays.longer; same = t.stays.same }

    whole-row : IsRowOf a w h (next_pairs a (pair_at w h from) letter) row
    whole-row =
        let same = pair-stays v w f g from t.onward.keeps t.stays from_in (i.sets from from_in) in
        let e : pairs_from a img (take k ts) ≡ next_pairs a (pair_at w h from) letter = ap (pairs_from a img) (take_all k ts all) ∙ whole ∙ ap (λ (p : Pair). next_pairs a p letter) (sym same) in
        let r = subst (λ (ps : List Pair). IsRowOf a w g ps row) e t.row_of in
        record { kept = r.kept; standing = r.standing }

    width-pos : letter < width a
    width-pos = omega arith

    place : length g.rows ≡ from * width a + letter
    place = ap length t.rows ∙ m.long

    earlier : (q l : ℕ) → l < width a → q * width a + l < from * width a + letter → q < length f.keys
    earlier q l small lt = elim (cases_lt q (length f.keys)) [
      | inl less ↦ less
      | inr more ↦ absurd (omega (arith, mul-le-mul_right {m = suc from} {n = q} (width a) (omega arith), suc-mul from (width a)))
    ]

    old-row : (q l : ℕ) → l < width a → l ≤ letters_count a → q * width a + l < from * width a + letter → IsRowOf a w h (next_pairs a (pair_at w h q) l) (next_of a h q l)
    old-row q l small le lt =
        let q_in = earlier q l small lt in
        let r = row-stays a v w f h (next_pairs a (pair_at v f q) l) (next_of a f q l) t.onward.keeps stays-row (next-inside a v f q l i small) i.sets (m.moves q l le lt) in
        let same = pair-stays v w f g q t.onward.keeps t.stays q_in (i.sets q q_in) in
        let row_same : next_of a h q l ≡ next_of a f q l = next-old (width a) g.rows q l row small (omega (arith, place)) ∙ ap (λ (rs : List (List ℕ)). next_in (width a) rs q l) t.rows in
        subst (IsRowOf a w h (next_pairs a (pair_at w h q) l)) (sym row_same) (subst (λ (p : Pair). IsRowOf a w h (next_pairs a p l) (next_of a f q l)) (sym same) r)

    new-row : (q l : ℕ) → l < width a → q * width a + l ≡ from * width a + letter → IsRowOf a w h (next_pairs a (pair_at w h q) l) (next_of a h q l)
    new-row q l small e =
        let both = same_from_place q l from letter (width a) small width-pos e in
        let here : next_of a h from letter ≡ row = next-last (width a) g.rows from letter row width-pos place in
        let r = subst (IsRowOf a w h (next_pairs a (pair_at w h from) letter)) (sym here) whole-row in
        subst (λ (x : ℕ). IsRowOf a w h (next_pairs a (pair_at w h x) l) (next_of a h x l)) (sym both.0) (subst (λ (x : ℕ). IsRowOf a w h (next_pairs a (pair_at w h from) x) (next_of a h from x)) (sym both.1) r)

    taken : (q : ℕ) → q * width a ≤ length g.rows → take (q * width a) h.rows ≡ take (q * width a) f.rows
    taken q lt = take-append-le (q * width a) g.rows (row ∷ []) lt ∙ ap (take (q * width a)) t.rows

    new-order : (q : ℕ) → q * width a ≡ from * width a + letter → q < seen_after 1 (flat (take (q * width a) f.rows))
    new-order q e =
        let both = same_from_place q 0 from letter (width a) (omega arith) width-pos (omega arith) in
        let all_rows : take (q * width a) f.rows ≡ f.rows = take_all (q * width a) f.rows (omega (arith, m.long)) in
        omega (arith, ap (λ (rs : List (List ℕ)). seen_after 1 (flat rs)) all_rows, i.count, both.0)

    pub letter-done : IsFurther a v w f h (from * width a + suc letter)
    letter-done = record {
      onward = t.onward;
      found = t.found;
      stays = stays-row;
      moved = record {
        long = length_push g.rows row ∙ omega (arith, place);
        moves = λ q l le lt. elim (cases_lt (q * width a + l) (from * width a + letter)) [
          | inl less ↦ old-row q l (omega arith) le less
          | inr more ↦ new-row q l (omega arith) (omega arith)
        ];
        order = λ q lt. elim (cases_lt (q * width a) (from * width a + letter)) [
          | inl less ↦ subst (λ (rs : List (List ℕ)). q < seen_after 1 (flat rs)) (sym (taken q (omega (arith, place)))) (m.order q less)
          | inr more ↦ subst (λ (rs : List (List ℕ)). q < seen_after 1 (flat rs)) (sym (taken q (omega (arith, place)))) (new-order q (omega arith))
        ];
      };
    }

-- ---- the letters of a pair

pub further-start : (a : Automaton) (v : Walk) (f : Found) (count : ℕ) → IsCounting a v → IsFound a v f → IsMoved a v f count → IsFurther a v v f f count
further-start a v f count c i m = record { onward = onward-refl a v c; found = i; stays = Stays-refl f; moved = m }

pub further-trans : (a : Automaton) (u v w : Walk) (f g h : Found) (c d : ℕ) → IsFurther a u v f g c → IsFurther a v w g h d → IsFurther a u w f h d
further-trans a u v w f g h c d x y = record {
  onward = onward-trans a u v w x.onward.keeps y.onward;
  found = y.found;
  stays = Stays-trans f g h x.stays y.stays;
  moved = y.moved;
}

-- ---- the pairs one after another

pub next-pair : (a : Automaton) (u v w : Walk) (f g h : Found) (place : ℕ) → IsFurther a u v f g (place * width a) → IsFurther a v w g h (suc place * width a) → IsFurther a u w f h ((place + 1) * width a)
next-pair a u v w f g h place x y =
    let e : suc place ≡ place + 1 = omega arith in
    subst (λ (n : ℕ). IsFurther a u w f h (n * width a)) e (further-trans a u v w f g h (place * width a) (suc place * width a) x y)
