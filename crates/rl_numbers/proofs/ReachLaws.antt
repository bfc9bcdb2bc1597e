-- A search for the states that are reached.
use Rattle.std.proofs.Common.{◌≡◌, ◌≢◌, ◌∙◌, ℕ, ◌+◌, ◌<◌, ◌≤◌, ◌⊎◌, inl, inr, Bool, true, false, ◌||◌, eqb, eqb-true, eq-eqb, List, [], ◌∷◌, ◌++◌, length, get_or, take, refl, sym, ap, subst, arith, true≢false, append_assoc, append-nil}
use Rattle.std.proofs.lemmas.Bool.{cases_lt}
use Rattle.std.proofs.lemmas.List.{take_more, take_all, length_push, get_or_append_left}
use Rattle.std.specs.List.{list_any}
use Rattle.rl_graph.specs.Paths.{Has, Pairs, IsBounded}
use Rattle.rl_graph.proofs.Sums.{Each-has, each-has, Has-left, Has-last, Has-push, Pairs-push, at-has, at-short, at-get_or, Has-get_or}
use Rattle.rl_graph.proofs.PathLaws.{Reaches-self, Reaches-move, Reaches-trans, along_moves}
use Rattle.rl_numbers.specs.Reached.{IsReached, AreMore, IsReach}
use Rattle.rl_numbers.specs.internal.Spreading.{IsPut, IsFinding, Grows, IsClosedUpTo, IsSpread, Spreads, Overflows, IsTargetUpTo, IsTarget}

any-step : (b c : Bool) → (b || c) ≡ true → (b ≡ true) ⊎ (c ≡ true)
any-step true c h = inl refl
any-step false c h = inr h

pub any-has : (q : ℕ) (keys : List ℕ) → list_any (eqb q) keys ≡ true → Has q keys
any-has q [] h = cc
any-has q (x ∷ keys) h = by (any-step (eqb q x) (list_any (eqb q) keys) h) (any-has q keys)
  where
    by : (eqb q x ≡ true) ⊎ (list_any (eqb q) keys ≡ true) → (list_any (eqb q) keys ≡ true → Has q keys) → (q ≡ x) ⊎ Has q keys
    by (inl e) rest = inl (eqb-true q x e)
    by (inr e) rest = inr (rest e)

any-left : (b c : Bool) → b ≡ true → (b || c) ≡ true
any-left true c e = refl
any-left false c e = cc

any-right : (b c : Bool) → c ≡ true → (b || c) ≡ true
any-right true c e = refl
any-right false c e = e

has-any : (q : ℕ) (keys : List ℕ) → Has q keys → list_any (eqb q) keys ≡ true
has-any q [] h = absurd h
has-any q (x ∷ keys) (inl e) = any-left (eqb q x) (list_any (eqb q) keys) (eq-eqb q x e)
has-any q (x ∷ keys) (inr h) = any-right (eqb q x) (list_any (eqb q) keys) (has-any q keys h)

pub any-none : (q : ℕ) (keys : List ℕ) → list_any (eqb q) keys ≡ false → Has q keys → ⊥
any-none q keys e h = true≢false (sym (has-any q keys h) ∙ e)

-- The same with the numbers the other way round.
pub any-there : (q : ℕ) (l : List ℕ) → list_any (λ x. eqb x q) l ≡ true → Has q l
any-there q [] h = cc
any-there q (x ∷ l) h = by (any-step (eqb x q) (list_any (λ y. eqb y q) l) h) (any-there q l)
  where
    by : (eqb x q ≡ true) ⊎ (list_any (λ y. eqb y q) l ≡ true) → (list_any (λ y. eqb y q) l ≡ true → Has q l) → (q ≡ x) ⊎ Has q l
    by (inl e) rest = inl (sym (eqb-true x q e))
    by (inr e) rest = inr (rest e)

there-is : (q : ℕ) (l : List ℕ) → Has q l → list_any (λ x. eqb x q) l ≡ true
there-is q [] h = absurd h
there-is q (x ∷ l) (inl e) = any-left (eqb x q) (list_any (λ y. eqb y q) l) (eq-eqb x q (sym e))
there-is q (x ∷ l) (inr h) = any-right (eqb x q) (list_any (λ y. eqb y q) l) (there-is q l h)

pub there-any : (q : ℕ) (l : List ℕ) → list_any (λ x. eqb x q) l ≡ false → Has q l → ⊥
there-any q l e h = true≢false (sym (there-is q l h) ∙ e)

-- One more key

pub put-has : (q : ℕ) (old new : List ℕ) → IsPut q old new → Has q new
put-has q old new (inl (h, e)) = subst (Has q) (sym e) h
put-has q old new (inr (h, e)) = subst (Has q) (sym e) (Has-last q old)

pub put-grows : (q : ℕ) (old new : List ℕ) → IsPut q old new → Grows old new
put-grows q old new (inl (h, e)) = ([], e ∙ sym (append-nil old))
put-grows q old new (inr (h, e)) = (q ∷ [], e)

pub grows-has : (old new : List ℕ) → Grows old new → (q : ℕ) → Has q old → Has q new
grows-has old new g q h = subst (Has q) (sym g.1) (Has-left q old g.0 h)

grows-self : (l : List ℕ) → Grows l l
grows-self l = ([], sym (append-nil l))

grows-on : (a b c : List ℕ) → Grows a b → Grows b c → Grows a c
grows-on a b c g h = (g.0 ++ h.0, h.1 ∙ (ap (λ (l : List ℕ). l ++ h.0) g.1 ∙ append_assoc a g.0 h.0))

module _ (next : ℕ → ℕ → List ℕ) (n : ℕ) (starts : List ℕ) (limit : ℕ) where
  pub finding-put : (q : ℕ) (old new : List ℕ) → IsFinding next n starts limit old → IsPut q old new → length new ≤ limit → IsReached next starts q → q < n → IsFinding next n starts limit new
  finding-put q old new f (inl (h, e)) few reached lt = subst (IsFinding next n starts limit) (sym e) f
  finding-put q old new f (inr (h, e)) few reached lt = record {
    once = subst (Pairs (λ (x y : ℕ). x ≢ y)) (sym e) (Pairs-push (λ (x y : ℕ). x ≢ y) old q f.once (λ x i d. h (subst (λ (y : ℕ). Has y old) d i)));
    sound = each-has (IsReached next starts) new (λ x i. one x (Has-push x q old (subst (Has x) e i)));
    inside = each-has (λ (x : ℕ). x < n) new (λ x i. two x (Has-push x q old (subst (Has x) e i)));
    few = few;
  }
    where
      one : (x : ℕ) → Has x old ⊎ (x ≡ q) → IsReached next starts x
      one x (inl i) = Each-has (IsReached next starts) x old f.sound i
      one x (inr d) = subst (IsReached next starts) (sym d) reached

      two : (x : ℕ) → Has x old ⊎ (x ≡ q) → x < n
      two x (inl i) = Each-has (λ (y : ℕ). y < n) x old f.inside i
      two x (inr d) = subst (λ (y : ℕ). y < n) (sym d) lt

  -- One more than there may be.
  pub too-many : (q : ℕ) (keys : List ℕ) → IsFinding next n starts limit keys → length keys ≡ limit → (Has q keys → ⊥) → IsReached next starts q → AreMore limit (IsReached next starts)
  too-many q keys f e fresh reached = (
    keys ++ q ∷ [],
    Pairs-push (λ (x y : ℕ). x ≢ y) keys q f.once (λ x i d. fresh (subst (λ (y : ℕ). Has y keys) d i)),
    each-has (IsReached next starts) (keys ++ q ∷ []) (λ x i. one x (Has-push x q keys i)),
    omega (arith, length_push keys q, e),
  )
    where
      one : (x : ℕ) → Has x keys ⊎ (x ≡ q) → IsReached next starts x
      one x (inl i) = Each-has (IsReached next starts) x keys f.sound i
      one x (inr d) = subst (IsReached next starts) (sym d) reached

  pub spread-none : (IsT : ℕ → Type 0) (keys : List ℕ) → ((t : ℕ) → IsT t → ⊥) → IsFinding next n starts limit keys → IsSpread next n starts limit IsT keys keys
  spread-none IsT keys none f = record { finding = f; grows = grows-self keys; put = λ t i. absurd (none t i) }

  pub spread-more : (row : List ℕ) (k t : ℕ) (old mid new : List ℕ) → k < length row → t ≡ get_or row k 0 → t < n → IsReached next starts t → length new ≤ limit
      → IsSpread next n starts limit (λ x. Has x (take k row)) old mid → IsPut t mid new → IsSpread next n starts limit (λ x. Has x (take (k + 1) row)) old new
  spread-more row k t old mid new lt is small reached few s put = record {
    finding = finding-put t mid new s.finding put few reached small;
    grows = grows-on old mid new s.grows (put-grows t mid new put);
    put = λ x i. by x (Has-push x (get_or row k 0) (take k row) (subst (Has x) (take_more row k 0 lt) i));
  }
    where
      by : (x : ℕ) → Has x (take k row) ⊎ (x ≡ get_or row k 0) → Has x new
      by x (inl i) = grows-has mid new (put-grows t mid new put) x (s.put x i)
      by x (inr e) = subst (λ (y : ℕ). Has y new) (is ∙ sym e) (put-has t mid new put)

  pub spread-on : (IsT IsU IsV : ℕ → Type 0) (old mid new : List ℕ) → ((t : ℕ) → IsV t → IsT t ⊎ IsU t) → IsSpread next n starts limit IsT old mid → IsSpread next n starts limit IsU mid new → IsSpread next n starts limit IsV old new
  spread-on IsT IsU IsV old mid new which s r = record { finding = r.finding; grows = grows-on old mid new s.grows r.grows; put = λ t i. by t (which t i) }
    where
      by : (t : ℕ) → IsT t ⊎ IsU t → Has t new
      by t (inl i) = grows-has mid new r.grows t (s.put t i)
      by t (inr i) = r.put t i

reached-move : (next : ℕ → ℕ → List ℕ) (starts : List ℕ) (from l t : ℕ) → IsReached next starts from → Has t (next from l) → IsReached next starts t
reached-move next starts from l t r h = (r.0, r.1, Reaches-trans next r.0 from t r.2 (Reaches-move next from t l h))

-- The loops

pub on-start : (next : ℕ → ℕ → List ℕ) (n limit from : ℕ) (row keys : List ℕ) → Spreads next n limit from (λ t. Has t (take 0 row)) keys keys
on-start next n limit from row keys starts f r = spread-none next n starts limit (λ t. Has t (take 0 row)) keys (λ t i. nothing t row i) f
  where
    nothing : (t : ℕ) (row : List ℕ) → Has t (take 0 row) → ⊥
    nothing t [] i = i
    nothing t (x ∷ row) i = i

pub on-more : (next : ℕ → ℕ → List ℕ) (n limit from l k t : ℕ) (old mid new : List ℕ) → k < length (next from l) → t ≡ get_or (next from l) k 0 → t < n → length new ≤ limit
    → Spreads next n limit from (λ x. Has x (take k (next from l))) old mid → IsPut t mid new → Spreads next n limit from (λ x. Has x (take (k + 1) (next from l))) old new
on-more next n limit from l k t old mid new lt is small few s put starts f r =
    spread-more next n starts limit (next from l) k t old mid new lt is small (reached-move next starts from l t r (subst (λ (x : ℕ). Has x (next from l)) (sym is) (Has-get_or (next from l) k 0 lt))) few (s starts f r) put

pub on-over : (next : ℕ → ℕ → List ℕ) (n limit from l k t : ℕ) (old mid : List ℕ) → k < length (next from l) → t ≡ get_or (next from l) k 0 → length mid ≡ limit → (Has t mid → ⊥)
    → Spreads next n limit from (λ x. Has x (take k (next from l))) old mid → Overflows next n limit from old
on-over next n limit from l k t old mid lt is e fresh s starts f r =
    too-many next n starts limit t mid (s starts f r).finding e fresh (reached-move next starts from l t r (subst (λ (x : ℕ). Has x (next from l)) (sym is) (Has-get_or (next from l) k 0 lt)))

pub on-end : (next : ℕ → ℕ → List ℕ) (n limit from l k : ℕ) (old new : List ℕ) → length (next from l) ≤ k → Spreads next n limit from (λ x. Has x (take k (next from l))) old new → Spreads next n limit from (λ x. Has x (next from l)) old new
on-end next n limit from l k old new past s starts f r =
    let h = s starts f r in
    record { finding = h.finding; grows = h.grows; put = λ t i. h.put t (subst (Has t) (sym (take_all k (next from l) past)) i) }

pub all-start : (next : ℕ → ℕ → List ℕ) (n limit from : ℕ) (keys : List ℕ) → Spreads next n limit from (IsTargetUpTo next from 0) keys keys
all-start next n limit from keys starts f r = spread-none next n starts limit (IsTargetUpTo next from 0) keys (λ t i. omega (arith, i.1)) f

pub all-more : (next : ℕ → ℕ → List ℕ) (n limit from l : ℕ) (old mid new : List ℕ) → Spreads next n limit from (IsTargetUpTo next from l) old mid → Spreads next n limit from (λ x. Has x (next from l)) mid new → Spreads next n limit from (IsTargetUpTo next from (l + 1)) old new
all-more next n limit from l old mid new s u starts f r =
    let h = s starts f r in
    spread-on next n starts limit (IsTargetUpTo next from l) (λ x. Has x (next from l)) (IsTargetUpTo next from (l + 1)) old mid new (λ t i. which t i (cases_lt i.0 l)) h (u starts h.finding r)
  where
    which : (t : ℕ) (i : IsTargetUpTo next from (l + 1) t) → (i.0 < l) ⊎ (l ≤ i.0) → IsTargetUpTo next from l t ⊎ Has t (next from l)
    which t i (inl lt) = inl (i.0, lt, i.2)
    which t i (inr ge) = inr (let e : i.0 ≡ l = omega (arith, i.1) in subst (λ (x : ℕ). Has t (next from x)) e i.2)

pub all-over : (next : ℕ → ℕ → List ℕ) (n limit from l : ℕ) (old mid : List ℕ) → Spreads next n limit from (IsTargetUpTo next from l) old mid → Overflows next n limit from mid → Overflows next n limit from old
all-over next n limit from l old mid s u starts f r = u starts (s starts f r).finding r

pub all-end : (next : ℕ → ℕ → List ℕ) (n limit from k width : ℕ) (old new : List ℕ) → IsBounded next n width → width ≤ k → Spreads next n limit from (IsTargetUpTo next from k) old new → Spreads next n limit from (IsTarget next from) old new
all-end next n limit from k width old new b le s starts f r =
    let h = s starts f r in
    record { finding = h.finding; grows = h.grows; put = λ t i. by t i (cases_lt i.0 k) h.put }
  where
    by : (t : ℕ) (i : IsTarget next from t) → (i.0 < k) ⊎ (k ≤ i.0) → ((t : ℕ) → IsTargetUpTo next from k t → Has t new) → Has t new
    by t i (inl lt) put = put t (i.0, lt, i.1)
    by t i (inr ge) put = absurd (subst (Has t) (b.letters from i.0 (omega (arith, le, ge))) i.1)

-- The starts

start-reached : (next : ℕ → ℕ → List ℕ) (starts : List ℕ) (s : ℕ) → Has s starts → IsReached next starts s
start-reached next starts s h = (s, h, Reaches-self next s)

pub starts-none : (count limit : ℕ) (starts keys : List ℕ) → keys ≡ [] → (next : ℕ → ℕ → List ℕ) → IsFinding next count starts limit keys
starts-none count limit starts keys e next = subst (IsFinding next count starts limit) (sym e) (record { once = tt; sound = tt; inside = tt; few = omega arith })

pub starts-more : (count limit i : ℕ) (starts old new : List ℕ) → i < length starts → get_or starts i 0 < count → IsPut (get_or starts i 0) old new → length new ≤ limit
    → ((next : ℕ → ℕ → List ℕ) → IsFinding next count starts limit old) → (next : ℕ → ℕ → List ℕ) → IsFinding next count starts limit new
starts-more count limit i starts old new lt small put few found next =
    finding-put next count starts limit (get_or starts i 0) old new (found next) put few (start-reached next starts (get_or starts i 0) (Has-get_or starts i 0 lt)) small

pub starts-all : (i : ℕ) (starts old new : List ℕ) → i < length starts → IsPut (get_or starts i 0) old new → ((s : ℕ) → Has s (take i starts) → Has s old) → (s : ℕ) → Has s (take (i + 1) starts) → Has s new
starts-all i starts old new lt put all s h = by (Has-push s (get_or starts i 0) (take i starts) (subst (Has s) (take_more starts i 0 lt) h))
  where
    by : Has s (take i starts) ⊎ (s ≡ get_or starts i 0) → Has s new
    by (inl i2) = grows-has old new (put-grows (get_or starts i 0) old new put) s (all s i2)
    by (inr e) = subst (λ (y : ℕ). Has y new) (sym e) (put-has (get_or starts i 0) old new put)

pub starts-over : (count limit i : ℕ) (starts keys : List ℕ) → i < length starts → length keys ≡ limit → (Has (get_or starts i 0) keys → ⊥) → ((next : ℕ → ℕ → List ℕ) → IsFinding next count starts limit keys)
    → (next : ℕ → ℕ → List ℕ) → AreMore limit (IsReached next starts)
starts-over count limit i starts keys lt e fresh found next =
    too-many next count starts limit (get_or starts i 0) keys (found next) e fresh (start-reached next starts (get_or starts i 0) (Has-get_or starts i 0 lt))

pub starts-end : (i : ℕ) (starts keys : List ℕ) → length starts ≤ i → ((s : ℕ) → Has s (take i starts) → Has s keys) → (s : ℕ) → Has s starts → Has s keys
starts-end i starts keys past all s h = all s (subst (Has s) (sym (take_all i starts past)) h)

-- The whole search

pub record IsSearching (next : ℕ → ℕ → List ℕ) (n : ℕ) (starts : List ℕ) (limit place : ℕ) (keys : List ℕ) : Type 0 where
  pub finding : IsFinding next n starts limit keys
  pub all : (s : ℕ) → Has s starts → Has s keys
  pub closed : IsClosedUpTo next place keys

pub search-start : (next : ℕ → ℕ → List ℕ) (n limit : ℕ) (starts keys : List ℕ) → IsFinding next n starts limit keys → ((s : ℕ) → Has s starts → Has s keys) → IsSearching next n starts limit 0 keys
search-start next n limit starts keys f all = record { finding = f; all = all; closed = λ i l t lt. absurd (omega arith) }

pub search-inside : (next : ℕ → ℕ → List ℕ) (n limit place from : ℕ) (starts keys : List ℕ) → IsSearching next n starts limit place keys → place < length keys → from ≡ get_or keys place 0 → from < n
search-inside next n limit place from starts keys s lt e = subst (λ (x : ℕ). x < n) (sym e) (Each-has (λ (x : ℕ). x < n) (get_or keys place 0) keys s.finding.inside (Has-get_or keys place 0 lt))

search-reached : (next : ℕ → ℕ → List ℕ) (n limit place from : ℕ) (starts keys : List ℕ) → IsSearching next n starts limit place keys → place < length keys → from ≡ get_or keys place 0 → IsReached next starts from
search-reached next n limit place from starts keys s lt e = subst (IsReached next starts) (sym e) (Each-has (IsReached next starts) (get_or keys place 0) keys s.finding.sound (Has-get_or keys place 0 lt))

pub search-more : (next : ℕ → ℕ → List ℕ) (n limit place from : ℕ) (starts old new : List ℕ) → IsSearching next n starts limit place old → place < length old → from ≡ get_or old place 0
    → Spreads next n limit from (IsTarget next from) old new → IsSearching next n starts limit (place + 1) new
search-more next n limit place from starts old new s lt e spreads =
    let h = spreads starts s.finding (search-reached next n limit place from starts old s lt e) in
    record { finding = h.finding; all = λ t i. grows-has old new h.grows t (s.all t i); closed = λ i l t small inside move. by h.grows h.put i l t (cases_lt i place) small move }
  where
    by : Grows old new → ((t : ℕ) → IsTarget next from t → Has t new) → (i l t : ℕ) → (i < place) ⊎ (place ≤ i) → i < place + 1 → Has t (next (get_or new i 0) l) → Has t new
    by g put i l t (inl small) lt2 move =
        let same : get_or new i 0 ≡ get_or old i 0 = ap (λ (k : List ℕ). get_or k i 0) g.1 ∙ get_or_append_left old g.0 0 i (omega arith) in
        grows-has old new g t (s.closed i l t small (omega arith) (subst (λ (x : ℕ). Has t (next x l)) same move))
    by g put i l t (inr big) lt2 move =
        let here : i ≡ place = omega arith in
        let same : get_or new i 0 ≡ from = ap (λ (k : List ℕ). get_or k i 0) g.1 ∙ (get_or_append_left old g.0 0 i (omega arith) ∙ (ap (λ (x : ℕ). get_or old x 0) here ∙ sym e)) in
        put t (l, subst (λ (x : ℕ). Has t (next x l)) same move)

pub search-over : (next : ℕ → ℕ → List ℕ) (n limit place from : ℕ) (starts old : List ℕ) → IsSearching next n starts limit place old → place < length old → from ≡ get_or old place 0
    → Overflows next n limit from old → AreMore limit (IsReached next starts)
search-over next n limit place from starts old s lt e over = over starts s.finding (search-reached next n limit place from starts old s lt e)

pub search-end : (next : ℕ → ℕ → List ℕ) (n limit place : ℕ) (starts keys : List ℕ) → length keys ≤ place → IsSearching next n starts limit place keys → IsReach next starts keys
search-end next n limit place starts keys past s = record { once = s.finding.once; sound = s.finding.sound; whole = whole }
  where
    closed : (q l t : ℕ) → Has q keys → Has t (next q l) → Has t keys
    closed q l t h move =
        let i = at-has q keys h in
        let lt = at-short keys i.0 q i.1 in
        s.closed i.0 l t (omega (arith, lt, past)) lt (subst (λ (x : ℕ). Has t (next x l)) (sym (at-get_or keys i.0 q 0 i.1)) move)

    whole : (q : ℕ) → IsReached next starts q → Has q keys
    whole q r = along_moves (λ x. Has x keys) next closed r.0 q r.2.0 (s.all r.0 r.1) r.2.1
