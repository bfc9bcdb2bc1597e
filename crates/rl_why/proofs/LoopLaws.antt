-- A way from a place back to itself lies in a loop of the tree.
use Rattle.std.proofs.Common.{◌≡◌, ℕ, zero, suc, ◌+◌, ◌<◌, ◌≤◌, ◌⊎◌, inl, inr, ⊎_elim, Bool, true, false, ◌&&◌, nat_lt, nat_le, List, [], ◌∷◌, ◌++◌, length, Option, None, Some, IsSome, slice_get, option_map, if◌then◌else◌, refl, sym, ap, ap₂, ◌∙◌, subst, arith}
use Rattle.std.proofs.lemmas.Bool.{cases_lt, cond-true, cond-false, lt-ltb, le-ltb, le-leb}
use Rattle.std.proofs.lemmas.Option.{none-some, same_Some}
use Rattle.rl_graph.specs.Paths.{Has}
use Rattle.rl_syntax.specs.declared.anchors.Guard.{Guard}
use Rattle.rl_syntax.specs.Tree.{Tree, empty, one, guard, both, either, many, places, size}
use Rattle.rl_syntax.specs.Run.{one_more}
use Rattle.rl_prio.specs.Items.{set_of, all_hold}
use Rattle.rl_ways.specs.declared.origin.Origin.{Origin}
use Rattle.rl_ways.specs.declared.item.Decision.{Decision}
use Rattle.rl_ways.specs.declared.item.Decision.TheVariants.{Left as left, Right as right, Round as round, Stop as stop}
use Rattle.rl_ways.specs.declared.item.ToldItem.{ToldItem}
use Rattle.rl_ways.specs.Told.{all_led, decided, continued, replaced, told_first, told_after}
use Rattle.rl_ways.specs.Ways.{open_ones, told_at, if_taken, if_any, text_way, last_place, Leads}
use Rattle.rl_why.specs.Shown.{origin_at}
use Rattle.rl_why.specs.Loops.{all_below, none_below, loop_over, with_place, taking, loop_of}

-- ---- members of lists of told items

has-either : (m : ToldItem) (l k : List ToldItem) → Has m (l ++ k) → Has m l ⊎ Has m k
has-either m [] k h = inr h
has-either m (x ∷ l) k (inl e) = inl (inl e)
has-either m (x ∷ l) k (inr h) = ⊎_elim (λ y. inl (inr y)) (λ y. inr y) (has-either m l k h)

got-has : (l : List ToldItem) (i : ℕ) (m : ToldItem) → slice_get l i ≡ Some m → Has m l
got-has [] i m e = absurd (none-some m e)
got-has (x ∷ l) zero m e = inl (sym (same_Some x m e))
got-has (x ∷ l) (suc i) m e = inr (got-has l i m e)

open-has : (before next : Option ℕ) (l : List ToldItem) (m : ToldItem) → Has m (open_ones before next l) → Has m l
open-has before next [] m h = h
open-has before next (x ∷ l) m h = by (λ y. open-has before next l m y) (all_hold x.guards before next) h
  where
    by : (Has m (open_ones before next l) → Has m l) → (v : Bool) → Has m ((if v then x ∷ [] else []) ++ open_ones before next l) → Has m (x ∷ l)
    by rest true (inl e) = inl e
    by rest true (inr y) = inr (rest y)
    by rest false y = inr (rest y)

-- A told item of the list has the place.
abbrev HasPlace : List ToldItem → ℕ → Type 0
HasPlace l q = (m : ToldItem) × Has m l × (m.place ≡ Some q)

led-place : (ds : List Decision) (gs : List Guard) (l : List ToldItem) (q : ℕ) → HasPlace (all_led ds gs l) q → HasPlace l q
led-place ds gs [] q (m, h, e) = absurd h
led-place ds gs (x ∷ l) q (m, inl is, e) = (x, inl refl, sym (ap (λ y. y.place) is) ∙ e)
led-place ds gs (x ∷ l) q (m, inr h, e) = let r = led-place ds gs l q (m, h, e) in (r.0, inr r.1, r.2)

either-place : (l k : List ToldItem) (q : ℕ) → HasPlace (l ++ k) q → HasPlace l q ⊎ HasPlace k q
either-place l k q (m, h, e) = ⊎_elim (λ y. inl (m, y, e)) (λ y. inr (m, y, e)) (has-either m l k h)

more-place : (x : ToldItem) (l : List ToldItem) (q : ℕ) → HasPlace l q → HasPlace (x ∷ l) q
more-place x l q (m, h, e) = (m, inr h, e)

replaced-place : (l others : List ToldItem) (q : ℕ) → HasPlace (replaced l others) q → HasPlace l q ⊎ HasPlace others q
replaced-place [] others q (m, h, e) = absurd h
replaced-place (x ∷ l) others q h =
    ⊎_elim (λ y. by x.place refl y) (λ y. ⊎_elim (λ z. inl (more-place x l q z)) (λ z. inr z) (replaced-place l others q y))
    (either-place (continued x.place x others) (replaced l others) q h)
  where
    by : (o : Option ℕ) → x.place ≡ o → HasPlace (continued o x others) q → HasPlace (x ∷ l) q ⊎ HasPlace others q
    by (Some p) is (m, inl same, e) = inl (x, inl refl, sym (ap (λ y. y.place) same) ∙ e)
    by (Some p) is (m, inr none, e) = absurd none
    by None is y = inr (led-place x.decisions x.guards others q y)

-- An end has no place.
more-of : (greedy : Bool) (x : ToldItem) (l : List ToldItem) (q : ℕ) → x.place ≡ None → HasPlace (one_more greedy x l) q → HasPlace l q
more-of true x l q none h = ⊎_elim (λ y. y) (λ y. alone y) (either-place l (x ∷ []) q h)
  where
    alone : HasPlace (x ∷ []) q → HasPlace l q
    alone (m, inl is, e) = absurd (none-some q (sym none ∙ sym (ap (λ y. y.place) is) ∙ e))
    alone (m, inr nothing, e) = absurd nothing
more-of false x l q none (m, inl is, e) = absurd (none-some q (sym none ∙ sym (ap (λ y. y.place) is) ∙ e))
more-of false x l q none (m, inr h, e) = (m, h, e)

-- ---- where told items lead

first-in : (t : Tree) (b n q : ℕ) → HasPlace (told_first t b n) q → (b ≤ q) × (q < b + places t)
first-in empty b n q (m, inl is, e) = absurd (none-some q (sym (ap (λ y. y.place) is) ∙ e))
first-in empty b n q (m, inr none, e) = absurd none
first-in (one set) b n q (m, inl is, e) = let same : b ≡ q = same_Some b q (sym (ap (λ y. y.place) is) ∙ e) in (omega (arith, same), omega (arith, same))
first-in (one set) b n q (m, inr none, e) = absurd none
first-in (guard g) b n q (m, inl is, e) = absurd (none-some q (sym (ap (λ y. y.place) is) ∙ e))
first-in (guard g) b n q (m, inr none, e) = absurd none
first-in (both e f) b n q h =
    ⊎_elim
    (λ y. let x = first-in e b (suc n) q y in (x.0, omega (arith, x.1)))
    (λ y. let x = first-in f (b + places e) (suc n + size e) q y in (omega (arith, x.0), omega (arith, x.1)))
    (replaced-place (told_first e b (suc n)) (told_first f (b + places e) (suc n + size e)) q h)
first-in (either e f) b n q h =
    ⊎_elim
    (λ y. let x = first-in e b (suc n) q (led-place (left n ∷ []) [] (told_first e b (suc n)) q y) in (x.0, omega (arith, x.1)))
    (λ y.
    let x = first-in f (b + places e) (suc n + size e) q (led-place (right n ∷ []) [] (told_first f (b + places e) (suc n + size e)) q y) in
    (omega (arith, x.0), omega (arith, x.1)))
    (either-place (decided (left n) (told_first e b (suc n))) (decided (right n) (told_first f (b + places e) (suc n + size e))) q h)
first-in (many e greedy) b n q h =
    first-in e b (suc n) q
    (led-place (round n ∷ []) [] (told_first e b (suc n)) q
    (more-of greedy (record { decisions = stop n ∷ []; guards = []; place = None }) (decided (round n) (told_first e b (suc n))) q refl h))

-- From the place `p` of the tree a way may lead to the place `q`: after the second of two trees, nothing leads back to the
-- first, and outside of loops no place leads back to itself.
abbrev pub May : Tree → ℕ → ℕ → ℕ → Type 0
May empty b p q = ⊥
May (one set) b p q = ⊥
May (guard g) b p q = ⊥
May (both e f) b p q =
    ((p < b + places e) × (May e b p q ⊎ ((b + places e ≤ q) × (q < b + places e + places f)))) ⊎ ((b + places e ≤ p) × May f (b + places e) p q)
May (either e f) b p q = ((p < b + places e) × May e b p q) ⊎ ((b + places e ≤ p) × May f (b + places e) p q)
May (many e greedy) b p q = (b ≤ q) × (q < b + places e)

may-in : (t : Tree) (b p q : ℕ) → May t b p q → (b ≤ q) × (q < b + places t)
may-in empty b p q h = absurd h
may-in (one set) b p q h = absurd h
may-in (guard g) b p q h = absurd h
may-in (both e f) b p q (inl (lt, inl h)) = let x = may-in e b p q h in (x.0, omega (arith, x.1))
may-in (both e f) b p q (inl (lt, inr h)) = (omega (arith, h.0), omega (arith, h.1))
may-in (both e f) b p q (inr (le, h)) = let x = may-in f (b + places e) p q h in (omega (arith, x.0), omega (arith, x.1))
may-in (either e f) b p q (inl (lt, h)) = let x = may-in e b p q h in (x.0, omega (arith, x.1))
may-in (either e f) b p q (inr (le, h)) = let x = may-in f (b + places e) p q h in (omega (arith, x.0), omega (arith, x.1))
may-in (many e greedy) b p q h = h

after-may : (t : Tree) (b n p q : ℕ) → HasPlace (told_after t b n p) q → May t b p q
after-may empty b n p q (m, h, e) = absurd h
after-may (one set) b n p q (m, inl is, e) = absurd (none-some q (sym (ap (λ y. y.place) is) ∙ e))
after-may (one set) b n p q (m, inr none, e) = absurd none
after-may (guard g) b n p q (m, h, e) = absurd h
after-may (both e f) b n p q h =
    let inner = told_after e b (suc n) p in
    let others = told_first f (b + places e) (suc n + size e) in
    let outer = told_after f (b + places e) (suc n + size e) p in
    ⊎_elim
    (λ lt.
    let here : HasPlace (replaced inner others) q = subst (λ l. HasPlace l q) (cond-true (nat_lt p (b + places e)) (replaced inner others) outer (lt-ltb p (b + places e) lt)) h in
    inl (
      lt,
      ⊎_elim
          (λ y. inl (after-may e b (suc n) p q y))
          (λ y. inr (first-in f (b + places e) (suc n + size e) q y))
          (replaced-place inner others q here),
    ))
    (λ le.
    let here : HasPlace outer q = subst (λ l. HasPlace l q) (cond-false (nat_lt p (b + places e)) (replaced inner others) outer (le-ltb p (b + places e) le)) h in
    inr (le, after-may f (b + places e) (suc n + size e) p q here))
    (cases_lt p (b + places e))
after-may (either e f) b n p q h =
    let inner = told_after e b (suc n) p in
    let outer = told_after f (b + places e) (suc n + size e) p in
    ⊎_elim
    (λ lt.
    let here : HasPlace inner q = subst (λ l. HasPlace l q) (cond-true (nat_lt p (b + places e)) inner outer (lt-ltb p (b + places e) lt)) h in
    inl (lt, after-may e b (suc n) p q here))
    (λ le.
    let here : HasPlace outer q = subst (λ l. HasPlace l q) (cond-false (nat_lt p (b + places e)) inner outer (le-ltb p (b + places e) le)) h in
    inr (le, after-may f (b + places e) (suc n + size e) p q here))
    (cases_lt p (b + places e))
after-may (many e greedy) b n p q h =
    ⊎_elim
    (λ y. may-in e b p q (after-may e b (suc n) p q y))
    (λ y. first-in (many e greedy) b n q y)
    (replaced-place (told_after e b (suc n) p) (told_first (many e greedy) b n) q h)

-- ---- a way back to its place

-- The places lead on one after another: from `p` to the first of them, and so on, and the last one is `z`.
abbrev pub Goes : (ℕ → ℕ → Type 0) → ℕ → List ℕ → ℕ → Type 0
Goes R p [] z = p ≡ z
Goes R p (q ∷ ps) z = R p q × Goes R q ps z

both-true : (v w : Bool) → v ≡ true → w ≡ true → (v && w) ≡ true
both-true v w e f = ap₂ (λ x y. x && y) e f

not-below : (m q : ℕ) (ps : List ℕ) → m ≤ q → all_below m (q ∷ ps) ≡ false
not-below m q ps le = ap (λ v. v && all_below m ps) (le-ltb q m le)

-- What is behind the middle stays there.
both-behind : (e f : Tree) (b p z : ℕ) (ps : List ℕ) → Goes (May (both e f) b) p ps z → b + places e ≤ p
    → (b + places e ≤ z) × (none_below (b + places e) ps ≡ true) × Goes (May f (b + places e)) p ps z
both-behind e f b p z [] goes le = (omega (arith, le, goes), refl, goes)
both-behind e f b p z (q ∷ ps) (inl (lt, h), goes) le = absurd (omega (arith, lt, le))
both-behind e f b p z (q ∷ ps) (inr (le2, h), goes) le =
    let x = may-in f (b + places e) p q h in
    let r = both-behind e f b q z ps goes x.0 in
    (r.0, both-true (nat_le (b + places e) q) (none_below (b + places e) ps) (le-leb (b + places e) q x.0) r.1, (h, r.2))

either-behind : (e f : Tree) (b p z : ℕ) (ps : List ℕ) → Goes (May (either e f) b) p ps z → b + places e ≤ p
    → (none_below (b + places e) ps ≡ true) × Goes (May f (b + places e)) p ps z
either-behind e f b p z [] goes le = (refl, goes)
either-behind e f b p z (q ∷ ps) (inl (lt, h), goes) le = absurd (omega (arith, lt, le))
either-behind e f b p z (q ∷ ps) (inr (le2, h), goes) le =
    let x = may-in f (b + places e) p q h in
    let r = either-behind e f b q z ps goes x.0 in
    (both-true (nat_le (b + places e) q) (none_below (b + places e) ps) (le-leb (b + places e) q x.0) r.0, (h, r.1))

-- What begins and ends before the middle never leaves what is before it.
both-before : (e f : Tree) (b p z : ℕ) (ps : List ℕ) → Goes (May (both e f) b) p ps z → z < b + places e
    → (all_below (b + places e) ps ≡ true) × Goes (May e b) p ps z
both-before e f b p z [] goes lt = (refl, goes)
both-before e f b p z (q ∷ ps) (inl (p_in, inl h), goes) lt =
    let x = may-in e b p q h in
    let r = both-before e f b q z ps goes lt in
    (both-true (nat_lt q (b + places e)) (all_below (b + places e) ps) (lt-ltb q (b + places e) x.1) r.0, (h, r.1))
both-before e f b p z (q ∷ ps) (inl (p_in, inr h), goes) lt = let r = both-behind e f b q z ps goes h.0 in absurd (omega (arith, r.0, lt))
both-before e f b p z (q ∷ ps) (inr (le, h), goes) lt = let r = both-behind e f b p z (q ∷ ps) (inr (le, h), goes) le in absurd (omega (arith, r.0, lt))

either-before : (e f : Tree) (b p z : ℕ) (ps : List ℕ) → Goes (May (either e f) b) p ps z → p < b + places e
    → (all_below (b + places e) ps ≡ true) × Goes (May e b) p ps z
either-before e f b p z [] goes lt = (refl, goes)
either-before e f b p z (q ∷ ps) (inl (p_in, h), goes) lt =
    let x = may-in e b p q h in
    let r = either-before e f b q z ps goes x.1 in
    (both-true (nat_lt q (b + places e)) (all_below (b + places e) ps) (lt-ltb q (b + places e) x.1) r.0, (h, r.1))
either-before e f b p z (q ∷ ps) (inr (le, h), goes) lt = absurd (omega (arith, le, lt))

-- There is a number.
abbrev Found : Option ℕ → Type 0
Found o = (x : ℕ) × (o ≡ Some x)

found-of : (v w : Bool) (x y z : Option ℕ) → Found x → Found y → Found z → Found (if v then x else if w then y else z)
found-of true w x y z h k l = h
found-of false true x y z h k l = k
found-of false false x y z h k l = l

-- With an outer loop, there is always one.
outer-found : (t : Tree) (b n : ℕ) (ps : List ℕ) (x : ℕ) → Found (loop_over t b n ps (Some x))
outer-found empty b n ps x = (x, refl)
outer-found (one set) b n ps x = (x, refl)
outer-found (guard g) b n ps x = (x, refl)
outer-found (both e f) b n ps x =
    found-of (all_below (b + places e) ps) (none_below (b + places e) ps) (loop_over e b (suc n) ps (Some x)) (loop_over f (b + places e) (suc n + size e) ps (Some x)) (Some x)
    (outer-found e b (suc n) ps x) (outer-found f (b + places e) (suc n + size e) ps x) (x, refl)
outer-found (either e f) b n ps x =
    found-of (all_below (b + places e) ps) (none_below (b + places e) ps) (loop_over e b (suc n) ps (Some x)) (loop_over f (b + places e) (suc n + size e) ps (Some x)) (Some x)
    (outer-found e b (suc n) ps x) (outer-found f (b + places e) (suc n + size e) ps x) (x, refl)
outer-found (many e greedy) b n ps x = outer-found e b (suc n) ps n

-- The choice of the part that has all the places.
in-first : (v w : Bool) (x y z : Option ℕ) → v ≡ true → Found x → Found (if v then x else if w then y else z)
in-first v w x y z e h = subst (λ u. Found (if u then x else if w then y else z)) (sym e) h

in-second : (v w : Bool) (x y z : Option ℕ) → v ≡ false → w ≡ true → Found y → Found (if v then x else if w then y else z)
in-second v w x y z e f h = subst (λ u. Found (if u then x else if w then y else z)) (sym e) (subst (λ u. Found (if u then y else z)) (sym f) h)

pub loop-found : (t : Tree) (b n p q : ℕ) (ps : List ℕ) (outer : Option ℕ) → Goes (May t b) p (q ∷ ps) p → Found (loop_over t b n (q ∷ ps) outer)
loop-found empty b n p q ps outer goes = absurd goes.0
loop-found (one set) b n p q ps outer goes = absurd goes.0
loop-found (guard g) b n p q ps outer goes = absurd goes.0
loop-found (both e f) b n p q ps outer goes =
    let middle = b + places e in
    let x = loop_over e b (suc n) (q ∷ ps) outer in
    let y = loop_over f middle (suc n + size e) (q ∷ ps) outer in
    ⊎_elim
    (λ lt.
    let r = both-before e f b p p (q ∷ ps) goes lt in
    in-first (all_below middle (q ∷ ps)) (none_below middle (q ∷ ps)) x y outer r.0 (loop-found e b (suc n) p q ps outer r.1))
    (λ le.
    let r = both-behind e f b p p (q ∷ ps) goes le in
    let there : May f middle p q × Goes (May f middle) q ps p = r.2 in
    in-second (all_below middle (q ∷ ps)) (none_below middle (q ∷ ps)) x y outer (not-below middle q ps (may-in f middle p q there.0).0) r.1
    (loop-found f middle (suc n + size e) p q ps outer there))
    (cases_lt p middle)
loop-found (either e f) b n p q ps outer goes =
    let middle = b + places e in
    let x = loop_over e b (suc n) (q ∷ ps) outer in
    let y = loop_over f middle (suc n + size e) (q ∷ ps) outer in
    ⊎_elim
    (λ lt.
    let r = either-before e f b p p (q ∷ ps) goes lt in
    in-first (all_below middle (q ∷ ps)) (none_below middle (q ∷ ps)) x y outer r.0 (loop-found e b (suc n) p q ps outer r.1))
    (λ le.
    let r = either-behind e f b p p (q ∷ ps) goes le in
    let there : May f middle p q × Goes (May f middle) q ps p = r.1 in
    in-second (all_below middle (q ∷ ps)) (none_below middle (q ∷ ps)) x y outer (not-below middle q ps (may-in f middle p q there.0).0) r.0
    (loop-found f middle (suc n + size e) p q ps outer there))
    (cases_lt p middle)
loop-found (many e greedy) b n p q ps outer goes = outer-found e b (suc n) (q ∷ ps) n

-- ---- the places of a way

-- What is known of the places of a way from the place `p`.
record Places (t : Tree) (p : ℕ) (l : List ToldItem) : Type 0 where
  last : ℕ
  ends : last_place (Some p) l ≡ Some last
  goes : Goes (May t 0) p (taking l) last

none-places : (t : Tree) (p : ℕ) → Places t p []
none-places t p = record { last = p; ends = refl; goes = refl }

-- One more told item in front.
more-places : (t : Tree) (p q : ℕ) (m : ToldItem) (l : List ToldItem) → m.place ≡ Some q → May t 0 p q → Places t q l → Places t p (m ∷ l)
more-places t p q m l is may h =
    record {
      last = h.last;
      ends = ap (λ o. last_place o l) is ∙ h.ends;
      goes = subst (λ o. Goes (May t 0) p (with_place o (taking l)) h.last) (sym is) (may, h.goes);
    }

module _ (t : Tree) (code p : ℕ) (f : ℕ → List ToldItem) (rest : (q : ℕ) → Places t q (f q)) where
  taken-places : (m : ToldItem) (o : Option ℕ) → m.place ≡ o → Has m (told_after t 0 0 p) → Places t p (if_taken t code m f o)
  taken-places m None is h = none-places t p
  taken-places m (Some q) is h = by (set_of t 0 q code)
    where
      by : (v : Bool) → Places t p (if v then m ∷ f q else [])
      by true = more-places t p q m (f q) is (after-may t 0 0 p q (m, h, is)) (rest q)
      by false = none-places t p

  any-places : (o : Option ToldItem) → ((m : ToldItem) → o ≡ Some m → Has m (told_after t 0 0 p)) → Places t p (if_any (λ m. if_taken t code m f m.place) o)
  any-places None h = none-places t p
  any-places (Some m) h = taken-places m m.place refl (h m refl)

way-places : (t : Tree) (text numbers : List ℕ) (p : ℕ) (before : Option ℕ) → Places t p (text_way t (Some p) before text numbers)
way-places t [] numbers p before = none-places t p
way-places t (code ∷ text) [] p before = none-places t p
way-places t (code ∷ text) (k ∷ numbers) p before =
    any-places t code p (λ q. text_way t (Some q) (Some code) text numbers) (λ q. way-places t text numbers q (Some code)) (slice_get (open_ones before (Some code) (told_at t (Some p))) k)
    (λ m e. open-has before (Some code) (told_at t (Some p)) m (got-has (open_ones before (Some code) (told_at t (Some p))) k m e))

-- A way that isn't empty ends at a place, and its first place is one of its places.
record Begins (place : Option ℕ) (l : List ToldItem) : Type 0 where
  first : ℕ
  rest : List ℕ
  places_are : taking l ≡ first ∷ rest
  last : ℕ
  ends : last_place place l ≡ Some last

way-begins : (t : Tree) (text numbers : List ℕ) (place before : Option ℕ) → 1 ≤ length (text_way t place before text numbers) → Begins place (text_way t place before text numbers)
way-begins t [] numbers place before some = absurd (omega (arith, some))
way-begins t (code ∷ text) [] place before some = absurd (omega (arith, some))
way-begins t (code ∷ text) (k ∷ numbers) place before some = by (slice_get (open_ones before (Some code) (told_at t place)) k) some
  where
    f : ℕ → List ToldItem
    f r = text_way t (Some r) (Some code) text numbers

    taken : (m : ToldItem) (o : Option ℕ) → m.place ≡ o → 1 ≤ length (if_taken t code m f o) → Begins place (if_taken t code m f o)
    taken m None is some = absurd (omega (arith, some))
    taken m (Some q) is some = at (set_of t 0 q code) some
      where
        at : (v : Bool) → 1 ≤ length (if v then m ∷ f q else []) → Begins place (if v then m ∷ f q else [])
        at true some =
            let x = way-places t text numbers q (Some code) in
            record {
              first = q;
              rest = taking (f q);
              places_are = ap (λ o. with_place o (taking (f q))) is;
              last = x.last;
              ends = ap (λ o. last_place o (f q)) is ∙ x.ends;
            }
        at false some = absurd (omega (arith, some))

    by : (o : Option ToldItem) → 1 ≤ length (if_any (λ m. if_taken t code m f m.place) o) → Begins place (if_any (λ m. if_taken t code m f m.place) o)
    by None some = absurd (omega (arith, some))
    by (Some m) some = taken m m.place refl some

pub rounds-named : (t : Tree) (nodes : List Origin) (place before : Option ℕ) (text numbers : List ℕ) → 1 ≤ length text → Leads place place text (text_way t place before text numbers)
    → IsSome (loop_of t nodes (text_way t place before text numbers))
rounds-named t nodes None before text numbers some h =
    let x = way-begins t text numbers None before (omega (arith, some, h.whole)) in absurd (none-some x.last (sym h.ends ∙ x.ends))
rounds-named t nodes (Some p) before text numbers some h =
    let l = text_way t (Some p) before text numbers in
    let x = way-begins t text numbers (Some p) before (omega (arith, some, h.whole)) in
    let y = way-places t text numbers p before in
    let back : y.last ≡ p = same_Some y.last p (sym y.ends ∙ h.ends) in
    let goes : Goes (May t 0) p (x.first ∷ x.rest) p = subst (λ ps. Goes (May t 0) p ps p) x.places_are (subst (Goes (May t 0) p (taking l)) back y.goes) in
    let found = loop-found t 0 0 p x.first x.rest None goes in
    subst IsSome (sym (ap (option_map (origin_at nodes)) (ap (λ ps. loop_over t 0 0 ps None) x.places_are ∙ found.1))) refl
