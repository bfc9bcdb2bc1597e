-- Tallies: how adding and taking a key change them, and the unknown positions so far.
use Rattle.std.proofs.Common.{◌≡◌, ℕ, ◌+◌, ◌-◌, ◌<◌, ◌≤◌, Bool, true, false, cond, not, nat_lt, List, [], ◌∷◌, ◌++◌, length, get_or, take, map, filter, Option, Some, unwrap_or, refl, ap, sym, ◌∙◌, arith, append-nil}
use Rattle.std.specs.HashMap.{get, get_by}
use Rattle.std.specs.List.{enumerate_from}
use Rattle.std.proofs.lemmas.Bool.Decides.{nat_tests}
use Rattle.std.proofs.lemmas.List.{map-append, take_more, length-map, take_all, length-take}
use Rattle.std.proofs.lemmas.List.Elements.{filter-append}
use Rattle.std.proofs.lemmas.List.FromFn.{length-enumerate_from, get_or-enumerate_from}
use Rattle.std.proofs.lemmas.List.Sums.{sum_by_push, count_by-le-length}
use Rattle.indexmap.specs.IndexMap.{IndexMap}
use Rattle.rl_sarif.specs.declared.key.Key.{Key}
use Rattle.rl_sarif.specs.contracts.key.KeyPartialEq.TheImpl as key
use Rattle.rl_sarif.specs.Keys.{EntryKey, same_key, key_in}
use Rattle.rl_sarif.specs.Known.{times, is_unknown, is_known, unknown_key_positions}
use Rattle.rl_sarif.specs.internal.Tally.{remaining, one_if_same, HasCounts}
use Rattle.rl_sarif.proofs.KeyLemmas.{same_key-equal, same_key-flip, key-eq, found}

unwrap-cond : (b : Bool) (w : ℕ) (o : Option ℕ) → unwrap_or (cond b (Some w) o) 0 ≡ cond b w (unwrap_or o 0)
unwrap-cond true w o = refl
unwrap-cond false w o = refl

module _ {S : Type 0} (m n : IndexMap Key ℕ S) (k : Key) where
  -- The tally after a number is stored at the key k.
  left-put : (w : ℕ) → ((q : Key) → get key.eq-value.it n q ≡ cond (key.eq-value.it k q) (Some w) (get key.eq-value.it m q)) → (q : Key)
      → remaining n (key_in q) ≡ cond (same_key (key_in q) (key_in k)) w (remaining m (key_in q))
  left-put w puts q =
      let same : key.eq-value.it k q ≡ same_key (key_in q) (key_in k) = key-eq k q ∙ same_key-flip (key_in k) (key_in q) in
      ap (λ o. unwrap_or o 0) (sym (found n q) ∙ puts q ∙ (λ i. cond (same i) (Some w) (found m q i)))
      ∙ unwrap-cond (same_key (key_in q) (key_in k)) w (get_by (λ e. same_key (key_in q) (key_in e)) m)

  added-at : (b : Bool) (w : ℕ) (q : EntryKey) → same_key q (key_in k) ≡ b → w ≡ remaining m (key_in k) + 1
      → cond b w (remaining m q) ≡ remaining m q + cond b 1 0
  added-at true w q e is = is ∙ ap (λ (a : EntryKey). remaining m a + 1) (sym (same_key-equal q (key_in k) e))
  added-at false w q e is = omega arith

  -- One more occurrence of the key.
  pub added : (w : ℕ) → w ≡ remaining m (key_in k) + 1
      → ((q : Key) → get key.eq-value.it n q ≡ cond (key.eq-value.it k q) (Some w) (get key.eq-value.it m q))
      → HasCounts n (λ q. remaining m q + one_if_same q (key_in k))
  added w is puts q = left-put w puts q ∙ added-at (same_key (key_in q) (key_in k)) w (key_in q) refl is

  taken-at : (b : Bool) (w : ℕ) (q : EntryKey) → same_key q (key_in k) ≡ b → w ≡ remaining m (key_in k) - 1
      → cond b w (remaining m q) ≡ remaining m q - cond b 1 0
  taken-at true w q e is = is ∙ ap (λ (a : EntryKey). remaining m a - 1) (sym (same_key-equal q (key_in k) e))
  taken-at false w q e is = omega arith

  -- One occurrence of the key less.
  pub taken : (w : ℕ) → w ≡ remaining m (key_in k) - 1
      → ((q : Key) → get key.eq-value.it n q ≡ cond (key.eq-value.it k q) (Some w) (get key.eq-value.it m q))
      → HasCounts n (λ q. remaining m q - one_if_same q (key_in k))
  taken w is puts q = left-put w puts q ∙ taken-at (same_key (key_in q) (key_in k)) w (key_in q) refl is

none-at : {S : Type 0} (m : IndexMap Key ℕ S) (b : Bool) (q k : EntryKey) → same_key q k ≡ b → remaining m k ≡ 0 → remaining m q ≡ remaining m q - cond b 1 0
none-at m true q k e none = let nothing : remaining m q ≡ 0 = ap (remaining m) (same_key-equal q k e) ∙ none in omega arith
none-at m false q k e none = omega arith

-- A key with no occurrence left can't be taken.
pub none-taken : {S : Type 0} (m : IndexMap Key ℕ S) (k : Key) → remaining m (key_in k) ≡ 0 → HasCounts m (λ q. remaining m q - one_if_same q (key_in k))
none-taken m k none q = none-at m (same_key (key_in q) (key_in k)) (key_in q) (key_in k) refl none

-- ---- the keys so far

times-push : (ks : List EntryKey) (k q : EntryKey) → times (ks ++ k ∷ []) q ≡ times ks q + one_if_same q k
times-push ks k q = sum_by_push _ ks k

take-next : (ks : List EntryKey) (i : ℕ) (k : EntryKey) → i < length ks → k ≡ get_or ks i k → take (i + 1) ks ≡ take i ks ++ k ∷ []
take-next ks i k h e = take_more ks i k h ∙ ap (λ y. take i ks ++ y ∷ []) (sym e)

times-next : (ks : List EntryKey) (i : ℕ) (k q : EntryKey) → i < length ks → k ≡ get_or ks i k → times (take (i + 1) ks) q ≡ times (take i ks) q + one_if_same q k
times-next ks i k q h e = ap (λ l. times l q) (take-next ks i k h e) ∙ times-push (take i ks) k q

key_in-next : (keys : List Key) (i : ℕ) (k : Key) → i < length keys → k ≡ get_or keys i k → map key_in (take (i + 1) keys) ≡ map key_in (take i keys) ++ key_in k ∷ []
key_in-next keys i k h e = ap (map key_in) (take_more keys i k h ∙ ap (λ y. take i keys ++ y ∷ []) (sym e)) ∙ map-append key_in (take i keys) (k ∷ [])

pub tallied-more : {S : Type 0} (m n : IndexMap Key ℕ S) (keys : List Key) (i : ℕ) (k copy : Key) → i < length keys → k ≡ get_or keys i k → key_in copy ≡ key_in k
    → HasCounts m (times (map key_in (take i keys))) → HasCounts n (λ q. remaining m q + one_if_same q (key_in copy)) → HasCounts n (times (map key_in (take (i + 1) keys)))
tallied-more m n keys i k copy h e same before after q =
    after q ∙ (λ j. before q j + one_if_same (key_in q) (same j))
    ∙ sym (ap (λ l. times l (key_in q)) (key_in-next keys i k h e) ∙ times-push (map key_in (take i keys)) (key_in k) (key_in q))

pub few-tallied : (keys : List Key) (i : ℕ) (q : EntryKey) → times (map key_in (take i keys)) q ≤ i
few-tallied keys i q = omega (arith, count_by-le-length (same_key q) (map key_in (take i keys)), length-map (take i keys) key_in, length-take i keys)

-- ---- the entries so far

minus-sum : (a b c : ℕ) → (a - b) - c ≡ a - (b + c)
minus-sum a b c = omega arith

-- One more entry takes a key of the baseline.
pub left-next : {S : Type 0} (m n : IndexMap Key ℕ S) (b ks : List EntryKey) (i : ℕ) (k : Key) → i < length ks → key_in k ≡ get_or ks i (key_in k)
    → HasCounts m (λ q. times b q - times (take i ks) q) → HasCounts n (λ q. remaining m q - one_if_same q (key_in k)) → HasCounts n (λ q. times b q - times (take (i + 1) ks) q)
left-next m n b ks i k h e before after q =
    after q ∙ ap (λ l. l - one_if_same (key_in q) (key_in k)) (before q)
    ∙ minus-sum (times b (key_in q)) (times (take i ks) (key_in q)) (one_if_same (key_in q) (key_in k))
    ∙ ap (λ t. times b (key_in q) - t) (sym (times-next ks i (key_in k) (key_in q) h e))

more-left : (a b : ℕ) → nat_lt 0 (a - b) ≡ nat_lt b a
more-left a b = grind (arith, nat_tests)

-- An entry is known if an occurrence of its key is left.
pub known-left : {S : Type 0} (m : IndexMap Key ℕ S) (b ks : List EntryKey) (i : ℕ) (k : Key) → HasCounts m (λ q. times b q - times (take i ks) q)
    → nat_lt 0 (remaining m (key_in k)) ≡ is_known b (take i ks) (key_in k)
known-left m b ks i k before = ap (nat_lt 0) (before k) ∙ more-left (times b (key_in k)) (times (take i ks) (key_in k))

-- The unknown positions so far.
abbrev pub so_far : List EntryKey → List EntryKey → ℕ → List ℕ
so_far b ks i = map (λ (p : ℕ × EntryKey). p.0) (filter (is_unknown b ks) (take i (enumerate_from 0 ks)))

one-more : (b : List EntryKey) (ks : List EntryKey) (p : ℕ × EntryKey) (r : Bool) → is_unknown b ks p ≡ r
    → map (λ (p : ℕ × EntryKey). p.0) (filter (is_unknown b ks) (p ∷ [])) ≡ cond r (p.0 ∷ []) []
one-more b ks p true e = rw e
one-more b ks p false e = rw e

so_far-next : (b ks : List EntryKey) (i : ℕ) (k : EntryKey) (r : Bool) → i < length ks → k ≡ get_or ks i k → not (is_known b (take i ks) k) ≡ r
    → so_far b ks (i + 1) ≡ so_far b ks i ++ cond r (i ∷ []) []
so_far-next b ks i k r h e is =
    let all = enumerate_from 0 ks in
    let within : i < length all = omega (arith, length-enumerate_from 0 ks) in
    let here : get_or all i (0, k) ≡ (i, k) = get_or-enumerate_from 0 ks i (0, k) h ∙ (λ j. (zero-plus i j, sym e j)) in
    let next : take (i + 1) all ≡ take i all ++ (i, k) ∷ [] = take_more all i (0, k) within ∙ ap (λ y. take i all ++ y ∷ []) here in
    ap (λ l. map (λ (p : ℕ × EntryKey). p.0) (filter (is_unknown b ks) l)) next
    ∙ ap (map (λ (p : ℕ × EntryKey). p.0)) (filter-append (is_unknown b ks) (take i all) ((i, k) ∷ []))
    ∙ map-append (λ (p : ℕ × EntryKey). p.0) (filter (is_unknown b ks) (take i all)) (filter (is_unknown b ks) ((i, k) ∷ []))
    ∙ ap (λ l. so_far b ks i ++ l) (one-more b ks (i, k) r is)
  where
    zero-plus : (i : ℕ) → 0 + i ≡ i
    zero-plus i = omega arith

pub next-unknown : (b ks : List EntryKey) (i : ℕ) (k : EntryKey) → i < length ks → k ≡ get_or ks i k → is_known b (take i ks) k ≡ false
    → so_far b ks (i + 1) ≡ so_far b ks i ++ i ∷ []
next-unknown b ks i k h e is = so_far-next b ks i k true h e (ap not is)

pub next-known : (b ks : List EntryKey) (i : ℕ) (k : EntryKey) → i < length ks → k ≡ get_or ks i k → is_known b (take i ks) k ≡ true
    → so_far b ks (i + 1) ≡ so_far b ks i
next-known b ks i k h e is = so_far-next b ks i k false h e (ap not is) ∙ append-nil (so_far b ks i)

pub all-unknown : (b ks : List EntryKey) (i : ℕ) → length ks ≤ i → so_far b ks i ≡ unknown_key_positions b ks
all-unknown b ks i h =
    let past : length (enumerate_from 0 ks) ≤ i = omega (arith, length-enumerate_from 0 ks) in
    ap (λ l. map (λ (p : ℕ × EntryKey). p.0) (filter (is_unknown b ks) l)) (take_all i (enumerate_from 0 ks) past)
