-- Laws of the words by which set pairs are reached.
use Rattle.std.proofs.Common.{◌≡◌, ◌∙◌, ℕ, zero, suc, ◌+◌, ◌≤◌, List, [], ◌∷◌, ◌++◌, length, slice_get, Option, Some, None, All, Contains, Bool, true, false, cond, refl, sym, ap, subst, arith}
use Rattle.std.specs.List.{list_any}
use Rattle.std.specs.Option.{option_map}
use Rattle.std.proofs.lemmas.List.{map-append, get_or_default}
use Rattle.std.proofs.lemmas.List.Elements.{All-nil, All-cons, All-push}
use Rattle.std.proofs.lemmas.Option.{slice_get-map, slice_get_within, get_or_from_slice_get}
use Rattle.rl_equiv.specs.declared.pair.SetPair.{SetPair}
use Rattle.rl_equiv.specs.SetPairs.{first_pair, SetPairs}
use Rattle.rl_equiv.specs.Numbering.{same_pair, with_one, with_more, looked_at, found_after, Reached, reached_by, next_reached, pairs_reached, with_reached, with_all_reached, looked_at_reached, reached_after, Reads, stay, onward, IsReached}
use Rattle.rl_equiv.proofs.RunLaws.{found-nexts, found-extends}

-- ---- without the words, this is the order of set pairs

by-pairs : (word : List ℕ) (letter : ℕ) (ps : List SetPair) → pairs_reached (reached_by word letter ps) ≡ ps
by-pairs word letter [] = refl
by-pairs word letter (p ∷ ps) = ap (λ (l : List SetPair). p ∷ l) (by-pairs word (suc letter) ps)

one-pairs : (found : List Reached) (r : Reached) → pairs_reached (with_reached found r) ≡ with_one (pairs_reached found) r.pair
one-pairs found r = by (list_any (same_pair r.pair) (pairs_reached found))
  where
    by : (b : Bool) → pairs_reached (cond b found (found ++ r ∷ [])) ≡ cond b (pairs_reached found) (pairs_reached found ++ r.pair ∷ [])
    by true = refl
    by false = map-append (λ (x : Reached). x.pair) found (r ∷ [])

all-pairs : (found rs : List Reached) → pairs_reached (with_all_reached found rs) ≡ with_more (pairs_reached found) (pairs_reached rs)
all-pairs found [] = refl
all-pairs found (r ∷ rs) = all-pairs (with_reached found r) rs ∙ ap (λ (l : List SetPair). with_more l (pairs_reached rs)) (one-pairs found r)

looked-pairs : (d : SetPairs) (found : List Reached) (o : Option Reached) → pairs_reached (looked_at_reached d found o) ≡ looked_at d (pairs_reached found) (option_map (λ (r : Reached). r.pair) o)
looked-pairs d found None = refl
looked-pairs d found (Some r) = all-pairs found (next_reached d r) ∙ ap (with_more (pairs_reached found)) (by-pairs r.word 0 (d.nexts r.pair))

pub reached-found : (d : SetPairs) (k : ℕ) → pairs_reached (reached_after d k) ≡ found_after d k
unfolding found_after reached_after
reached-found d zero = refl
reached-found d (suc k) =
    looked-pairs d (reached_after d k) (slice_get (reached_after d k) k)
    ∙ ap (looked_at d (pairs_reached (reached_after d k))) (sym (slice_get-map (λ (r : Reached). r.pair) (reached_after d k) k))
    ∙ ap (λ (l : List SetPair). looked_at d l (slice_get l k)) (reached-found d k)

-- ---- each is reached by its word

reads-more : (d : SetPairs) (p q r : SetPair) (letter : ℕ) (word : List ℕ) → Reads d p word q → slice_get (d.nexts q) letter ≡ Some r → Reads d p (word ++ letter ∷ []) r
reads-more d p _ r letter _ stay e = onward e stay
reads-more d p q r letter _ (onward {q = m} {word = word} f more) e = onward f (reads-more d m q r letter word more e)

by-reads : (d : SetPairs) (p : SetPair) (word : List ℕ) → Reads d first_pair word p → (letter : ℕ) (ps : List SetPair)
    → ((k : ℕ) (q : SetPair) → slice_get ps k ≡ Some q → slice_get (d.nexts p) (letter + k) ≡ Some q) → All (IsReached d) (reached_by word letter ps)
by-reads d p word reads letter [] same = All-nil (IsReached d)
by-reads d p word reads letter (q ∷ ps) same =
    let here : letter + 0 ≡ letter = omega arith in
    All-cons (IsReached d) (record { pair = q; word = word ++ letter ∷ [] }) (reached_by word (suc letter) ps)
    (reads-more d first_pair p q letter word reads (subst (λ (n : ℕ). slice_get (d.nexts p) n ≡ Some q) here (same 0 q refl)))
    (by-reads d p word reads (suc letter) ps (λ k x e. let later : letter + suc k ≡ suc letter + k = omega arith in subst (λ (n : ℕ). slice_get (d.nexts p) n ≡ Some x) later (same (suc k) x e)))

with-reads : (d : SetPairs) (found : List Reached) (r : Reached) → All (IsReached d) found → IsReached d r → All (IsReached d) (with_reached found r)
with-reads d found r each one = by (list_any (same_pair r.pair) (pairs_reached found))
  where
    by : (b : Bool) → All (IsReached d) (cond b found (found ++ r ∷ []))
    by true = each
    by false = All-push (IsReached d) found r each one

all-reads : (d : SetPairs) (found rs : List Reached) → All (IsReached d) found → All (IsReached d) rs → All (IsReached d) (with_all_reached found rs)
all-reads d found [] each more = each
all-reads d found (r ∷ rs) each more =
    all-reads d (with_reached found r) rs (with-reads d found r each (more 0 r (omega arith))) (λ k x lt. more (suc k) x (omega arith))

looked-reads : (d : SetPairs) (found : List Reached) (o : Option Reached) → All (IsReached d) found → ((r : Reached) → o ≡ Some r → IsReached d r) → All (IsReached d) (looked_at_reached d found o)
looked-reads d found None each one = each
looked-reads d found (Some r) each one =
    all-reads d found (next_reached d r) each (by-reads d r.pair r.word (one r refl) 0 (d.nexts r.pair) (λ k q e. let here : k ≡ 0 + k = omega arith in subst (λ (n : ℕ). slice_get (d.nexts r.pair) n ≡ Some q) here e))

pub reached-reads : (d : SetPairs) (k : ℕ) → All (IsReached d) (reached_after d k)
unfolding reached_after
reached-reads d zero = All-cons (IsReached d) (record { pair = first_pair; word = [] }) [] stay (All-nil (IsReached d))
reached-reads d (suc k) =
    let l = reached_after d k in
    looked-reads d l (slice_get l k) (reached-reads d k) (λ r e. subst (IsReached d) (get_or_from_slice_get l k r r e) (reached-reads d k k r (slice_get_within l k r e)))

-- ---- once no more are found, each set pair that a word leads to is among them

pub closed-reads : (d : SetPairs) (F : List SetPair) → ((p : SetPair) → Contains F p → All (Contains F) (d.nexts p)) → (p q : SetPair) (word : List ℕ) → Contains F p → Reads d p word q → Contains F q
closed-reads d F each p _ _ there stay = there
closed-reads d F each p q _ there (onward {q = m} {letter = letter} {word = word} e more) =
    closed-reads d F each m q word (subst (Contains F) (get_or_from_slice_get (d.nexts p) letter m m e) (each p there letter m (slice_get_within (d.nexts p) letter m e))) more

found-zero : (d : SetPairs) → found_after d 0 ≡ first_pair ∷ []
unfolding found_after
found-zero d = refl

pub all-found : (d : SetPairs) (limit : ℕ) → length (found_after d limit) ≤ limit → (word : List ℕ) (q : SetPair) → Reads d first_pair word q → Contains (found_after d limit) q
all-found d limit le word q reads =
    let F = found_after d limit in
    let x = found-extends d 0 limit (omega arith) in
    let first : Contains F first_pair = subst (λ (l : List SetPair). Contains l first_pair) (sym (x.1 ∙ ap (λ (l : List SetPair). l ++ x.0) (found-zero d))) (0, omega arith, refl) in
    closed-reads d F
    (λ p c. subst (λ (y : SetPair). All (Contains F) (d.nexts y)) (sym (get_or_default F c.0 p first_pair c.1) ∙ c.2) (found-nexts d F limit c.0 refl c.1 le))
    first_pair q word first reads
