-- Lists of items are as long whatever number the tree's first place has. So if the lists of the tree that is asked are short, those
-- of the pattern's own tree are too, and a limit that a pattern alone exceeds is exceeded by both patterns.
use Rattle.std.proofs.Common.{◌≡◌, ℕ, suc, ◌+◌, ◌-◌, ◌<◌, ◌≤◌, ◌^◌, Bool, true, false, List, [], ◌∷◌, ◌++◌, length, inl, inr, refl, sym, ap, subst, arith}
use Rattle.std.proofs.lemmas.Bool.{cases_lt}
use Rattle.rl_syntax.specs.Modes.{is_code}
use Rattle.rl_syntax.specs.Run.{one_more}
use Rattle.rl_ranges.specs.declared.universe.Universe.{Universe}
use Rattle.rl_marks.specs.Marked.{Marked, empty, one, guard, both, either, many, further, mark, marked_of}
use Rattle.rl_marks.specs.declared.asked.How.{How}
use Rattle.rl_marks.specs.declared.asked.How.TheVariants.{Fullmatch, Match, OneSearch}
use Rattle.rl_marks.specs.declared.pattern.MarkedPattern.{MarkedPattern}
use Rattle.rl_marks.specs.declared.threads.Act.{Act}
use Rattle.rl_marks.specs.declared.threads.Act.TheVariants.{OpenGroup as open_group, CloseGroup as close_group}
use Rattle.rl_marks.specs.declared.threads.MarkItem.{MarkItem}
use Rattle.rl_marks.specs.declared.threads.MarkItem.TheVariants.{Test as test_at, Pass as pass}
use Rattle.rl_marks.specs.MarkItems.{all_prefixed, replaced, places, first, after}
use Rattle.rl_spans.specs.Limits.{IsCause, IsCauseAlone, IsShort, asked_tree}
use Rattle.rl_spans.specs.declared.error.SpansError.{SpansError}
use Rattle.rl_spans.specs.declared.error.SpansError.TheVariants.{Size, Letters, Moves, Text, OutOfMemory}
use Rattle.rl_spans.proofs.ShortLaws.{after-left, after-right, after-one, after-other, short-right}

-- ---- lists of one shape

-- Both lists have tests and ends at the same indices.
abbrev Like : List MarkItem → List MarkItem → Type 0
Like [] [] = Unit {0}
Like (test_at acts p ∷ l) (test_at others q ∷ m) = Like l m
Like (pass acts ∷ l) (pass others ∷ m) = Like l m
Like [] (x ∷ m) = ⊥
Like (x ∷ l) [] = ⊥
Like (test_at acts p ∷ l) (pass others ∷ m) = ⊥
Like (pass acts ∷ l) (test_at others q ∷ m) = ⊥

like-self : (l : List MarkItem) → Like l l
like-self [] = tt
like-self (test_at acts p ∷ l) = like-self l
like-self (pass acts ∷ l) = like-self l

like-length : (l m : List MarkItem) → Like l m → length l ≡ length m
like-length [] [] h = refl
like-length (test_at acts p ∷ l) (test_at others q ∷ m) h = ap suc (like-length l m h)
like-length (pass acts ∷ l) (pass others ∷ m) h = ap suc (like-length l m h)
like-length [] (x ∷ m) h = absurd h
like-length (test_at acts p ∷ l) [] h = absurd h
like-length (pass acts ∷ l) [] h = absurd h
like-length (test_at acts p ∷ l) (pass others ∷ m) h = absurd h
like-length (pass acts ∷ l) (test_at others q ∷ m) h = absurd h

like-append : (l m x y : List MarkItem) → Like l m → Like x y → Like (l ++ x) (m ++ y)
like-append [] [] x y h k = k
like-append (test_at acts p ∷ l) (test_at others q ∷ m) x y h k = like-append l m x y h k
like-append (pass acts ∷ l) (pass others ∷ m) x y h k = like-append l m x y h k
like-append [] (z ∷ m) x y h k = absurd h
like-append (test_at acts p ∷ l) [] x y h k = absurd h
like-append (pass acts ∷ l) [] x y h k = absurd h
like-append (test_at acts p ∷ l) (pass others ∷ m) x y h k = absurd h
like-append (pass acts ∷ l) (test_at others q ∷ m) x y h k = absurd h

like-prefixed : (as_ bs : List Act) (l m : List MarkItem) → Like l m → Like (all_prefixed as_ l) (all_prefixed bs m)
like-prefixed as_ bs [] [] h = tt
like-prefixed as_ bs (test_at acts p ∷ l) (test_at others q ∷ m) h = like-prefixed as_ bs l m h
like-prefixed as_ bs (pass acts ∷ l) (pass others ∷ m) h = like-prefixed as_ bs l m h
like-prefixed as_ bs [] (z ∷ m) h = absurd h
like-prefixed as_ bs (test_at acts p ∷ l) [] h = absurd h
like-prefixed as_ bs (pass acts ∷ l) [] h = absurd h
like-prefixed as_ bs (test_at acts p ∷ l) (pass others ∷ m) h = absurd h
like-prefixed as_ bs (pass acts ∷ l) (test_at others q ∷ m) h = absurd h

like-replaced : (l m x y : List MarkItem) → Like l m → Like x y → Like (replaced l x) (replaced m y)
like-replaced [] [] x y h k = tt
like-replaced (test_at acts p ∷ l) (test_at others q ∷ m) x y h k = like-replaced l m x y h k
like-replaced (pass acts ∷ l) (pass others ∷ m) x y h k =
    like-append (all_prefixed acts x) (all_prefixed others y) (replaced l x) (replaced m y) (like-prefixed acts others x y k) (like-replaced l m x y h k)
like-replaced [] (z ∷ m) x y h k = absurd h
like-replaced (test_at acts p ∷ l) [] x y h k = absurd h
like-replaced (pass acts ∷ l) [] x y h k = absurd h
like-replaced (test_at acts p ∷ l) (pass others ∷ m) x y h k = absurd h
like-replaced (pass acts ∷ l) (test_at others q ∷ m) x y h k = absurd h

like-more : (greedy : Bool) (l m : List MarkItem) → Like l m → Like (one_more greedy (pass []) l) (one_more greedy (pass []) m)
like-more true l m h = like-append l m (pass [] ∷ []) (pass [] ∷ []) h tt
like-more false l m h = h

-- ---- trees whose first places have different numbers

like-first : (t : Marked) (b c : ℕ) → Like (first t b) (first t c)
like-first empty b c = tt
like-first (one s) b c = tt
like-first (guard g) b c = tt
like-first (both e f) b c =
    like-replaced (first e b) (first e c) (first f (b + places e)) (first f (c + places e)) (like-first e b c) (like-first f (b + places e) (c + places e))
like-first (either e f) b c =
    like-append (first e b) (first e c) (first f (b + places e)) (first f (c + places e)) (like-first e b c) (like-first f (b + places e) (c + places e))
like-first (many e greedy) b c = like-more greedy (first e b) (first e c) (like-first e b c)
like-first (further e f) b c = like-first e b c
like-first (mark n e) b c =
    let close : List MarkItem = pass (close_group n ∷ []) ∷ [] in
    like-prefixed (open_group ∷ []) (open_group ∷ []) (replaced (first e b) close) (replaced (first e c) close)
    (like-replaced (first e b) (first e c) close close (like-first e b c) tt)

-- The lists behind the place with the index `k` of the tree, by the two numbers of its first place.
abbrev LikeBehind : Marked → ℕ → ℕ → ℕ → Type 0
LikeBehind t b c k = Like (after t b (b + k)) (after t c (c + k))

-- The second of two parts has the rest of the places.
rest-behind : (f : Marked) (b c n k : ℕ) → n ≤ k → ((j : ℕ) → LikeBehind f (b + n) (c + n) j) → Like (after f (b + n) (b + k)) (after f (c + n) (c + k))
rest-behind f b c n k le h =
    let e : b + n + (k - n) ≡ b + k = omega arith in
    let d : c + n + (k - n) ≡ c + k = omega arith in
    subst (λ p. Like (after f (b + n) p) (after f (c + n) (c + k))) e (subst (λ q. Like (after f (b + n) (b + n + (k - n))) (after f (c + n) q)) d (h (k - n)))

turn-behind : (e f : Marked) (b c k : ℕ) → LikeBehind e b c k → ((j : ℕ) → LikeBehind f (b + places e) (c + places e) j) → LikeBehind (both e f) b c k
turn-behind e f b c k h g = elim (cases_lt k (places e)) [
  | inl lt ↦
      subst (λ l. Like l (after (both e f) c (c + k))) (sym (after-left e f b (b + k) (omega (arith, lt))))
      (subst (λ l. Like (replaced (after e b (b + k)) (first f (b + places e))) l) (sym (after-left e f c (c + k) (omega (arith, lt))))
      (like-replaced (after e b (b + k)) (after e c (c + k)) (first f (b + places e)) (first f (c + places e)) h
      (like-first f (b + places e) (c + places e))))
  | inr le ↦
      subst (λ l. Like l (after (both e f) c (c + k))) (sym (after-right e f b (b + k) (omega (arith, le))))
      (subst (λ l. Like (after f (b + places e) (b + k)) l) (sym (after-right e f c (c + k) (omega (arith, le))))
      (rest-behind f b c (places e) k le g))
]

choice-behind : (e f : Marked) (b c k : ℕ) → LikeBehind e b c k → ((j : ℕ) → LikeBehind f (b + places e) (c + places e) j) → LikeBehind (either e f) b c k
choice-behind e f b c k h g = elim (cases_lt k (places e)) [
  | inl lt ↦
      subst (λ l. Like l (after (either e f) c (c + k))) (sym (after-one e f b (b + k) (omega (arith, lt))))
      (subst (λ l. Like (after e b (b + k)) l) (sym (after-one e f c (c + k) (omega (arith, lt)))) h)
  | inr le ↦
      subst (λ l. Like l (after (either e f) c (c + k))) (sym (after-other e f b (b + k) (omega (arith, le))))
      (subst (λ l. Like (after f (b + places e) (b + k)) l) (sym (after-other e f c (c + k) (omega (arith, le))))
      (rest-behind f b c (places e) k le g))
]

like-behind : (t : Marked) (b c k : ℕ) → LikeBehind t b c k
like-behind empty b c k = tt
like-behind (one s) b c k = tt
like-behind (guard g) b c k = tt
like-behind (both e f) b c k = turn-behind e f b c k (like-behind e b c k) (λ j. like-behind f (b + places e) (c + places e) j)
like-behind (either e f) b c k = choice-behind e f b c k (like-behind e b c k) (λ j. like-behind f (b + places e) (c + places e) j)
like-behind (many e greedy) b c k =
    like-replaced (after e b (b + k)) (after e c (c + k)) (first (many e greedy) b) (first (many e greedy) c) (like-behind e b c k)
    (like-more greedy (first e b) (first e c) (like-first e b c))
like-behind (further e f) b c k = turn-behind e f b c k (like-behind e b c k) (λ j. like-behind f (b + places e) (c + places e) j)
like-behind (mark n e) b c k =
    like-replaced (after e b (b + k)) (after e c (c + k)) (pass (close_group n ∷ []) ∷ []) (pass (close_group n ∷ []) ∷ []) (like-behind e b c k) tt

-- Short lists stay short if the first place gets another number.
short-moved : (t : Marked) (b c : ℕ) → IsShort t b → IsShort t c
short-moved t b c s = record {
  entering = omega (arith, s.entering, like-length (first t b) (first t c) (like-first t b c));
  behind = λ p from below.
      let k : ℕ = p - c in
      let e : c + k ≡ p = omega arith in
      omega (
        arith,
        s.behind (b + k) (omega arith) (omega (arith, below, from)),
        like-length (after t b (b + k)) (after t c (c + k)) (like-behind t b c k),
        ap (λ q. length (after t c q)) e,
      );
}

-- ---- patterns

-- If the lists of the tree that is asked are short, so are those of the pattern's own tree.
pub asked-short : (how : How) (u : Universe) (p : MarkedPattern) → IsShort (asked_tree how u p) 0 → IsShort (marked_of p.tree) 0
asked-short Fullmatch u p s = s
asked-short Match u p s = s
asked-short OneSearch u p s = short-moved (marked_of p.tree) 1 0 (short-right (mark 0 (many (one (is_code u)) false)) (marked_of p.tree) 0 s)

-- An error of the first pattern alone, on a text of fewer than 2^32 codes, has a cause in both patterns.
pub cause-of-first : (how : How) (a b : MarkedPattern) (w : List ℕ) → length w < 2 ^ 32 → (e : SpansError) → IsCauseAlone a w e → IsCause how a b e
cause-of-first how a b w short Size h = absurd h
cause-of-first how a b w short Letters h = absurd h
cause-of-first how a b w short Moves h = λ both. h (asked-short how a.universe a both.0)
cause-of-first how a b w short Text h = absurd (omega (arith, short, h))
cause-of-first how a b w short OutOfMemory h = tt

-- The same of the second one.
pub cause-of-second : (how : How) (a b : MarkedPattern) (w : List ℕ) → length w < 2 ^ 32 → (e : SpansError) → IsCauseAlone b w e → IsCause how a b e
cause-of-second how a b w short Size h = absurd h
cause-of-second how a b w short Letters h = absurd h
cause-of-second how a b w short Moves h = λ both. h (asked-short how a.universe b both.1)
cause-of-second how a b w short Text h = absurd (omega (arith, short, h))
cause-of-second how a b w short OutOfMemory h = tt
