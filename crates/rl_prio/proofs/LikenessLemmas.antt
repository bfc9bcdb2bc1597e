-- What sets distinguish: codes that they don't distinguish satisfy the same tests and guards, and so have the same moves.
use Rattle.std.proofs.Common.{◌≡◌, ℕ, ◌+◌, ◌<◌, ◌≤◌, Bool, true, false, not, ◌&&◌, ◌||◌, List, [], ◌∷◌, ◌++◌, Option, None, Some, is_none, nat_lt, if◌then◌else◌, refl, sym, ap, ap₂, ◌∙◌, arith}
use Rattle.std.proofs.Math.Bool.{beq}
use Rattle.std.proofs.lemmas.Bool.{and_from, and_parts, cond_both}
use Rattle.rl_ranges.specs.Codes.{has}
use Rattle.rl_ranges.specs.Letters.{alike}
use Rattle.rl_ranges.proofs.LetterLemmas.{alike-append, beq-true}
use Rattle.rl_syntax.specs.declared.anchors.Guard.{Guard}
use Rattle.rl_syntax.specs.declared.anchors.Guard.TheVariants.{Start, LineStart, LineEnd, TextEnd, Word, NotWord, Look}
use Rattle.rl_syntax.specs.Guards.{is_in, is_word, is_line_feed, sees, holds, sets_named}
use Rattle.rl_syntax.specs.Tree.{Tree, empty, one, guard, both, either, many, places, sets_in, guard_sets}
use Rattle.rl_syntax.specs.Run.{one_more}
use Rattle.rl_prio.specs.Items.{Item, test_at, pass, all_guarded, replaced, first, after, set_of, all_hold}

-- Codes that the first sets don't distinguish aren't distinguished by the other ones.
abbrev pub Finer : List (ℕ → Bool) → List (ℕ → Bool) → Type 0
Finer sets others = (c d : ℕ) → alike sets c d ≡ true → alike others c d ≡ true

pub Finer-itself : (sets : List (ℕ → Bool)) → Finer sets sets
Finer-itself sets c d h = h

pub Finer-left : (sets xs ys : List (ℕ → Bool)) → Finer sets (xs ++ ys) → Finer sets xs
Finer-left sets xs ys f c d h = (and_parts (alike xs c d) (alike ys c d) (sym (alike-append xs ys c d) ∙ f c d h)).0

pub Finer-right : (sets xs ys : List (ℕ → Bool)) → Finer sets (xs ++ ys) → Finer sets ys
Finer-right sets xs ys f c d h = (and_parts (alike xs c d) (alike ys c d) (sym (alike-append xs ys c d) ∙ f c d h)).1

pub Finer-both : (sets xs ys : List (ℕ → Bool)) → Finer sets xs → Finer sets ys → Finer sets (xs ++ ys)
Finer-both sets xs ys f g c d h = alike-append xs ys c d ∙ and_from (alike xs c d) (alike ys c d) (f c d h) (g c d h)

-- The sets of two lists together distinguish what the sets of either list do.
pub Finer-first : (xs ys : List (ℕ → Bool)) → Finer (xs ++ ys) xs
Finer-first xs ys = Finer-left (xs ++ ys) xs ys (Finer-itself (xs ++ ys))

pub Finer-second : (xs ys : List (ℕ → Bool)) → Finer (xs ++ ys) ys
Finer-second xs ys = Finer-right (xs ++ ys) xs ys (Finer-itself (xs ++ ys))

-- Both are no code, or both are codes that the sets don't distinguish.
abbrev pub Like : List (ℕ → Bool) → Option ℕ → Option ℕ → Type 0
Like sets None None = Unit {0}
Like sets None (Some d) = ⊥
Like sets (Some c) None = ⊥
Like sets (Some c) (Some d) = alike sets c d ≡ true

pub Like-finer : (sets others : List (ℕ → Bool)) (o n : Option ℕ) → Finer sets others → Like sets o n → Like others o n
Like-finer sets others None None f h = tt
Like-finer sets others None (Some d) f h = absurd h
Like-finer sets others (Some c) None f h = absurd h
Like-finer sets others (Some c) (Some d) f h = f c d h

none-like : (sets : List (ℕ → Bool)) (o n : Option ℕ) → Like sets o n → is_none o ≡ is_none n
none-like sets None None h = refl
none-like sets None (Some d) h = absurd h
none-like sets (Some c) None h = absurd h
none-like sets (Some c) (Some d) h = refl

in-like : (s : ℕ → Bool) (o n : Option ℕ) → Like (s ∷ []) o n → is_in s o ≡ is_in s n
unfolding is_in
in-like s None None h = refl
in-like s None (Some d) h = absurd h
in-like s (Some c) None h = absurd h
in-like s (Some c) (Some d) h = beq-true (s c) (s d) (and_parts (beq (s c) (s d)) true h).0

sees-like : (negated : Bool) (s : ℕ → Bool) (o n : Option ℕ) → Like (s ∷ []) o n → sees negated s o ≡ sees negated s n
unfolding sees
sees-like false s o n h = in-like s o n h
sees-like true s o n h = ap not (in-like s o n h)

-- A guard holds alike for codes that the sets that it names don't distinguish.
pub holds-like : (g : Guard) (b c n m : Option ℕ) → Like (sets_named g) b c → Like (sets_named g) n m → holds g b n ≡ holds g c m
unfolding holds
holds-like Start b c n m p q = none-like [] b c p
holds-like LineStart b c n m p q = ap₂ (λ x y. x || y) (none-like (is_line_feed ∷ []) b c p) (in-like is_line_feed b c p)
holds-like LineEnd b c n m p q = ap₂ (λ x y. x || y) (none-like (is_line_feed ∷ []) n m q) (in-like is_line_feed n m q)
holds-like TextEnd b c n m p q = none-like [] n m q
holds-like (Word ascii) b c n m p q = ap₂ (λ x y. not (beq x y)) (in-like (is_word ascii) b c p) (in-like (is_word ascii) n m q)
holds-like (NotWord ascii) b c n m p q = ap₂ beq (in-like (is_word ascii) b c p) (in-like (is_word ascii) n m q)
holds-like (Look true negated ranges) b c n m p q = sees-like negated (has ranges) b c p
holds-like (Look false negated ranges) b c n m p q = sees-like negated (has ranges) n m q

-- The sets distinguish what the guards do.
abbrev pub GuardsKnown : List (ℕ → Bool) → List Guard → Type 0
GuardsKnown sets [] = Unit {0}
GuardsKnown sets (g ∷ gs) = Finer sets (sets_named g) × GuardsKnown sets gs

pub GuardsKnown-append : (sets : List (ℕ → Bool)) (gs hs : List Guard) → GuardsKnown sets gs → GuardsKnown sets hs → GuardsKnown sets (gs ++ hs)
GuardsKnown-append sets [] hs p q = q
GuardsKnown-append sets (g ∷ gs) hs p q = (p.0, GuardsKnown-append sets gs hs p.1 q)

pub all_hold-like : (sets : List (ℕ → Bool)) (gs : List Guard) (b c n m : Option ℕ) → GuardsKnown sets gs → Like sets b c → Like sets n m
    → all_hold gs b n ≡ all_hold gs c m
all_hold-like sets [] b c n m known p q = refl
all_hold-like sets (g ∷ gs) b c n m known p q =
    ap₂ (λ x y. x && y)
    (holds-like g b c n m (Like-finer sets (sets_named g) b c known.0 p) (Like-finer sets (sets_named g) n m known.0 q))
    (all_hold-like sets gs b c n m known.1 p q)

-- The sets distinguish what the items' guards do, and the items' places are below `n`.
abbrev pub ItemsKnown : List (ℕ → Bool) → ℕ → List Item → Type 0
ItemsKnown sets n [] = Unit {0}
ItemsKnown sets n (test_at gs p ∷ l) = GuardsKnown sets gs × (p < n) × ItemsKnown sets n l
ItemsKnown sets n (pass gs ∷ l) = GuardsKnown sets gs × ItemsKnown sets n l

module _ (sets : List (ℕ → Bool)) (n : ℕ) where
  ItemsKnown-append : (l m : List Item) → ItemsKnown sets n l → ItemsKnown sets n m → ItemsKnown sets n (l ++ m)
  ItemsKnown-append [] m p q = q
  ItemsKnown-append (test_at gs k ∷ l) m p q = (p.0, p.1, ItemsKnown-append l m p.2 q)
  ItemsKnown-append (pass gs ∷ l) m p q = (p.0, ItemsKnown-append l m p.1 q)

  ItemsKnown-guarded : (gs : List Guard) (l : List Item) → GuardsKnown sets gs → ItemsKnown sets n l → ItemsKnown sets n (all_guarded gs l)
  ItemsKnown-guarded gs [] k p = tt
  ItemsKnown-guarded gs (test_at hs b ∷ l) k p = (GuardsKnown-append sets gs hs k p.0, p.1, ItemsKnown-guarded gs l k p.2)
  ItemsKnown-guarded gs (pass hs ∷ l) k p = (GuardsKnown-append sets gs hs k p.0, ItemsKnown-guarded gs l k p.1)

  ItemsKnown-replaced : (l m : List Item) → ItemsKnown sets n l → ItemsKnown sets n m → ItemsKnown sets n (replaced l m)
  ItemsKnown-replaced [] m p q = tt
  ItemsKnown-replaced (test_at gs b ∷ l) m p q = (p.0, p.1, ItemsKnown-replaced l m p.2 q)
  ItemsKnown-replaced (pass gs ∷ l) m p q =
      ItemsKnown-append (all_guarded gs m) (replaced l m) (ItemsKnown-guarded gs m p.0 q) (ItemsKnown-replaced l m p.1 q)

  ItemsKnown-more : (greedy : Bool) (l : List Item) → ItemsKnown sets n l → ItemsKnown sets n (one_more greedy (pass []) l)
  ItemsKnown-more true l p = ItemsKnown-append l (pass [] ∷ []) p (tt, tt)
  ItemsKnown-more false l p = (tt, p)

  -- The items of a tree know its places, and no more than its guards.
  pub first-known : (e : Tree) (b : ℕ) → b + places e ≤ n → Finer sets (guard_sets e) → ItemsKnown sets n (first e b)
  first-known empty b le f = (tt, tt)
  first-known (one s) b le f = (tt, omega arith, tt)
  first-known (guard g) b le f = ((f, tt), tt)
  first-known (both e h) b le f =
      ItemsKnown-replaced (first e b) (first h (b + places e))
      (first-known e b (omega arith) (Finer-left sets (guard_sets e) (guard_sets h) f))
      (first-known h (b + places e) (omega arith) (Finer-right sets (guard_sets e) (guard_sets h) f))
  first-known (either e h) b le f =
      ItemsKnown-append (first e b) (first h (b + places e))
      (first-known e b (omega arith) (Finer-left sets (guard_sets e) (guard_sets h) f))
      (first-known h (b + places e) (omega arith) (Finer-right sets (guard_sets e) (guard_sets h) f))
  first-known (many e greedy) b le f = ItemsKnown-more greedy (first e b) (first-known e b le f)

  pub after-known : (e : Tree) (b p : ℕ) → b + places e ≤ n → Finer sets (guard_sets e) → ItemsKnown sets n (after e b p)
  after-known empty b p le f = tt
  after-known (one s) b p le f = (tt, tt)
  after-known (guard g) b p le f = tt
  after-known (both e h) b p le f =
      cond_both (nat_lt p (b + places e)) (replaced (after e b p) (first h (b + places e))) (after h (b + places e) p) (ItemsKnown sets n)
      (λ _. ItemsKnown-replaced (after e b p) (first h (b + places e))
      (after-known e b p (omega arith) (Finer-left sets (guard_sets e) (guard_sets h) f))
      (first-known h (b + places e) (omega arith) (Finer-right sets (guard_sets e) (guard_sets h) f)))
      (λ _. after-known h (b + places e) p (omega arith) (Finer-right sets (guard_sets e) (guard_sets h) f))
  after-known (either e h) b p le f =
      cond_both (nat_lt p (b + places e)) (after e b p) (after h (b + places e) p) (ItemsKnown sets n)
      (λ _. after-known e b p (omega arith) (Finer-left sets (guard_sets e) (guard_sets h) f))
      (λ _. after-known h (b + places e) p (omega arith) (Finer-right sets (guard_sets e) (guard_sets h) f))
  after-known (many e greedy) b p le f =
      ItemsKnown-replaced (after e b p) (first (many e greedy) b) (after-known e b p le f) (first-known (many e greedy) b le f)

-- The set of a place holds both or neither of two codes that the tree's sets don't distinguish.
pub set_of-alike : (sets : List (ℕ → Bool)) (e : Tree) (b p c d : ℕ) → Finer sets (sets_in e) → alike sets c d ≡ true → set_of e b p c ≡ set_of e b p d
set_of-alike sets empty b p c d f h = refl
set_of-alike sets (one s) b p c d f h = beq-true (s c) (s d) (and_parts (beq (s c) (s d)) true (f c d h)).0
set_of-alike sets (guard g) b p c d f h = refl
set_of-alike sets (both e k) b p c d f h =
    ap₂ (λ x y. if nat_lt p (b + places e) then x else y)
    (set_of-alike sets e b p c d (Finer-left sets (sets_in e) (sets_in k) f) h)
    (set_of-alike sets k (b + places e) p c d (Finer-right sets (sets_in e) (sets_in k) f) h)
set_of-alike sets (either e k) b p c d f h =
    ap₂ (λ x y. if nat_lt p (b + places e) then x else y)
    (set_of-alike sets e b p c d (Finer-left sets (sets_in e) (sets_in k) f) h)
    (set_of-alike sets k (b + places e) p c d (Finer-right sets (sets_in e) (sets_in k) f) h)
set_of-alike sets (many e greedy) b p c d f h = set_of-alike sets e b p c d f h
