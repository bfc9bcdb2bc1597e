-- Bounds on the length of the item lists of a tree: the list of entering the tree doubles with each node at most, and the
-- lists after a place are bounded by a power of two whose exponent is the square of the size.
use Rattle.std.proofs.Common.{◌≡◌, ℕ, zero, suc, ◌+◌, ◌*◌, ◌^◌, ◌<◌, ◌≤◌, Bool, true, false, List, [], ◌∷◌, ◌++◌, length, Option, nat_lt, if◌then◌else◌, refl, ap, arith, length-append}
use Rattle.std.proofs.Math.Nat.{pow-le-pow_right, two-pow-succ}
use Rattle.std.proofs.lemmas.Bool.{cond_both}
use Rattle.std.proofs.lemmas.Nat.{pow_pos, pow-add, mul-le}
use Rattle.rl_syntax.specs.declared.anchors.Guard.{Guard}
use Rattle.rl_syntax.specs.declared.re.Ending.{Ending}
use Rattle.rl_syntax.specs.Tree.{Tree, empty, one, guard, both, either, many, size, places}
use Rattle.rl_syntax.specs.Run.{one_more}
use Rattle.rl_prio.specs.Items.{Item, test_at, pass, all_guarded, replaced, first, after, all_hold, longest_of, longest}
use Rattle.rl_prio.specs.States.{place_states, test_target, end_target, moves_on, items_of}

pub pow_mono : (i j : ℕ) → i ≤ j → 2 ^ i ≤ 2 ^ j
pow_mono i j le = let two : 0 < 2 = omega arith in pow-le-pow_right two le

length-all_guarded : (gs : List Guard) (l : List Item) → length (all_guarded gs l) ≡ length l
length-all_guarded gs [] = refl
length-all_guarded gs (m ∷ l) = ap suc (length-all_guarded gs l)

length-replaced : (l m : List Item) (k : ℕ) → length m ≤ k → 1 ≤ k → length (replaced l m) ≤ length l * k
length-replaced [] m k le some = omega arith
length-replaced (test_at gs p ∷ l) m k le some = omega (arith, length-replaced l m k le some)
length-replaced (pass gs ∷ l) m k le some =
    omega (arith, length-append (all_guarded gs m) (replaced l m), length-all_guarded gs m, length-replaced l m k le some)

length-one_more : (greedy : Bool) (x : Item) (l : List Item) → length (one_more greedy x l) ≡ suc (length l)
length-one_more true x l = omega (arith, length-append l (x ∷ []))
length-one_more false x l = refl

-- A list with its ends replaced, by powers of two.
replaced-short : (l m : List Item) (i j k : ℕ) → length l ≤ 2 ^ i → length m ≤ 2 ^ j → i + j ≤ k → length (replaced l m) ≤ 2 ^ k
replaced-short l m i j k p q le =
    omega (arith, length-replaced l m (2 ^ j) q (pow_pos j), mul-le (length l) (2 ^ j) (2 ^ i) (2 ^ j) p (omega arith), pow-add 2 i j, pow_mono (i + j) k le)

pub first-short : (e : Tree) (b : ℕ) → length (first e b) ≤ 2 ^ size e
first-short empty b = omega (arith, pow_pos 1)
first-short (one s) b = omega (arith, pow_pos 1)
first-short (guard g) b = omega (arith, pow_pos 1)
first-short (both e f) b =
    replaced-short (first e b) (first f (b + places e)) (size e) (size f) (suc (size e + size f)) (first-short e b) (first-short f (b + places e)) (omega arith)
first-short (either e f) b =
    omega (
      arith,
      length-append (first e b) (first f (b + places e)),
      first-short e b,
      first-short f (b + places e),
      two-pow-succ (size e + size f),
      pow_mono (size e) (size e + size f) (omega arith),
      pow_mono (size f) (size e + size f) (omega arith),
    )
first-short (many e greedy) b =
    omega (arith, length-one_more greedy (pass []) (first e b), first-short e b, two-pow-succ (size e), pow_pos (size e))

pub after-short : (e : Tree) (b p : ℕ) → length (after e b p) ≤ 2 ^ (size e * size e)
after-short empty b p = omega arith
after-short (one s) b p = omega (arith, pow_pos (1 * 1))
after-short (guard g) b p = omega arith
after-short (both e f) b p =
    let n = suc (size e + size f) in
    let le_left : size e * size e + size f ≤ n * n = omega arith in
    let le_right : size f * size f ≤ n * n = omega arith in
    cond_both (nat_lt p (b + places e)) (replaced (after e b p) (first f (b + places e))) (after f (b + places e) p) (λ l. length l ≤ 2 ^ (n * n))
    (λ _. replaced-short (after e b p) (first f (b + places e)) (size e * size e) (size f) (n * n) (after-short e b p) (first-short f (b + places e)) le_left)
    (λ _. omega (arith, after-short f (b + places e) p, pow_mono (size f * size f) (n * n) le_right))
after-short (either e f) b p =
    let n = suc (size e + size f) in
    let le_left : size e * size e ≤ n * n = omega arith in
    let le_right : size f * size f ≤ n * n = omega arith in
    cond_both (nat_lt p (b + places e)) (after e b p) (after f (b + places e) p) (λ l. length l ≤ 2 ^ (n * n))
    (λ _. omega (arith, after-short e b p, pow_mono (size e * size e) (n * n) le_left))
    (λ _. omega (arith, after-short f (b + places e) p, pow_mono (size f * size f) (n * n) le_right))
after-short (many e greedy) b p =
    let n = suc (size e) in
    let le : size e * size e + n ≤ n * n = omega arith in
    replaced-short (after e b p) (first (many e greedy) b) (size e * size e) n (n * n) (after-short e b p) (first-short (many e greedy) b) le

size_some : (e : Tree) → 1 ≤ size e
size_some empty = omega arith
size_some (one s) = omega arith
size_some (guard g) = omega arith
size_some (both e f) = omega arith
size_some (either e f) = omega arith
size_some (many e greedy) = omega arith

pub first-short_square : (e : Tree) (b : ℕ) → length (first e b) ≤ 2 ^ (size e * size e)
first-short_square e b =
    let some = size_some e in
    let le : size e ≤ size e * size e = omega (arith, mul-le 1 (size e) (size e) (size e) some (omega arith)) in
    omega (arith, first-short e b, pow_mono (size e) (size e * size e) le)

pub longest-short : (t : Tree) → longest t ≤ 2 ^ (size t * size t)
longest-short t = up_to (places t)
  where
    up_to : (n : ℕ) → longest_of t n ≤ 2 ^ (size t * size t)
    up_to zero = first-short_square t 0
    up_to (suc p) = omega (arith, up_to p, after-short t 0 p)

pub items-short : (t : Tree) (n q : ℕ) → length (items_of t n q) ≤ 2 ^ (size t * size t)
items-short t n zero = first-short_square t 0
items-short t n (suc r) =
    cond_both (nat_lt r (place_states t n)) (after t 0 _) [] (λ l. length l ≤ 2 ^ (size t * size t))
    (λ _. after-short t 0 _) (λ _. omega arith)

length-if : (b : Bool) (q : ℕ) (l : List ℕ) → length ((if b then q ∷ [] else []) ++ l) ≤ suc (length l)
length-if true q l = omega arith
length-if false q l = omega arith

-- There are no more moves than items.
pub length-moves_on : (t : Tree) (ending : Ending) (n : ℕ) (before next : Option ℕ) (l : List Item) → length (moves_on t ending n before next l) ≤ length l
length-moves_on t ending n before next [] = omega arith
length-moves_on t ending n before next (test_at gs p ∷ l) =
    omega (arith, length-if (all_hold gs before next) (test_target t n p next) (moves_on t ending n before next l), length-moves_on t ending n before next l)
length-moves_on t ending n before next (pass gs ∷ l) =
    omega (arith, length-if (all_hold gs before next) (end_target t ending n next) (moves_on t ending n before next l), length-moves_on t ending n before next l)
