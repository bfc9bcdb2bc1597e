-- What holds of the tree with groups of each pattern.
use Rattle.std.proofs.Common.{◌≡◌, ℕ, zero, suc, ◌+◌, ◌-◌, ◌<◌, ◌≤◌, Bool, true, false, ◌&&◌, List, [], ◌∷◌, ◌++◌, Option, None, Some, replicate, refl, sym, ap, subst, arith}
use Rattle.rl_ranges.specs.declared.universe.Universe.{Universe}
use Rattle.rl_syntax.specs.declared.limits.TheConstants.{MOST_NODES}
use Rattle.rl_syntax.specs.Tree.{size, IsOver}
use Rattle.rl_syntax.specs.Lowering.{lowered}
use Rattle.rl_syntax.specs.IsPattern.{IsPattern}
use Rattle.rl_syntax.specs.PatTree.{PatTree, PatTrees, BranchTrees, nothing, class, seq, choice, repeat, group, anchor, boundary, look, outside, no_items, item, no_branches, branch}
use Rattle.rl_syntax.specs.declared.anchors.Trail.TheVariants.{None as no_trail}
use Rattle.rl_syntax.specs.declared.re.Mode.TheVariants.{Fullmatch}
use Rattle.rl_syntax.proofs.BodyOver.{tree-over}
use Rattle.rl_marks.specs.Marked.{Marked, empty, one, guard, both, either, many, further, mark, plain, nodes, is_numbered}
use Rattle.rl_marks.specs.Marking.{in_turn, one_of, option_of, in_rounds, options, tail_of, times, groups_in, marked, items_marked, branches_marked, led}
use Rattle.rl_marks.specs.IsMarked.{IsMarked}
use Rattle.rl_marks.proofs.LoweringLaws.{plain-marked}

-- There are no fewer nodes with the groups than without them.
pub size-plain : (t : Marked) → size (plain t) ≤ nodes t
size-plain empty = omega arith
size-plain (one set) = omega arith
size-plain (guard g) = omega arith
size-plain (both e f) = (let a = size-plain e in let b = size-plain f in omega arith)
size-plain (either e f) = (let a = size-plain e in let b = size-plain f in omega arith)
size-plain (many e greedy) = (let a = size-plain e in omega arith)
size-plain (further e f) = (let a = size-plain e in let b = size-plain f in omega arith)
size-plain (mark n e) = (let a = size-plain e in omega arith)

nodes-led : (leading : Bool) (t : Marked) → nodes t ≤ nodes (led leading t)
nodes-led true t = omega arith
nodes-led false t = omega arith

pub size-marked : (p : PatTree) (leading : Bool) (n : ℕ) → size (lowered p) ≤ nodes (led leading (marked p n))
size-marked p leading n =
    let a : size (plain (marked p n)) ≤ nodes (marked p n) = size-plain (marked p n) in
    let b : nodes (marked p n) ≤ nodes (led leading (marked p n)) = nodes-led leading (marked p n) in
    let c : size (plain (marked p n)) ≡ size (lowered p) = ap size (plain-marked p n) in
    omega arith

-- Groups are numbered from 1 on.

all_true : List Marked → Type 0
all_true [] = Unit {0}
all_true (t ∷ l) = (is_numbered t ≡ true) × all_true l

both-true : (a b : Bool) → a ≡ true → b ≡ true → (a && b) ≡ true
both-true true b e f = f
both-true false b e f = cc

true-append : (l m : List Marked) → all_true l → all_true m → all_true (l ++ m)
unfolding all_true
true-append [] m p q = q
true-append (t ∷ l) m p q = (p.0, true-append l m p.1 q)

in_turn-true : (l : List Marked) → all_true l → is_numbered (in_turn l) ≡ true
unfolding all_true
in_turn-true [] p = refl
in_turn-true (t ∷ []) p = p.0
in_turn-true (t ∷ u ∷ l) p = both-true (is_numbered t) (is_numbered (in_turn (u ∷ l))) p.0 (in_turn-true (u ∷ l) p.1)

one_of-true : (l : List Marked) → all_true l → is_numbered (one_of l) ≡ true
unfolding all_true
one_of-true [] p = refl
one_of-true (t ∷ []) p = p.0
one_of-true (t ∷ u ∷ l) p = both-true (is_numbered t) (is_numbered (one_of (u ∷ l))) p.0 (one_of-true (u ∷ l) p.1)

option-true : (greedy : Bool) (t : Marked) → is_numbered t ≡ true → is_numbered (option_of greedy t) ≡ true
option-true true t e = both-true (is_numbered t) true e refl
option-true false t e = both-true true (is_numbered t) refl e

rounds-true : (t : Marked) → is_numbered t ≡ true → (l : List Marked) → all_true l → is_numbered (in_rounds t l) ≡ true
rounds-true t e [] p = e
rounds-true t e (u ∷ l) p = both-true (is_numbered t) (is_numbered (in_turn (u ∷ l))) e (in_turn-true (u ∷ l) p)

options-true : (greedy : Bool) (t : Marked) → is_numbered t ≡ true → (k : ℕ) → all_true (options greedy t k)
unfolding all_true
options-true greedy t e zero = tt
options-true greedy t e (suc k) =
    (option-true greedy (in_rounds t (options greedy t k)) (rounds-true t e (options greedy t k) (options-true greedy t e k)), tt)

tail-true : (greedy : Bool) (t : Marked) → is_numbered t ≡ true → (least : ℕ) (most : Option ℕ) → all_true (tail_of greedy t least most)
unfolding all_true
tail-true greedy t e least None = (e, tt)
tail-true greedy t e least (Some most) = options-true greedy t e (most - least)

copies-true : (t : Marked) → is_numbered t ≡ true → (k : ℕ) → all_true (replicate k t)
unfolding all_true
copies-true t e zero = tt
copies-true t e (suc k) = (e, copies-true t e k)

times-true : (least : ℕ) (most : Option ℕ) (greedy : Bool) (t : Marked) → is_numbered t ≡ true → is_numbered (times least most greedy t) ≡ true
times-true least most greedy t e =
    in_turn-true (replicate least t ++ tail_of greedy t least most)
    (true-append (replicate least t) (tail_of greedy t least most) (copies-true t e least) (tail-true greedy t e least most))

mark-true : (n : ℕ) (t : Marked) → 0 < n → is_numbered t ≡ true → is_numbered (mark n t) ≡ true
mark-true zero t lt e = absurd (omega arith)
mark-true (suc n) t lt e = e

mutual
  unfolding all_true

  pub marked-numbered : (p : PatTree) (n : ℕ) → 0 < n → is_numbered (marked p n) ≡ true
  marked-numbered (nothing span) n lt = refl
  marked-numbered (class span set) n lt = refl
  marked-numbered (seq span ps) n lt = in_turn-true (items_marked ps n) (items-numbered ps n lt)
  marked-numbered (choice span bs) n lt = one_of-true (branches_marked bs n) (branches-numbered bs n lt)
  marked-numbered (repeat span m least most greedy p) n lt = times-true least most greedy (marked p n) (marked-numbered p n lt)
  marked-numbered (group span true p) n lt = mark-true n (marked p (suc n)) lt (marked-numbered p (suc n) (omega arith))
  marked-numbered (group span false p) n lt = marked-numbered p n lt
  marked-numbered (anchor span kind multiline) n lt = refl
  marked-numbered (boundary span negated ascii) n lt = refl
  marked-numbered (look span behind negated ranges) n lt = refl
  marked-numbered (outside span what) n lt = refl

  items-numbered : (ps : PatTrees) (n : ℕ) → 0 < n → all_true (items_marked ps n)
  items-numbered no_items n lt = tt
  items-numbered (item p ps) n lt = (marked-numbered p n lt, items-numbered ps (n + groups_in p) (omega arith))

  branches-numbered : (bs : BranchTrees) (n : ℕ) → 0 < n → all_true (branches_marked bs n)
  branches-numbered no_branches n lt = tt
  branches-numbered (branch span p bs) n lt = (marked-numbered p n lt, branches-numbered bs (n + groups_in p) (omega arith))

led-numbered : (leading : Bool) (t : Marked) → is_numbered t ≡ true → is_numbered (led leading t) ≡ true
led-numbered true t e = e
led-numbered false t e = e

led-over : (u : Universe) (leading : Bool) (t : Marked) → IsOver u (plain t) → IsOver u (plain (led leading t))
led-over u true t h = (tt, h)
led-over u false t h = h

pub pattern-judged : (u : Universe) (p : PatTree) (leading : Bool) → IsPattern u p → nodes (led leading (marked p 1)) ≤ MOST_NODES → IsMarked u (led leading (marked p 1))
pattern-judged u p leading h small = record {
  over = led-over u leading (marked p 1) (subst (IsOver u) (sym (plain-marked p 1)) (tree-over u Fullmatch leading no_trail p h));
  numbered = led-numbered leading (marked p 1) (marked-numbered p 1 (omega arith));
  small = small;
}
