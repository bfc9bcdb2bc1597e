-- One more round of a loop over parts.
use Rattle.std.proofs.Common.{◌≡◌, ℕ, suc, ◌+◌, ◌<◌, Bool, true, false, ◌&&◌, ◌||◌, List, [], ◌∷◌, ◌++◌, length, get_or, drop, map, refl, sym, ap, ◌∙◌, append_assoc, add-one, drop-cons}
use Rattle.std.proofs.lemmas.List.{map-append, append-nil}
use Rattle.rl_syntax.specs.declared.span.Span.{Span}
use Rattle.rl_syntax.specs.declared.pat.Pat.{Pat}
use Rattle.rl_syntax.specs.declared.pat.Branch.{Branch}
use Rattle.rl_syntax.specs.declared.pat.Pat.TheFolds.{fold_out-Branch}
use Rattle.rl_syntax.specs.PatTree.{PatTree, item, branch, items_of, branches_of, pat_of, layer_of, branch_of}
use Rattle.rl_syntax.specs.Counting.{branch_tree}

-- A list from a place on is what stands there and what follows.
pub from_place : {A : Type 0} (xs : List A) (k : ℕ) (x : A) → k < length xs → x ≡ get_or xs k x → drop k xs ≡ x ∷ drop (k + 1) xs
from_place xs k x l e = rw add-one (drop-cons xs k x l ∙ ap (λ y. y ∷ drop (suc k) xs) (sym e))

-- What one round adds goes behind what there is.
pub one_more : {A : Type 0} (all next more rest whole from : List A) → next ≡ all ++ more → from ≡ more ++ rest → all ++ from ≡ whole → next ++ rest ≡ whole
one_more all next more rest whole from n f h = ap (λ l. l ++ rest) n ∙ (append_assoc all more rest ∙ (sym (ap (λ l. all ++ l) f) ∙ h))

-- The same of a thing and of a list.
pub one_and : {A : Type 0} (all step next : List A) (x : A) (more : List A) → step ≡ all ++ x ∷ [] → next ≡ step ++ more → next ≡ all ++ x ∷ more
one_and all step next x more e f = f ∙ (ap (λ l. l ++ more) e ∙ append_assoc all (x ∷ []) more)

-- The same of what a list is seen as.
pub one_seen : {A B : Type 0} (see : A → B) (all next : List A) (x : A) (y : B) → next ≡ all ++ x ∷ [] → see x ≡ y → map see next ≡ map see all ++ y ∷ []
one_seen see all next x y e f = ap (map see) e ∙ (map-append see all (x ∷ []) ∙ ap (λ z. map see all ++ z ∷ []) f)

-- Where one round adds nothing.
pub none_more : {A : Type 0} (all next rest whole from : List A) → next ≡ all → from ≡ rest → all ++ from ≡ whole → next ++ rest ≡ whole
none_more all next rest whole from n f h = ap (λ l. l ++ rest) n ∙ (sym (ap (λ l. all ++ l) f) ∙ h)

-- Where nothing is left, what there is is all.
pub last_round : {A : Type 0} (all rest whole : List A) → rest ≡ [] → all ++ rest ≡ whole → all ≡ whole
last_round all rest whole e h = sym (append-nil all) ∙ (ap (λ l. all ++ l) (sym e) ∙ h)

-- A test that all pass so far, where the next one passes, and where it doesn't.
pub and_stays : (all next one rest from whole : Bool) → next ≡ all → one ≡ true → from ≡ (one && rest) → (all && from) ≡ whole → (next && rest) ≡ whole
and_stays all next one rest from whole n o f h = ap (λ x. x && rest) n ∙ (sym (ap (λ x. all && x) (f ∙ ap (λ x. x && rest) o)) ∙ h)

and_false : (b : Bool) → (b && false) ≡ false
and_false true = refl
and_false false = refl

pub and_ends : (all next one rest from whole : Bool) → next ≡ false → one ≡ false → from ≡ (one && rest) → (all && from) ≡ whole → (next && rest) ≡ whole
and_ends all next one rest from whole n o f h = ap (λ x. x && rest) n ∙ (sym (ap (λ x. all && x) (f ∙ ap (λ x. x && rest) o) ∙ and_false all) ∙ h)

-- And a test that some pass.
pub or_stays : (all next one rest from whole : Bool) → next ≡ all → one ≡ false → from ≡ (one || rest) → (all || from) ≡ whole → (next || rest) ≡ whole
or_stays all next one rest from whole n o f h = ap (λ x. x || rest) n ∙ (sym (ap (λ x. all || x) (f ∙ ap (λ x. x || rest) o)) ∙ h)

or_true : (b : Bool) → (b || true) ≡ true
or_true true = refl
or_true false = refl

pub or_ends : (all next one rest from whole : Bool) → next ≡ true → one ≡ true → from ≡ (one || rest) → (all || from) ≡ whole → (next || rest) ≡ whole
or_ends all next one rest from whole n o f h = ap (λ x. x || rest) n ∙ (sym (ap (λ x. all || x) (f ∙ ap (λ x. x || rest) o) ∙ or_true all) ∙ h)

-- The span and the tree of a branch.
pub branch_is : (b : Branch) → branch_tree b ≡ (b.span, pat_of b.body)
branch_is b = fold_out-Branch PatTree (Span × PatTree) layer_of branch_of b

-- The items and the branches from a place on.
pub items_from : (ps : List Pat) (k : ℕ) (p : Pat) → k < length ps → p ≡ get_or ps k p → items_of (map pat_of (drop k ps)) ≡ item (pat_of p) (items_of (map pat_of (drop (k + 1) ps)))
items_from ps k p l e = ap (λ qs. items_of (map pat_of qs)) (from_place ps k p l e)

pub trees_from : (bs : List Branch) (k : ℕ) (b : Branch) → k < length bs → b ≡ get_or bs k b → map branch_tree (drop k bs) ≡ (b.span, pat_of b.body) ∷ map branch_tree (drop (k + 1) bs)
trees_from bs k b l e = ap (map branch_tree) (from_place bs k b l e) ∙ ap (λ t. t ∷ map branch_tree (drop (k + 1) bs)) (branch_is b)

pub branches_from : (bs : List Branch) (k : ℕ) (b : Branch) → k < length bs → b ≡ get_or bs k b
    → branches_of (map branch_tree (drop k bs)) ≡ branch b.span (pat_of b.body) (branches_of (map branch_tree (drop (k + 1) bs)))
branches_from bs k b l e = ap branches_of (trees_from bs k b l e)
