-- Trees joined one by one, from the last one on.
use Rattle.std.proofs.Common.{◌≡◌, ℕ, zero, suc, ◌-◌, Bool, List, [], ◌∷◌, ◌++◌, Option, None, Some, replicate, ◌+◌, add-one, refl, sym, ap, ◌∙◌}
use Rattle.rl_syntax.specs.Tree.{Tree, both, either}
use Rattle.rl_syntax.specs.Lowering.{in_turn, one_of, option_of, options, tail_of}

pub in_turn-last : (ts : List Tree) (t : Tree) (us : List Tree) → in_turn (ts ++ in_turn (t ∷ us) ∷ []) ≡ in_turn (ts ++ t ∷ us)
in_turn-last [] t us = refl
in_turn-last (s ∷ []) t us = refl
in_turn-last (s ∷ r ∷ ts) t us = ap (both s) (in_turn-last (r ∷ ts) t us)

pub one_of-last : (ts : List Tree) (t : Tree) (us : List Tree) → one_of (ts ++ one_of (t ∷ us) ∷ []) ≡ one_of (ts ++ t ∷ us)
one_of-last [] t us = refl
one_of-last (s ∷ []) t us = refl
one_of-last (s ∷ r ∷ ts) t us = ap (either s) (one_of-last (r ∷ ts) t us)

-- The trees as a single tree, if there are any.
abbrev pub joined : List Tree → List Tree
joined [] = []
joined (t ∷ ts) = in_turn (t ∷ ts) ∷ []

pub joined-cons : (t : Tree) (ts : List Tree) → in_turn (t ∷ joined ts) ∷ [] ≡ joined (t ∷ ts)
joined-cons t [] = refl
joined-cons t (u ∷ us) = refl

joined-options : (greedy : Bool) (t : Tree) (k : ℕ) → joined (options greedy t k) ≡ options greedy t k
joined-options greedy t zero = refl
joined-options greedy t (suc k) = refl

joined-tail : (greedy : Bool) (t : Tree) (least : ℕ) (most : Option ℕ) → joined (tail_of greedy t least most) ≡ tail_of greedy t least most
joined-tail greedy t least None = refl
joined-tail greedy t least (Some most) = joined-options greedy t (most - least)

-- There is no copy in front yet.
pub joined-start : (greedy : Bool) (t : Tree) (least : ℕ) (most : Option ℕ) (us : List Tree) → us ≡ tail_of greedy t least most → us ≡ joined (tail_of greedy t least most)
joined-start greedy t least most us e = e ∙ sym (joined-tail greedy t least most)

-- One more copy in front.
pub joined-copy : (n : ℕ) (t r : Tree) (us tail : List Tree) → us ≡ joined (replicate n t ++ tail) → r ≡ in_turn (t ∷ us) → r ∷ [] ≡ joined (replicate (n + 1) t ++ tail)
joined-copy n t r us tail e f =
    ap (λ x. x ∷ []) f
    ∙ ap (λ x. in_turn (t ∷ x) ∷ []) e
    ∙ joined-cons t (replicate n t ++ tail)
    ∙ ap (λ m. joined (replicate m t ++ tail)) (sym (add-one n))

-- One more copy in front of the optional ones.
pub options-copy : (n : ℕ) (greedy : Bool) (t r : Tree) (us : List Tree) → us ≡ options greedy t n → r ≡ option_of greedy (in_turn (t ∷ us)) → r ∷ [] ≡ options greedy t (n + 1)
options-copy n greedy t r us e f =
    ap (λ x. x ∷ []) f
    ∙ ap (λ x. option_of greedy (in_turn (t ∷ x)) ∷ []) e
    ∙ ap (options greedy t) (sym (add-one n))
