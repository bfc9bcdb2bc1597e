-- The search for the first `coding` that is followed by a name, place by place.
use Rattle.std.proofs.Common.{◌≡◌, ℕ, suc, ◌+◌, ◌<◌, List, ◌∷◌, length, get_or, drop, refl, ap, sym, ◌∙◌, arith, Some, None, Option}
use Rattle.std.proofs.Math.Seq.{drop-cons}
use Rattle.std.proofs.lemmas.List.{drop_all}
use Rattle.std.specs.Option.{option_or}
use Rattle.rl_pylex.specs.declared.coding.Named.{Named}
use Rattle.rl_pylex.specs.Coding.{named_here, from_place, first_named}

from_place-place : (m n : ℕ) (o : Option Named) → from_place m (from_place n o) ≡ from_place (m + n) o
from_place-place m n None = refl
from_place-place m n (Some named) = ap (λ k. Some (record { from = k; size = named.size })) (omega arith)

pub from_place-zero : (o : Option Named) → o ≡ from_place 0 o
from_place-zero None = refl
from_place-zero (Some named) = ap (λ k. Some (record { from = k; size = named.size })) (omega arith)

first_named-drop : (text : List ℕ) (at : ℕ) → at < length text → first_named (drop at text) ≡ option_or (named_here (drop at text)) (from_place 1 (first_named (drop (suc at) text)))
first_named-drop text at h =
    let e : drop at text ≡ get_or text at 0 ∷ drop (suc at) text = drop-cons text at 0 h in
    ap first_named e ∙ ap (λ xs. option_or (named_here xs) (from_place 1 (first_named (drop (suc at) text)))) (sym e)

-- There is a `coding` with a name here.
pub first_named-here : (text : List ℕ) (at : ℕ) (named : Named) → at < length text → Some named ≡ named_here (drop at text) → first_named (drop at text) ≡ Some named
first_named-here text at named h e =
    first_named-drop text at h ∙ ap (λ o. option_or o (from_place 1 (first_named (drop (suc at) text)))) (sym e)

-- There is none here.
pub first_named-on : (text : List ℕ) (at : ℕ) → at < length text → None ≡ named_here (drop at text) → from_place at (first_named (drop at text)) ≡ from_place (at + 1) (first_named (drop (at + 1) text))
first_named-on text at h e =
    let next : suc at ≡ at + 1 = omega arith in
    ap (from_place at) (first_named-drop text at h ∙ ap (λ o. option_or o (from_place 1 (first_named (drop (suc at) text)))) (sym e))
    ∙ from_place-place at 1 (first_named (drop (suc at) text))
    ∙ ap (λ n. from_place (at + 1) (first_named (drop n text))) next

pub ruleset first_names = (from_place-zero, first_named-here, first_named-on, drop_all)
