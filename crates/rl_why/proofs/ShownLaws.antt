-- Ways that part are shown apart.
use Rattle.std.proofs.Common.{◌≡◌, ℕ, suc, ◌-◌, ◌<◌, ◌==◌, ◌&&◌, Bool, true, false, inl, inr, List, [], ◌∷◌, length, map, get_or, refl, sym, ap, ap₂, ◌∙◌, arith, length-append}
use Rattle.std.proofs.lemmas.Bool.{eq-eqb}
use Rattle.std.proofs.lemmas.List.{map-append, length-map, get_or_append_left, get_or-append_right, get_or_default}
use Rattle.rl_ways.specs.declared.item.ToldItem.{ToldItem}
use Rattle.rl_ways.specs.declared.item.Decision.{Decision}
use Rattle.rl_ways.specs.declared.item.Decision.TheVariants.{Left as left, Right as right, Round as round, Stop as stop}
use Rattle.rl_ways.specs.Apart.{Differ, Part}
use Rattle.rl_ways.specs.Ways.{PartsAt}
use Rattle.rl_ways.specs.declared.origin.Origin.{Origin}
use Rattle.rl_why.specs.Shown.{Taken, Step, side_of, taken_of, step_of, shown, code_of, are_alike, PartAt}

differ-shown : (d e : Decision) → Differ d e → (code_of (side_of d) == code_of (side_of e)) ≡ false
differ-shown (left n) (left k) h = absurd h
differ-shown (left n) (right k) h = refl
differ-shown (left n) (round k) h = absurd h
differ-shown (left n) (stop k) h = absurd h
differ-shown (right n) (left k) h = refl
differ-shown (right n) (right k) h = absurd h
differ-shown (right n) (round k) h = absurd h
differ-shown (right n) (stop k) h = absurd h
differ-shown (round n) (left k) h = absurd h
differ-shown (round n) (right k) h = absurd h
differ-shown (round n) (round k) h = absurd h
differ-shown (round n) (stop k) h = refl
differ-shown (stop n) (left k) h = absurd h
differ-shown (stop n) (right k) h = absurd h
differ-shown (stop n) (round k) h = refl
differ-shown (stop n) (stop k) h = absurd h

and-false : (a b : Bool) → b ≡ false → (a && b) ≡ false
and-false true b e = e
and-false false b e = refl

part-shown : (nodes : List Origin) (ds es : List Decision) → Part ds es → are_alike (map (taken_of nodes) ds) (map (taken_of nodes) es) ≡ false
part-shown nodes [] es h = absurd h
part-shown nodes (d ∷ ds) [] h = absurd h
part-shown nodes (d ∷ ds) (e ∷ es) (inl (alike, h)) =
    and-false (code_of (side_of d) == code_of (side_of e)) (are_alike (map (taken_of nodes) ds) (map (taken_of nodes) es)) (part-shown nodes ds es h)
part-shown nodes (d ∷ ds) (e ∷ es) (inr h) = ap (λ b. b && are_alike (map (taken_of nodes) ds) (map (taken_of nodes) es)) (differ-shown d e h)

pub alike-long : (l m : List Taken) → (length l ≡ length m → ⊥) → false ≡ are_alike l m
alike-long [] [] other = absurd (other refl)
alike-long [] (t ∷ m) other = refl
alike-long (s ∷ l) [] other = refl
alike-long (s ∷ l) (t ∷ m) other =
    sym (and-false (code_of s.side == code_of t.side) (are_alike l m) (sym (alike-long l m (λ e. other (ap suc e)))))

-- What is the same is decided alike.
pub alike-itself : (l : List Taken) → are_alike l l ≡ true
alike-itself [] = refl
alike-itself (t ∷ l) = ap (λ b. b && are_alike l l) (eq-eqb (code_of t.side) (code_of t.side) refl) ∙ alike-itself l

-- Before the place where two ways part, the same is decided.
pub alike-before : (k j : ℕ) (l m : List Step) (x y : Step) → PartAt j l m → k < j → x ≡ get_or l k x → y ≡ get_or m k y → are_alike x.took y.took ≡ true
alike-before k j l m x y h lt x_is y_is =
    let here : k < length h.common = omega (arith, lt, h.index) in
    let one : x ≡ get_or h.common k x = x_is ∙ ap (λ z. get_or z k x) h.first ∙ get_or_append_left h.common (h.one ∷ h.rest) x k here in
    let two : y ≡ get_or h.common k x = y_is ∙ ap (λ z. get_or z k y) h.second ∙ get_or_append_left h.common (h.other ∷ h.others) y k here ∙ get_or_default h.common k y x here in
    ap (λ z. are_alike z.took y.took) (one ∙ sym two) ∙ alike-itself y.took

-- There it isn't.
pub apart-there : (k : ℕ) (l m : List Step) (x y : Step) → PartAt k l m → x ≡ get_or l k x → y ≡ get_or m k y → are_alike x.took y.took ≡ false
apart-there k l m x y h x_is y_is =
    let one : x ≡ h.one = x_is ∙ ap (λ z. get_or z k x) h.first ∙ get_or-append_right h.common (h.one ∷ h.rest) (length h.common) k x refl (omega (arith, h.index)) ∙ at_end k (length h.common) h.one h.rest x h.index in
    let two : y ≡ h.other = y_is ∙ ap (λ z. get_or z k y) h.second ∙ get_or-append_right h.common (h.other ∷ h.others) (length h.common) k y refl (omega (arith, h.index)) ∙ at_end k (length h.common) h.other h.others y h.index in
    ap₂ (λ u v. are_alike u.took v.took) one two ∙ h.apart
  where
    at_end : (k n : ℕ) (z : Step) (zs : List Step) (d : Step) → n ≡ k → get_or (z ∷ zs) (k - n) d ≡ z
    at_end k n z zs d e = let none : k - n ≡ 0 = omega (arith, e) in ap (λ i. get_or (z ∷ zs) i d) none

pub parts-within : (k : ℕ) (l m : List Step) → PartAt k l m → (k < length l) × (k < length m)
parts-within k l m h =
    (omega (arith, h.index, ap length h.first, length-append h.common (h.one ∷ h.rest)), omega (arith, h.index, ap length h.second, length-append h.common (h.other ∷ h.others)))

pub parts-shown : (nodes : List Origin) (k : ℕ) (l m : List ToldItem) → PartsAt k l m → PartAt k (shown nodes l) (shown nodes m)
parts-shown nodes k l m h =
    record {
      common = map (step_of nodes) h.common;
      one = step_of nodes h.one;
      other = step_of nodes h.other;
      rest = map (step_of nodes) h.rest;
      others = map (step_of nodes) h.others;
      first = ap (map (step_of nodes)) h.first ∙ map-append (step_of nodes) h.common (h.one ∷ h.rest);
      second = ap (map (step_of nodes)) h.second ∙ map-append (step_of nodes) h.common (h.other ∷ h.others);
      index = length-map h.common (step_of nodes) ∙ h.index;
      apart = part-shown nodes h.one.decisions h.other.decisions h.part;
    }
