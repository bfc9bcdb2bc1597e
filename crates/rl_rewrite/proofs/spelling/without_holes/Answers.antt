use Rattle.std.proofs.Common.{◌≡◌, ◌<◌, ◌+◌, ℕ, suc, Bool, true, false, not, if◌then◌else◌, List, [], ◌∷◌, ◌++◌, length, drop, get_or, sym, ap, ◌∙◌, append_assoc, add-one, drop-cons, arith}
use Rattle.std.proofs.lemmas.Grind.{common_steps}
use Rattle.rl_pattern.specs.Thinned.{kept_from}
use Rattle.rl_rewrite.specs.internal.Holes.{in_holes}
use Rattle.rl_rewrite.proofs.spelling.without_holes.Goals as goal
use Rattle.rl_rewrite.proofs.spelling.without_holes.Goals.{then-not-in_holes+in_ok-push, else-not-in_holes}

joined : (b : Bool) (kept : List ℕ) (c : ℕ) (rest all : List ℕ) → kept ++ (if b then c ∷ rest else rest) ≡ all → (if b then kept ++ c ∷ [] else kept) ++ rest ≡ all
joined true kept c rest all e = append_assoc kept (c ∷ []) rest ∙ e
joined false kept c rest all e = e

stepped : (f : ℕ → Bool) (kept next : List ℕ) (k : ℕ) (w all : List ℕ) → k < length w → next ≡ (if f k then kept ++ get_or w k 0 ∷ [] else kept) → kept ++ kept_from f k (drop k w) ≡ all → next ++ kept_from f (k + 1) (drop (k + 1) w) ≡ all
stepped f kept next k w all l e h =
    rw add-one (ap (λ n. n ++ kept_from f (suc k) (drop (suc k) w)) e
    ∙ joined (f k) kept (get_or w k 0) (kept_from f (suc k) (drop (suc k) w)) all (ap (λ x. kept ++ kept_from f k x) (sym (drop-cons w k 0 l)) ∙ h))

pub loop-place-preserved : goal.loop-place-preserved
loop-place-preserved c =
    let f : ℕ → Bool = λ t. not (in_holes c.args.holes.now t) in
    let k = c.loop-place.place in
    let l : k < length c.args.codes.now = omega arith in
    let e : c.if-not-in_holes.kept ≡ (if f k then c.loop-place.kept ++ get_or c.args.codes.now k 0 ∷ [] else c.loop-place.kept) = elim c.if-not-in_holes.branch [
      | then-not-in_holes+in_ok-push w ↦
          let t : true ≡ f k = grind (arith, common_steps) in
          let n : c.if-not-in_holes.kept ≡ c.loop-place.kept ++ get_or c.args.codes.now k 0 ∷ [] = grind (arith, common_steps) in
          n ∙ ap (λ x. if x then c.loop-place.kept ++ get_or c.args.codes.now k 0 ∷ [] else c.loop-place.kept) t
      | else-not-in_holes w ↦
          let t : false ≡ f k = grind (arith, common_steps) in
          w.kept-is ∙ ap (λ x. if x then c.loop-place.kept ++ get_or c.args.codes.now k 0 ∷ [] else c.loop-place.kept) t
    ] in
    stepped f c.loop-place.kept c.if-not-in_holes.kept k c.args.codes.now _ l e c.loop-place.invariant
