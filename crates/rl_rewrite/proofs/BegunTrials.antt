-- The automaton on which branches are tried, the branches dropped since it was made, and the flags of its places.
use Rattle.std.proofs.Common.{◌≡◌, ◌-◌, Bool, List, [], ◌∷◌, ◌++◌, length, take, Option, Some, IfSome, Result, Ok, Err, IfOk, OnOk, sym, ap, ◌∙◌, subst, arith}
use Rattle.std.proofs.lemmas.List.{length-append}
use Rattle.std.proofs.Math.Seq.{take-append_seam}
use Rattle.rl_ranges.specs.declared.universe.Universe.{Universe}
use Rattle.rl_syntax.specs.declared.span.Span.{Span}
use Rattle.rl_syntax.specs.Lowering.{lowered}
use Rattle.rl_syntax.specs.PatTree.{PatTree}
use Rattle.rl_equiv.specs.Bases.{IsBase}
use Rattle.rl_pattern.specs.Cut.{remaining}
use Rattle.rl_pattern.specs.Suggested.{among, no_span, without}
use Rattle.rl_trim.specs.Without.{Without}
use Rattle.rl_rewrite.proofs.TriedOne.{ok_by}
use Rattle.rl_rewrite.specs.declared.trying.Trials.{Trials}
use Rattle.rl_rewrite.specs.internal.Trials.{IsEndOf, AreBegun}

module _ (u : Universe) (body : PatTree) where
  pub made_now : (dropped : List Span) (t : Trials) → IsBase u (without dropped body) t.trimmer → t.begun ≡ dropped → AreBegun u body dropped t
  made_now dropped t base e = record { base = subst (λ d. IsBase u (without d body) t.trimmer) (sym e) base; last = ([], e) }

  pub one_dropped : (b : Span) (dropped more : List Span) → more ≡ b ∷ dropped → (t : Trials) → AreBegun u body dropped t → AreBegun u body more t
  one_dropped b dropped more e t h = subst (λ m. AreBegun u body m t) (sym e) (record { base = h.base; last = (b ∷ h.last.0, ap (λ l. b ∷ l) h.last.1) })

-- The branches dropped since are the first ones.
pub first_taken : (begun dropped : List Span) → IsEndOf begun dropped → take (length dropped - length begun) dropped ++ begun ≡ dropped
first_taken begun dropped h =
    let m : length dropped - length begun ≡ length h.0 = (let n = ap length h.1 in let k = length-append h.0 begun in omega (arith, n, k)) in
    let t : take (length dropped - length begun) dropped ≡ h.0 = ap (λ n. take n dropped) m ∙ ap (take (length h.0)) (sym h.1) ∙ take-append_seam h.0 begun in
    ap (λ l. l ++ begun) t ∙ h.1

-- The flags found for a part that is the body.
pub flags_of_body : (q body : PatTree) (g gone d dropped : List Span) (o : Option (List Bool)) (keep : List Bool) → q ≡ body → g ≡ gone → d ≡ dropped → o ≡ Some keep
    → IfSome o (λ k. Without k (lowered (remaining (among (g ++ d)) no_span q)) (lowered (remaining (among d) no_span q)))
    → Without keep (without (gone ++ dropped) body) (without dropped body)
flags_of_body q body g gone d dropped o keep e f h i k =
    subst (λ x. Without keep (without (x ++ dropped) body) (without dropped body)) f
    (subst (λ x. Without keep (without (g ++ x) body) (without x body)) h
    (subst (λ x. Without keep (lowered (remaining (among (g ++ d)) no_span x)) (lowered (remaining (among d) no_span x))) e
    (subst (λ x. IfSome x (λ k. Without k (lowered (remaining (among (g ++ d)) no_span q)) (lowered (remaining (among d) no_span q)))) i k)))

-- A property of a result that follows from another one.
pub found_by : {A E : Type 0} {P Q : A → Type 0} (r : Result A E) → IfOk r P → ((a : A) → P a → Q a) → IfOk r Q
found_by r h f = ok_by r f h

-- What always holds holds of a result.
pub either_way : {A E : Type 0} {P : Type 0} (r : Result A E) → P → OnOk r P
either_way (Ok a) h = h
either_way (Err e) h = tt
