-- One more branch tried.
use Rattle.std.proofs.Common.{◌≡◌, ℕ, true, false, List, [], ◌∷◌, ◌++◌, Option, Some, None, IfSome, Result, Ok, Err, IfOk, sym, ap, ◌∙◌, subst, append_assoc}
use Rattle.rl_ranges.specs.declared.universe.Universe.{Universe}
use Rattle.rl_syntax.specs.declared.span.Span.{Span}
use Rattle.rl_syntax.specs.PatTree.{PatTree}
use Rattle.rl_syntax.specs.Tree.{Tree}
use Rattle.rl_pattern.specs.Suggested.{among, may_go, without, none_tried, left_alone, dropped_one, kept_one, undecided_one, equal, apart, undecided}
use Rattle.rl_rewrite.specs.Verdicts.{IsVerdict}
use Rattle.rl_rewrite.specs.declared.trial.Trial.{Trial}
use Rattle.rl_rewrite.specs.declared.trial.Trial.TheVariants.{Equal}
use Rattle.rl_rewrite.specs.internal.Trials.{verdict_of, IsTrueTrial, AreTried}

module _ (u : Universe) (limit : ℕ) (body : PatTree) where
  pub none : may_go (among []) body ≡ true → AreTried u limit body [] [] []
  none may = record { tried = none_tried; goes = may; language = λ w is. (λ h. h, λ h. h) }

  module _ (b : Span) (dropped more : List Span) (e : more ≡ b ∷ dropped) where
    pub alone : may_go (among more) body ≡ false → (passed bs : List Span) → AreTried u limit body bs dropped passed → AreTried u limit body (b ∷ bs) dropped passed
    alone h passed bs t = record { tried = left_alone t.tried (subst (λ m. may_go (among m) body ≡ false) e h); goes = t.goes; language = t.language }

    pub equal_one : may_go (among more) body ≡ true → IsVerdict u limit (without dropped body) (without more body) equal → IsTrueTrial u (without dropped body) (without more body) Equal → (passed bs : List Span) → AreTried u limit body bs dropped passed → AreTried u limit body (b ∷ bs) more passed
    equal_one h v told passed bs t =
        subst (λ m. AreTried u limit body (b ∷ bs) m passed) (sym e) (record {
          tried = dropped_one t.tried (subst (λ m. may_go (among m) body ≡ true) e h) (subst (λ m. IsVerdict u limit (without dropped body) (without m body) equal) e v);
          goes = subst (λ m. may_go (among m) body ≡ true) e h;
          language = λ w is. let x = t.language w is in let y = subst (λ m. IsTrueTrial u (without dropped body) (without m body) Equal) e told w is in (λ z. y.0 (x.0 z), λ z. x.1 (y.1 z));
        })

    pub apart_one : may_go (among more) body ≡ true → IsVerdict u limit (without dropped body) (without more body) apart → (passed bs : List Span) → AreTried u limit body bs dropped passed → AreTried u limit body (b ∷ bs) dropped passed
    apart_one h v passed bs t = record {
      tried = kept_one t.tried (subst (λ m. may_go (among m) body ≡ true) e h) (subst (λ m. IsVerdict u limit (without dropped body) (without m body) apart) e v);
      goes = t.goes;
      language = t.language;
    }

    pub passed_next : may_go (among more) body ≡ true → IsVerdict u limit (without dropped body) (without more body) undecided → (passed all bs : List Span) → all ≡ b ∷ passed → AreTried u limit body bs dropped passed → AreTried u limit body (b ∷ bs) dropped all
    passed_next h v passed all bs f t = subst (AreTried u limit body (b ∷ bs) dropped) (sym f) (record {
      tried = undecided_one t.tried (subst (λ m. may_go (among m) body ≡ true) e h) (subst (λ m. IsVerdict u limit (without dropped body) (without m body) undecided) e v);
      goes = t.goes;
      language = t.language;
    })

-- A property of a result that follows from another fact.
pub ok_by : {A E : Type 0} {P Q : A → Type 0} (r : Result A E) → ((a : A) → P a → Q a) → IfOk r P → IfOk r Q
ok_by (Ok a) f h = f a h
ok_by (Err e) f h = h

-- What holds of the value that there is holds of none.
pub none_some : {A : Type 0} (P : A → Type 0) (o : Option A) → o ≡ None → IfSome o P
none_some P None e = tt
none_some P (Some x) e = cc

pub last_of : (rest less bs all : List Span) (b : Span) → rest ≡ less ++ b ∷ [] → rest ++ bs ≡ all → less ++ b ∷ bs ≡ all
last_of rest less bs all b e f = sym (append_assoc less (b ∷ []) bs) ∙ sym (ap (λ r. r ++ bs) e) ∙ f

-- The outcome of a trial of two trees, stated for what is left of the body.
module _ (u v : Universe) (limit : ℕ) (body : PatTree) (dropped more m : List Span) (s t : Tree) (found is : Trial) (a : v ≡ u) (b : s ≡ without dropped body) (c : t ≡ without m body) (d : m ≡ more) (e : found ≡ is) where
  pub verdict_found : IsVerdict v limit s t (verdict_of found) → IsVerdict u limit (without dropped body) (without more body) (verdict_of is)
  verdict_found h = subst (λ x. IsVerdict u limit (without dropped body) (without x body) (verdict_of is)) d (subst (λ x. IsVerdict u limit (without dropped body) x (verdict_of is)) c (subst (λ x. IsVerdict u limit x t (verdict_of is)) b (subst (λ x. IsVerdict x limit s t (verdict_of is)) a (subst (λ x. IsVerdict v limit s t (verdict_of x)) e h))))

  pub told_found : IsTrueTrial v s t found → IsTrueTrial u (without dropped body) (without more body) is
  told_found h = subst (λ x. IsTrueTrial u (without dropped body) (without x body) is) d (subst (λ x. IsTrueTrial u (without dropped body) x is) c (subst (λ x. IsTrueTrial u x t is) b (subst (λ x. IsTrueTrial x s t is) a (subst (λ x. IsTrueTrial v s t x) e h))))
