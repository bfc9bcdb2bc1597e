-- What is searched of the rows that were searched in vain.
use Rattle.std.proofs.Common.{◌≡◌, ◌≢◌, ℕ, zero, suc, ◌<◌, ◌⊎◌, inl, inr, List, length, get_or, set, replicate, Option, Some, None, IfSome, refl, sym, ◌∙◌, subst, arith}
use Rattle.std.proofs.lemmas.Bool.{cases_eq}
use Rattle.std.proofs.lemmas.List.{get_or-set_same, get_or-set_other, length-set}
use Rattle.rl_graph.specs.Graph.{Graph, edges_of}
use Rattle.rl_graph.specs.Parts.{PartTable}
use Rattle.rl_kernel.specs.Seats.{Seats, state_at}
use Rattle.rl_expo.specs.internal.Meeting.{Meets, own_part, NoneMeets, AreSearched}

-- A place with the row and the part of one whose moves don't meet.
pub none-again : (g : Graph) (s : Seats) (p : PartTable) (b i l : ℕ) → edges_of g (state_at s i) l ≡ edges_of g (state_at s b) l → own_part s p i ≡ own_part s p b → NoneMeets g s p b l → NoneMeets g s p i l
none-again g s p b i l row own none j k lt hk m =
    none j k lt (subst (λ (r : List ℕ). k < length r) row hk)
    (subst (λ (r : List ℕ). Meets s p (own_part s p b) (get_or r j 0) (get_or r k 0)) row
    (subst (λ (o : ℕ). Meets s p o (get_or (edges_of g (state_at s i) l) j 0) (get_or (edges_of g (state_at s i) l) k 0)) own m))

-- One more place is searched.
pub searched-more : (g : Graph) (s : Seats) (p : PartTable) (searched : List (Option ℕ)) (l i : ℕ) → AreSearched g s p searched → l < g.letters → i < length s.states → NoneMeets g s p i l
    → AreSearched g s p (set searched l (Some i))
searched-more g s p searched l i are hl hi none = record { size = length-set searched l (Some i) ∙ are.size; none = λ c j e. by c j e (cases_eq c l) }
  where
    by : (c j : ℕ) → get_or (set searched l (Some i)) c None ≡ Some j → (c ≡ l) ⊎ (c ≢ l) → (j < length s.states) × NoneMeets g s p j c
    by c j e (inr n) = are.none c j (sym (get_or-set_other searched l c (Some i) None n) ∙ e)
    by c j e (inl at) =
        let d : get_or (set searched l (Some i)) l None ≡ Some j = subst (λ (z : ℕ). get_or (set searched l (Some i)) z None ≡ Some j) at e in
        let o : Some i ≡ Some j = sym (get_or-set_same searched l (Some i) None (omega (arith, are.size, hl))) ∙ d in
        let same : i ≡ j = cc in
        subst (λ (z : ℕ). (j < length s.states) × NoneMeets g s p j z) (sym at) (subst (λ (z : ℕ). (z < length s.states) × NoneMeets g s p z l) same (hi, none))

none_there : (n l i : ℕ) → get_or (replicate {A = Option ℕ} n None) l None ≡ Some i → ⊥
none_there zero l i e = cc
none_there (suc n) zero i e = cc
none_there (suc n) (suc l) i e = none_there n l i e

as_some : (P : ℕ → Type 0) (o : Option ℕ) → ((b : ℕ) → o ≡ Some b → P b) → IfSome o P
as_some P (Some b) h = h b refl
as_some P None h = tt

-- What is known of the place of a letter.
pub searched-at : (g : Graph) (s : Seats) (p : PartTable) (searched : List (Option ℕ)) (l : ℕ) → AreSearched g s p searched → IfSome (get_or searched l None) (λ b. (b < length s.states) × NoneMeets g s p b l)
searched-at g s p searched l are = as_some (λ b. (b < length s.states) × NoneMeets g s p b l) (get_or searched l None) (are.none l)
