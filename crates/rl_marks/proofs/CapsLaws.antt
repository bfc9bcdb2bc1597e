-- What is known of groups: after spans, and as the last span of a group.
use Rattle.std.proofs.Common.{◌≡◌, ℕ, Bool, true, false, ◌==◌, nat_lt, List, [], ◌∷◌, ◌++◌, Some, if◌then◌else◌, refl, sym, ap, ◌∙◌}
use Rattle.std.proofs.lemmas.Bool.{cond_both, eqb-true, eq-eqb}
use Rattle.rl_marks.specs.Finds.{GroupSpan, span_or, group_after, last_after}
use Rattle.rl_marks.specs.internal.Caps.{Caps, put, opened, added, caps_after, span_of_group}

pub caps_after-append : (s t : List GroupSpan) (c : Caps) → caps_after (s ++ t) c ≡ caps_after t (caps_after s c)
caps_after-append [] t c = refl
caps_after-append (x ∷ s) t c = caps_after-append s t (added x c)

pub caps_after-opened : (spans : List GroupSpan) (i : ℕ) (c : Caps) → caps_after spans (opened i c) ≡ opened i (caps_after spans c)
caps_after-opened [] i c = refl
caps_after-opened (s ∷ spans) i c = caps_after-opened spans i (added s c)

not_both : (b : Bool) → b ≡ false → b ≡ true → ⊥
not_both b p q = cc

skip : {A : Type 0} (b c : Bool) (x y z : A) → (c ≡ true → b ≡ true) → ◌≡◌ {A = A} (if b then x else z) (if b then x else (if c then y else z))
skip true c x y z f = refl
skip false true x y z f = absurd (not_both false refl (f refl))
skip false false x y z f = refl

swap : {A : Type 0} (b c : Bool) (x y z : A) → (b ≡ true → c ≡ true → ⊥)
    → ◌≡◌ {A = A} (if c then y else (if b then x else z)) (if b then x else (if c then y else z))
swap true true x y z f = absurd (f refl refl)
swap true false x y z f = refl
swap false true x y z f = refl
swap false false x y z f = refl

pub held-put : (n : ℕ) (s : GroupSpan) (l : List GroupSpan) → span_of_group n (put s l) ≡ span_or n (span_of_group n l) s
held-put n s [] = refl
held-put n s (t ∷ l) =
    let goal = λ (x : List GroupSpan). span_of_group n x ≡ span_or n (span_of_group n (t ∷ l)) s in
    cond_both (nat_lt s.number t.number) (s ∷ t ∷ l) (if s.number == t.number then s ∷ l else t ∷ put s l) goal
    (λ _. refl)
    (λ _. cond_both (s.number == t.number) (s ∷ l) (t ∷ put s l) goal
    (λ e. skip (n == s.number) (n == t.number) (Some (s.from, s.upto)) (Some (t.from, t.upto)) (span_of_group n l)
    (λ h. eq-eqb n s.number (eqb-true n t.number h ∙ sym (eqb-true s.number t.number e))))
    (λ e. ap (λ x. if n == t.number then Some (t.from, t.upto) else x) (held-put n s l)
    ∙ swap (n == s.number) (n == t.number) (Some (s.from, s.upto)) (Some (t.from, t.upto)) (span_of_group n l)
    (λ h k. not_both (s.number == t.number) e (eq-eqb s.number t.number (sym (eqb-true n s.number h) ∙ eqb-true n t.number k)))))

-- The span that is held of a group is the last one.
pub group-caps : (n : ℕ) (spans : List GroupSpan) (c : Caps) → span_of_group n (caps_after spans c).held ≡ group_after n (span_of_group n c.held) spans
group-caps n [] c = refl
group-caps n (s ∷ spans) c = group-caps n spans (added s c) ∙ ap (λ k. group_after n k spans) (held-put n s c.held)

pub last-caps : (spans : List GroupSpan) (c : Caps) → (caps_after spans c).last ≡ last_after c.last spans
last-caps [] c = refl
last-caps (s ∷ spans) c = last-caps spans (added s c)
