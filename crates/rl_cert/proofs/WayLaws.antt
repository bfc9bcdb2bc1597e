-- The way of a family, anchor by anchor.
use Rattle.std.proofs.Common.{◌≡◌, ◌∙◌, ℕ, zero, suc, ◌+◌, ◌<◌, ◌↔◌, Bool, IsTrue, List, [], ◌∷◌, length, get_or, drop, refl, sym, ap, subst, arith}
use Rattle.std.proofs.lemmas.List.{drop_more, drop_all}
use Rattle.rl_prio.specs.Automaton.{Automaton}
use Rattle.rl_pairs.specs.declared.pair.Pair.{Pair}
use Rattle.rl_cert.specs.declared.certificate.Anchor.{Anchor}
use Rattle.rl_cert.specs.Ways.{IsWay}
use Rattle.rl_cert.specs.internal.WayParts.{IsLinkTo, IsEnd, Fits}

-- The value for an item that isn't there.
abbrev pub no_anchor : Anchor
no_anchor = record { r = 0; q = 0 }

module _ (a : Automaton) (next : ℕ → ℕ → List ℕ) (at : ℕ → Pair) (n : ℕ) where
  pub way-fits : (s : ℕ) (anchors : List Anchor) (heads pumps : List (List ℕ)) → IsWay a next at n s anchors heads pumps → Fits (length anchors) (length heads) (length pumps)
  way-fits s [] heads pumps w = absurd w
  way-fits s (z ∷ []) [] pumps w = absurd w
  way-fits s (z ∷ []) (x ∷ []) pumps w = absurd w
  way-fits s (z ∷ []) (x ∷ (last ∷ [])) [] w = absurd w
  way-fits s (z ∷ []) (x ∷ (last ∷ [])) (y ∷ []) w = (omega arith, refl, refl)
  way-fits s (z ∷ []) (x ∷ (last ∷ [])) (y ∷ (v ∷ pumps)) w = absurd w
  way-fits s (z ∷ []) (x ∷ (last ∷ (u ∷ heads))) pumps w = absurd w
  way-fits s (m ∷ (k ∷ anchors)) [] pumps w = absurd w
  way-fits s (m ∷ (k ∷ anchors)) (x ∷ heads) [] w = absurd w
  way-fits s (m ∷ (k ∷ anchors)) (x ∷ heads) (y ∷ pumps) w =
      let f = way-fits m.q (k ∷ anchors) heads pumps w.4 in
      (omega arith, ap suc f.1, ap suc f.2)

  pub same-way : (s : ℕ) (anchors others : List Anchor) (heads tops pumps turns : List (List ℕ)) → anchors ≡ others → heads ≡ tops → pumps ≡ turns
      → IsWay a next at n s anchors heads pumps → IsWay a next at n s others tops turns
  same-way s anchors others heads tops pumps turns e f g w =
      subst (λ (v : List (List ℕ)). IsWay a next at n s others tops v) g
      (subst (λ (v : List (List ℕ)). IsWay a next at n s others v pumps) f (subst (λ (v : List Anchor). IsWay a next at n s v heads pumps) e w))

  module _ (anchors : List Anchor) (heads pumps : List (List ℕ)) (f : Fits (length anchors) (length heads) (length pumps)) (s i : ℕ) where
    pub way-link : i + 1 < length anchors → IsWay a next at n s (drop i anchors) (drop i heads) (drop i pumps)
        ↔ (IsLinkTo next n s (get_or anchors i no_anchor) (get_or heads i []) (get_or pumps i []) × IsWay a next at n (get_or anchors i no_anchor).q (drop (i + 1) anchors) (drop (i + 1) heads) (drop (i + 1) pumps))
    way-link lt = (λ w. to (same-way s _ _ _ _ _ _ ea eh ep w), λ h. same-way s _ _ _ _ _ _ (sym ea) (sym eh) (sym ep) (from h))
      where
        k : Anchor
        k = get_or anchors (i + 1) no_anchor

        more : drop (i + 1) anchors ≡ k ∷ drop (i + 1 + 1) anchors
        more = drop_more anchors (i + 1) no_anchor lt

        ea : drop i anchors ≡ get_or anchors i no_anchor ∷ (k ∷ drop (i + 1 + 1) anchors)
        ea = drop_more anchors i no_anchor (omega (arith, lt)) ∙ ap (λ (l : List Anchor). get_or anchors i no_anchor ∷ l) more

        eh : drop i heads ≡ get_or heads i [] ∷ drop (i + 1) heads
        eh = drop_more heads i [] (omega (arith, lt, f.2))

        ep : drop i pumps ≡ get_or pumps i [] ∷ drop (i + 1) pumps
        ep = drop_more pumps i [] (omega (arith, lt, f.1))

        to : IsWay a next at n s (get_or anchors i no_anchor ∷ (k ∷ drop (i + 1 + 1) anchors)) (get_or heads i [] ∷ drop (i + 1) heads) (get_or pumps i [] ∷ drop (i + 1) pumps)
            → IsLinkTo next n s (get_or anchors i no_anchor) (get_or heads i []) (get_or pumps i []) × IsWay a next at n (get_or anchors i no_anchor).q (drop (i + 1) anchors) (drop (i + 1) heads) (drop (i + 1) pumps)
        to w = ((w.0, w.1, w.2, w.3), same-way (get_or anchors i no_anchor).q _ _ _ _ _ _ (sym more) refl refl w.4)

        from : IsLinkTo next n s (get_or anchors i no_anchor) (get_or heads i []) (get_or pumps i []) × IsWay a next at n (get_or anchors i no_anchor).q (drop (i + 1) anchors) (drop (i + 1) heads) (drop (i + 1) pumps)
            → IsWay a next at n s (get_or anchors i no_anchor ∷ (k ∷ drop (i + 1 + 1) anchors)) (get_or heads i [] ∷ drop (i + 1) heads) (get_or pumps i [] ∷ drop (i + 1) pumps)
        from h = let l = h.0 in (l.0, l.1, l.2, l.3, same-way (get_or anchors i no_anchor).q _ _ _ _ _ _ more refl refl h.1)

    pub way-end : i + 1 ≡ length anchors → IsWay a next at n s (drop i anchors) (drop i heads) (drop i pumps)
        ↔ IsEnd a next at n s (get_or anchors i no_anchor) (get_or heads i []) (get_or pumps i []) (get_or heads (i + 1) [])
    way-end e = (λ w. same-way s _ _ _ _ _ _ ea eh ep w, λ h. same-way s _ _ _ _ _ _ (sym ea) (sym eh) (sym ep) h)
      where
        ea : drop i anchors ≡ get_or anchors i no_anchor ∷ []
        ea = drop_more anchors i no_anchor (omega (arith, e)) ∙ ap (λ (l : List Anchor). get_or anchors i no_anchor ∷ l) (drop_all (i + 1) anchors (omega (arith, e)))

        eh : drop i heads ≡ get_or heads i [] ∷ (get_or heads (i + 1) [] ∷ [])
        eh = drop_more heads i [] (omega (arith, e, f.2)) ∙ ap (λ (l : List (List ℕ)). get_or heads i [] ∷ l)
            (drop_more heads (i + 1) [] (omega (arith, e, f.2)) ∙ ap (λ (l : List (List ℕ)). get_or heads (i + 1) [] ∷ l) (drop_all (i + 1 + 1) heads (omega (arith, e, f.2))))

        ep : drop i pumps ≡ get_or pumps i [] ∷ []
        ep = drop_more pumps i [] (omega (arith, e, f.1)) ∙ ap (λ (l : List (List ℕ)). get_or pumps i [] ∷ l) (drop_all (i + 1) pumps (omega (arith, e, f.1)))

same-default : (l : List (List ℕ)) (i : ℕ) (x y : List ℕ) → i < length l → get_or l i x ≡ get_or l i y
same-default [] i x y lt = absurd (omega (arith, lt))
same-default (w ∷ l) zero x y lt = refl
same-default (w ∷ l) (suc i) x y lt = same-default l i x y (omega (arith, lt))

-- A word of a list that was looked up.
pub word-at : (l : List (List ℕ)) (i : ℕ) (x y : List ℕ) → i < length l → x ≡ get_or l i x → y ≡ x → y ≡ get_or l i []
word-at l i x y lt is e = e ∙ (is ∙ same-default l i x [] lt)

-- The last anchor decides.
pub way-decided : (a : Automaton) (next : ℕ → ℕ → List ℕ) (at : ℕ → Pair) (n : ℕ) (anchors : List Anchor) (heads pumps : List (List ℕ)) → Fits (length anchors) (length heads) (length pumps) → (s i k : ℕ) (head pump last : List ℕ)
    → i ≡ k → k + 1 ≡ length anchors → head ≡ get_or heads k [] → pump ≡ get_or pumps k [] → last ≡ get_or heads (length anchors) []
    → (IsWay a next at n 0 anchors heads pumps → IsWay a next at n s (drop i anchors) (drop i heads) (drop i pumps))
    → (IsWay a next at n s (drop i anchors) (drop i heads) (drop i pumps) → IsWay a next at n 0 anchors heads pumps)
    → (yes : Bool) → IsTrue yes ↔ IsEnd a next at n s (get_or anchors k no_anchor) head pump last → IsTrue yes ↔ IsWay a next at n 0 anchors heads pumps
way-decided a next at n anchors heads pumps f s i k head pump last e l eh ep el there back held iff =
    let d = way-end a next at n anchors heads pumps f s i (ap (λ (j : ℕ). j + 1) e ∙ l) in
    let same = same-end (get_or anchors i no_anchor) (get_or anchors k no_anchor) (get_or heads i []) head (get_or pumps i []) pump (get_or heads (i + 1) []) last
    (ap (λ (j : ℕ). get_or anchors j no_anchor) e) (ap (λ (j : ℕ). get_or heads j []) e ∙ sym eh) (ap (λ (j : ℕ). get_or pumps j []) e ∙ sym ep) (ap (λ (j : ℕ). get_or heads j []) (ap (λ (j : ℕ). j + 1) e ∙ l) ∙ sym el) in
    (λ t. back (d.1 (same.1 (iff.0 t))), λ w. iff.1 (same.0 (d.0 (there w))))
  where
    same-end : (z y : Anchor) (x u v w p q : List ℕ) → z ≡ y → x ≡ u → v ≡ w → p ≡ q → IsEnd a next at n s z x v p ↔ IsEnd a next at n s y u w q
    same-end z y x u v w p q ez ex ev ep' =
        let E : IsEnd a next at n s z x v p ≡ IsEnd a next at n s y u w q = λ j. IsEnd a next at n s (ez j) (ex j) (ev j) (ep' j) in
        (subst (λ (T : Type 0). T) E, subst (λ (T : Type 0). T) (sym E))
