-- The list of the starts, as it grows.
use Rattle.std.proofs.Common.{◌≡◌, ◌∙◌, ℕ, ◌+◌, ◌<◌, ◌≤◌, ◌⊎◌, inl, inr, Bool, List, [], ◌∷◌, ◌++◌, sym, ap₂, subst, arith}
use Rattle.std.proofs.lemmas.Bool.{cases_lt}
use Rattle.rl_graph.specs.Paths.{Has}
use Rattle.rl_graph.proofs.Sums.{Has-push, Has-left, Has-last}
use Rattle.rl_numbers.specs.Starts.{IsStart, start_code, AreStartsUpTo}

module _ (n : ℕ) (rank : ℕ → ℕ) (cycle : ℕ → Bool) where
  pub starts-none : AreStartsUpTo n rank cycle 0 0 []
  starts-none = record { sound = λ s i. absurd i; whole = λ r q _ _ _ b. absurd (none r q b) }
    where
      none : (r q : ℕ) → (r < 0) ⊎ ((r ≡ 0) × (q < 0)) → ⊥
      none r q (inl a) = omega (arith, a)
      none r q (inr a) = omega (arith, a.1)

  pub starts-push : (r q x : ℕ) (old new : List ℕ) → r < n → q < n → IsStart rank cycle r q → x ≡ start_code n r q → new ≡ old ++ x ∷ [] → AreStartsUpTo n rank cycle r q old → AreStartsUpTo n rank cycle r (q + 1) new
  starts-push r q x old new rin qin is e more so = subst (AreStartsUpTo n rank cycle r (q + 1)) (sym more) (record { sound = sound; whole = whole })
    where
      sound : (s : ℕ) → Has s (old ++ x ∷ []) → (r' : ℕ) × (q' : ℕ) × (r' < n) × (q' < n) × IsStart rank cycle r' q' × (s ≡ start_code n r' q')
      sound s i = by (Has-push s x old i)
        where
          by : Has s old ⊎ (s ≡ x) → (r' : ℕ) × (q' : ℕ) × (r' < n) × (q' < n) × IsStart rank cycle r' q' × (s ≡ start_code n r' q')
          by (inl a) = so.sound s a
          by (inr a) = (r, q, rin, qin, is, a ∙ e)

      whole : (r' q' : ℕ) → r' < n → q' < n → IsStart rank cycle r' q' → (r' < r) ⊎ ((r' ≡ r) × (q' < q + 1)) → Has (start_code n r' q') (old ++ x ∷ [])
      whole r' q' a b c (inl d) = Has-left (start_code n r' q') old (x ∷ []) (so.whole r' q' a b c (inl d))
      whole r' q' a b c (inr d) = by (cases_lt q' q)
        where
          by : (q' < q) ⊎ (q ≤ q') → Has (start_code n r' q') (old ++ x ∷ [])
          by (inl k) = Has-left (start_code n r' q') old (x ∷ []) (so.whole r' q' a b c (inr (d.0, k)))
          by (inr k) =
              let same : q' ≡ q = omega (arith, d.1, k) in
              subst (λ (z : ℕ). Has z (old ++ x ∷ [])) (e ∙ sym (ap₂ (start_code n) d.0 same)) (Has-last x old)

  pub starts-pass : (r q : ℕ) (l : List ℕ) → (IsStart rank cycle r q → ⊥) → AreStartsUpTo n rank cycle r q l → AreStartsUpTo n rank cycle r (q + 1) l
  starts-pass r q l never so = record { sound = so.sound; whole = whole }
    where
      whole : (r' q' : ℕ) → r' < n → q' < n → IsStart rank cycle r' q' → (r' < r) ⊎ ((r' ≡ r) × (q' < q + 1)) → Has (start_code n r' q') l
      whole r' q' a b c (inl d) = so.whole r' q' a b c (inl d)
      whole r' q' a b c (inr d) = by (cases_lt q' q)
        where
          by : (q' < q) ⊎ (q ≤ q') → Has (start_code n r' q') l
          by (inl k) = so.whole r' q' a b c (inr (d.0, k))
          by (inr k) =
              let same : q' ≡ q = omega (arith, d.1, k) in
              absurd (never (subst (λ (z : ℕ). IsStart rank cycle z q) d.0 (subst (IsStart rank cycle r') same c)))

  pub starts-row : (r q : ℕ) (l : List ℕ) → n ≤ q → AreStartsUpTo n rank cycle r q l → AreStartsUpTo n rank cycle (r + 1) 0 l
  starts-row r q l past so = record { sound = so.sound; whole = whole }
    where
      whole : (r' q' : ℕ) → r' < n → q' < n → IsStart rank cycle r' q' → (r' < r + 1) ⊎ ((r' ≡ r + 1) × (q' < 0)) → Has (start_code n r' q') l
      whole r' q' a b c (inr d) = absurd (omega (arith, d.1))
      whole r' q' a b c (inl d) = by (cases_lt r' r)
        where
          by : (r' < r) ⊎ (r ≤ r') → Has (start_code n r' q') l
          by (inl k) = so.whole r' q' a b c (inl k)
          by (inr k) = so.whole r' q' a b c (inr (omega (arith, d, k), omega (arith, b, past)))

  pub starts-end : (k : ℕ) (l : List ℕ) → n ≤ k → AreStartsUpTo n rank cycle k 0 l → AreStartsUpTo n rank cycle n 0 l
  starts-end k l past so = record { sound = so.sound; whole = λ r q a b c _. so.whole r q a b c (inl (omega (arith, a, past))) }
