-- The states of each component in order.
use Rattle.std.proofs.Common.{◌≡◌, ◌≢◌, ℕ, ◌+◌, ◌<◌, ◌≤◌, ◌⊎◌, inl, inr, List, get_or, set, replicate, sym, ◌∙◌, ap, subst, arith}
use Rattle.std.proofs.lemmas.Bool.{cases_eq, cases_lt}
use Rattle.std.proofs.lemmas.List.{get_or-replicate, length-replicate, length-set, get_or-set_same, get_or-set_other}
use Rattle.rl_graph.specs.Parts.{PartTable, number_of}
use Rattle.rl_degree.specs.internal.Groups.{IsFirstFrom, AreGroupsFrom}

-- A number that isn't below another one is the same or above.
above : (k q : ℕ) → k ≤ q → q ≢ k → k + 1 ≤ q
above k q h ne = by (cases_lt k q)
  where
    by : (k < q) ⊎ (q ≤ k) → k + 1 ≤ q
    by (inl lt) = omega arith
    by (inr le) = absurd (ne (omega arith))

-- From `n` on there are no states.
pub groups-none : (p : PartTable) (n : ℕ) → AreGroupsFrom p n n (replicate n n) (replicate n n)
groups-none p n =
    record {
      firsts_size = length-replicate n n;
      nexts_size = length-replicate n n;
      first = λ c h. subst (IsFirstFrom p n c n) (sym (get_or-replicate n c n 0 h)) (none c);
      next = λ q h k. absurd (omega arith);
    }
  where
    none : (c : ℕ) → IsFirstFrom p n c n n
    none c = record { above = omega arith; within = omega arith; member = λ h. absurd (omega arith); least = λ q h k e. omega arith }

-- One more state comes before the others.
pub groups-more : (p : PartTable) (n k : ℕ) (firsts nexts : List ℕ) → k < n → number_of p k < n → AreGroupsFrom p n (k + 1) firsts nexts
    → AreGroupsFrom p n k (set firsts (number_of p k) k) (set nexts k (get_or firsts (number_of p k) 0))
groups-more p n k firsts nexts hk hc old =
    record {
      firsts_size = length-set firsts own k ∙ old.firsts_size;
      nexts_size = length-set nexts k (get_or firsts own 0) ∙ old.nexts_size;
      first = λ c h. to_first c h (cases_eq c own);
      next = λ q h j. to_next q h j (cases_eq q k);
    }
  where
    own : ℕ
    own = number_of p k

    here : (c : ℕ) → c ≡ number_of p k → IsFirstFrom p n c k k
    here c e = record { above = omega arith; within = omega arith; member = λ _. sym e; least = λ q h j d. omega arith }

    earlier : (c : ℕ) → c ≢ number_of p k → (f : ℕ) → IsFirstFrom p n c (k + 1) f → IsFirstFrom p n c k f
    earlier c ne f is = record { above = omega (arith, is.above); within = is.within; member = is.member; least = λ q h j d. by q j d (cases_eq q k) h }
      where
        by : (q : ℕ) → q < f → number_of p q ≡ c → (q ≡ k) ⊎ (q ≢ k) → k ≤ q → ⊥
        by q j d (inl e) h = ne (sym d ∙ ap (number_of p) e)
        by q j d (inr e) h = is.least q (above k q h e) j d

    to_first : (c : ℕ) → c < n → (c ≡ number_of p k) ⊎ (c ≢ number_of p k) → IsFirstFrom p n c k (get_or (set firsts (number_of p k) k) c 0)
    to_first c h (inl e) =
        subst (IsFirstFrom p n c k) (sym (ap (λ z. get_or (set firsts own k) z 0) e ∙ get_or-set_same firsts own k 0 (omega (arith, old.firsts_size)))) (here c e)
    to_first c h (inr ne) =
        subst (IsFirstFrom p n c k) (sym (get_or-set_other firsts own c k 0 ne)) (earlier c ne (get_or firsts c 0) (old.first c h))

    to_next : (q : ℕ) → k ≤ q → q < n → (q ≡ k) ⊎ (q ≢ k) → IsFirstFrom p n (number_of p q) (q + 1) (get_or (set nexts k (get_or firsts (number_of p k) 0)) q 0)
    to_next q h j (inl e) =
        subst (IsFirstFrom p n (number_of p q) (q + 1)) (sym (ap (λ z. get_or (set nexts k (get_or firsts own 0)) z 0) e ∙ get_or-set_same nexts k (get_or firsts own 0) 0 (omega (arith, old.nexts_size))))
        (subst (λ (z : ℕ). IsFirstFrom p n (number_of p z) (z + 1) (get_or firsts own 0)) (sym e) (old.first own hc))
    to_next q h j (inr ne) =
        subst (IsFirstFrom p n (number_of p q) (q + 1)) (sym (get_or-set_other nexts k q (get_or firsts own 0) 0 ne)) (old.next q (above k q h ne) j)

-- If something holds of a component's states before `k` and of `k`, it holds of those before the next one.
pub each-below : (P : ℕ → Type 0) (p : PartTable) (n k c to : ℕ) → IsFirstFrom p n c (k + 1) to → ((q : ℕ) → q < k → number_of p q ≡ c → P q) → P k → (q : ℕ) → q < to → number_of p q ≡ c → P q
each-below P p n k c to is old here q h e = by (cases_lt q k) (cases_eq q k)
  where
    by : (q < k) ⊎ (k ≤ q) → (q ≡ k) ⊎ (q ≢ k) → P q
    by (inl a) b = old q a e
    by (inr a) (inl b) = subst P (sym b) here
    by (inr a) (inr b) = absurd (is.least q (above k q a b) h e)
