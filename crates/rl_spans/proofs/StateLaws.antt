-- The states of threads. A step leads to states of the tree alone.
use Rattle.std.proofs.Common.{◌≡◌, ℕ, suc, ◌<◌, Bool, true, false, List, [], ◌∷◌, length, get_or, All, inl, inr, arith}
use Rattle.std.specs.Prelude.{◌==◌, if◌then◌else◌}
use Rattle.std.proofs.lemmas.Bool.{cases_lt, cond_both}
use Rattle.std.proofs.lemmas.List.{get_or_past}
use Rattle.std.proofs.lemmas.List.Elements.{All-append, All-nil, All-cons, All-head, All-tail}
use Rattle.rl_marks.specs.declared.threads.Thread.{Thread}
use Rattle.rl_marks.specs.declared.threads.Try.{Try}
use Rattle.rl_marks.specs.declared.threads.Try.TheVariants.{Goes as goes, Stops as stops}
use Rattle.rl_marks.specs.internal.Caps.{no_caps}
use Rattle.rl_marks.specs.internal.Threads.{thread, without, distinct}
use Rattle.rl_spans.specs.internal.Shown.{taken_by}

module _ (n : ℕ) where
  -- The threads are in the first `n` states.
  abbrev pub AreInside : List Thread → Type 0
  AreInside l = All (λ (t : Thread). t.state < n) l

  without-inside : (q : ℕ) (l : List Thread) → AreInside l → AreInside (without q l)
  without-inside q [] all = all
  without-inside q (t ∷ l) all =
      let rest = without-inside q l (All-tail (λ (t : Thread). t.state < n) t l all) in
      cond_both (q == t.state) (without q l) (t ∷ without q l) AreInside
      (λ _. rest) (λ _. All-cons (λ (t : Thread). t.state < n) t (without q l) (All-head (λ (t : Thread). t.state < n) t l all) rest)

  pub distinct-inside : (l : List Thread) → AreInside l → AreInside (distinct l)
  distinct-inside [] all = all
  distinct-inside (t ∷ l) all =
      All-cons (λ (t : Thread). t.state < n) t (without t.state (distinct l)) (All-head (λ (t : Thread). t.state < n) t l all)
      (without-inside t.state (distinct l) (distinct-inside l (All-tail (λ (t : Thread). t.state < n) t l all)))

  taken-below : (takes : List Bool) → length takes < n → (p : ℕ) → get_or takes p false ≡ true → suc p < n
  taken-below takes few p e = elim (cases_lt p (length takes)) [
    | inl h ↦ omega arith
    | inr h ↦ let past : get_or takes p false ≡ false = get_or_past takes p false h in absurd (cc)
  ]

  pub taken-inside : (takes : List Bool) → length takes < n → (accepts : Bool) (l : List Try) → AreInside (taken_by takes accepts l)
  taken-inside takes few accepts [] = All-nil (λ (t : Thread). t.state < n)
  taken-inside takes few accepts (goes p c ∷ l) =
      All-append (λ (t : Thread). t.state < n) (if get_or takes p false then thread (suc p) c ∷ [] else []) (taken_by takes accepts l)
      (cond_both (get_or takes p false) (thread (suc p) c ∷ []) [] AreInside
      (λ e. All-cons (λ (t : Thread). t.state < n) (thread (suc p) c) [] (taken-below takes few p e) (All-nil (λ (t : Thread). t.state < n)))
      (λ _. All-nil (λ (t : Thread). t.state < n)))
      (taken-inside takes few accepts l)
  taken-inside takes few accepts (stops c ∷ l) =
      cond_both accepts [] (taken_by takes accepts l) AreInside (λ _. All-nil (λ (t : Thread). t.state < n)) (λ _. taken-inside takes few accepts l)

  pub begin-inside : 0 < n → AreInside (thread 0 no_caps ∷ [])
  begin-inside some = All-cons (λ (t : Thread). t.state < n) (thread 0 no_caps) [] some (All-nil (λ (t : Thread). t.state < n))
