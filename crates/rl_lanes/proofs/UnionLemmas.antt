-- Lemmas about the union of the words whose indices are set in a word.
use Rattle.std.proofs.Common.{◌≡◌, ℕ, zero, suc, ◌<◌, ◌⊎◌, max, List, get_or, refl, sym, ap, ◌∙◌, inl, inr, arith, bit_or}
use Rattle.std.specs.Int.{bit_at}
use Rattle.std.proofs.lemmas.Bool.{cases_lt, cases_eq}
use Rattle.std.proofs.lemmas.Nat.Bits.{bit_at-lt, bit_at_or}

-- `union` is the union of the words whose indices are set in `chosen` and no longer in `left`.
pub record IsUnionBut (words : List ℕ) (chosen left union : ℕ) : Type 0 where
  pub inside : (i : ℕ) → bit_at left i ≡ 1 → bit_at chosen i ≡ 1
  pub held : (k : ℕ) → bit_at union k ≡ 1 → (i : ℕ) × (i < 64) × (bit_at chosen i ≡ 1) × (bit_at (get_or words i 0) k ≡ 1)
  pub each : (i k : ℕ) → i < 64 → bit_at chosen i ≡ 1 → bit_at (get_or words i 0) k ≡ 1 → (bit_at left i ≡ 1) ⊎ (bit_at union k ≡ 1)

either_bit : (p q : ℕ) → p < 2 → max p q ≡ 1 → (p ≡ 1) ⊎ (q ≡ 1)
either_bit zero q small e = inr (omega arith)
either_bit (suc zero) q small e = inl refl
either_bit (suc (suc p)) q small e = absurd (omega arith)

-- Adding the word at the lowest bit that is left.
pub IsUnionBut-more : (words : List ℕ) (chosen left union low rest w : ℕ) → IsUnionBut words chosen left union → low < 64 → bit_at left low ≡ 1 → ((i : ℕ) → i < low → bit_at left i ≡ 0) → ((i : ℕ) → bit_at rest i ≡ 1 → bit_at left i ≡ 1) → ((i k : ℕ) → i < k → bit_at left i ≡ 1 → bit_at left k ≡ 1 → bit_at rest k ≡ 1) → w ≡ get_or words low 0 → IsUnionBut words chosen rest (bit_or union w)
IsUnionBut-more words chosen left union low rest w joined small set below inside kept word_is = record {
  inside = λ i e. joined.inside i (inside i e);
  held = λ k e. elim (either_bit (bit_at union k) (bit_at w k) (bit_at-lt union k) (sym (bit_at_or union w k) ∙ e)) [
    | inl was ↦ joined.held k was
    | inr new ↦ (low, small, joined.inside low set, ap (λ n. bit_at n k) (sym word_is) ∙ new)
  ];
  each = λ i k lt on held. elim (joined.each i k lt on held) [
    | inr was ↦ inr (bit_at_or union w k ∙ omega (arith, was, bit_at-lt w k))
    | inl still ↦ elim (cases_eq i low) [
      | inl here ↦ inr (bit_at_or union w k ∙ omega (arith, ap (λ n. bit_at n k) word_is ∙ sym (ap (λ j. bit_at (get_or words j 0) k) here) ∙ held, bit_at-lt union k))
      | inr other ↦ elim (cases_lt i low) [
        | inl lower ↦ absurd (omega (arith, below i lower, still))
        | inr upper ↦ inl (kept low i (omega arith) set still)
      ]
    ]
  ];
}
