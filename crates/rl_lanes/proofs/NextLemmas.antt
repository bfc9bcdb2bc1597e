-- Lemmas about the search for the next place that is true.
use Rattle.std.proofs.Common.{◌≡◌, ℕ, ◌+◌, ◌*◌, ◌/◌, ◌%◌, ◌<◌, ◌≤◌, false, eqb, List, length, get_or, sym, ap, ◌∙◌, inl, inr, arith}
use Rattle.std.specs.Int.{bit_at}
use Rattle.std.proofs.lemmas.Bool.{eq-eqb, cases_lt}
use Rattle.std.proofs.lemmas.Nat.Bits.{bit_at-zero}
use Rattle.rl_lanes.specs.Packed.{bit}
use Rattle.rl_lanes.specs.internal.PackedWords.{NoBitFrom, IsLeastBitFrom}
use Rattle.rl_lanes.proofs.PackedLemmas.{bit-at, bit_past}

-- No place from `start` up to `end` is true.
abbrev pub NoBitBetween : List ℕ → ℕ → ℕ → Type 0
NoBitBetween words start end = (k : ℕ) → start ≤ k → k < end → bit words k ≡ false

off : (b : ℕ) → b ≡ 0 → eqb b 1 ≡ false
off b e = ap (λ n. eqb n 1) e

-- The word `w` holds the bits of the word of `start` from that place on, and its bits below are 0.
pub record IsRest (words : List ℕ) (start w : ℕ) : Type 0 where
  pub below : (k : ℕ) → k < start % 64 → bit_at w k ≡ 0
  pub kept : (k : ℕ) → start % 64 ≤ k → k < 64 → bit_at w k ≡ bit_at (get_or words (start / 64) 0) k

-- A place in the word of `start`, read from the word `w`.
rest_bit : (words : List ℕ) (start w k : ℕ) → IsRest words start w → start ≤ k → k / 64 ≡ start / 64 → bit words k ≡ eqb (bit_at w (k % 64)) 1
unfolding bit
rest_bit words start w k rest ge same =
    ap (λ n. eqb (bit_at (get_or words n 0) (k % 64)) 1) same ∙ ap (λ b. eqb b 1) (sym (rest.kept (k % 64) (omega arith) (omega arith)))

pub first_word_empty : (words : List ℕ) (start w : ℕ) → IsRest words start w → w ≡ 0 → NoBitBetween words start (64 * (start / 64 + 1))
first_word_empty words start w rest e k ge lt =
    rest_bit words start w k rest ge (omega arith) ∙ off _ (ap (λ n. bit_at n (k % 64)) e ∙ bit_at-zero (k % 64))

pub first_word_found : (words : List ℕ) (start w low : ℕ) → IsRest words start w → low < 64 → bit_at w low ≡ 1 → ((k : ℕ) → k < low → bit_at w k ≡ 0) → IsLeastBitFrom words start (64 * (start / 64) + low)
first_word_found words start w low rest small set below =
    elim (cases_lt low (start % 64)) [
      | inl lt ↦ absurd (omega (arith, rest.below low lt))
      | inr ge ↦ record {
        after = omega arith;
        member = bit-at words (start / 64) low small ∙ eq-eqb _ 1 (sym (rest.kept low ge small) ∙ set);
        before = λ k from lt. rest_bit words start w k rest from (omega arith) ∙ off _ (below (k % 64) (omega arith));
      }
    ]

pub word_empty : (words : List ℕ) (start at : ℕ) → NoBitBetween words start (64 * at) → get_or words at 0 ≡ 0 → NoBitBetween words start (64 * (at + 1))
unfolding bit
word_empty words start at none e k ge lt =
    elim (cases_lt k (64 * at)) [
      | inl before ↦ none k ge before
      | inr from ↦
          let here : k / 64 ≡ at = omega arith in
          off _ (ap (λ n. bit_at (get_or words n 0) (k % 64)) here ∙ ap (λ n. bit_at n (k % 64)) e ∙ bit_at-zero (k % 64))
    ]

pub word_found : (words : List ℕ) (start at low : ℕ) → start ≤ 64 * at → NoBitBetween words start (64 * at) → low < 64 → bit_at (get_or words at 0) low ≡ 1 → ((k : ℕ) → k < low → bit_at (get_or words at 0) k ≡ 0) → IsLeastBitFrom words start (64 * at + low)
unfolding bit
word_found words start at low ge none small set below = record {
  after = omega arith;
  member = bit-at words at low small ∙ eq-eqb _ 1 set;
  before = λ k from lt. elim (cases_lt k (64 * at)) [
    | inl before ↦ none k from before
    | inr past ↦
        let here : k / 64 ≡ at = omega arith in
        off _ (ap (λ n. bit_at (get_or words n 0) (k % 64)) here ∙ below (k % 64) (omega arith))
  ];
}

pub no_word_left : (words : List ℕ) (start at : ℕ) → NoBitBetween words start (64 * at) → length words ≤ at → NoBitFrom words start
no_word_left words start at none past k ge =
    elim (cases_lt k (64 * at)) [ inl before ↦ none k ge before | inr from ↦ bit_past words k (omega arith) ]
