-- For the contracts of private functions: lists of words of 64 bits, and the eight words from an index `at` on. Two
-- words at the same index of two lists are a pair.
use Rattle.std.specs.Prelude.{◌≡◌, ◌≢◌, ℕ, ◌+◌, ◌<◌, ◌≤◌, List, length, slice_index, bit_and}
use Rattle.std.specs.Int.{bit_at, bit_not, w64}

-- The word with the bits that are set in `x` and not in `y`.
abbrev pub and_not : ℕ → ℕ → ℕ
and_not x y = bit_and x (bit_not w64 y)

-- Holds if `new` is `old` with each of the eight words from `at` on replaced by the result of `f` for it and the word
-- at the same index in `other`.
pub record JoinsAt (f : ℕ → ℕ → ℕ) (at : ℕ) (old other new : List ℕ) : Type 0 where
  pub long : length new ≡ length old
  pub below : (k : ℕ) → k < at → slice_index new k ≡ slice_index old k
  pub inside : (k : ℕ) → at ≤ k → k < at + 8 → slice_index new k ≡ f (slice_index old k) (slice_index other k)
  pub above : (k : ℕ) → at + 8 ≤ k → slice_index new k ≡ slice_index old k

-- Holds if `new` is `old` with each word replaced by the result of `f` for it and the word at the same index in
-- `other`.
pub record JoinsEach (f : ℕ → ℕ → ℕ) (old other new : List ℕ) : Type 0 where
  pub long : length new ≡ length old
  pub each : (k : ℕ) → k < length old → slice_index new k ≡ f (slice_index old k) (slice_index other k)

-- Holds if some word isn't 0.
abbrev pub SomeWord : List ℕ → Type 0
SomeWord words = (k : ℕ) × (k < length words) × (slice_index words k ≢ 0)

-- Holds if all words are 0.
abbrev pub NoWord : List ℕ → Type 0
NoWord words = (k : ℕ) → k < length words → slice_index words k ≡ 0

-- Holds if `f` isn't 0 for some pair of words.
abbrev pub SomePair : (ℕ → ℕ → ℕ) → List ℕ → List ℕ → Type 0
SomePair f a b = (k : ℕ) × (k < length a) × (f (slice_index a k) (slice_index b k) ≢ 0)

-- Holds if `f` is 0 for all pairs of words.
abbrev pub NoPair : (ℕ → ℕ → ℕ) → List ℕ → List ℕ → Type 0
NoPair f a b = (k : ℕ) → k < length a → f (slice_index a k) (slice_index b k) ≡ 0

-- Holds if `f` isn't 0 for some of the eight pairs of words from `at` on.
abbrev pub SomePairAt : (ℕ → ℕ → ℕ) → ℕ → List ℕ → List ℕ → Type 0
SomePairAt f at a b = (k : ℕ) × (at ≤ k) × (k < at + 8) × (f (slice_index a k) (slice_index b k) ≢ 0)

-- Holds if `f` is 0 for all of the eight pairs of words from `at` on.
abbrev pub NoPairAt : (ℕ → ℕ → ℕ) → ℕ → List ℕ → List ℕ → Type 0
NoPairAt f at a b = (k : ℕ) → at ≤ k → k < at + 8 → f (slice_index a k) (slice_index b k) ≡ 0

-- Holds if `union` is the bitwise union of the words whose indices, from 0 to 63, are set as bits in `chosen`.
pub record IsUnionOf (words : List ℕ) (chosen union : ℕ) : Type 0 where
  pub held : (k : ℕ) → bit_at union k ≡ 1 → (i : ℕ) × (i < 64) × (bit_at chosen i ≡ 1) × (bit_at (slice_index words i) k ≡ 1)
  pub each : (i k : ℕ) → i < 64 → bit_at chosen i ≡ 1 → bit_at (slice_index words i) k ≡ 1 → bit_at union k ≡ 1
