-- The samples of letters are enough.
use Rattle.std.proofs.Common.{◌≡◌, ℕ, ◌<◌, Bool, List, length, get_or, sym, subst, arith}
use Rattle.rl_ranges.specs.Letters.{LetterTable, IsLetters, class_of}
use Rattle.rl_ranges.proofs.LetterLemmas.{class_of-lt, class_of-only}
use Rattle.rl_spans.specs.internal.Codes.{AreEnough}

pub samples-enough : (sets others : List (ℕ → Bool)) (n : ℕ) (table : LetterTable) (codes : List ℕ) → sets ≡ others → IsLetters table sets n → codes ≡ table.samples
    → AreEnough others n codes
samples-enough sets others n table codes same h e =
    subst (λ l. AreEnough l n codes) same
    (subst (λ l. AreEnough sets n l) (sym e)
    (λ code lt.
    let k = class_of sets n code in
    let inside : class_of sets n code < length table.samples = omega (arith, class_of-lt sets n code lt, h.same_count) in
    let sample = h.same_sample (class_of sets n code) inside in
    (class_of sets n code, inside, class_of-only sets n code (get_or table.samples (class_of sets n code) 0) lt sample.within (sym sample.in_it))))
