-- A numeral that doesn't fit in 32 bits is above every range of such numbers.
use Rattle.std.proofs.Common.{◌≡◌, ◌<◌, ◌^◌, ◌&&◌, ℕ, Bool, true, cond, length, leb, None, Some, Err, inl, inr, arith, rules}
use Rattle.std.specs.Char.{is_ascii_digit}
use Rattle.std.specs.List.{list_all}
use Rattle.std.specs.Str.Parse.{ParsesUnsigned, digits_value}
use Rattle.std.proofs.lemmas.Bool.{cases_lt}
use Rattle.std.proofs.lemmas.Bool.Decides.{nat_tests}
use Rattle.std.proofs.lemmas.Str.Parse.{IsNumeralModel, numerals_by_value, parse_digits}
use Rattle.clap.proofs.WalkLemmas.{both}
use Rattle.clap.specs.Walk.{Text}
use Rattle.rl_words.specs.declared.ranges.NumberRange.{NumberRange}
use Rattle.rl_words.specs.Values.{is_filled, is_numeral, number_of}

digits_model : IsNumeralModel (λ ds. list_all is_ascii_digit ds ≡ true) (digits_value 10)
digits_model = numerals_by_value _ (search rules)

filled_length : (text : Text) → is_filled text ≡ true → 0 < length text
filled_length text filled = grind (arith, nat_tests)

above_range : (fits : Bool) (low high number : ℕ) → high < number → None ≡ cond (fits && (leb low number && leb number high)) (Some number) None
above_range fits low high number above = grind (arith, nat_tests)

pub too_large : {E : Type 0} (digits : ℕ) (range : NumberRange) (text : Text) (e : E) → is_numeral digits text ≡ true → ParsesUnsigned 32 10 text (Err e) → range.high < 2 ^ 32
    → None ≡ number_of digits range text
too_large {E} digits range text e numeral parsed small =
    let parts = both (is_filled text) _ numeral in
    let inner = both (leb (length text) digits) _ parts.1 in
    let refused = parse_digits digits_model {E = E} 32 text (Err e) parsed inner.1 in
    elim (cases_lt (digits_value 10 text) (2 ^ 32)) [
      | inl fits ↦ absurd (refused (filled_length text parts.0, fits))
      | inr large ↦ above_range (is_numeral digits text) range.low range.high (digits_value 10 text) (omega arith)
    ]
