-- The tables of ranges are the named classes. Each table is compared with its property step by step.
use Rattle.std.proofs.Common.{Bool, List, [], ap, arith, false, inl, inr, leb-true, nat_le, nat_lt, refl, sym, true, ℕ, ◌&&◌, ◌+◌, ◌<◌, ◌==◌, ◌||◌, ◌∙◌, ◌∷◌, ◌≡◌}
use Rattle.std.proofs.Math.Bool.{beq}
use Rattle.std.proofs.lemmas.Bool.{and_parts, false≢true, ltb-true, or_cases}
use Rattle.std.proofs.lemmas.Bool.Decides.{nat_tests}
use Rattle.ucd_category.proofs.GeneralCategoryLemmas.{general_category_stepped}
use Rattle.ucd_category.specs.GeneralCategory.{general_category, general_category_eq}
use Rattle.ucd_category.specs.GeneralCategoryGroup.{in_group}
use Rattle.ucd_category.specs.declared.GeneralCategory.{GeneralCategory}
use Rattle.ucd_category.specs.declared.GeneralCategory.TheVariants.{DecimalNumber}
use Rattle.ucd_category.specs.declared.GeneralCategoryGroup.TheVariants.{Letter, Number}
use Rattle.ucd_props.proofs.BinaryLemmas.{is_white_space_stepped}
use Rattle.ucd_props.specs.Binary.{is_white_space}
use Rattle.ucd_table.proofs.Computing.{tables}
use Rattle.ucd_table.proofs.Facts.{Stepped-everywhere, always, ends_by, same_from_beq}
use Rattle.ucd_table.proofs.Stepped.{Stepped, map_stepped, of_ranges, zip_stepped}
use Rattle.ucd_table.proofs.StepsLemmas.{rises_from}
use Rattle.ucd_table.specs.Rows.{in_ranges}
use Rattle.rl_ranges.proofs.SetLemmas.{has-cons, has-nil, or-false, within_tells}
use Rattle.rl_ranges.specs.Codes.{Above, has, is_between}
use Rattle.rl_ranges.specs.Named.{goes_by_ascii, is_named}
use Rattle.rl_ranges.specs.Text.{code_count}
use Rattle.rl_ranges.specs.declared.named.Named.{Named}
use Rattle.rl_ranges.specs.declared.named.Named.TheVariants.{Digit, Space, Word}
use Rattle.rl_ranges.specs.declared.tables.TheConstants.{ASCII_DIGITS, ASCII_SPACES, ASCII_WORDS, DIGITS, SPACES, WORDS}
use Rattle.rl_ranges.specs.declared.universe.Universe.{Universe}
use Rattle.rl_ranges.specs.declared.universe.Universe.TheVariants.{Bytes, Str}

pub has-in_ranges : (rs : List (ℕ × ℕ)) (c : ℕ) → has rs c ≡ in_ranges rs c
unfolding has in_ranges
has-in_ranges [] c = refl
has-in_ranges (r ∷ rs) c = ap (λ b. (nat_le r.0 c && nat_le c r.1) || b) (has-in_ranges rs c)

one_range : (a b c : ℕ) → in_ranges ((a, b) ∷ []) c ≡ (nat_le a c && nat_le c b)
unfolding in_ranges
one_range a b c = or-false (nat_le a c && nat_le c b)

one_code : (a c : ℕ) → in_ranges ((a, a) ∷ []) c ≡ (c == a)
one_code a c = one_range a a c ∙ grind (arith, nat_tests)

-- A table that agrees with a property at every step holds exactly the codes with the property.
same_by_steps : (table : List (ℕ × ℕ)) (p : ℕ → Bool) (s : Stepped (in_ranges table)) (t : Stepped p)
    → (always (λ c. beq (in_ranges table c) (p c)) (zip_stepped beq (in_ranges table) p s t) && (ends_by 0x11_0000 (zip_stepped beq (in_ranges table) p s t).steps && (zip_stepped beq (in_ranges table) p s t).default)) ≡ true
    → (c : ℕ) → in_ranges table c ≡ p c
same_by_steps table p s t ok c = same_from_beq _ _ (Stepped-everywhere (λ x. beq (in_ranges table x) (p x)) (zip_stepped beq (in_ranges table) p s t) ok c)

unfoldable DIGITS_stepped : Stepped (in_ranges DIGITS)
unfolding rises_from
DIGITS_stepped = of_ranges DIGITS refl

is_digit : ℕ → Bool
is_digit c = general_category_eq (general_category c) DecimalNumber

unfoldable is_digit_stepped : Stepped is_digit
unfolding is_digit general_category_stepped
is_digit_stepped = map_stepped (λ g. general_category_eq g DecimalNumber) general_category general_category_stepped

digits_agree : (c : ℕ) → in_ranges DIGITS c ≡ is_digit c
unfolding tables DIGITS_stepped is_digit_stepped general_category_stepped
digits_agree = same_by_steps DIGITS is_digit DIGITS_stepped is_digit_stepped refl

pub DIGITS-named : (c : ℕ) → has DIGITS c ≡ is_named Digit false c
unfolding is_named is_digit
DIGITS-named c = has-in_ranges DIGITS c ∙ digits_agree c

unfoldable SPACES_stepped : Stepped (in_ranges SPACES)
unfolding rises_from
SPACES_stepped = of_ranges SPACES refl

unfoldable separators_stepped : Stepped (in_ranges ((28, 31) ∷ []))
unfolding rises_from
separators_stepped = of_ranges ((28, 31) ∷ []) refl

is_space : ℕ → Bool
is_space c = is_white_space c || in_ranges ((28, 31) ∷ []) c

unfoldable is_space_stepped : Stepped is_space
unfolding is_space is_white_space_stepped separators_stepped
is_space_stepped = zip_stepped ◌||◌ is_white_space (in_ranges ((28, 31) ∷ [])) is_white_space_stepped separators_stepped

spaces_agree : (c : ℕ) → in_ranges SPACES c ≡ is_space c
unfolding tables SPACES_stepped is_space_stepped is_white_space_stepped separators_stepped
spaces_agree = same_by_steps SPACES is_space SPACES_stepped is_space_stepped refl

pub SPACES-named : (c : ℕ) → has SPACES c ≡ is_named Space false c
unfolding is_named is_space is_between
SPACES-named c = has-in_ranges SPACES c ∙ spaces_agree c ∙ ap (λ b. is_white_space c || b) (one_range 28 31 c)

unfoldable WORDS_stepped : Stepped (in_ranges WORDS)
unfolding rises_from
WORDS_stepped = of_ranges WORDS refl

unfoldable underscore_stepped : Stepped (in_ranges ((95, 95) ∷ []))
unfolding rises_from
underscore_stepped = of_ranges ((95, 95) ∷ []) refl

abbrev is_letter_or_number : GeneralCategory → Bool
is_letter_or_number g = in_group Letter g || in_group Number g

is_word : ℕ → Bool
is_word c = is_letter_or_number (general_category c) || in_ranges ((95, 95) ∷ []) c

unfoldable is_word_stepped : Stepped is_word
unfolding is_word general_category_stepped underscore_stepped
is_word_stepped =
    zip_stepped ◌||◌ (λ c. is_letter_or_number (general_category c)) (in_ranges ((95, 95) ∷ [])) (map_stepped is_letter_or_number general_category general_category_stepped) underscore_stepped

words_agree : (c : ℕ) → in_ranges WORDS c ≡ is_word c
unfolding tables WORDS_stepped is_word_stepped general_category_stepped underscore_stepped
words_agree = same_by_steps WORDS is_word WORDS_stepped is_word_stepped refl

pub WORDS-named : (c : ℕ) → has WORDS c ≡ is_named Word false c
unfolding is_named is_word
WORDS-named c = has-in_ranges WORDS c ∙ words_agree c ∙ ap (λ b. is_letter_or_number (general_category c) || b) (one_code 95 c)

pub ASCII_DIGITS-named : (c : ℕ) → has ASCII_DIGITS c ≡ is_named Digit true c
unfolding is_named is_between
ASCII_DIGITS-named c = has-in_ranges ASCII_DIGITS c ∙ one_range 48 57 c

pub ASCII_SPACES-named : (c : ℕ) → has ASCII_SPACES c ≡ is_named Space true c
unfolding is_named is_between has
ASCII_SPACES-named c = grind (arith, nat_tests)

pub ASCII_WORDS-named : (c : ℕ) → has ASCII_WORDS c ≡ is_named Word true c
unfolding is_named is_between has
ASCII_WORDS-named c = grind (arith, nat_tests)

-- ---- what else a table shows by computation

-- The test whether ranges are sorted.
unfoldable pub sorted_from : ℕ → List (ℕ × ℕ) → Bool
sorted_from n [] = true
sorted_from n (r ∷ rs) = (nat_le n r.0 && nat_le r.0 r.1) && sorted_from (r.1 + 2) rs

pub Above-from_test : (n : ℕ) (rs : List (ℕ × ℕ)) → sorted_from n rs ≡ true → Above n rs
unfolding sorted_from
Above-from_test n [] h = tt
Above-from_test n (r ∷ rs) h =
    let parts = and_parts (nat_le n r.0 && nat_le r.0 r.1) (sorted_from (r.1 + 2) rs) h in
    let head = and_parts (nat_le n r.0) (nat_le r.0 r.1) parts.0 in
    (leb-true n r.0 head.0, leb-true r.0 r.1 head.1, Above-from_test (r.1 + 2) rs parts.1)

-- The test whether all ranges end below a number.
unfoldable pub end_below : ℕ → List (ℕ × ℕ) → Bool
end_below n [] = true
end_below n (r ∷ rs) = nat_lt r.1 n && end_below n rs

pub has-inside : (n : ℕ) (rs : List (ℕ × ℕ)) (c : ℕ) → end_below n rs ≡ true → has rs c ≡ true → c < n
unfolding end_below
has-inside n [] c h held = absurd (false≢true (sym (has-nil c) ∙ held))
has-inside n (r ∷ rs) c h held =
    let parts = and_parts (nat_lt r.1 n) (end_below n rs) h in
    let last = ltb-true r.1 n parts.0 in
    elim (or_cases (is_between r.0 r.1 c) (has rs c) (sym (has-cons r rs c) ∙ held)) [
      | inl here ↦ grind (arith, within_tells r.0 r.1 c)
      | inr later ↦ has-inside n rs c parts.1 later
    ]

pub DIGITS-sorted : Above 0 DIGITS
unfolding sorted_from
DIGITS-sorted = Above-from_test 0 DIGITS refl

pub SPACES-sorted : Above 0 SPACES
unfolding sorted_from
SPACES-sorted = Above-from_test 0 SPACES refl

pub WORDS-sorted : Above 0 WORDS
unfolding sorted_from
WORDS-sorted = Above-from_test 0 WORDS refl

pub ASCII_DIGITS-sorted : Above 0 ASCII_DIGITS
unfolding sorted_from
ASCII_DIGITS-sorted = Above-from_test 0 ASCII_DIGITS refl

pub ASCII_SPACES-sorted : Above 0 ASCII_SPACES
unfolding sorted_from
ASCII_SPACES-sorted = Above-from_test 0 ASCII_SPACES refl

pub ASCII_WORDS-sorted : Above 0 ASCII_WORDS
unfolding sorted_from
ASCII_WORDS-sorted = Above-from_test 0 ASCII_WORDS refl

-- A named class lies in every universe that uses it.
digits_inside : (c : ℕ) → has DIGITS c ≡ true → c < 1114112
unfolding end_below
digits_inside c = has-inside 1114112 DIGITS c refl

spaces_inside : (c : ℕ) → has SPACES c ≡ true → c < 1114112
unfolding end_below
spaces_inside c = has-inside 1114112 SPACES c refl

words_inside : (c : ℕ) → has WORDS c ≡ true → c < 1114112
unfolding end_below
words_inside c = has-inside 1114112 WORDS c refl

ascii_digits_inside : (c : ℕ) → has ASCII_DIGITS c ≡ true → c < 128
unfolding end_below
ascii_digits_inside c = has-inside 128 ASCII_DIGITS c refl

ascii_spaces_inside : (c : ℕ) → has ASCII_SPACES c ≡ true → c < 128
unfolding end_below
ascii_spaces_inside c = has-inside 128 ASCII_SPACES c refl

ascii_words_inside : (c : ℕ) → has ASCII_WORDS c ≡ true → c < 128
unfolding end_below
ascii_words_inside c = has-inside 128 ASCII_WORDS c refl

ascii_inside : (kind : Named) (c : ℕ) → is_named kind true c ≡ true → c < 128
ascii_inside Digit c h = ascii_digits_inside c (ASCII_DIGITS-named c ∙ h)
ascii_inside Space c h = ascii_spaces_inside c (ASCII_SPACES-named c ∙ h)
ascii_inside Word c h = ascii_words_inside c (ASCII_WORDS-named c ∙ h)

unicode_inside : (kind : Named) (c : ℕ) → is_named kind false c ≡ true → c < 1114112
unicode_inside Digit c h = digits_inside c (DIGITS-named c ∙ h)
unicode_inside Space c h = spaces_inside c (SPACES-named c ∙ h)
unicode_inside Word c h = words_inside c (WORDS-named c ∙ h)

pub named_inside : (kind : Named) (ascii : Bool) (u : Universe) (c : ℕ) → is_named kind (goes_by_ascii ascii u) c ≡ true → c < code_count u
named_inside kind true Str c h = omega (arith, ascii_inside kind c h)
named_inside kind false Str c h = unicode_inside kind c h
named_inside kind ascii Bytes c h = omega (arith, ascii_inside kind c h)
