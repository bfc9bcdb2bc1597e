-- Every ASCII word code is a word code, by the table of general categories.
use Rattle.std.proofs.Common.{◌≡◌, ℕ, ◌<◌, ◌≤◌, true, false, not, ◌||◌, ◌==◌, nat_le, refl, ap, sym, ◌∙◌, ⊎_elim, arith}
use Rattle.std.proofs.lemmas.Bool.{or_cases, and_parts, leb-true, eqb-true}
use Rattle.ucd_table.proofs.Computing.{tables}
use Rattle.ucd_table.proofs.Facts.{Stepped-below}
use Rattle.ucd_category.proofs.GeneralCategoryLemmas.{general_category_stepped}
use Rattle.ucd_category.specs.GeneralCategory.{general_category}
use Rattle.ucd_category.specs.GeneralCategoryGroup.{in_group}
use Rattle.ucd_category.specs.declared.GeneralCategoryGroup.TheVariants.{Letter, Number}
use Rattle.rl_ranges.specs.Named.{is_named, is_between}
use Rattle.rl_syntax.specs.Guards.{is_word}

below_128 : (c : ℕ) → c < 128 → (not (is_word true c) || (in_group Letter (general_category c) || in_group Number (general_category c) || c == 95)) ≡ true
unfolding is_word is_named is_between tables general_category_stepped
below_128 = Stepped-below general_category general_category_stepped (λ c v. not (is_word true c) || (in_group Letter v || in_group Number v || c == 95)) 128 refl

between : (a b c : ℕ) → is_between a b c ≡ true → c ≤ b
unfolding is_between
between a b c h = leb-true c b (and_parts (nat_le a c) (nat_le c b) h).1

is_low : (c : ℕ) → is_word true c ≡ true → c < 128
unfolding is_word is_named
is_low c h = ⊎_elim
    (λ x. ⊎_elim
    (λ y. ⊎_elim (λ z. omega (arith, between 48 57 c z)) (λ z. omega (arith, between 65 90 c z)) (or_cases (is_between 48 57 c) (is_between 65 90 c) y))
    (λ y. omega (arith, between 97 122 c y))
    (or_cases (is_between 48 57 c || is_between 65 90 c) (is_between 97 122 c) x))
    (λ x. omega (arith, eqb-true c 95 x))
    (or_cases (is_between 48 57 c || is_between 65 90 c || is_between 97 122 c) (c == 95) h)

pub ascii_words_are_words : (c : ℕ) → is_word true c ≡ true → is_word false c ≡ true
unfolding is_word is_named
ascii_words_are_words c h =
    ap (λ b. not b || (in_group Letter (general_category c) || in_group Number (general_category c) || c == 95)) (sym h)
    ∙ below_128 c (is_low c h)
