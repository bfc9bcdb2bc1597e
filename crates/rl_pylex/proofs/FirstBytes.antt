-- What is read if the first byte leaves few rules.
use Rattle.std.proofs.Common.{◌≡◌, ℕ, ◌<◌, true, false, not, List, [], ◌∷◌, length, get_or, refl, ap, sym, ◌∙◌, arith, Some, None, Option, subst}
use Rattle.std.specs.Prelude.{◌==◌, nat_eq}
use Rattle.std.specs.List.{prefix_len}
use Rattle.std.proofs.lemmas.Bool.Decides.{nat_tests}
use Rattle.rl_pylex.specs.declared.token_list.TokenKind.{TokenKind}
use Rattle.rl_pylex.specs.declared.token_list.TokenKind.TheVariants as kind
use Rattle.rl_pylex.specs.declared.rules.Fit.TheVariants.{Passes, Takes}
use Rattle.rl_pylex.specs.declared.rules.Reading.{Reading}
use Rattle.rl_pylex.specs.declared.rules.Reading.TheVariants.{Piece}
use Rattle.rl_pylex.specs.Bytes.{is_blank, is_backslash, ends_line, in_line, starts_name, in_name, line_end}
use Rattle.rl_pylex.specs.Rules.{takes_if, blank, joined_line, new_line, comment, literal, name, first_of_rows, reading}
use Rattle.rl_pylex.specs.internal.Rows.{line_end_kind, starts_number, number_rows, literal_rows, starts_literal}
use Rattle.rl_pylex.proofs.Firsts.{passed, taken, blank-not, joined_line-not, new_line-not, comment-not, literal-not}
use Rattle.rl_pylex.proofs.Alone.{is_no_blank, is_no_backslash, is_no_line_end, is_no_hash}

-- The rules up to the rule of comments don't fit.
pub literal_rows_left : (depth x : ℕ) (xs : List ℕ) → is_blank x ≡ false → is_backslash x ≡ false → ends_line x ≡ false → nat_eq 35 x ≡ false
    → reading depth (x ∷ xs) ≡ first_of_rows literal_rows (x ∷ xs)
unfolding reading
literal_rows_left depth x xs no_blank no_backslash no_line_end no_hash =
    passed (blank (x ∷ xs)) None _ (blank-not x xs no_blank)
    ∙ passed (joined_line (x ∷ xs)) None _ (joined_line-not x xs no_backslash)
    ∙ passed (new_line (x ∷ xs)) (line_end_kind depth) _ (new_line-not x xs no_line_end)
    ∙ passed (comment (x ∷ xs)) (Some kind.Comment) (first_of_rows literal_rows (x ∷ xs)) (comment-not x xs no_hash)

literal_rows_read : (depth x : ℕ) (xs : List ℕ) → starts_literal x ≡ true → reading depth (x ∷ xs) ≡ first_of_rows literal_rows (x ∷ xs)
literal_rows_read depth x xs e =
    literal_rows_left depth x xs (is_no_blank x e) (is_no_backslash x e) (is_no_line_end x e) (is_no_hash x e)

number_is_no_blank : (x : ℕ) → starts_number x ≡ true → is_blank x ≡ false
number_is_no_blank x e = grind (arith, nat_tests)

number_is_no_backslash : (x : ℕ) → starts_number x ≡ true → is_backslash x ≡ false
number_is_no_backslash x e = grind (arith, nat_tests)

number_is_no_line_end : (x : ℕ) → starts_number x ≡ true → ends_line x ≡ false
number_is_no_line_end x e = grind (arith, nat_tests)

number_is_no_hash : (x : ℕ) → starts_number x ≡ true → nat_eq 35 x ≡ false
number_is_no_hash x e = grind (arith, nat_tests)

number_is_no_literal : (x : ℕ) → starts_number x ≡ true → starts_literal x ≡ false
number_is_no_literal x e = grind (arith, nat_tests)

number_is_no_name : (x : ℕ) → starts_number x ≡ true → starts_name x ≡ false
number_is_no_name x e = grind (arith, nat_tests)

pub name-not : (x : ℕ) (xs : List ℕ) → starts_name x ≡ false → name (x ∷ xs) ≡ Passes
unfolding name
name-not x xs e = ap (λ b. takes_if b (prefix_len in_name (x ∷ xs))) e

pub number_rows_read : (depth x : ℕ) (xs : List ℕ) → starts_number x ≡ true → reading depth (x ∷ xs) ≡ first_of_rows number_rows (x ∷ xs)
number_rows_read depth x xs e =
    literal_rows_left depth x xs (number_is_no_blank x e) (number_is_no_backslash x e) (number_is_no_line_end x e) (number_is_no_hash x e)
    ∙ passed (literal (x ∷ xs)) (Some kind.Literal) _ (literal-not x xs (number_is_no_literal x e))
    ∙ passed (name (x ∷ xs)) (Some kind.Name) (first_of_rows number_rows (x ∷ xs)) (name-not x xs (number_is_no_name x e))

line_end_is_no_blank : (x : ℕ) → ends_line x ≡ true → is_blank x ≡ false
line_end_is_no_blank x e = grind (arith, nat_tests)

line_end_is_no_backslash : (x : ℕ) → ends_line x ≡ true → is_backslash x ≡ false
line_end_is_no_backslash x e = grind (arith, nat_tests)

some_line_end : (x : ℕ) (xs : List ℕ) → ends_line x ≡ true → (line_end (x ∷ xs) == 0) ≡ false
unfolding line_end
some_line_end x xs e = grind (arith, nat_tests)

new_line-fits : (x : ℕ) (xs : List ℕ) → ends_line x ≡ true → new_line (x ∷ xs) ≡ Takes (line_end (x ∷ xs))
unfolding new_line
new_line-fits x xs e = ap (λ b. takes_if (not b) (line_end (x ∷ xs))) (some_line_end x xs e)

pub new_line_read : (depth x : ℕ) (xs : List ℕ) → ends_line x ≡ true → reading depth (x ∷ xs) ≡ Piece (line_end_kind depth) (line_end (x ∷ xs))
unfolding reading
new_line_read depth x xs e =
    passed (blank (x ∷ xs)) None _ (blank-not x xs (line_end_is_no_blank x e))
    ∙ passed (joined_line (x ∷ xs)) None _ (joined_line-not x xs (line_end_is_no_backslash x e))
    ∙ taken (new_line (x ∷ xs)) (line_end_kind depth) (line_end (x ∷ xs)) _ (new_line-fits x xs e)

comment-fits : (xs : List ℕ) → comment (35 ∷ xs) ≡ Takes (prefix_len in_line (35 ∷ xs))
unfolding comment
comment-fits xs = refl

pub comment_read : (depth : ℕ) (xs : List ℕ) → reading depth (35 ∷ xs) ≡ Piece (Some kind.Comment) (prefix_len in_line (35 ∷ xs))
unfolding reading
comment_read depth xs =
    passed (blank (35 ∷ xs)) None _ (blank-not 35 xs refl)
    ∙ passed (joined_line (35 ∷ xs)) None _ (joined_line-not 35 xs refl)
    ∙ passed (new_line (35 ∷ xs)) (line_end_kind depth) _ (new_line-not 35 xs refl)
    ∙ taken (comment (35 ∷ xs)) (Some kind.Comment) (prefix_len in_line (35 ∷ xs)) _ (comment-fits xs)

-- The same for a text that isn't split into its first byte and the rest.
pub literal_rows_at : (depth : ℕ) (found : Reading) (text : List ℕ) → 0 < length text → true ≡ starts_literal (get_or text 0 0)
    → found ≡ first_of_rows literal_rows text → found ≡ reading depth text
literal_rows_at depth found [] some e same = absurd (omega arith)
literal_rows_at depth found (x ∷ xs) some e same = same ∙ sym (literal_rows_read depth x xs (sym e))

pub number_rows_at : (depth : ℕ) (found : Reading) (text : List ℕ) → 0 < length text → true ≡ starts_number (get_or text 0 0)
    → found ≡ first_of_rows number_rows text → found ≡ reading depth text
number_rows_at depth found [] some e same = absurd (omega arith)
number_rows_at depth found (x ∷ xs) some e same = same ∙ sym (number_rows_read depth x xs (sym e))

pub new_line_at : (depth size : ℕ) (line_kind : Option TokenKind) (text : List ℕ) → 0 < length text → true ≡ ends_line (get_or text 0 0)
    → line_kind ≡ line_end_kind depth → size ≡ line_end text → Piece line_kind size ≡ reading depth text
new_line_at depth size line_kind [] some e kinds sizes = absurd (omega arith)
new_line_at depth size line_kind (x ∷ xs) some e kinds sizes =
    ap (λ (k : Option TokenKind). Piece k size) kinds ∙ ap (Piece (line_end_kind depth)) sizes ∙ sym (new_line_read depth x xs (sym e))

pub comment_at : (depth size : ℕ) (text : List ℕ) → 0 < length text → get_or text 0 0 ≡ 35
    → size ≡ prefix_len in_line text → Piece (Some kind.Comment) size ≡ reading depth text
comment_at depth size [] some e sizes = absurd (omega arith)
comment_at depth size (x ∷ xs) some e sizes =
    ap (Piece (Some kind.Comment)) sizes
    ∙ subst (λ (c : ℕ). Piece (Some kind.Comment) (prefix_len in_line (c ∷ xs)) ≡ reading depth (c ∷ xs)) (sym e) (sym (comment_read depth xs))
