-- A rule fits only if the first byte is one of its own.
use Rattle.std.proofs.Common.{◌≡◌, ℕ, ◌+◌, ◌<◌, Bool, true, false, not, ◌&&◌, ◌||◌, List, [], ◌∷◌, length, get_or, refl, ap, sym, ◌∙◌, arith, Some, None, Option, subst}
use Rattle.std.specs.Prelude.{unwrap_or, ◌==◌, nat_eq, codes}
use Rattle.std.specs.List.{prefix_len, list_any}
use Rattle.std.specs.Char.{to_ascii_lowercase}
use Rattle.std.proofs.lemmas.Bool.{false≢true, eqb-true}
use Rattle.std.proofs.lemmas.Bool.Decides.{nat_tests}
use Rattle.rl_pylex.specs.declared.token_list.TokenKind.{TokenKind}
use Rattle.rl_pylex.specs.declared.token_list.TokenKind.TheVariants as kind
use Rattle.rl_pylex.specs.declared.rules.Fit.{Fit}
use Rattle.rl_pylex.specs.declared.rules.Fit.TheVariants.{Passes, Takes}
use Rattle.rl_pylex.specs.declared.rules.Reading.{Reading}
use Rattle.rl_pylex.specs.declared.rules.Reading.TheVariants.{Piece}
use Rattle.rl_pylex.specs.Bytes.{is_in, ends_line, is_blank, is_backslash, is_quote, starts_name, in_name, opens_bracket, closes_bracket, line_end}
use Rattle.rl_pylex.specs.Literals.{is_prefix, opens_after, prefix_size}
use Rattle.rl_pylex.specs.Rules.{takes_if, blank, joined_line, new_line, comment, literal, name, number, operator, reading_by, reading, depth_after}
use Rattle.rl_pylex.specs.internal.Rows.{line_end_kind, is_plain_operator, starts_literal}
use Rattle.rl_pylex.proofs.Fits.{fit_after}

takes-not : (b : Bool) (n : ℕ) → b ≡ false → takes_if b n ≡ Passes
takes-not b n e = rw e refl

pub blank-not : (x : ℕ) (xs : List ℕ) → is_blank x ≡ false → blank (x ∷ xs) ≡ Passes
unfolding blank
blank-not x xs e = takes-not (is_blank x) 1 e

and-false : (b c : Bool) → b ≡ false → (b && c) ≡ false
and-false b c e = rw e refl

pub joined_line-not : (x : ℕ) (xs : List ℕ) → is_backslash x ≡ false → joined_line (x ∷ xs) ≡ Passes
unfolding joined_line
joined_line-not x xs e =
    takes-not (is_backslash x && not (line_end xs == 0)) (1 + line_end xs) (and-false (is_backslash x) (not (line_end xs == 0)) e)

no_line_end : (x : ℕ) (xs : List ℕ) → ends_line x ≡ false → line_end (x ∷ xs) ≡ 0
unfolding line_end
no_line_end x xs e = grind (arith, nat_tests)

pub new_line-not : (x : ℕ) (xs : List ℕ) → ends_line x ≡ false → new_line (x ∷ xs) ≡ Passes
unfolding new_line
new_line-not x xs e = rw (no_line_end x xs e) refl

pub comment-not : (x : ℕ) (xs : List ℕ) → nat_eq 35 x ≡ false → comment (x ∷ xs) ≡ Passes
unfolding comment
comment-not x xs e = rw e refl

one_letter : (y : ℕ) → is_in "rubf" y ≡ false → is_prefix (y ∷ []) ≡ false
one_letter y e = grind (arith, nat_tests)

two_letters : (y z : ℕ) → is_in "rubf" y ≡ false → is_prefix (y ∷ z ∷ []) ≡ false
two_letters y z e = grind (arith, nat_tests)

no_quote : (x : ℕ) → starts_literal x ≡ false → is_quote x ≡ false
no_quote x e = grind (arith, nat_tests)

no_letter : (x : ℕ) → starts_literal x ≡ false → is_in "rubf" (to_ascii_lowercase x) ≡ false
no_letter x e = or-right (is_quote x) (is_in "rubf" (to_ascii_lowercase x)) e
  where
    or-right : (b c : Bool) → (b || c) ≡ false → c ≡ false
    or-right true c h = absurd (false≢true (sym h))
    or-right false c h = h

no_prefix : (x : ℕ) (xs : List ℕ) → starts_literal x ≡ false → prefix_size (x ∷ xs) ≡ None
unfolding prefix_size opens_after
no_prefix x [] e = rw (no_quote x e, one_letter (to_ascii_lowercase x) (no_letter x e)) refl
no_prefix x (y ∷ ys) e =
    rw (no_quote x e, one_letter (to_ascii_lowercase x) (no_letter x e), two_letters (to_ascii_lowercase x) (to_ascii_lowercase y) (no_letter x e)) refl

pub literal-not : (x : ℕ) (xs : List ℕ) → starts_literal x ≡ false → literal (x ∷ xs) ≡ Passes
unfolding literal
literal-not x xs e = ap (λ o. fit_after o (x ∷ xs)) (no_prefix x xs e)

pub name-fits : (x : ℕ) (xs : List ℕ) → starts_name x ≡ true → name (x ∷ xs) ≡ Takes (prefix_len in_name (x ∷ xs))
unfolding name
name-fits x xs e = ap (λ b. takes_if b (prefix_len in_name (x ∷ xs))) e

-- A row that doesn't fit.
pub passed : (f : Fit) (kind : Option TokenKind) (others : Reading) → f ≡ Passes → unwrap_or (reading_by f kind) others ≡ others
passed f kind others e = rw e refl

pub taken : (f : Fit) (kind : Option TokenKind) (n : ℕ) (others : Reading) → f ≡ Takes n → unwrap_or (reading_by f kind) others ≡ Piece kind n
taken f kind n others e = rw e refl

pub name_is_no_blank : (x : ℕ) → starts_name x ≡ true → is_blank x ≡ false
name_is_no_blank x e = grind (arith, nat_tests)

pub name_is_no_backslash : (x : ℕ) → starts_name x ≡ true → is_backslash x ≡ false
name_is_no_backslash x e = grind (arith, nat_tests)

pub name_is_no_line_end : (x : ℕ) → starts_name x ≡ true → ends_line x ≡ false
name_is_no_line_end x e = grind (arith, nat_tests)

pub name_is_no_hash : (x : ℕ) → starts_name x ≡ true → nat_eq 35 x ≡ false
name_is_no_hash x e = grind (arith, nat_tests)

-- A name whose first byte can't begin a literal.
pub name_read : (depth x : ℕ) (xs : List ℕ) → starts_name x ≡ true → starts_literal x ≡ false → reading depth (x ∷ xs) ≡ Piece (Some kind.Name) (prefix_len in_name (x ∷ xs))
unfolding reading
name_read depth x xs e f =
    passed (blank (x ∷ xs)) None _ (blank-not x xs (name_is_no_blank x e))
    ∙ passed (joined_line (x ∷ xs)) None _ (joined_line-not x xs (name_is_no_backslash x e))
    ∙ passed (new_line (x ∷ xs)) (line_end_kind depth) _ (new_line-not x xs (name_is_no_line_end x e))
    ∙ passed (comment (x ∷ xs)) (Some kind.Comment) _ (comment-not x xs (name_is_no_hash x e))
    ∙ passed (literal (x ∷ xs)) (Some kind.Literal) _ (literal-not x xs f)
    ∙ taken (name (x ∷ xs)) (Some kind.Name) (prefix_len in_name (x ∷ xs)) _ (name-fits x xs e)

blank-fits : (x : ℕ) (xs : List ℕ) → is_blank x ≡ true → blank (x ∷ xs) ≡ Takes 1
unfolding blank
blank-fits x xs e = ap (λ b. takes_if b 1) e

pub blank_read : (depth x : ℕ) (xs : List ℕ) → is_blank x ≡ true → reading depth (x ∷ xs) ≡ Piece None 1
unfolding reading
blank_read depth x xs e = taken (blank (x ∷ xs)) None 1 _ (blank-fits x xs e)

blank_is_no_bracket : (x : ℕ) → is_blank x ≡ true → (opens_bracket x ≡ false) × (closes_bracket x ≡ false)
blank_is_no_bracket x e = (grind (arith, nat_tests), grind (arith, nat_tests))

pub depth_after_blank : (depth x : ℕ) (xs : List ℕ) → is_blank x ≡ true → depth_after depth (x ∷ xs) ≡ depth
unfolding depth_after
depth_after_blank depth x xs e = rw ((blank_is_no_bracket x e).0, (blank_is_no_bracket x e).1) refl

-- What holds for each of some characters holds for a byte that is one of them.
abbrev Each : (ℕ → Type 0) → List ℕ → Type 0
Each P [] = Unit {0}
Each P (c ∷ cs) = P c × Each P cs

from_one : (P : ℕ → Type 0) (c x : ℕ) (b : Bool) (others : Bool) → (c == x) ≡ b → (b || others) ≡ true → P c → (others ≡ true → P x) → P x
from_one P c x true others same h here later = subst P (eqb-true c x same) here
from_one P c x false others other h here later = later h

from_each : (P : ℕ → Type 0) (cs : List ℕ) (x : ℕ) → list_any (λ c. c == x) cs ≡ true → Each P cs → P x
from_each P [] x e all = absurd (false≢true e)
from_each P (c ∷ cs) x e all =
    from_one P c x (c == x) (list_any (λ c. c == x) cs) refl e all.0 (λ h. from_each P cs x h all.1)

operator-read : (depth : ℕ) (xs : List ℕ) → Each (λ x. reading depth (x ∷ xs) ≡ Piece (Some kind.Op) 1) (codes "()[]{},:;=+-*/%&|^~<>@!")
unfolding reading blank joined_line new_line comment literal prefix_size opens_after name number operator line_end
operator-read depth [] =
    (refl, (refl, (refl, (refl, (refl, (refl, (refl, (refl, (refl, (refl, (refl, (refl, (refl, (refl, (refl, (refl, (refl, (refl, (refl, (refl, (refl, (refl, (refl, tt)))))))))))))))))))))))
operator-read depth (y ∷ ys) =
    (refl, (refl, (refl, (refl, (refl, (refl, (refl, (refl, (refl, (refl, (refl, (refl, (refl, (refl, (refl, (refl, (refl, (refl, (refl, (refl, (refl, (refl, (refl, tt)))))))))))))))))))))))

-- An operator character that can't begin a number.
pub operator_read : (depth x : ℕ) (xs : List ℕ) → is_plain_operator x ≡ true → reading depth (x ∷ xs) ≡ Piece (Some kind.Op) 1
operator_read depth x xs e =
    from_each (λ y. reading depth (y ∷ xs) ≡ Piece (Some kind.Op) 1) (codes "()[]{},:;=+-*/%&|^~<>@!") x e (operator-read depth xs)

and-parts : (b c : Bool) → true ≡ (b && not c) → (b ≡ true) × (c ≡ false)
and-parts true true e = absurd (false≢true (sym e))
and-parts true false e = (refl, refl)
and-parts false c e = absurd (false≢true (sym e))

-- The same for a text that isn't split into its first byte and the rest.
pub operator_at : (depth : ℕ) (text : List ℕ) → 0 < length text → true ≡ is_plain_operator (get_or text 0 0) → Piece (Some kind.Op) 1 ≡ reading depth text
operator_at depth [] some e = absurd (omega arith)
operator_at depth (x ∷ xs) some e = sym (operator_read depth x xs (sym e))

pub name_at : (depth size : ℕ) (text : List ℕ) → 0 < length text → true ≡ (starts_name (get_or text 0 0) && not (starts_literal (get_or text 0 0)))
    → size ≡ prefix_len in_name text → Piece (Some kind.Name) size ≡ reading depth text
name_at depth size [] some e same = absurd (omega arith)
name_at depth size (x ∷ xs) some e same =
    let tests = and-parts (starts_name x) (starts_literal x) e in
    ap (Piece (Some kind.Name)) same ∙ sym (name_read depth x xs tests.0 tests.1)
