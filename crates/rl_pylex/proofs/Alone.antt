-- A literal by itself is a source with one token.
use Rattle.std.proofs.Common.{◌≡◌, ℕ, suc, ◌+◌, ◌≤◌, Bool, true, false, cond, not, List, [], ◌∷◌, length, drop, take, refl, ap, sym, ◌∙◌, arith, Some, None, subst}
use Rattle.std.specs.Prelude.{nat_eq, ◌==◌, IsUtf8}
use Rattle.std.specs.List.{prefix_len}
use Rattle.std.proofs.lemmas.Bool.Decides.{nat_tests}
use Rattle.rl_lists.specs.declared.limits.TheConstants.{MOST_BYTES}
use Rattle.rl_pylex.specs.declared.token_list.TokenKind.TheVariants as kind
use Rattle.rl_pylex.specs.declared.rules.Fit.{Fit}
use Rattle.rl_pylex.specs.declared.rules.Fit.TheVariants.{Passes, Takes}
use Rattle.rl_pylex.specs.declared.rules.Reading.TheVariants.{Piece}
use Rattle.rl_pylex.specs.Bytes.{is_blank, is_backslash, ends_line, in_line, text_start}
use Rattle.rl_pylex.specs.Literals.{opens_after, prefix_size, IsLiteral}
use Rattle.rl_pylex.specs.Rules.{blank, joined_line, new_line, comment, literal, reading, depth_after}
use Rattle.rl_pylex.specs.internal.Rows.{line_end_kind, starts_literal}
use Rattle.rl_pylex.proofs.Fits.{fit_of_size, fit_after}
use Rattle.rl_pylex.specs.Coding.{line_of, coding_of_line, is_bare, second_coding, coding_of, wrong_coding}
use Rattle.rl_pylex.specs.Source.{Cut, IsReadable, IsTokenList}
use Rattle.rl_pylex.proofs.Firsts.{passed, taken, blank-not, joined_line-not, new_line-not, comment-not, literal-not}

starts-literal : (x : ℕ) (xs : List ℕ) (m : ℕ) → literal (x ∷ xs) ≡ Takes m → starts_literal x ≡ true
starts-literal x xs m e = by-test (starts_literal x) refl
  where
    apart : (f : Fit) → f ≡ Passes → f ≡ Takes m → ⊥
    apart f p t = cc

    by-test : (b : Bool) → starts_literal x ≡ b → b ≡ true
    by-test true h = refl
    by-test false h = absurd (apart (literal (x ∷ xs)) (literal-not x xs h) e)

pub is_no_blank : (x : ℕ) → starts_literal x ≡ true → is_blank x ≡ false
is_no_blank x e = grind (arith, nat_tests)

pub is_no_backslash : (x : ℕ) → starts_literal x ≡ true → is_backslash x ≡ false
is_no_backslash x e = grind (arith, nat_tests)

pub is_no_line_end : (x : ℕ) → starts_literal x ≡ true → ends_line x ≡ false
is_no_line_end x e = grind (arith, nat_tests)

pub is_no_hash : (x : ℕ) → starts_literal x ≡ true → nat_eq 35 x ≡ false
is_no_hash x e = grind (arith, nat_tests)

is_no_mark : (x : ℕ) → starts_literal x ≡ true → nat_eq 239 x ≡ false
is_no_mark x e = grind (arith, nat_tests)

-- A literal is read as one token, at any depth.
pub literal_first : (depth x : ℕ) (xs : List ℕ) (m : ℕ) → literal (x ∷ xs) ≡ Takes m → reading depth (x ∷ xs) ≡ Piece (Some kind.Literal) m
unfolding reading
literal_first depth x xs m e =
    let first = starts-literal x xs m e in
    passed (blank (x ∷ xs)) None _ (blank-not x xs (is_no_blank x first))
    ∙ passed (joined_line (x ∷ xs)) None _ (joined_line-not x xs (is_no_backslash x first))
    ∙ passed (new_line (x ∷ xs)) (line_end_kind depth) _ (new_line-not x xs (is_no_line_end x first))
    ∙ passed (comment (x ∷ xs)) (Some kind.Comment) _ (comment-not x xs (is_no_hash x first))
    ∙ taken (literal (x ∷ xs)) (Some kind.Literal) m _ e

start-is : (x : ℕ) (xs : List ℕ) → nat_eq 239 x ≡ false → text_start (x ∷ xs) ≡ 0
unfolding text_start
start-is x xs e = rw e refl

line_of-first : (x : ℕ) (xs : List ℕ) → ends_line x ≡ false → line_of (x ∷ xs) ≡ x ∷ take (prefix_len in_line xs) xs
line_of-first x xs e =
    let one : (n : ℕ) → 1 + n ≡ suc n = λ n. omega arith in
    ap (λ b. take (cond (not b) (1 + prefix_len in_line xs) 0) (x ∷ xs)) e ∙ ap (λ n. take n (x ∷ xs)) (one (prefix_len in_line xs))

no_coding_line : (x : ℕ) (xs : List ℕ) → is_blank x ≡ false → nat_eq 35 x ≡ false → coding_of_line (x ∷ xs) ≡ None
unfolding coding_of_line
no_coding_line x xs b h = rw (b, h) refl

some_length : (n : ℕ) → (suc n == 0) ≡ false
some_length n = grind (arith, nat_tests)

not_bare : (x : ℕ) (xs : List ℕ) → is_blank x ≡ false → nat_eq 35 x ≡ false → is_bare (x ∷ xs) ≡ false
unfolding is_bare
not_bare x xs b h = rw (b, some_length (length xs), h) refl

no_coding : (x : ℕ) (xs : List ℕ) → starts_literal x ≡ true → wrong_coding (x ∷ xs) ≡ None
unfolding wrong_coding coding_of second_coding
no_coding x xs e =
    let line = line_of-first x xs (is_no_line_end x e) in
    let none : coding_of_line (line_of (x ∷ xs)) ≡ None = ap coding_of_line line ∙ no_coding_line x (take (prefix_len in_line xs) xs) (is_no_blank x e) (is_no_hash x e) in
    let bare : is_bare (line_of (x ∷ xs)) ≡ false = ap is_bare line ∙ not_bare x (take (prefix_len in_line xs) xs) (is_no_blank x e) (is_no_hash x e) in
    rw (none, bare) refl

-- The rule of literals takes a literal as a whole.
pub IsLiteral-takes : (text : List ℕ) → IsLiteral text → literal text ≡ Takes (length text)
unfolding literal
IsLiteral-takes text l = ap (λ o. fit_after o text) l.starts ∙ ap fit_of_size l.closes

nothing_is_no_literal : (m : ℕ) → literal [] ≡ Takes m → ⊥
unfolding literal prefix_size opens_after
nothing_is_no_literal m e = cc

one_token : (text : List ℕ) → IsReadable text → text_start text ≡ 0 → reading 0 text ≡ Piece (Some kind.Literal) (length text) → IsTokenList text (record { kind = kind.Literal; from = 0; upto = length text } ∷ [])
one_token text readable start read =
    let all : 0 + length text ≡ length text = omega arith in
    record {
      readable = readable;
      depth = depth_after 0 text;
      reaches = record {
        pieces = record { kind = Some kind.Literal; from = 0; size = length text } ∷ [];
        cut = subst (λ (at : ℕ). Cut text at 0 (record { kind = Some kind.Literal; from = 0; size = length text } ∷ []) (length text) (depth_after 0 text)) (sym start)
            (refl, read, (all, refl));
        are = ap (λ n. record { kind = kind.Literal; from = 0; upto = n } ∷ []) (sym all);
      };
    }

-- A literal by itself of at most 4,194,304 bytes of UTF-8 is a source with one token.
pub literal_alone : (text : List ℕ) → IsLiteral text → length text ≤ MOST_BYTES → IsUtf8 text → IsTokenList text (record { kind = kind.Literal; from = 0; upto = length text } ∷ [])
literal_alone [] l short utf8 = absurd (nothing_is_no_literal 0 (IsLiteral-takes [] l))
literal_alone (x ∷ xs) l short utf8 =
    let takes = IsLiteral-takes (x ∷ xs) l in
    let first = starts-literal x xs (length (x ∷ xs)) takes in
    let start = start-is x xs (is_no_mark x first) in
    let readable : IsReadable (x ∷ xs) =
    record { short = short; utf8 = utf8; coding = ap (λ n. wrong_coding (drop n (x ∷ xs))) start ∙ no_coding x xs first } in
    one_token (x ∷ xs) readable start (literal_first 0 x xs (length (x ∷ xs)) takes)
