-- Facts about the beginning of a text that follow from a test of one byte.
use Rattle.std.proofs.Common.{◌≡◌, ℕ, zero, suc, ◌<◌, ◌≤◌, Bool, true, false, cond, ◌&&◌, List, [], ◌∷◌, length, get_or, take, drop, ◌+◌, Option, refl, sym, ap, ◌∙◌, arith, subst, Some, None}
use Rattle.std.specs.Prelude.{option_map}
use Rattle.std.specs.Str.{str_to_ascii_lowercase}
use Rattle.std.proofs.lemmas.Bool.{false≢true}
use Rattle.rl_pylex.specs.Bytes.{has_at, is_quote}
use Rattle.rl_pylex.specs.Literals.{is_prefix, opens_after, prefix_size, quote_count, close_from, size_after}

pub has_at-read : (p : ℕ → Bool) (n : ℕ) (xs : List ℕ) → has_at p n xs ≡ true → p (get_or xs n 0) ≡ true
has_at-read p n [] h = absurd (false≢true h)
has_at-read p zero (x ∷ xs) h = h
has_at-read p (suc n) (x ∷ xs) h = has_at-read p n xs h

pub has_at-within : (p : ℕ → Bool) (n : ℕ) (xs : List ℕ) → has_at p n xs ≡ true → n < length xs
has_at-within p n [] h = absurd (false≢true h)
has_at-within p zero (x ∷ xs) h = omega arith
has_at-within p (suc n) (x ∷ xs) h = omega (arith, has_at-within p n xs h)

-- A test of a byte of the text.
pub has_at-here : (p : ℕ → Bool) (n : ℕ) (xs : List ℕ) → n < length xs → has_at p n xs ≡ p (get_or xs n 0)
has_at-here p n [] h = absurd (omega arith)
has_at-here p zero (x ∷ xs) h = refl
has_at-here p (suc n) (x ∷ xs) h = has_at-here p n xs (omega arith)

-- A test at a place past the end of the text.
pub has_at-beyond : (p : ℕ → Bool) (n : ℕ) (xs : List ℕ) → length xs ≤ n → has_at p n xs ≡ false
has_at-beyond p n [] h = refl
has_at-beyond p zero (x ∷ xs) h = absurd (omega arith)
has_at-beyond p (suc n) (x ∷ xs) h = has_at-beyond p n xs (omega arith)

-- If a test says that there is a quote, the byte there is a quote.
pub quote_at : (n : ℕ) (xs : List ℕ) → has_at is_quote n xs ≡ true → is_quote (get_or xs n 0) ≡ true
quote_at n xs h = has_at-read is_quote n xs h

right-true : (b c : Bool) → (b && c) ≡ true → c ≡ true
right-true true c e = e
right-true false c e = absurd (false≢true e)

both : (b c : Bool) {d : Bool} → b ≡ d → c ≡ true → (b && c) ≡ d
both true c e f = f ∙ e
both false c e f = e

none : (b c : Bool) → c ≡ false → (b && c) ≡ false
none true c e = e
none false c e = refl

opens-quote : (text : List ℕ) (n : ℕ) → opens_after text n ≡ true → has_at is_quote n text ≡ true
unfolding opens_after
opens-quote text n e = right-true (is_prefix (str_to_ascii_lowercase (take n text))) (has_at is_quote n text) e

-- Whether the text begins with a quote and so with a literal without a prefix.
pub opens-bare : (text : List ℕ) (b : Bool) → 0 < length text → b ≡ is_quote (get_or text 0 0) → opens_after text 0 ≡ b
unfolding opens_after
opens-bare [] b some e = absurd (omega arith)
opens-bare (x ∷ xs) b some e = sym e

-- Whether the text begins with a prefix of one letter.
pub opens-one : (text : List ℕ) (b : Bool) → 1 < length text → true ≡ is_quote (get_or text 1 0) → b ≡ is_prefix (str_to_ascii_lowercase (get_or text 0 0 ∷ [])) → opens_after text 1 ≡ b
unfolding opens_after
opens-one [] b some q e = absurd (omega arith)
opens-one (x ∷ []) b some q e = absurd (omega arith)
opens-one (x ∷ y ∷ xs) b some q e = both (is_prefix (str_to_ascii_lowercase (x ∷ []))) (is_quote y) (sym e) (sym q)

-- Whether the text begins with a prefix of two letters.
pub opens-two : (text : List ℕ) (b : Bool) → 2 < length text → true ≡ is_quote (get_or text 2 0) → b ≡ is_prefix (str_to_ascii_lowercase (get_or text 0 0 ∷ get_or text 1 0 ∷ [])) → opens_after text 2 ≡ b
unfolding opens_after
opens-two [] b some q e = absurd (omega arith)
opens-two (x ∷ []) b some q e = absurd (omega arith)
opens-two (x ∷ y ∷ []) b some q e = absurd (omega arith)
opens-two (x ∷ y ∷ z ∷ xs) b some q e = both (is_prefix (str_to_ascii_lowercase (x ∷ y ∷ []))) (is_quote z) (sym e) (sym q)

-- Letters aren't a prefix if no quote follows them.
pub opens-none : (text : List ℕ) (n : ℕ) → n < length text → false ≡ is_quote (get_or text n 0) → opens_after text n ≡ false
unfolding opens_after
opens-none text n some e =
    none (is_prefix (str_to_ascii_lowercase (take n text))) (has_at is_quote n text) (has_at-here is_quote n text some ∙ sym e)

pub opens-short : (text : List ℕ) (n : ℕ) → length text ≤ n → opens_after text n ≡ false
unfolding opens_after
opens-short text n few =
    none (is_prefix (str_to_ascii_lowercase (take n text))) (has_at is_quote n text) (has_at-beyond is_quote n text few)

-- The prefix is the first one that fits.
pub prefix_is : (text : List ℕ) (a b c : Bool) → opens_after text 0 ≡ a → opens_after text 1 ≡ b → opens_after text 2 ≡ c → cond a (Some 0) (cond b (Some 1) (cond c (Some 2) None)) ≡ prefix_size text
unfolding prefix_size
prefix_is text a b c bare one two =
    ap (λ x. cond x (Some 0) (cond b (Some 1) (cond c (Some 2) None))) (sym bare)
    ∙ ap (λ x. cond (opens_after text 0) (Some 0) (cond x (Some 1) (cond c (Some 2) None))) (sym one)
    ∙ ap (λ x. cond (opens_after text 0) (Some 0) (cond (opens_after text 1) (Some 1) (cond x (Some 2) None))) (sym two)

-- A quote follows the prefix of a literal.
pub prefix-quote : (text : List ℕ) (n : ℕ) → prefix_size text ≡ Some n → has_at is_quote n text ≡ true
unfolding prefix_size
prefix-quote text n e = by-tests (opens_after text 0) (opens_after text 1) (opens_after text 2) refl refl refl e
  where
    found : (k : ℕ) → opens_after text k ≡ true → Some k ≡ Some n → has_at is_quote n text ≡ true
    found k opens same = subst (λ (i : ℕ). has_at is_quote i text ≡ true) (value k n same) (opens-quote text k opens)
      where
        value : (k n : ℕ) → Some k ≡ Some n → k ≡ n
        value k n same = cc

    nothing : (n : ℕ) → None ≡ Some n → ⊥
    nothing n same = cc

    by-tests : (a b c : Bool) → opens_after text 0 ≡ a → opens_after text 1 ≡ b → opens_after text 2 ≡ c
        → cond a (Some 0) (cond b (Some 1) (cond c (Some 2) None)) ≡ Some n → has_at is_quote n text ≡ true
    by-tests true b c ea eb ec same = found 0 ea same
    by-tests false true c ea eb ec same = found 1 eb same
    by-tests false false true ea eb ec same = found 2 ec same
    by-tests false false false ea eb ec same = absurd (nothing n same)

pub prefix-within : (text : List ℕ) (n : ℕ) → prefix_size text ≡ Some n → n < length text
prefix-within text n e = has_at-within is_quote n text (prefix-quote text n e)

-- The size of a literal, given the search for its closing quotes.
pub size_is : (n quotes quote : ℕ) (text rest behind : List ℕ) (o : Option ℕ) → rest ≡ drop n text → quotes ≡ quote_count rest → behind ≡ drop (n + quotes) text
    → quote ≡ get_or text n 0 → o ≡ close_from quotes quote 0 behind → option_map (λ m. n + quotes + m) o ≡ size_after n text
unfolding size_after
size_is n quotes quote text rest behind o here counts after opens closes =
    ap (option_map (λ m. n + quotes + m)) (closes ∙ ap (close_from quotes quote 0) after ∙ ap (λ q. close_from quotes q 0 (drop (n + quotes) text)) opens)
    ∙ ap (λ k. option_map (λ m. n + k + m) (close_from k (get_or text n 0) 0 (drop (n + k) text))) (counts ∙ ap quote_count here)

pub ruleset prefixes = (prefix-quote, prefix-within)

pub ruleset reads = (has_at-here, has_at-beyond)
