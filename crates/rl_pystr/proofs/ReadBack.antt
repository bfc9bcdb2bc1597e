-- A quoted text is one literal, and its value is that text.
use Rattle.std.proofs.Common.{◌≡◌, ℕ, zero, suc, ◌+◌, ◌-◌, ◌≤◌, Bool, true, false, cond, ◌&&◌, ◌||◌, not, List, [], ◌∷◌, ◌++◌, length, get_or, take, drop, refl, ap, ap₂, sym, ◌∙◌, arith, Some, Option, subst}
use Rattle.std.specs.Prelude.{unwrap_or, option_map, Result, Ok, Err}
use Rattle.std.specs.List.{list_all, flat_map}
use Rattle.std.specs.Str.{chars, IsAscii}
use Rattle.std.proofs.lemmas.Bool.{false≢true}
use Rattle.std.proofs.lemmas.Bool.Decides.{nat_tests}
use Rattle.std.proofs.lemmas.List.{length-append, take_at, take_all}
use Rattle.std.proofs.lemmas.List.Folds.{list_all-append}
use Rattle.std.proofs.lemmas.Str.{IsUtf8-from_ascii, chars-IsAscii}
use Rattle.rl_ranges.specs.declared.universe.Universe.{Universe}
use Rattle.rl_ranges.specs.declared.universe.Universe.TheVariants.{Str, Bytes}
use Rattle.rl_pylex.specs.Literals.{opens_after, prefix_size, quote_count, close_from, size_after, IsLiteral}
use Rattle.rl_pylex.proofs.Alone.{literal_alone}
use Rattle.rl_pylex.specs.Source.{text_of}
use Rattle.rl_pystr.specs.declared.fault.StrError.{StrError}
use Rattle.rl_pystr.specs.declared.fault.StrError.TheVariants as error
use Rattle.rl_pystr.specs.declared.placed.Placed.{Placed}
use Rattle.rl_pystr.specs.Values.{empty, joined_results, value_from}
use Rattle.rl_pystr.specs.Runs.{letter_count, has_letter, quotes_of, body_start, body_of, literal_value, values, has_bytes, value_of_run, universe_by}
use Rattle.rl_pystr.specs.Quoting.{is_bytes, escaped, is_plain, ends_in_backslash, is_raw, bytes_prefix, quoted_body, quoted}
use Rattle.rl_pystr.specs.Laws.{whole, IsReadBack, IsQuotingReadBack}
use Rattle.rl_pystr.proofs.Bodies.{before-empty}
use Rattle.rl_pystr.proofs.PieceLaws.{is_ascii}
use Rattle.rl_pystr.proofs.BodyLaws.{IsBody, escaped_body, raw_body}

-- A prefix and an opening quote before a text.
abbrev front : Bool → Bool → List ℕ → List ℕ
front true true text = 98 ∷ 114 ∷ 34 ∷ text
front true false text = 98 ∷ 34 ∷ text
front false true text = 114 ∷ 34 ∷ text
front false false text = 34 ∷ text

abbrev letters : Bool → Bool → ℕ
letters true true = 2
letters true false = 1
letters false true = 1
letters false false = 0

record IsFront (bytes raw : Bool) (text : List ℕ) : Type 0 where
  pub starts : prefix_size (front bytes raw text) ≡ Some (letters bytes raw)
  pub behind : drop (letters bytes raw) (front bytes raw text) ≡ 34 ∷ text
  pub inner : drop (letters bytes raw + 1) (front bytes raw text) ≡ text
  pub first : get_or (front bytes raw text) (letters bytes raw) 0 ≡ 34
  pub long : length (front bytes raw text) ≡ letters bytes raw + 1 + length text
  pub no_f : has_letter 102 (front bytes raw text) ≡ false
  pub b : has_letter 98 (front bytes raw text) ≡ bytes
  pub r : has_letter 114 (front bytes raw text) ≡ raw
  pub ascii : list_all is_ascii (front bytes raw text) ≡ list_all is_ascii text

front_is : (bytes raw : Bool) (text : List ℕ) → IsFront bytes raw text
unfolding prefix_size opens_after has_letter
front_is true true text =
    record { starts = refl; behind = refl; inner = refl; first = refl; long = omega arith; no_f = refl; b = refl; r = refl; ascii = refl }
front_is true false text =
    record { starts = refl; behind = refl; inner = refl; first = refl; long = omega arith; no_f = refl; b = refl; r = refl; ascii = refl }
front_is false true text =
    record { starts = refl; behind = refl; inner = refl; first = refl; long = omega arith; no_f = refl; b = refl; r = refl; ascii = refl }
front_is false false text =
    record { starts = refl; behind = refl; inner = refl; first = refl; long = omega arith; no_f = refl; b = refl; r = refl; ascii = refl }

size_by : ℕ → ℕ → ℕ → List ℕ → Option ℕ
size_by n quotes quote body = option_map (λ m. n + quotes + m) (close_from quotes quote 0 body)

size_is : (n j : ℕ) (text body : List ℕ) → quote_count (drop n text) ≡ 1 → get_or text n 0 ≡ 34 → drop (n + 1) text ≡ body → close_from 1 34 0 body ≡ Some j → size_after n text ≡ Some (n + 1 + j)
unfolding size_after size_by
size_is n j text body quotes quote rest close =
    ap (λ k. size_by n k (get_or text n 0) (drop (n + k) text)) quotes
    ∙ ap (λ d. size_by n 1 d (drop (n + 1) text)) quote
    ∙ ap (size_by n 1 34) rest
    ∙ ap (option_map (λ k. n + 1 + k)) close

ascii_at : (xs : List ℕ) → list_all is_ascii xs ≡ true → IsAscii xs
ascii_at [] h i = omega arith
ascii_at (x ∷ xs) h zero = grind (arith, nat_tests)
ascii_at (x ∷ xs) h (suc i) = ascii_at xs (right-of (is_ascii x) (list_all is_ascii xs) h) i
  where
    right-of : (b c : Bool) → (b && c) ≡ true → c ≡ true
    right-of true c e = e
    right-of false c e = absurd (false≢true e)

closed_ascii : (body : List ℕ) → list_all is_ascii body ≡ true → list_all is_ascii (body ++ 34 ∷ []) ≡ true
closed_ascii body h = list_all-append is_ascii body (34 ∷ []) ∙ ap (λ b. b && true) h

-- The parts of a quoted text.
record IsLaid (bytes raw : Bool) (cs text : List ℕ) : Type 0 where
  pub literal : IsLiteral text
  pub ascii : IsAscii text
  pub no_f : has_letter 102 text ≡ false
  pub b : has_letter 98 text ≡ bytes
  pub places : List ℕ
  pub value : literal_value bytes 0 text ≡ Ok (record { codes = cs; places = places })

start_is : (n : ℕ) (text : List ℕ) → prefix_size text ≡ Some n → quote_count (drop n text) ≡ 1 → (quotes_of text ≡ 1) × (body_start text ≡ n + 1)
unfolding body_start
start_is n text e q =
    let count : letter_count text ≡ n = ap (λ (o : Option ℕ). unwrap_or o 0) e in
    let quotes : quotes_of text ≡ 1 = ap (λ k. quote_count (drop k text)) count ∙ q in
    (quotes, ap₂ (λ a b. a + b) count quotes)

body_is : (n : ℕ) (text body : List ℕ) → quotes_of text ≡ 1 → body_start text ≡ n + 1 → drop (n + 1) text ≡ body ++ 34 ∷ [] → length text ≡ n + 1 + length (body ++ 34 ∷ []) → body_of text ≡ body
unfolding body_of
body_is n text body q s rest long =
    let size : length text - 1 - (n + 1) ≡ length body = omega (arith, long, length-append body (34 ∷ [])) in
    ap (λ k. take (length text - k - body_start text) (drop (body_start text) text)) q
    ∙ ap (λ k. take (length text - 1 - k) (drop k text)) s
    ∙ ap₂ (λ k xs. take k xs) size rest
    ∙ take_at body (34 ∷ []) (length body) refl

value_is : (bytes raw : Bool) (start : ℕ) (text body cs ps : List ℕ) → has_letter 114 text ≡ raw → body_start text ≡ start → body_of text ≡ body → IsAscii body
    → value_from raw bytes (0 + start) 0 body ≡ Ok (record { codes = cs; places = ps }) → literal_value bytes 0 text ≡ Ok (record { codes = cs; places = ps })
unfolding literal_value
value_is bytes raw start text body cs ps r s b a v =
    ap (λ y. value_from y bytes (0 + body_start text) 0 (chars (body_of text))) r
    ∙ ap (λ k. value_from raw bytes (0 + k) 0 (chars (body_of text))) s
    ∙ ap (λ xs. value_from raw bytes (0 + start) 0 (chars xs)) b
    ∙ ap (value_from raw bytes (0 + start) 0) (chars-IsAscii body a)
    ∙ v

laid : (bytes raw : Bool) (cs body : List ℕ) → IsBody raw bytes cs body → IsLaid bytes raw cs (front bytes raw (body ++ 34 ∷ []))
laid bytes raw cs body h =
    let n = letters bytes raw in
    let text = front bytes raw (body ++ 34 ∷ []) in
    let f = front_is bytes raw (body ++ 34 ∷ []) in
    let q : quote_count (drop n text) ≡ 1 = ap quote_count f.behind ∙ h.count in
    let s = start_is n text f.starts q in
    let long : n + 1 + (length body + 1) ≡ length text = omega (arith, f.long, length-append body (34 ∷ [])) in
    let v = h.value (0 + (n + 1)) in
    record {
      literal = record { prefix = n; starts = f.starts; closes = size_is n (length body + 1) text (body ++ 34 ∷ []) q f.first f.inner h.closes ∙ ap Some long };
      ascii = ascii_at text (f.ascii ∙ closed_ascii body h.ascii);
      no_f = f.no_f;
      b = f.b;
      places = v.0;
      value = value_is bytes raw (n + 1) text body cs v.0 f.r s.1 (body_is n text body s.0 s.1 f.inner f.long) (ascii_at body h.ascii) v.1;
    }

whole_text : (text : List ℕ) → text_of text (whole text) ≡ text
whole_text text = take_all (length text - 0) text (omega arith)

not_mixed : (b : Bool) → (b && (not b || false)) ≡ false
not_mixed true = refl
not_mixed false = refl

or-false : (b : Bool) → (b || false) ≡ b
or-false true = refl
or-false false = refl

run_by : (f y m : Bool) (r : Result Placed StrError) → f ≡ false → (y && m) ≡ false → cond f (Err error.FString) (cond (y && m) (Err error.Mixed) r) ≡ r
run_by f y m r e g = rw (e, g) refl

bytes_is : (bytes : Bool) (text : List ℕ) → has_letter 98 text ≡ bytes → has_bytes text (whole text ∷ []) ≡ bytes
unfolding has_bytes
bytes_is bytes text b =
    or-false (has_letter 98 (text_of text (whole text))) ∙ ap (has_letter 98) (whole_text text) ∙ b

run_value : (bytes : Bool) (text : List ℕ) (p : Placed) → has_letter 102 text ≡ false → has_letter 98 text ≡ bytes → literal_value bytes 0 text ≡ Ok p
    → value_of_run text (whole text ∷ []) ≡ Ok p
unfolding value_of_run has_bytes
run_value bytes text p f b v =
    let same = whole_text text in
    let y : has_letter 98 (text_of text (whole text)) ≡ bytes = ap (has_letter 98) same ∙ b in
    run_by (has_letter 102 (text_of text (whole text)) || false) (has_letter 98 (text_of text (whole text)) || false) (not (has_letter 98 (text_of text (whole text))) || false)
    (values (has_letter 98 (text_of text (whole text)) || false) text (whole text ∷ []))
    (or-false (has_letter 102 (text_of text (whole text))) ∙ ap (has_letter 102) same ∙ f)
    (ap₂ (λ a c. a && (not c || false)) (or-false (has_letter 98 (text_of text (whole text))) ∙ y) y ∙ not_mixed bytes)
    ∙ ap (λ a. values a text (whole text ∷ [])) (or-false (has_letter 98 (text_of text (whole text))) ∙ y)
    ∙ ap (λ xs. joined_results (literal_value bytes 0 xs) (Ok empty)) same
    ∙ ap (λ r. joined_results r (Ok empty)) v
    ∙ before-empty p

by_bytes : (u : Universe) → universe_by (is_bytes u) ≡ u
by_bytes Str = refl
by_bytes Bytes = refl

read_by : (u : Universe) (raw : Bool) (cs text : List ℕ) → IsLaid (is_bytes u) raw cs text → length text ≤ 4194304 → IsReadBack u cs text
read_by u raw cs text l short =
    record {
      tokens = literal_alone text l.literal short (IsUtf8-from_ascii text l.ascii);
      places = l.places;
      value = run_value (is_bytes u) text (record { codes = cs; places = l.places }) l.no_f l.b l.value;
      universe = ap universe_by (bytes_is (is_bytes u) text l.b) ∙ by_bytes u;
    }

-- The form of a quoted text that is raw, and of one that isn't.
quoted_raw : (bytes : Bool) (cs : List ℕ) → bytes_prefix bytes ++ quoted_body true bytes cs ++ 34 ∷ [] ≡ front bytes true (cs ++ 34 ∷ [])
quoted_raw true cs = refl
quoted_raw false cs = refl

quoted_escaped : (bytes : Bool) (cs : List ℕ) → bytes_prefix bytes ++ quoted_body false bytes cs ++ 34 ∷ [] ≡ front bytes false (flat_map (escaped bytes) cs ++ 34 ∷ [])
quoted_escaped true cs = refl
quoted_escaped false cs = refl

raw_parts : (a b : Bool) → (a && not b) ≡ true → (a ≡ true) × (b ≡ false)
raw_parts true false h = (refl, refl)
raw_parts true true h = absurd (false≢true h)
raw_parts false b h = absurd (false≢true h)

laid_by : (u : Universe) (cs : List ℕ) (a b : Bool) → list_all is_plain cs ≡ a → ends_in_backslash cs ≡ b → IsBody false (is_bytes u) cs (flat_map (escaped (is_bytes u)) cs)
    → (raw : Bool) → (a && not b) ≡ raw → IsLaid (is_bytes u) raw cs (bytes_prefix (is_bytes u) ++ quoted_body raw (is_bytes u) cs ++ 34 ∷ [])
laid_by u cs a b plain ends other true e =
    let parts = raw_parts a b e in
    subst (IsLaid (is_bytes u) true cs) (sym (quoted_raw (is_bytes u) cs)) (laid (is_bytes u) true cs cs (raw_body (is_bytes u) cs (plain ∙ parts.0) (ends ∙ parts.1)))
laid_by u cs a b plain ends other false e =
    subst (IsLaid (is_bytes u) false cs) (sym (quoted_escaped (is_bytes u) cs)) (laid (is_bytes u) false cs (flat_map (escaped (is_bytes u)) cs) other)

pub read_back : IsQuotingReadBack
unfolding quoted is_raw
read_back Str cs h short =
    read_by Str (list_all is_plain cs && not (ends_in_backslash cs)) cs _
    (laid_by Str cs (list_all is_plain cs) (ends_in_backslash cs) refl refl (escaped_body false cs h) (list_all is_plain cs && not (ends_in_backslash cs)) refl) short
read_back Bytes cs h short =
    read_by Bytes (list_all is_plain cs && not (ends_in_backslash cs)) cs _
    (laid_by Bytes cs (list_all is_plain cs) (ends_in_backslash cs) refl refl (escaped_body true cs h) (list_all is_plain cs && not (ends_in_backslash cs)) refl) short
