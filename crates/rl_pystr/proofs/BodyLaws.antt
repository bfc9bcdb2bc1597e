-- The body of a quoted text, raw or not: it is ASCII, its value is the quoted text, and nothing in it closes it.
use Rattle.std.proofs.Common.{◌≡◌, ℕ, zero, suc, ◌+◌, ◌-◌, ◌<◌, ◌≤◌, Bool, true, false, ◌&&◌, List, [], ◌∷◌, ◌++◌, length, refl, ap, sym, ◌∙◌, arith, Some, append_assoc}
use Rattle.std.specs.Prelude.{◌==◌, nat_eq, option_map, Ok, All, slice_get}
use Rattle.std.specs.Option.{option_map_or}
use Rattle.std.specs.List.{list_all, flat_map}
use Rattle.std.proofs.lemmas.Bool.{false≢true}
use Rattle.std.proofs.lemmas.Bool.Decides.{nat_tests}
use Rattle.std.proofs.lemmas.List.{length-append}
use Rattle.std.proofs.lemmas.List.Folds.{list_all-append}
use Rattle.rl_pylex.specs.Bytes.{line_end}
use Rattle.rl_pylex.specs.Literals.{unit_size, quote_count, close_from}
use Rattle.rl_pystr.specs.Values.{joined_results, value_from}
use Rattle.rl_pystr.specs.Quoting.{escaped, is_plain, ends_in_backslash}
use Rattle.rl_pystr.proofs.HexLaws.{passes}
use Rattle.rl_pystr.proofs.PieceLaws.{is_ascii, piece_of, top, close_one, raw_unit, one, unit_back}

pub record IsBody (raw bytes : Bool) (cs body : List ℕ) : Type 0 where
  pub ascii : list_all is_ascii body ≡ true
  pub value : (place : ℕ) → (ps : List ℕ) × (value_from raw bytes place 0 body ≡ Ok (record { codes = cs; places = ps }))
  pub closes : close_from 1 34 0 (body ++ 34 ∷ []) ≡ Some (length body + 1)
  pub count : quote_count (34 ∷ (body ++ 34 ∷ [])) ≡ 1

left-of : (b c : Bool) → (b && c) ≡ true → b ≡ true
left-of true c h = refl
left-of false c h = absurd (false≢true h)

right-of : (b c : Bool) → (b && c) ≡ true → c ≡ true
right-of true c h = h
right-of false c h = absurd (false≢true h)

both-of : (b c : Bool) → b ≡ true → c ≡ true → (b && c) ≡ true
both-of true c h k = k
both-of false c h k = h

count_one : (x : ℕ) (ys : List ℕ) → nat_eq 34 x ≡ false → quote_count (34 ∷ x ∷ ys) ≡ 1
unfolding quote_count
count_one x ys e = rw e refl

end_closes : close_from 1 34 0 (34 ∷ []) ≡ Some (length {A = ℕ} [] + 1)
end_closes = refl

abbrev Below : Bool → List ℕ → Type 0
Below bytes cs = All (λ c. c < top bytes) cs

escaped_value : (bytes : Bool) (cs : List ℕ) (place : ℕ) → Below bytes cs → (ps : List ℕ) × (value_from false bytes place 0 (flat_map (escaped bytes) cs) ≡ Ok (record { codes = cs; places = ps }))
escaped_value bytes [] place h = ([], refl)
escaped_value bytes (c ∷ cs) place h =
    let p = piece_of bytes c (h 0 0 (omega arith)) in
    let rest = flat_map (escaped bytes) cs in
    let later = escaped_value bytes cs (place + 1 + length p.tail) (λ k d l. h (suc k) d (omega arith)) in (
      place ∷ later.0,
      ap (λ xs. value_from false bytes place 0 (xs ++ rest)) p.is
          ∙ unit_back false bytes place c p.head p.tail rest p.head_ascii p.tail_ascii (p.unit_is rest)
          ∙ ap (joined_results (Ok (one c place))) later.1,
    )

escaped_ascii : (bytes : Bool) (cs : List ℕ) → Below bytes cs → list_all is_ascii (flat_map (escaped bytes) cs) ≡ true
escaped_ascii bytes [] h = refl
escaped_ascii bytes (c ∷ cs) h =
    let p = piece_of bytes c (h 0 0 (omega arith)) in
    list_all-append is_ascii (escaped bytes c) (flat_map (escaped bytes) cs)
    ∙ both-of (list_all is_ascii (escaped bytes c)) (list_all is_ascii (flat_map (escaped bytes) cs))
    (ap (list_all is_ascii) p.is ∙ both-of (is_ascii p.head) (list_all is_ascii p.tail) p.head_ascii p.tail_ascii)
    (escaped_ascii bytes cs (λ k d l. h (suc k) d (omega arith)))

escaped_closes : (bytes : Bool) (cs : List ℕ) → Below bytes cs → close_from 1 34 0 (flat_map (escaped bytes) cs ++ 34 ∷ []) ≡ Some (length (flat_map (escaped bytes) cs) + 1)
escaped_closes bytes [] h = end_closes
escaped_closes bytes (c ∷ cs) h =
    let p = piece_of bytes c (h 0 0 (omega arith)) in
    let rest = flat_map (escaped bytes) cs in
    let size : length (escaped bytes c) ≡ 1 + length p.tail = ap length p.is ∙ omega arith in
    let long : 1 + length p.tail + (length rest + 1) ≡ length (escaped bytes c ++ rest) + 1 = omega (arith, length-append (escaped bytes c) rest, size) in
    ap (close_from 1 34 0) (append_assoc (escaped bytes c) rest (34 ∷ []))
    ∙ ap (λ xs. close_from 1 34 0 (xs ++ (rest ++ 34 ∷ []))) p.is
    ∙ p.goes_on (rest ++ 34 ∷ [])
    ∙ ap (option_map (λ m. 1 + length p.tail + m)) (escaped_closes bytes cs (λ k d l. h (suc k) d (omega arith)))
    ∙ ap Some long

escaped_count : (bytes : Bool) (cs : List ℕ) → Below bytes cs → quote_count (34 ∷ (flat_map (escaped bytes) cs ++ 34 ∷ [])) ≡ 1
unfolding quote_count
escaped_count bytes [] h = refl
escaped_count bytes (c ∷ cs) h =
    let p = piece_of bytes c (h 0 0 (omega arith)) in
    ap (λ xs. quote_count (34 ∷ ((xs ++ flat_map (escaped bytes) cs) ++ 34 ∷ []))) p.is
    ∙ count_one p.head ((p.tail ++ flat_map (escaped bytes) cs) ++ 34 ∷ []) p.no_quote

pub escaped_body : (bytes : Bool) (cs : List ℕ) → Below bytes cs → IsBody false bytes cs (flat_map (escaped bytes) cs)
escaped_body bytes cs h =
    record {
      ascii = escaped_ascii bytes cs h;
      value = λ place. escaped_value bytes cs place h;
      closes = escaped_closes bytes cs h;
      count = escaped_count bytes cs h;
    }

plain_line : (c : ℕ) (rest : List ℕ) → is_plain c ≡ true → line_end (c ∷ rest) ≡ 0
unfolding line_end
plain_line c rest h = grind (arith, nat_tests)

plain_ascii : (c : ℕ) → is_plain c ≡ true → is_ascii c ≡ true
plain_ascii c h = grind (arith, nat_tests)

plain_quote : (c : ℕ) → is_plain c ≡ true → nat_eq 34 c ≡ false
plain_quote c h = grind (arith, nat_tests)

plain_passes : (c : ℕ) → is_plain c ≡ true → (c == 92) ≡ false → passes c ≡ true
plain_passes c h e = grind (arith, nat_tests)

is_back : (c : ℕ) → (c == 92) ≡ true → 92 ≡ c
is_back c h = grind (arith, nat_tests)

two_pass : (d : ℕ) (rest : List ℕ) → is_plain d ≡ true → unit_size (92 ∷ d ∷ rest) ≡ 2
unfolding unit_size
two_pass d rest h = grind (arith, nat_tests)

back_two : (d : ℕ) (rest : List ℕ) → is_plain d ≡ true → close_from 1 34 0 (92 ∷ d ∷ rest) ≡ option_map suc (option_map suc (close_from 1 34 0 rest))
back_two d rest h =
    ap (λ n. option_map suc (close_from 1 34 (n - 1) (d ∷ rest))) (two_pass d rest h)

ends_tail : (c d : ℕ) (ds : List ℕ) → ends_in_backslash (c ∷ d ∷ ds) ≡ ends_in_backslash (d ∷ ds)
ends_tail c d ds =
    ap (λ k. option_map_or (λ x. x == 92) (slice_get (c ∷ d ∷ ds) k) false) (less (length ds))
  where
    less : (n : ℕ) → suc (suc n) - 1 ≡ suc (suc n - 1)
    less n = omega arith

ends_later : (c : ℕ) (cs : List ℕ) → ends_in_backslash (c ∷ cs) ≡ false → ends_in_backslash cs ≡ false
ends_later c [] h = refl
ends_later c (d ∷ ds) h = sym (ends_tail c d ds) ∙ h

raw_value : (bytes : Bool) (cs : List ℕ) (place : ℕ) → list_all is_plain cs ≡ true → (ps : List ℕ) × (value_from true bytes place 0 cs ≡ Ok (record { codes = cs; places = ps }))
raw_value bytes [] place h = ([], refl)
raw_value bytes (c ∷ cs) place h =
    let plain = left-of (is_plain c) (list_all is_plain cs) h in
    let later = raw_value bytes cs (place + 1 + 0) (right-of (is_plain c) (list_all is_plain cs) h) in (
      place ∷ later.0,
      unit_back true bytes place c c [] cs (plain_ascii c plain) refl (raw_unit bytes c cs (plain_ascii c plain) (plain_line c cs plain))
          ∙ ap (joined_results (Ok (one c place))) later.1,
    )

raw_ascii : (cs : List ℕ) → list_all is_plain cs ≡ true → list_all is_ascii cs ≡ true
raw_ascii [] h = refl
raw_ascii (c ∷ cs) h =
    both-of (is_ascii c) (list_all is_ascii cs) (plain_ascii c (left-of (is_plain c) (list_all is_plain cs) h)) (raw_ascii cs (right-of (is_plain c) (list_all is_plain cs) h))

-- After a backslash that isn't the last code point, another code point is skipped.
raw_two : (c d : ℕ) (ds : List ℕ) → 92 ≡ c → is_plain d ≡ true → close_from 1 34 0 (ds ++ 34 ∷ []) ≡ Some (length ds + 1)
    → close_from 1 34 0 (c ∷ d ∷ (ds ++ 34 ∷ [])) ≡ Some (suc (suc (length ds)) + 1)
raw_two c d ds e h later =
    ap (λ x. close_from 1 34 0 (x ∷ d ∷ (ds ++ 34 ∷ []))) (sym e)
    ∙ back_two d (ds ++ 34 ∷ []) h
    ∙ ap (λ o. option_map suc (option_map suc o)) later ∙ ap Some (omega arith)

raw_one : (c : ℕ) (cs : List ℕ) → is_plain c ≡ true → (c == 92) ≡ false → close_from 1 34 0 (cs ++ 34 ∷ []) ≡ Some (length cs + 1)
    → close_from 1 34 0 (c ∷ (cs ++ 34 ∷ [])) ≡ Some (suc (length cs) + 1)
raw_one c cs h e later = close_one c (cs ++ 34 ∷ []) (plain_passes c h e) ∙ ap (option_map suc) later ∙ ap Some (omega arith)

raw_step : (b : Bool) (c d : ℕ) (ds : List ℕ) → (c == 92) ≡ b → is_plain c ≡ true → is_plain d ≡ true
    → close_from 1 34 0 (d ∷ (ds ++ 34 ∷ [])) ≡ Some (suc (length ds) + 1) → close_from 1 34 0 (ds ++ 34 ∷ []) ≡ Some (length ds + 1)
    → close_from 1 34 0 (c ∷ d ∷ (ds ++ 34 ∷ [])) ≡ Some (suc (suc (length ds)) + 1)
raw_step true c d ds e hc hd one two = raw_two c d ds (is_back c e) hd two
raw_step false c d ds e hc hd one two = raw_one c (d ∷ ds) hc e one

-- After a first backslash the rest may itself end in one, so both cases are carried along.
raw_closes : (n : ℕ) (cs : List ℕ) → length cs ≤ n → list_all is_plain cs ≡ true → ends_in_backslash cs ≡ false → close_from 1 34 0 (cs ++ 34 ∷ []) ≡ Some (length cs + 1)
raw_closes n [] l h ends = end_closes
raw_closes zero (c ∷ cs) l h ends = absurd (omega arith)
raw_closes (suc n) (c ∷ []) l h ends = raw_one c [] (left-of (is_plain c) true h) ends end_closes
raw_closes (suc n) (c ∷ d ∷ ds) l h ends =
    let hc = left-of (is_plain c) (is_plain d && list_all is_plain ds) h in
    let rest = right-of (is_plain c) (is_plain d && list_all is_plain ds) h in
    let hd = left-of (is_plain d) (list_all is_plain ds) rest in
    let ends_d = ends_later c (d ∷ ds) ends in
    raw_step (c == 92) c d ds refl hc hd
    (raw_closes n (d ∷ ds) (omega arith) rest ends_d)
    (raw_closes n ds (omega arith) (right-of (is_plain d) (list_all is_plain ds) rest) (ends_later d ds ends_d))

raw_count : (cs : List ℕ) → list_all is_plain cs ≡ true → quote_count (34 ∷ (cs ++ 34 ∷ [])) ≡ 1
unfolding quote_count
raw_count [] h = refl
raw_count (c ∷ cs) h = count_one c (cs ++ 34 ∷ []) (plain_quote c (left-of (is_plain c) (list_all is_plain cs) h))

pub raw_body : (bytes : Bool) (cs : List ℕ) → list_all is_plain cs ≡ true → ends_in_backslash cs ≡ false → IsBody true bytes cs cs
raw_body bytes cs h ends =
    record {
      ascii = raw_ascii cs h;
      value = λ place. raw_value bytes cs place h;
      closes = raw_closes (length cs) cs (omega arith) h ends;
      count = raw_count cs h;
    }
