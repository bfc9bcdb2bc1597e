-- The machine reads the head of a group that the grammar spells.
use Rattle.std.proofs.Common.{◌≡◌, ℕ, suc, Bool, true, false, cond, List, [], ◌∷◌, ◌++◌, Option, Some, refl, ap, ◌∙◌, ◌==◌, arith}
use Rattle.std.proofs.lemmas.Bool.{ne_eqb}
use Rattle.std.proofs.lemmas.Bool.Decides.{nat_tests}
use Rattle.rl_pattern.specs.declared.flags.Flags.{Flags}
use Rattle.rl_pattern.specs.Tree.{Kind, capturing, named, scoped, lookaround, atomic, conditional, glyph, reference}
use Rattle.rl_pattern.specs.Codes.{is, numeral, is_digit, begins_name, goes_in_name, GroupPrefix, headed, letter, colon, minus, letter_p, sharps, less, greater, condition, looks, on_letter, off_letter, no_flags, with_letter}
use Rattle.rl_pattern.specs.Grammar.{At, Name, first_code, next_code, Digits, one_digit, next_digit, Letters, first_letter, next_letter, SpelledAt, Opening, captures, captures_named, groups, groups_on, groups_both, groups_off, looks_ahead, looks_behind, cuts, asks_number, asks_name, FlagGroup, flag_group, Without, no_code, one_code}
use Rattle.rl_pattern.specs.internal.Machine.{State, Base, at, between, comment, stops, goes, ends, InHead, paren, quest, after_p, after_less, group_name, group_name_goes, reference_name, reference_name_goes, asks, asks_digits, asks_name_goes, letters_on, letters_dash, letters_off, GroupStart, begins_group, begins_comment, is_reference, is_front, quest_next, after_less_next, head_step, head_answer, in_head, begin, open_group, put_leaf, put_front}
use Rattle.rl_pattern.proofs.Steps.{reads_from, goes_to, same_step, differs}

name_not : (text : Bool) → (goes_in_name text 62 ≡ false) × (goes_in_name text 41 ≡ false)
unfolding goes_in_name begins_name is_digit numeral
name_not true = (refl, refl)
name_not false = (refl, refl)

digit_not : is_digit 41 ≡ false
unfolding is_digit numeral
digit_not = refl

letter_not : (on_letter 58 ≡ false) × (on_letter 41 ≡ false) × (on_letter 45 ≡ false) × (off_letter 58 ≡ false)
unfolding on_letter off_letter
letter_not = (refl, refl, refl, refl)

-- The classes of single codes after `(?`.
heads : (headed 58 ≡ colon) × (headed 45 ≡ minus) × (headed 80 ≡ letter_p) × (headed 35 ≡ sharps) × (headed 60 ≡ less) × (headed 62 ≡ greater) × (headed 40 ≡ condition)
unfolding headed on_letter
heads = (refl, refl, refl, refl, refl, refl, refl)

letter_heads : (c : ℕ) → on_letter c ≡ true → headed c ≡ letter
unfolding headed
letter_heads c h = rw h refl

-- A code that begins a name isn't a digit.
name_no_digit : (text : Bool) (c : ℕ) → begins_name text c ≡ true → is_digit c ≡ false
unfolding begins_name is_digit numeral
name_no_digit text c h = grind (arith, nat_tests)

module _ (text : Bool) (w : List ℕ) {X : Type 0} (ask : ℕ → State → Option X) (b : Base) (a : ℕ) where
  abbrev From : ℕ → State → Option X
  From = reads_from text w ask

  abbrev In : InHead → State
  In h = at b (in_head a h)

  -- A code that continues the head.
  on : (i c : ℕ) (h k : InHead) → At text w i c → head_step text h c ≡ goes k → From i (In h) ≡ From (suc i) (In k)
  on i c h k at_c st = goes_to text w ask i c (In h) (In k) at_c (ap (λ r. head_answer i b a h r c) st)

  -- A code that completes the head.
  off : (i c : ℕ) (h : InHead) (o : GroupStart) (s : State) → At text w i c → head_step text h c ≡ ends o → begin b a (suc i) o ≡ Some s → From i (In h) ≡ From (suc i) s
  off i c h o s at_c st be = goes_to text w ask i c (In h) s at_c (ap (λ r. head_answer i b a h r c) st ∙ be)

  name_goes_on : {i j : ℕ} {n : List ℕ} → Name text w i j n → From i (In group_name) ≡ From j (In (group_name_goes n))
  name_goes_on (first_code {i = i} {c = c} at_c h) = on i c group_name (group_name_goes (c ∷ [])) at_c (ap (λ t. cond t (goes (group_name_goes (c ∷ []))) stops) h)
  name_goes_on (next_code {j = j} {c = c} {n = n} hs at_c h) =
      name_goes_on hs ∙ on j c (group_name_goes n) (group_name_goes (n ++ c ∷ [])) at_c (ap (λ t. cond t (ends (begins_group (named n))) (cond (goes_in_name text c) (goes (group_name_goes (n ++ c ∷ []))) stops)) (differs (goes_in_name text) 62 c (name_not text).0 h) ∙ ap (λ t. cond t (goes (group_name_goes (n ++ c ∷ []))) stops) h)

  reference_goes_on : {i j : ℕ} {n : List ℕ} → Name text w i j n → From i (In reference_name) ≡ From j (In reference_name_goes)
  reference_goes_on (first_code {i = i} {c = c} at_c h) = on i c reference_name reference_name_goes at_c (ap (λ t. cond t (goes reference_name_goes) stops) h)
  reference_goes_on (next_code {j = j} {c = c} hs at_c h) =
      reference_goes_on hs ∙ on j c reference_name_goes reference_name_goes at_c (ap (λ t. cond t (ends is_reference) (cond (goes_in_name text c) (goes reference_name_goes) stops)) (differs (goes_in_name text) 41 c (name_not text).1 h) ∙ ap (λ t. cond t (goes reference_name_goes) stops) h)

  asks_goes_on : {i j : ℕ} {n : List ℕ} → Name text w i j n → From i (In asks) ≡ From j (In asks_name_goes)
  asks_goes_on (first_code {i = i} {c = c} at_c h) =
      on i c asks asks_name_goes at_c (ap (λ t. cond t (goes asks_digits) (cond (begins_name text c) (goes asks_name_goes) stops)) (name_no_digit text c h) ∙ ap (λ t. cond t (goes asks_name_goes) stops) h)
  asks_goes_on (next_code {j = j} {c = c} hs at_c h) =
      asks_goes_on hs ∙ on j c asks_name_goes asks_name_goes at_c (ap (λ t. cond t (ends (begins_group conditional)) (cond (goes_in_name text c) (goes asks_name_goes) stops)) (differs (goes_in_name text) 41 c (name_not text).1 h) ∙ ap (λ t. cond t (goes asks_name_goes) stops) h)

  digits_go_on : {i j : ℕ} → Digits text w i j → From i (In asks) ≡ From j (In asks_digits)
  digits_go_on (one_digit {i = i} {c = c} at_c h) = on i c asks asks_digits at_c (ap (λ t. cond t (goes asks_digits) (cond (begins_name text c) (goes asks_name_goes) stops)) h)
  digits_go_on (next_digit {j = j} {c = c} hs at_c h) =
      digits_go_on hs ∙ on j c asks_digits asks_digits at_c (ap (λ t. cond t (ends (begins_group conditional)) (cond (is_digit c) (goes asks_digits) stops)) (differs is_digit 41 c digit_not h) ∙ ap (λ t. cond t (goes asks_digits) stops) h)

  letters_go : {i j : ℕ} {f : Flags} → Letters text w on_letter i j f → From i (In quest) ≡ From j (In (letters_on f))
  letters_go (first_letter {i = i} {c = c} at_c h) = on i c quest (letters_on (with_letter no_flags c)) at_c (ap (λ g. quest_next g c) (letter_heads c h))
  letters_go (next_letter {j = j} {c = c} {f = f} hs at_c h) =
      letters_go hs ∙ on j c (letters_on f) (letters_on (with_letter f c)) at_c (ap (λ t. cond t (ends (begins_group (scoped f no_flags))) (cond (c == 41) (ends (is_front f)) (cond (c == 45) (goes (letters_dash f)) (cond (on_letter c) (goes (letters_on (with_letter f c))) stops)))) (differs on_letter 58 c letter_not.0 h)
      ∙ ap (λ t. cond t (ends (is_front f)) (cond (c == 45) (goes (letters_dash f)) (cond (on_letter c) (goes (letters_on (with_letter f c))) stops))) (differs on_letter 41 c letter_not.1 h)
      ∙ ap (λ t. cond t (goes (letters_dash f)) (cond (on_letter c) (goes (letters_on (with_letter f c))) stops)) (differs on_letter 45 c letter_not.2 h)
      ∙ ap (λ t. cond t (goes (letters_on (with_letter f c))) stops) h)

  off_go : (f : Flags) {i j : ℕ} {g : Flags} → Letters text w off_letter i j g → From i (In (letters_dash f)) ≡ From j (In (letters_off f g))
  off_go f (first_letter {i = i} {c = c} at_c h) = on i c (letters_dash f) (letters_off f (with_letter no_flags c)) at_c (ap (λ t. cond t (goes (letters_off f (with_letter no_flags c))) stops) h)
  off_go f (next_letter {j = j} {c = c} {f = g} hs at_c h) =
      off_go f hs ∙ on j c (letters_off f g) (letters_off f (with_letter g c)) at_c (ap (λ t. cond t (ends (begins_group (scoped f g))) (cond (off_letter c) (goes (letters_off f (with_letter g c))) stops)) (differs off_letter 58 c letter_not.3 h) ∙ ap (λ t. cond t (goes (letters_off f (with_letter g c))) stops) h)

  -- The code after `(?`, by its class.
  by_head : (i c : ℕ) (g : GroupPrefix) (k : InHead) → At text w i c → headed c ≡ g → quest_next g c ≡ goes k → From i (In quest) ≡ From (suc i) (In k)
  by_head i c g k at_c e st = on i c quest k at_c (ap (λ h. quest_next h c) e ∙ st)

  by_head_ends : (i c : ℕ) (g : GroupPrefix) (o : GroupStart) (s : State) → At text w i c → headed c ≡ g → quest_next g c ≡ ends o → begin b a (suc i) o ≡ Some s → From i (In quest) ≡ From (suc i) s
  by_head_ends i c g o s at_c e st be = off i c quest o s at_c (ap (λ h. quest_next h c) e ∙ st) be

  asked : At text w (suc a) 63 → From (suc a) (In paren) ≡ From (suc (suc a)) (In quest)
  asked at_q = on (suc a) 63 paren quest at_q refl

  pub opening_goes : {j : ℕ} {k : Kind} → Opening text w a j k → reads_from text w ask (suc a) (at b (in_head a paren)) ≡ reads_from text w ask j (at (open_group b a j k) between)
  opening_goes (captures {c = c} at_a at_c ne) =
      same_step text w ask (suc a) c (In paren) (at (open_group b a (suc a) capturing) between) at_c (ap (λ t. head_answer (suc a) b a paren (cond t (goes quest) stops) c) (ne_eqb c 63 ne))
  opening_goes (captures_named {j = j} {n = n} (at_a, (at_q, (at_p, at_less))) name at_end) =
      asked at_q ∙ (by_head (suc (suc a)) 80 letter_p after_p at_p heads.2 refl ∙ on (suc (suc (suc a))) 60 after_p group_name at_less refl ∙ name_goes_on name ∙ off j 62 (group_name_goes n) (begins_group (named n)) _ at_end refl refl)
  opening_goes (groups (at_a, (at_q, at_c))) = asked at_q ∙ (by_head_ends (suc (suc a)) 58 colon (begins_group (scoped no_flags no_flags)) _ at_c heads.0 refl refl)
  opening_goes (groups_on {j = j} {f = f} (at_a, at_q) ls at_end) = asked at_q ∙ (letters_go ls ∙ off j 58 (letters_on f) (begins_group (scoped f no_flags)) _ at_end refl refl)
  opening_goes (groups_both {j = j} {k = k} {f = f} {g = g} (at_a, at_q) ls at_minus ms at_end) =
      asked at_q ∙ (letters_go ls ∙ on j 45 (letters_on f) (letters_dash f) at_minus refl ∙ off_go f ms ∙ off k 58 (letters_off f g) (begins_group (scoped f g)) _ at_end refl refl)
  opening_goes (groups_off {k = k} {g = g} (at_a, (at_q, at_minus)) ms at_end) =
      asked at_q ∙ (by_head (suc (suc a)) 45 minus (letters_dash no_flags) at_minus heads.1 refl ∙ off_go no_flags ms ∙ off k 58 (letters_off no_flags g) (begins_group (scoped no_flags g)) _ at_end refl refl)
  opening_goes (looks_ahead {c = c} (at_a, at_q) at_c h) = asked at_q ∙ (by_head_ends (suc (suc a)) c looks (begins_group (lookaround false (is "!" c))) _ at_c h refl refl)
  opening_goes (looks_behind {c = c} (at_a, (at_q, at_less)) at_c h) =
      asked at_q ∙ (by_head (suc (suc a)) 60 less after_less at_less heads.4 refl ∙ off (suc (suc (suc a))) c after_less (begins_group (lookaround true (is "!" c))) _ at_c (ap (λ x. after_less_next x c) h) refl)
  opening_goes (cuts (at_a, (at_q, at_c))) = asked at_q ∙ (by_head_ends (suc (suc a)) 62 greater (begins_group atomic) _ at_c heads.5 refl refl)
  opening_goes (asks_number {j = j} (at_a, (at_q, at_c)) ds at_end) =
      asked at_q ∙ (by_head (suc (suc a)) 40 condition asks at_c heads.6 refl ∙ digits_go_on ds ∙ off j 41 asks_digits (begins_group conditional) _ at_end refl refl)
  opening_goes (asks_name {j = j} (at_a, (at_q, at_c)) name at_end) =
      asked at_q ∙ (by_head (suc (suc a)) 40 condition asks at_c heads.6 refl ∙ asks_goes_on name ∙ off j 41 asks_name_goes (begins_group conditional) _ at_end refl refl)

  -- A reference to a named group.
  pub reference_goes : {j : ℕ} {n : List ℕ} → SpelledAt text w a "(?P=" → Name text w (suc (suc (suc (suc a)))) j n → At text w j 41 → reads_from text w ask (suc a) (at b (in_head a paren)) ≡ reads_from text w ask (suc j) (at (put_leaf b a (suc j) (glyph reference)) between)
  reference_goes {j} (at_a, (at_q, (at_p, at_is))) name at_end =
      asked at_q ∙ (by_head (suc (suc a)) 80 letter_p after_p at_p heads.2 refl ∙ on (suc (suc (suc a))) 61 after_p reference_name at_is refl ∙ reference_goes_on name ∙ off j 41 reference_name_goes is_reference _ at_end refl refl)

  -- A comment in parentheses.
  comment_goes_on : {i j : ℕ} → Without text w 41 i j → From i (at b comment) ≡ From j (at b comment)
  comment_goes_on no_code = refl
  comment_goes_on (one_code {j = j} {c = c} h at_c ne) = comment_goes_on h ∙ goes_to text w ask j c _ _ at_c (ap (λ t. cond t (Some (at b between)) (Some (at b comment))) (ne_eqb c 41 ne))

  pub comment_goes : {j : ℕ} → SpelledAt text w a "(?#" → Without text w 41 (suc (suc (suc a))) j → At text w j 41 → reads_from text w ask (suc a) (at b (in_head a paren)) ≡ reads_from text w ask (suc j) (at b between)
  comment_goes {j} (at_a, (at_q, at_c)) h at_end =
      asked at_q ∙ (by_head_ends (suc (suc a)) 35 sharps begins_comment _ at_c heads.3 refl refl ∙ comment_goes_on h ∙ goes_to text w ask j 41 _ _ at_end refl)

  -- A flag group that the machine accepts.
  pub front_goes : {j : ℕ} {f : Flags} → FlagGroup text w a j f → (s : State) → put_front b a j f ≡ Some s → reads_from text w ask (suc a) (at b (in_head a paren)) ≡ reads_from text w ask j s
  front_goes (flag_group {j = j} {f = f} (at_a, at_q) ls at_end) s st = asked at_q ∙ (letters_go ls ∙ off j 41 (letters_on f) (is_front f) s at_end refl st)
