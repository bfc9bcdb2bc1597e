-- The machine reads what the grammar spells, so at most one syntax tree is spelled.
use Rattle.std.proofs.Common.{◌≡◌, ℕ, zero, suc, ◌+◌, ◌≤◌, Bool, true, false, cond, not, List, [], ◌∷◌, ◌++◌, length, Option, Some, None, refl, sym, ap, ◌∙◌, subst, ◌==◌, if◌then◌else◌, ◌||◌, arith, length-append, add-zero}
use Rattle.std.proofs.lemmas.Bool.{ne_eqb, eq-eqb, eqb-true, cases_Bool}
use Rattle.std.proofs.lemmas.Bool.Decides.{nat_tests}
use Rattle.std.proofs.lemmas.Option.{slice_get_within, slice_get_past, same_Some}
use Rattle.std.proofs.lemmas.List.{drop_all}
use mathlib.Core.Logic.{inl, inr, ⊎_elim}
use Rattle.rl_pattern.specs.declared.flags.Flags.{Flags}
use Rattle.rl_pattern.specs.Tree.{span, Count, Greed, greedy, lazy, possessive, Escaped, glyph, Kind, SyntaxNode, mark, repeat, group, Branch, branch, whole_body, Front, Whole}
use Rattle.rl_pattern.specs.Codes.{sign, left, right, bar, brace, slash, dot, bracket, times, edge, blank, sharp, plain, numeral, is_digit, counts, count_of, edges, slashed, EscapeClass, single, kinds, hexes, naming, octal, low, high, no_escape, joined, splits}
use Rattle.rl_pattern.specs.Grammar.{is_literal, outermost, At, Without, no_code, one_code, SetHead, upright, inverted, Opening, captures, captures_named, groups, groups_on, groups_both, groups_off, looks_ahead, looks_behind, cuts, asks_number, asks_name, Text, no_text, one_text, Braces, braces, Counts, by_code, by_braces, Quantifier, is_greedy, is_lazy, is_possessive, Ignored, pass_blank, pass_line, pass_last_line, pass_comment, Blanks, no_blank, one_blank, Atom, literal, literal_brace, dotted, escaped, refers, bracketed, grouped, Item, once, repeated, edge_code, edge_escape, Items, no_items, pass_over, one_item, IsBranches, first_branch, next_branch, FlagGroup, flag_group, Fronts, no_fronts, one_front, spelled, Spells}
use Rattle.rl_pattern.specs.internal.Machine.{Frame, Last, nothing_yet, an_atom, Base, between, line, in_braces, counted, at_slash, in_escape, State, at, settled, put_leaf, put_code, put_codes, no_count, put_repeat, open_group, is_nil, by_sign, go_on, end_braces, escape_begins, slash_step, escape_step, InEscape, Answer, stops, goes, ends, escape_first, escape_rest, step_at, observe, finish_at, finish_escape, start, reads}
use Rattle.rl_pattern.proofs.Steps.{Fair, reads_from, goes_to, same_step, same_end, alike, alike_steps, sign_goes, differs}
use Rattle.rl_pattern.proofs.Escapes.{Reader, escape_goes, backslash}
use Rattle.rl_pattern.proofs.Sets.{class_goes}
use Rattle.rl_pattern.proofs.Heads.{opening_goes, reference_goes, comment_goes, front_goes}

-- The classes of single codes between items.
pub signs : (sign 40 ≡ left) × (sign 41 ≡ right) × (sign 124 ≡ bar) × (sign 123 ≡ brace) × (sign 92 ≡ slash) × (sign 46 ≡ dot) × (sign 91 ≡ bracket) × (sign 35 ≡ sharp) × (sign 125 ≡ plain)
unfolding sign
signs = (refl, refl, refl, refl, refl, refl, refl, refl, refl)

-- Outside a count, the codes of a count are literals.
pub counts_plain : (c : ℕ) → counts c ≡ true → sign c ≡ plain
unfolding counts sign is_digit numeral
counts_plain c h = grind (arith, nat_tests)

pub brace_not : counts 125 ≡ false
unfolding counts is_digit numeral
brace_not = refl

-- What is open around a branch.
pub record Out : Type 0 where
  pub opened : ℕ
  pub start : ℕ
  pub below : List Frame
  pub fronts : List Front

abbrev pub frame : Flags → Kind → Out → ℕ → List Branch → List SyntaxNode → Frame
frame fl kd o f ds ps = record { flags = fl; kind = kd; opened = o.opened; start = o.start; from = f; branches = ds; items = ps }

abbrev pub base : Flags → Kind → Out → ℕ → List Branch → List SyntaxNode → Last → Base
base fl kd o f ds ps l = record { top = frame fl kd o f ds ps; last = l; below = o.below; fronts = o.fronts }

pub put_more : (b : Base) (j c : ℕ) (t : List ℕ) → put_codes b j (t ++ c ∷ []) ≡ put_code (put_codes b j t) (j + length t) c
put_more b j c [] = ap (λ n. put_code b n c) (sym (add-zero j))
put_more b j c (d ∷ t) = put_more (put_code b j d) (suc j) c t ∙ ap (λ n. put_code (put_codes (put_code b j d) (suc j) t) n c) (omega arith)

pub text_length : (text : Bool) (w : List ℕ) {i k : ℕ} {t : List ℕ} → Text text w i k t → k ≡ i + length t
text_length text w {i} no_text = sym (add-zero i)
text_length text w {i} (one_text {c = c} {t = t} h at_c is_c) = omega (arith, text_length text w h, length-append t (c ∷ []))

module _ (text : Bool) (w : List ℕ) {X : Type 0} (ask : ℕ → State → Option X) (fair : Fair ask) where
  abbrev From : ℕ → State → Option X
  From = reads_from text w ask

  -- The text after a brace that begins no count.
  brace_step : (b : Base) (i k : ℕ) (t : List ℕ) → ((c : ℕ) → At text w k c → counts c ≡ true → From (suc k) (at b (in_braces i (t ++ c ∷ []))) ≡ From (suc k) (at (no_count b i (t ++ c ∷ [])) between)) → At text w i 123 → ((j : ℕ) (n : Count) → ¬ Braces text w i j n) → Text text w (suc i) k t → From k (at b (in_braces i t)) ≡ From k (at (no_count b i t) between)
  brace_step b i k t on at_i none txt =
      alike text w ask k (at b (in_braces i t)) (at (no_count b i t) between) (fair.at_braces k b i t) (λ c at_c. ⊎_elim (λ (q : (c == 125) ≡ true). close_at c at_c q (count_of t) refl) (λ (q : (c == 125) ≡ false). ⊎_elim (λ (z : counts c ≡ true). more c at_c q z) (λ (z : counts c ≡ false). over c at_c q z) (cases_Bool (counts c))) (cases_Bool (c == 125)))
    where
      stepped : (c : ℕ) (r : Bool) → (c == 125) ≡ r → step_at text k (at b (in_braces i t)) c ≡ cond r (end_braces k b i t (count_of t)) (if counts c then Some (at b (in_braces i (t ++ c ∷ []))) else go_on k (no_count b i t) c)
      stepped c r q = ap (λ v. cond v (end_braces k b i t (count_of t)) (if counts c then Some (at b (in_braces i (t ++ c ∷ []))) else go_on k (no_count b i t) c)) q

      close_at : (c : ℕ) → At text w k c → (c == 125) ≡ true → (o : Option Count) → count_of t ≡ o → From k (at b (in_braces i t)) ≡ From k (at (no_count b i t) between)
      close_at c at_c q (Some n) z = absurd (none (suc k) n (braces at_i txt (subst (At text w k) (eqb-true c 125 q) at_c) z))
      close_at c at_c q None z =
          same_step text w ask k 125 _ _ (subst (At text w k) (eqb-true c 125 q) at_c) (ap (end_braces k b i t) z ∙ sym (ap (by_sign k (no_count b i t) 125) signs.8))

      over : (c : ℕ) → At text w k c → (c == 125) ≡ false → counts c ≡ false → From k (at b (in_braces i t)) ≡ From k (at (no_count b i t) between)
      over c at_c q z = same_step text w ask k c _ _ at_c (stepped c false q ∙ ap (λ v. cond v (Some (at b (in_braces i (t ++ c ∷ [])))) (go_on k (no_count b i t) c)) z)

      more : (c : ℕ) → At text w k c → (c == 125) ≡ false → counts c ≡ true → From k (at b (in_braces i t)) ≡ From k (at (no_count b i t) between)
      more c at_c q z =
          goes_to text w ask k c _ _ at_c (stepped c false q ∙ ap (λ v. cond v (Some (at b (in_braces i (t ++ c ∷ [])))) (go_on k (no_count b i t) c)) z)
          ∙ on c at_c z
          ∙ ap (λ r. From (suc k) (at r between)) (put_more (put_code b i 123) (suc i) c t ∙ ap (λ n. put_code (no_count b i t) n c) (sym (text_length text w txt)))
          ∙ sym (sign_goes text w ask k c (no_count b i t) plain _ at_c (counts_plain c z) refl)

  brace_same : (fuel : ℕ) (b : Base) (i k : ℕ) (t : List ℕ) → length w ≤ k + fuel → At text w i 123 → ((j : ℕ) (n : Count) → ¬ Braces text w i j n) → Text text w (suc i) k t → From k (at b (in_braces i t)) ≡ From k (at (no_count b i t) between)
  brace_same zero b i k t enough at_i none txt = brace_step b i k t (λ c at_c z. absurd (omega (arith, slice_get_within w k c at_c, enough))) at_i none txt
  brace_same (suc fuel) b i k t enough at_i none txt =
      brace_step b i k t (λ c at_c z. brace_same fuel b i (suc k) (t ++ c ∷ []) (omega (arith, enough)) at_i none (one_text txt at_c z)) at_i none txt

  -- A state between items.
  abbrev pub Bt : Flags → Kind → Out → ℕ → List Branch → List SyntaxNode → Last → State
  Bt fl kd o f ds ps l = at (base fl kd o f ds ps l) between

  line_goes : (b : Base) {i j : ℕ} → Without text w 10 i j → From i (at b line) ≡ From j (at b line)
  line_goes b no_code = refl
  line_goes b (one_code {j = j} {c = c} h at_c ne) = line_goes b h ∙ goes_to text w ask j c _ _ at_c (ap (λ t. cond t (Some (at b between)) (Some (at b line))) (ne_eqb c 10 ne))

  pub passed_goes : {fl : Flags} {i j : ℕ} → Ignored text w fl i j → (b : Base) → b.top.flags ≡ fl → From i (at b between) ≡ From j (at b between)
  passed_goes (pass_blank {i = i} {c = c} on at_c is) b e =
      sign_goes text w ask i c b blank _ at_c is (ap (λ f. cond f.verbose (Some (at b between)) (Some (at (put_code b i c) between))) e ∙ ap (λ v. cond v (Some (at b between)) (Some (at (put_code b i c) between))) on)
  passed_goes (pass_line {i = i} {k = k} on at_c h at_end) b e =
      sign_goes text w ask i 35 b sharp (at b line) at_c signs.7 (ap (λ f. cond f.verbose (Some (at b line)) (Some (at (put_code b i 35) between))) e ∙ ap (λ v. cond v (Some (at b line)) (Some (at (put_code b i 35) between))) on) ∙ line_goes b h ∙ goes_to text w ask k 10 _ _ at_end refl
  passed_goes (pass_last_line {i = i} on at_c h) b e =
      sign_goes text w ask i 35 b sharp (at b line) at_c signs.7 (ap (λ f. cond f.verbose (Some (at b line)) (Some (at (put_code b i 35) between))) e ∙ ap (λ v. cond v (Some (at b line)) (Some (at (put_code b i 35) between))) on) ∙ line_goes b h ∙ same_end text w ask (length w) _ _ (slice_get_past w (length w) (omega arith)) (fair.at_line (length w) b)
  passed_goes (pass_comment {i = i} q h at_end) b e =
      sign_goes text w ask i 40 b left _ q.0 signs.0 refl ∙ comment_goes text w ask b i q h at_end

  pub blanks_go : {fl : Flags} {i j : ℕ} → Blanks text w fl i j → (b : Base) → b.top.flags ≡ fl → From i (at b between) ≡ From j (at b between)
  blanks_go no_blank b e = refl
  blanks_go (one_blank h p) b e = blanks_go h b e ∙ passed_goes p b e

  -- An escape between items.
  top_reader : (b : Base) (i : ℕ) (e : Escaped) → Reader text w ask false e (at b (at_slash i)) (λ x. at b (in_escape i x)) (λ j. at (put_leaf b i j (glyph e)) between)
  top_reader b i e =
      record {
        first_goes = λ k c x h. begun k (slashed text false c) (goes x) h (λ z. cc);
        first_ends = λ k c h. begun k (slashed text false c) (ends e) h (λ z. cc);
        next_goes = λ k c x y h. ap (λ r. escape_step k b i r (escape_rest x) c) h;
        next_ends = λ k c x h. ap (λ r. escape_step k b i r (escape_rest x) c) h;
        rests = λ k c x h st. ap (λ r. escape_step k b i r (escape_rest x) c) st ∙ ap (λ o. escape_step k b i stops o c) h;
        rests_end = λ k x h. fair.at_escape k b i x e h;
      }
    where
      begun : (k : ℕ) (s : EscapeClass) (r : Answer InEscape Escaped) → escape_first s ≡ r → (r ≡ stops → ⊥) → slash_step k b i s ≡ escape_begins k b i r
      begun k (edges m) r h n = absurd (n (sym h))
      begun k (single c) r h n = ap (escape_begins k b i) h
      begun k (kinds d v) r h n = ap (escape_begins k b i) h
      begun k (hexes d) r h n = ap (escape_begins k b i) h
      begun k naming r h n = ap (escape_begins k b i) h
      begun k (octal d) r h n = ap (escape_begins k b i) h
      begun k (low d) r h n = ap (escape_begins k b i) h
      begun k high r h n = ap (escape_begins k b i) h
      begun k no_escape r h n = ap (escape_begins k b i) h

  text_goes : (b : Base) (a : ℕ) {i k : ℕ} {t : List ℕ} → Text text w i k t → From i (at b (in_braces a [])) ≡ From k (at b (in_braces a t))
  text_goes b a no_text = refl
  text_goes b a (one_text {j = j} {c = c} {t = t} h at_c is_c) =
      text_goes b a h ∙ goes_to text w ask j c _ _ at_c (ap (λ v. cond v (end_braces j b a t (count_of t)) (if counts c then Some (at b (in_braces a (t ++ c ∷ []))) else go_on j (no_count b a t) c)) (differs counts 125 c brace_not is_c) ∙ ap (λ v. cond v (Some (at b (in_braces a (t ++ c ∷ [])))) (go_on j (no_count b a t) c)) is_c)

  -- A quantifier after the atom `p` from `a`.
  counts_go : (fl : Flags) (kd : Kind) (o : Out) (f : ℕ) (ds : List Branch) (ps : List SyntaxNode) (a : ℕ) (p : SyntaxNode) {i j : ℕ} {n : Count} → Counts text w i j n → From i (Bt fl kd o f ds ps (an_atom a p)) ≡ From j (at (base fl kd o f ds ps nothing_yet) (counted a p i n))
  counts_go fl kd o f ds ps a p (by_code {i = i} {c = c} {n = n} at_c is) = sign_goes text w ask i c _ (times n) _ at_c is refl
  counts_go fl kd o f ds ps a p (by_braces {i = i} {n = n} (braces {k = k} {t = t} at_i txt at_end is)) =
      let b = base fl kd o f ds ps (an_atom a p) in
      sign_goes text w ask i 123 b brace (at b (in_braces i [])) at_i signs.3 refl ∙ text_goes b i txt ∙ goes_to text w ask k 125 (at b (in_braces i t)) _ at_end (ap (end_braces k b i t) is)

  quantifier_goes : (fl : Flags) (kd : Kind) (o : Out) (f : ℕ) (ds : List Branch) (ps : List SyntaxNode) (a : ℕ) (p : SyntaxNode) {i j : ℕ} {n : Count} {g : Greed} → Quantifier text w i j n g → From i (Bt fl kd o f ds ps (an_atom a p)) ≡ From j (Bt fl kd o f ds (ps ++ repeat (span a j) (span i j) n g p ∷ []) nothing_yet)
  quantifier_goes fl kd o f ds ps a p (is_greedy {i = i} {j = j} {n = n} h no_quest no_plus) =
      let b = base fl kd o f ds ps nothing_yet in
      counts_go fl kd o f ds ps a p h ∙ alike_steps text w ask j (at b (counted a p i n)) (at (put_repeat b a p i j n greedy) between) (fair.at_counted j b a p i n) (λ c at_c.
      ap (λ v. cond v (Some (at (put_repeat b a p i (suc j) n lazy) between)) (cond (c == 43) (Some (at (put_repeat b a p i (suc j) n possessive) between)) (go_on j (put_repeat b a p i j n greedy) c))) (ne_eqb c 63 (λ z. no_quest (subst (At text w j) z at_c)))
      ∙ ap (λ v. cond v (Some (at (put_repeat b a p i (suc j) n possessive) between)) (go_on j (put_repeat b a p i j n greedy) c)) (ne_eqb c 43 (λ z. no_plus (subst (At text w j) z at_c))))
  quantifier_goes fl kd o f ds ps a p (is_lazy {j = j} h at_c) = counts_go fl kd o f ds ps a p h ∙ goes_to text w ask j 63 _ _ at_c refl
  quantifier_goes fl kd o f ds ps a p (is_possessive {j = j} h at_c) = counts_go fl kd o f ds ps a p h ∙ goes_to text w ask j 43 _ _ at_c refl

  pub opens_at : {i j : ℕ} {k : Kind} → Opening text w i j k → At text w i 40
  opens_at (captures at_i at_c ne) = at_i
  opens_at (captures_named q n e) = q.0
  opens_at (groups q) = q.0
  opens_at (groups_on q l e) = q.0
  opens_at (groups_both q l m n e) = q.0
  opens_at (groups_off q l e) = q.0
  opens_at (looks_ahead q c h) = q.0
  opens_at (looks_behind q c h) = q.0
  opens_at (cuts q) = q.0
  opens_at (asks_number q d e) = q.0
  opens_at (asks_name q n e) = q.0

  set_at : {i j : ℕ} {v : Bool} → SetHead text w i j v → At text w i 91
  set_at (upright at_i n) = at_i
  set_at (inverted h) = h.0

  literal_goes : (b : Base) (i c : ℕ) → At text w i c → is_literal b.top.flags c → From i (at b between) ≡ From (suc i) (at (put_code b i c) between)
  literal_goes b i c at_c (inl h) = sign_goes text w ask i c b plain _ at_c h refl
  literal_goes b i c at_c (inr (inl h, off)) = sign_goes text w ask i c b blank _ at_c h (ap (λ v. cond v (Some (at b between)) (Some (at (put_code b i c) between))) off)
  literal_goes b i c at_c (inr (inr h, off)) = sign_goes text w ask i c b sharp _ at_c h (ap (λ v. cond v (Some (at b line)) (Some (at (put_code b i c) between))) off)

  -- A `|` after these branches.
  pub bar_goes : (fl : Flags) (kd : Kind) (o : Out) (f : ℕ) (ds : List Branch) (ps : List SyntaxNode) (l : Last) (j : ℕ) (bs : List Branch) → At text w j 124 → ds ++ branch (span f j) (settled ps l) ∷ [] ≡ bs → splits kd bs ≡ true → From j (Bt fl kd o f ds ps l) ≡ From (suc j) (Bt fl kd o (suc j) bs [] nothing_yet)
  bar_goes fl kd o f ds ps l j bs at_j all may =
      sign_goes text w ask j 124 (base fl kd o f ds ps l) bar (Bt fl kd o (suc j) bs [] nothing_yet) at_j signs.2 (ap (λ z. cond (splits kd z) (Some (Bt fl kd o (suc j) z [] nothing_yet)) None) all ∙ ap (λ v. cond v (Some (Bt fl kd o (suc j) bs [] nothing_yet)) None) may)

  -- The head of a group, from its parenthesis on.
  pub opening_between : (b : Base) {i j : ℕ} {kd : Kind} → Opening text w i j kd → From i (at b between) ≡ From j (at (open_group b i j kd) between)
  opening_between b {i} h = sign_goes text w ask i 40 b left _ (opens_at h) signs.0 refl ∙ opening_goes text w ask b i h

  -- The items from a position on, as the open branch shows them.
  pub record ItemsRead (fl : Flags) (kd : Kind) (o : Out) (f : ℕ) (ds : List Branch) (i : ℕ) (s : State) (j : ℕ) (ps : List SyntaxNode) : Type 0 where
    pub its : List SyntaxNode
    pub end : Last
    pub all : settled its end ≡ ps
    pub reads : From i s ≡ From j (Bt fl kd o f ds its end)

  pub record BranchesRead (fl : Flags) (kd : Kind) (o : Out) (i j : ℕ) (bs : List Branch) : Type 0 where
    pub from : ℕ
    pub before : List Branch
    pub its : List SyntaxNode
    pub end : Last
    pub all : before ++ branch (span from j) (settled its end) ∷ [] ≡ bs
    pub reads : From i (Bt fl kd o i [] [] nothing_yet) ≡ From j (Bt fl kd o from before its end)

  mutual
    pub atom_goes : {fl : Flags} {i j : ℕ} {p : SyntaxNode} → Atom text w fl i j p → (kd : Kind) (o : Out) (f : ℕ) (ds : List Branch) (ps : List SyntaxNode) (l : Last) → From i (Bt fl kd o f ds ps l) ≡ From j (Bt fl kd o f ds (settled ps l) (an_atom i p))
    atom_goes {fl} (literal {i = i} {c = c} at_c is) kd o f ds ps l = literal_goes (base fl kd o f ds ps l) i c at_c is
    atom_goes {fl} (literal_brace {i = i} at_c none) kd o f ds ps l =
        sign_goes text w ask i 123 (base fl kd o f ds ps l) brace _ at_c signs.3 refl ∙ brace_same (length w) (base fl kd o f ds ps l) i (suc i) [] (omega arith) at_c none no_text
    atom_goes {fl} (dotted {i = i} at_c) kd o f ds ps l = sign_goes text w ask i 46 (base fl kd o f ds ps l) dot _ at_c signs.5 refl
    atom_goes {fl} (escaped {i = i} {j = j} {e = e} h) kd o f ds ps l =
        let b = base fl kd o f ds ps l in
        sign_goes text w ask i 92 b slash _ (backslash text w h) signs.4 refl ∙ escape_goes text w ask false e (at b (at_slash i)) (λ x. at b (in_escape i x)) (λ k. at (put_leaf b i k (glyph e)) between) (top_reader b i e) h
    atom_goes {fl} (refers {i = i} q name at_end) kd o f ds ps l =
        let b = base fl kd o f ds ps l in
        sign_goes text w ask i 40 b left _ q.0 signs.0 refl ∙ reference_goes text w ask b i q name at_end
    atom_goes {fl} (bracketed {i = i} {inverse = v} h ms at_end) kd o f ds ps l =
        let b = base fl kd o f ds ps l in
        sign_goes text w ask i 91 b bracket _ (set_at h) signs.6 refl ∙ class_goes text w ask fair b i v h ms at_end
    atom_goes {fl} (grouped {i = i} {j = j} {k = k} {kd = g} {bs = bs} h hs at_end) kd o f ds ps l =
        let b = base fl kd o f ds ps l in
        let o1 : Out = record { opened = i; start = j; below = frame fl kd o f ds (settled ps l) ∷ o.below; fronts = o.fronts } in
        let r = branches_go hs o1 in
        opening_between b h ∙ r.reads
        ∙ sign_goes text w ask k 41 _ right _ at_end signs.1 refl
        ∙ ap (λ z. From (suc k) (Bt fl kd o f ds (settled ps l) (an_atom i (group (span i (suc k)) g (whole_body (span j k) z))))) r.all

    pub item_goes : {fl : Flags} {i j : ℕ} {p : SyntaxNode} → Item text w fl i j p → (kd : Kind) (o : Out) (f : ℕ) (ds : List Branch) (ps : List SyntaxNode) (l : Last) → ItemsRead fl kd o f ds i (Bt fl kd o f ds ps l) j (settled ps l ++ p ∷ [])
    item_goes {fl} {i} {j} {p} (once h) kd o f ds ps l = record { its = settled ps l; end = an_atom i p; all = refl; reads = atom_goes h kd o f ds ps l }
    item_goes {fl} (repeated {i = i} {j = j} {k = k} {l = m} {p = p} {n = n} {g = g} h bl qu) kd o f ds ps l =
        record {
          its = settled ps l ++ repeat (span i m) (span k m) n g p ∷ [];
          end = nothing_yet;
          all = refl;
          reads = atom_goes h kd o f ds ps l ∙ blanks_go bl (base fl kd o f ds (settled ps l) (an_atom i p)) refl ∙ quantifier_goes fl kd o f ds (settled ps l) i p qu;
        }
    item_goes {fl} (edge_code {i = i} {c = c} {m = m} at_c is) kd o f ds ps l =
        record { its = settled ps l ++ mark (span i (suc i)) fl m ∷ []; end = nothing_yet; all = refl; reads = sign_goes text w ask i c (base fl kd o f ds ps l) (edge m) _ at_c is refl }
    item_goes {fl} (edge_escape {i = i} {m = m} (c, at_i, at_c, is)) kd o f ds ps l =
        let b = base fl kd o f ds ps l in
        record {
          its = settled ps l ++ mark (span i (suc (suc i))) fl m ∷ [];
          end = nothing_yet;
          all = refl;
          reads = sign_goes text w ask i 92 b slash _ at_i signs.4 refl ∙ goes_to text w ask (suc i) c (at b (at_slash i)) _ at_c (ap (slash_step (suc i) b i) is);
        }

    pub items_go : {fl : Flags} {i j : ℕ} {ps : List SyntaxNode} → Items text w fl i j ps → (kd : Kind) (o : Out) (f : ℕ) (ds : List Branch) → ItemsRead fl kd o f ds i (Bt fl kd o f ds [] nothing_yet) j ps
    items_go no_items kd o f ds = record { its = []; end = nothing_yet; all = refl; reads = refl }
    items_go {fl} (pass_over h p) kd o f ds =
        let r = items_go h kd o f ds in
        record { its = r.its; end = r.end; all = r.all; reads = r.reads ∙ passed_goes p (base fl kd o f ds r.its r.end) refl }
    items_go (one_item {p = p} h it) kd o f ds =
        let r = items_go h kd o f ds in
        let s = item_goes it kd o f ds r.its r.end in
        record { its = s.its; end = s.end; all = s.all ∙ ap (λ qs. qs ++ p ∷ []) r.all; reads = r.reads ∙ s.reads }

    pub branches_go : {kd : Kind} {fl : Flags} {i j : ℕ} {bs : List Branch} → IsBranches text w kd fl i j bs → (o : Out) → BranchesRead fl kd o i j bs
    branches_go {kd} (first_branch {i = i} {j = j} h) o =
        let r = items_go h kd o i [] in
        record { from = i; before = []; its = r.its; end = r.end; all = ap (λ ps. branch (span i j) ps ∷ []) r.all; reads = r.reads }
    branches_go {kd} {fl} (next_branch {j = j} {k = k} {bs = bs} h at_j may hs) o =
        let r = branches_go h o in
        let s = items_go hs kd o (suc j) bs in
        record {
          from = suc j;
          before = bs;
          its = s.its;
          end = s.end;
          all = ap (λ ps. bs ++ branch (span (suc j) k) ps ∷ []) s.all;
          reads = r.reads ∙ bar_goes fl kd o r.from r.before r.its r.end j bs at_j r.all may ∙ s.reads;
        }

  flag_group_at : {i j : ℕ} {f : Flags} → FlagGroup text w i j f → At text w i 40
  flag_group_at (flag_group q ls e) = q.0

  abbrev pub Outermost : ℕ → List Front → Out
  Outermost i gs = record { opened = 0; start = i; below = []; fronts = gs }

  front_allowed : (gs : List Front) (j : ℕ) → (gs ≡ [] → j ≡ 0) → (j == 0 || not (is_nil gs)) ≡ true
  front_allowed [] j h = ap (λ v. v || false) (eq-eqb j 0 (h refl))
  front_allowed (g ∷ gs) j h = ⊎_elim (λ (z : (j == 0) ≡ true). ap (λ v. v || true) z) (λ (z : (j == 0) ≡ false). ap (λ v. v || true) z) (cases_Bool (j == 0))

  pub fronts_go : {call fl : Flags} {i : ℕ} {gs : List Front} → Fronts text w call i fl gs → From 0 (start call) ≡ From i (Bt fl outermost (Outermost i gs) i [] [] nothing_yet)
  fronts_go no_fronts = refl
  fronts_go (one_front {i = i} {j = j} {k = k} {fl = fl} {f = f} {gs = gs} h bl first g) =
      let b = base fl outermost (Outermost i gs) i [] [] nothing_yet in
      let s = Bt (joined fl f) outermost (Outermost k (gs ++ record { place = span j k; letters = f } ∷ [])) k [] [] nothing_yet in
      fronts_go h ∙ blanks_go bl b refl ∙ sign_goes text w ask j 40 b left _ (flag_group_at g) signs.0 refl ∙ front_goes text w ask b j g s (ap (λ v. cond v (Some s) None) (front_allowed gs j first))

  -- What has been read of a pattern, up to the end.
  pub whole_goes : {call : Flags} {i : ℕ} {fl : Flags} {gs : List Front} {bs : List Branch} → Fronts text w call i fl gs → IsBranches text w outermost fl i (length w) bs → BranchesRead fl outermost (Outermost i gs) i (length w) bs
  whole_goes {i = i} {gs = gs} h hs = branches_go hs (Outermost i gs)

pub at_the_end : (text : Bool) (w : List ℕ) {X : Type 0} (ask : ℕ → State → Option X) (s : State) → reads_from text w ask (length w) s ≡ ask (length w) s
unfolding reads_from
at_the_end text w ask s = ap (observe text ask (length w) (Some s)) (drop_all (length w) w (omega arith))

pub at_the_start : (text : Bool) (w : List ℕ) {X : Type 0} (ask : ℕ → State → Option X) (s : State) → reads_from text w ask 0 s ≡ observe text ask 0 (Some s) w
unfolding reads_from
at_the_start text w ask s = refl

pub finish_fair : Fair finish_at
finish_fair =
    record {
      at_line = λ k b. refl;
      at_braces = λ k b a t. refl;
      at_counted = λ k b a p q n. refl;
      at_escape = λ k b a x e h. ap (finish_escape k b a) h;
      at_open = λ k b a. refl;
      at_class = λ k b a v s. refl;
    }

-- What is spelled is read.
pub spelled_is_read : (call : Flags) (text : Bool) (w : List ℕ) (p : Whole) → Spells call text w p → reads call text w ≡ Some p
spelled_is_read call text w p (spelled {i = i} {fl = fl} {gs = gs} {bs = bs} h hs) =
    let r = whole_goes text w finish_at finish_fair h hs in
    sym (at_the_start text w finish_at (start call)) ∙ fronts_go text w finish_at finish_fair h ∙ r.reads ∙ at_the_end text w finish_at _ ∙ ap (λ z. Some (record { fronts = gs; place = span i (length w); body = whole_body (span i (length w)) z })) r.all

-- At most one syntax tree is spelled.
pub one_is_spelled : (call : Flags) (text : Bool) (w : List ℕ) (p q : Whole) → Spells call text w p → Spells call text w q → p ≡ q
one_is_spelled call text w p q h k = same_Some p q (sym (spelled_is_read call text w p h) ∙ spelled_is_read call text w q k)
