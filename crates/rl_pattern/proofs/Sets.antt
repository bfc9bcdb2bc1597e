-- The machine reads a class that the grammar spells.
use Rattle.std.proofs.Common.{◌≡◌, ◌⊎◌, ℕ, suc, Bool, true, false, cond, List, [], ◌∷◌, ◌++◌, Option, Some, refl, sym, ap, ◌∙◌, subst, ◌==◌}
use Rattle.std.proofs.lemmas.Bool.{ne_eqb, eqb-true, eqb-false, cases_Bool}
use mathlib.Core.Logic.{inl, inr, ⊎_elim}
use Rattle.rl_pattern.specs.Tree.{span, Escaped, code, Member, range, members}
use Rattle.rl_pattern.specs.Codes.{is_kind}
use Rattle.rl_pattern.specs.Grammar.{At, Side, plain_side, escaped_side, Joins, IsMember, is_one, is_range, Members, first_member, next_member, SetHead, upright, inverted}
use Rattle.rl_pattern.specs.internal.Machine.{State, Base, at, between, stops, ends, escape_rest, InSet, set_first, set_next, set_slash, set_escape, set_side, set_dash, dash_slash, dash_escape, in_set, with_one, side_first, member_first, escape_in_set, escape_set_next, range_ends, escape_in_dash, escape_dash_next, set_open, in_class, set_answer, put_leaf, step_at}
use Rattle.rl_pattern.proofs.Steps.{Fair, reads_from, goes_to, same_step, alike, alike_steps, same_code}
use Rattle.rl_pattern.proofs.Escapes.{Reader, escape_goes, backslash}

module _ (text : Bool) (w : List ℕ) {X : Type 0} (ask : ℕ → State → Option X) (fair : Fair ask) (b : Base) (a : ℕ) (inverse : Bool) where
  abbrev From : ℕ → State → Option X
  From = reads_from text w ask

  -- Within the class.
  abbrev In : List Member → InSet → State
  In ms p = at b (in_class a inverse (record { before = ms; part = p }))

  same_ask : (i : ℕ) (ms ns : List Member) (p q : InSet) → ask i (In ms p) ≡ ask i (In ns q)
  same_ask i ms ns p q = fair.at_class i b a inverse _ ∙ sym (fair.at_class i b a inverse _)

  -- An escape as the first side.
  first_reader : (ms : List Member) (i : ℕ) (e : Escaped) → Reader text w ask true e (In ms (set_slash i)) (λ x. In ms (set_escape i x)) (λ j. In ms (set_side i e))
  first_reader ms i e =
      record {
        first_goes = λ k c x h. ap (λ r. set_answer k b a inverse (escape_in_set ms i r)) h;
        first_ends = λ k c h. ap (λ r. set_answer k b a inverse (escape_in_set ms i r)) h;
        next_goes = λ k c x y h. ap (λ r. set_answer k b a inverse (escape_set_next k ms i r (escape_rest x) c)) h;
        next_ends = λ k c x h. ap (λ r. set_answer k b a inverse (escape_set_next k ms i r (escape_rest x) c)) h;
        rests = λ k c x h st. ap (λ r. set_answer k b a inverse (escape_set_next k ms i r (escape_rest x) c)) st ∙ ap (λ o. set_answer k b a inverse (escape_set_next k ms i stops o c)) h;
        rests_end = λ k x h. same_ask k ms ms _ _;
      }

  -- An escape as the second side.
  second_reader : (ms : List Member) (i : ℕ) (e d : Escaped) → is_kind d ≡ false → Reader text w ask true d (In ms (dash_slash i e)) (λ x. In ms (dash_escape i e x)) (λ j. In (ms ++ range (span i j) e d ∷ []) set_next)
  second_reader ms i e d nk =
      record {
        first_goes = λ k c x h. ap (λ r. set_answer k b a inverse (escape_in_dash k ms i e r)) h;
        first_ends = λ k c h. ap (λ r. set_answer k b a inverse (escape_in_dash k ms i e r)) h ∙ whole (suc k) k;
        next_goes = λ k c x y h. ap (λ r. set_answer k b a inverse (escape_dash_next k ms i e r (escape_rest x) c)) h;
        next_ends = λ k c x h. ap (λ r. set_answer k b a inverse (escape_dash_next k ms i e r (escape_rest x) c)) h ∙ whole (suc k) k;
        rests = λ k c x h st. ap (λ r. set_answer k b a inverse (escape_dash_next k ms i e r (escape_rest x) c)) st ∙ ap (λ o. set_answer k b a inverse (escape_dash_next k ms i e stops o c)) h ∙ ap (λ t. set_answer k b a inverse (cond t stops (member_first k (ms ++ range (span i k) e d ∷ []) c))) nk;
        rests_end = λ k x h. same_ask k ms _ _ _;
      }
    where
      whole : (j k : ℕ) → set_answer k b a inverse (range_ends j ms i e d) ≡ Some (In (ms ++ range (span i j) e d ∷ []) set_next)
      whole j k = ap (λ t. set_answer k b a inverse (cond t stops (in_set (ms ++ range (span i j) e d ∷ []) set_next))) nk

  -- A side, from a position where a member may begin.
  side_goes : {i j : ℕ} {e : Escaped} → Side text w i j e → (ms : List Member) (p : InSet) → ((c : ℕ) → At text w i c → step_at text i (In ms p) c ≡ set_answer i b a inverse (side_first i ms c)) → From i (In ms p) ≡ From j (In ms (set_side i e))
  side_goes (plain_side {i = i} {c = c} at_c ne) ms p begins =
      goes_to text w ask i c (In ms p) (In ms (set_side i (code c))) at_c (begins c at_c ∙ ap (λ t. set_answer i b a inverse (cond t (in_set ms (set_slash i)) (in_set ms (set_side i (code c))))) (ne_eqb c 92 ne))
  side_goes {i} {j} {e} (escaped_side h) ms p begins =
      goes_to text w ask i 92 (In ms p) (In ms (set_slash i)) (backslash text w h) (begins 92 (backslash text w h)) ∙ escape_goes text w ask true e (In ms (set_slash i)) (λ x. In ms (set_escape i x)) (λ k. In ms (set_side i e)) (first_reader ms i e) h

  -- A member may begin here, because there is no `]` after the first one.
  may_begin : (i : ℕ) (ms : List Member) → ¬ At text w i 93 → (c : ℕ) → At text w i c → step_at text i (In ms set_next) c ≡ set_answer i b a inverse (side_first i ms c)
  may_begin i ms no_close c at_c =
      ap (λ t. set_answer i b a inverse (cond t (ends ms) (side_first i ms c))) (ne_eqb c 93 (λ q. no_close (subst (At text w i) q at_c)))

  -- A side is a member if no `-` joins it with what follows.
  side_stays : (i j : ℕ) (ms : List Member) (e : Escaped) → ¬ Joins text w j → From j (In ms (set_side i e)) ≡ From j (In (with_one ms i j e) set_next)
  side_stays i j ms e no_join =
      alike text w ask j (In ms (set_side i e)) (In (with_one ms i j e) set_next) (same_ask j ms _ _ _) (λ c at_c. ⊎_elim (λ (q : (c == 45) ≡ true). dash c at_c (eqb-true c 45 q)) (λ (q : (c == 45) ≡ false). other c at_c q) (cases_Bool (c == 45)))
    where
      other : (c : ℕ) → At text w j c → (c == 45) ≡ false → From j (In ms (set_side i e)) ≡ From j (In (with_one ms i j e) set_next)
      other c at_c q = same_step text w ask j c _ _ at_c (ap (λ t. set_answer j b a inverse (cond t (in_set ms (set_dash i j e)) (member_first j (with_one ms i j e) c))) q)

      ends_so : At text w j 45 → (d : ℕ) → At text w (suc j) d → step_at text (suc j) (In ms (set_dash i j e)) d ≡ step_at text (suc j) (In (with_one ms i j e) (set_side j (code 45))) d
      ends_so at_45 d at_d = go (cases_Bool (d == 93))
        where
          go : ((d == 93) ≡ true) ⊎ ((d == 93) ≡ false) → step_at text (suc j) (In ms (set_dash i j e)) d ≡ step_at text (suc j) (In (with_one ms i j e) (set_side j (code 45))) d
          go (inl q) = subst (λ x. step_at text (suc j) (In ms (set_dash i j e)) x ≡ step_at text (suc j) (In (with_one ms i j e) (set_side j (code 45))) x) (sym (eqb-true d 93 q)) refl
          go (inr q) = absurd (no_join (d, at_45, at_d, eqb-false d 93 q))

      dash : (c : ℕ) → At text w j c → c ≡ 45 → From j (In ms (set_side i e)) ≡ From j (In (with_one ms i j e) set_next)
      dash c at_c q =
          let at_45 = subst (At text w j) q at_c in
          goes_to text w ask j 45 (In ms (set_side i e)) (In ms (set_dash i j e)) at_45 refl ∙ alike_steps text w ask (suc j) _ _ (same_ask (suc j) ms (with_one ms i j e) (set_dash i j e) (set_side j (code 45))) (ends_so at_45) ∙ sym (goes_to text w ask j 45 (In (with_one ms i j e) set_next) (In (with_one ms i j e) (set_side j (code 45))) at_45 refl)

  member_goes : {first : Bool} {i j : ℕ} {m : Member} → IsMember text w first i j m → (ms : List Member) (p : InSet) → ((c : ℕ) → At text w i c → step_at text i (In ms p) c ≡ set_answer i b a inverse (side_first i ms c)) → From i (In ms p) ≡ From j (In (ms ++ m ∷ []) set_next)
  member_goes (is_one {i = i} {j = j} {e = e} side ok no_join) ms p begins = side_goes side ms p begins ∙ side_stays i j ms e no_join
  member_goes (is_range {i = i} {j = j} {k = k} {e = e} {d = d} side ok nk (c, at_45, at_c, ne) other nk') ms p begins =
      side_goes side ms p begins ∙ goes_to text w ask j 45 (In ms (set_side i e)) (In ms (set_dash i j e)) at_45 refl ∙ joined other nk'
    where
      -- The code after the `-` isn't the end.
      after : (x : ℕ) → At text w (suc j) x → step_at text (suc j) (In ms (set_dash i j e)) x ≡ set_answer (suc j) b a inverse (cond (x == 92) (in_set ms (dash_slash i e)) (in_set (ms ++ range (span i (suc (suc j))) e (code x) ∷ []) set_next))
      after x at_x =
          ap (λ t. set_answer (suc j) b a inverse (cond t (ends (with_one (with_one ms i j e) j (suc j) (code 45))) (cond (is_kind e) stops (cond (x == 92) (in_set ms (dash_slash i e)) (in_set (ms ++ range (span i (suc (suc j))) e (code x) ∷ []) set_next))))) (ne_eqb x 93 (λ q. ne (same_code w (suc j) c x at_c at_x ∙ q)))
          ∙ ap (λ t. set_answer (suc j) b a inverse (cond t stops (cond (x == 92) (in_set ms (dash_slash i e)) (in_set (ms ++ range (span i (suc (suc j))) e (code x) ∷ []) set_next)))) nk

      joined : {l : ℕ} {d : Escaped} → Side text w (suc j) l d → is_kind d ≡ false → From (suc j) (In ms (set_dash i j e)) ≡ From l (In (ms ++ range (span i l) e d ∷ []) set_next)
      joined (plain_side {c = x} at_x nx) k' =
          goes_to text w ask (suc j) x _ _ at_x (after x at_x ∙ ap (λ t. set_answer (suc j) b a inverse (cond t (in_set ms (dash_slash i e)) (in_set (ms ++ range (span i (suc (suc j))) e (code x) ∷ []) set_next))) (ne_eqb x 92 nx))
      joined {l} {d} (escaped_side h) k' =
          goes_to text w ask (suc j) 92 _ (In ms (dash_slash i e)) (backslash text w h) (after 92 (backslash text w h)) ∙ escape_goes text w ask true d (In ms (dash_slash i e)) (λ x. In ms (dash_escape i e x)) (λ n. In (ms ++ range (span i n) e d ∷ []) set_next) (second_reader ms i e d k') h

  members_go : {i j : ℕ} {ms : List Member} → Members text w i j ms → From i (In [] set_first) ≡ From j (In ms set_next)
  members_go (first_member h) = member_goes h [] set_first (λ c at_c. refl)
  members_go (next_member {j = j} {ms = ms} hs h) = members_go hs ∙ member_goes h ms set_next (may_begin j ms (closes_not h))
    where
      closes_not : {k : ℕ} {m : Member} → IsMember text w false j k m → ¬ At text w j 93
      closes_not (is_one side ok no_join) = ok refl
      closes_not (is_range side ok nk h other nk') = ok refl

  -- The code after the head, or nothing.
  open_stays : (i : ℕ) → inverse ≡ false → ¬ At text w i 94 → From i (at b (set_open a)) ≡ From i (In [] set_first)
  open_stays i q no_hat =
      alike_steps text w ask i _ _ (fair.at_open i b a ∙ sym (fair.at_class i b a inverse _)) (λ c at_c. ap (λ t. cond t (Some (at b (in_class a true (record { before = []; part = set_first })))) (set_answer i b a false (side_first i [] c))) (ne_eqb c 94 (λ z. no_hat (subst (At text w i) z at_c))) ∙ ap (λ v. set_answer i b a v (side_first i [] c)) (sym q))

  head_goes : {j : ℕ} {v : Bool} → SetHead text w a j v → v ≡ inverse → From (suc a) (at b (set_open a)) ≡ From j (In [] set_first)
  head_goes (upright at_a no_hat) q = open_stays (suc a) (sym q) no_hat
  head_goes (inverted at_a) q = goes_to text w ask (suc a) 94 _ _ at_a.1 (ap (λ v. Some (at b (in_class a v (record { before = []; part = set_first })))) q)

  pub class_goes : {j k : ℕ} {ms : List Member} → SetHead text w a j inverse → Members text w j k ms → At text w k 93 → reads_from text w ask (suc a) (at b (set_open a)) ≡ reads_from text w ask (suc k) (at (put_leaf b a (suc k) (members inverse ms)) between)
  class_goes {k = k} {ms = ms} h hs close = head_goes h refl ∙ members_go hs ∙ goes_to text w ask k 93 (In ms set_next) _ close refl
