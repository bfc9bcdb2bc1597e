-- What the machine has read of a class is what the grammar says, code by code.
use Rattle.std.proofs.Common.{◌≡◌, ◌≢◌, ℕ, suc, Bool, true, false, cond, List, [], ◌∷◌, ◌++◌, Option, Some, None, refl, sym, ap, ◌∙◌, subst, ◌==◌, true≢false}
use Rattle.std.proofs.lemmas.Bool.{eqb-true, eqb-false, cond_both}
use Rattle.rl_pattern.specs.Tree.{span, Escaped, code, Member, one, range}
use Rattle.rl_pattern.specs.Codes.{slashed, is_kind}
use Rattle.rl_pattern.specs.Grammar.{At, Escape, Side, plain_side, escaped_side, IsMember, is_one, is_range, Members, first_member, next_member}
use Rattle.rl_pattern.specs.internal.Machine.{Answer, stops, goes, ends, InEscape, escape_first, escape_next, escape_rest, InSet, set_first, set_next, set_slash, set_escape, set_side, set_dash, dash_slash, dash_escape, Set, in_set, with_one, side_first, member_first, side_next, escape_in_set, escape_set_next, range_ends, escape_in_dash, escape_dash_next, dash_next, set_step}
use Rattle.rl_pattern.proofs.Steps.{same_code}
use Rattle.rl_pattern.proofs.Escapes.{backslash}
use Rattle.rl_pattern.proofs.Kept.{Answers, EscapeOk, first_ok, next_ok, Quiet, rest_ok}

module _ (text : Bool) (w : List ℕ) (st : ℕ) where
  -- The members from the head of the class up to here. The flag says that there is none yet.
  pub data Before : Bool → ℕ → List Member → Type 0 where
    none_before : Before true st []
    some_before : {j : ℕ} {ms : List Member} → Members text w st j ms → Before false j ms

  member_after : (f : Bool) {j k : ℕ} {ms : List Member} {m : Member} → Before f j ms → IsMember text w f j k m → Before false k (ms ++ m ∷ [])
  member_after true none_before h = some_before (first_member h)
  member_after false (some_before hs) h = some_before (next_member hs h)

  members_before : {j : ℕ} {ms : List Member} → Before false j ms → Members text w st j ms
  members_before (some_before h) = h

  -- A member may begin at `i`.
  abbrev MayBegin : Bool → ℕ → Type 0
  MayBegin f i = f ≡ false → ¬ At text w i 93

  slash_begins : (f : Bool) (i : ℕ) → At text w i 92 → MayBegin f i
  slash_begins f i back z at_c = absurd (eqb-false 92 93 refl (same_code w i 92 93 back at_c))

  -- The state of the machine within a class, up to `k`.
  abbrev pub PartOk : List Member → InSet → ℕ → Type 0
  PartOk ms set_first k = Before true k ms
  PartOk ms set_next k = Before false k ms
  PartOk ms (set_slash i) k = (f : Bool) × Before f i ms × At text w i 92 × (k ≡ suc i)
  PartOk ms (set_escape i x) k = (f : Bool) × Before f i ms × EscapeOk text w true x i k
  PartOk ms (set_side i e) k = (f : Bool) × Before f i ms × Side text w i k e × MayBegin f i
  PartOk ms (set_dash i j e) k = (f : Bool) × Before f i ms × Side text w i j e × MayBegin f i × At text w j 45 × (k ≡ suc j)
  PartOk ms (dash_slash i e) k = (f : Bool) × (j : ℕ) × Before f i ms × Side text w i j e × MayBegin f i × At text w j 45 × (is_kind e ≡ false) × At text w (suc j) 92 × (k ≡ suc (suc j))
  PartOk ms (dash_escape i e x) k = (f : Bool) × (j : ℕ) × Before f i ms × Side text w i j e × MayBegin f i × At text w j 45 × (is_kind e ≡ false) × EscapeOk text w true x (suc j) k

  abbrev pub SetKept : ℕ → Answer Set (List Member) → Type 0
  SetKept k r = Answers r (λ s. PartOk s.before s.part (suc k)) (λ ms. Members text w st k ms × At text w k 93)

  side_first_kept : (f : Bool) (k : ℕ) (ms : List Member) (c : ℕ) → Before f k ms → At text w k c → MayBegin f k → SetKept k (side_first k ms c)
  side_first_kept f k ms c h at_c ok =
      cond_both (c == 92) (in_set ms (set_slash k)) (in_set ms (set_side k (code c))) (SetKept k) (λ z. (f, h, subst (At text w k) (eqb-true c 92 z) at_c, refl)) (λ z. (f, h, plain_side at_c (eqb-false c 92 z), ok))

  member_first_kept : (k : ℕ) (ms : List Member) (c : ℕ) → Before false k ms → At text w k c → SetKept k (member_first k ms c)
  member_first_kept k ms c h at_c =
      cond_both (c == 93) (ends ms) (side_first k ms c) (SetKept k) (λ z. (members_before h, subst (At text w k) (eqb-true c 93 z) at_c)) (λ z. side_first_kept false k ms c h at_c (λ y at_93. eqb-false c 93 z (same_code w k c 93 at_c at_93)))

  side_next_kept : (f : Bool) (k : ℕ) (ms : List Member) (i : ℕ) (e : Escaped) (c : ℕ) → Before f i ms → Side text w i k e → MayBegin f i → At text w k c → SetKept k (side_next k ms i e c)
  side_next_kept f k ms i e c h side ok at_c =
      cond_both (c == 45) (in_set ms (set_dash i k e)) (member_first k (with_one ms i k e) c) (SetKept k)
      (λ z. (f, h, side, ok, subst (At text w k) (eqb-true c 45 z) at_c, refl))
      (λ z. member_first_kept k (with_one ms i k e) c (member_after f h (is_one side ok (λ y. eqb-false c 45 z (same_code w k c 45 at_c y.1)))) at_c)

  range_kept : (f : Bool) (k : ℕ) (ms : List Member) (i j : ℕ) (e d : Escaped) → Before f i ms → Side text w i j e → MayBegin f i → At text w j 45 → is_kind e ≡ false → (c : ℕ) → At text w (suc j) c → c ≢ 93 → Side text w (suc j) k d → is_kind d ≡ false → Before false k (ms ++ range (span i k) e d ∷ [])
  range_kept f k ms i j e d h side ok at_45 nk c at_c ne other nk' = member_after f h (is_range side ok nk (c, at_45, at_c, ne) other nk')

  dash_next_kept : (f : Bool) (k : ℕ) (ms : List Member) (i j : ℕ) (e : Escaped) (c : ℕ) → Before f i ms → Side text w i j e → MayBegin f i → At text w j 45 → k ≡ suc j → At text w k c → SetKept k (dash_next k ms i j e c)
  dash_next_kept f k ms i j e c h side ok at_45 q at_c =
      let at_sc : At text w (suc j) c = subst (λ m. At text w m c) q at_c in
      cond_both (c == 93) (ends (with_one (with_one ms i j e) j k (code 45))) (cond (is_kind e) stops (cond (c == 92) (in_set ms (dash_slash i e)) (in_set (ms ++ range (span i (suc k)) e (code c) ∷ []) set_next))) (SetKept k)
      (λ z. (closed at_sc (eqb-true c 93 z), subst (At text w k) (eqb-true c 93 z) at_c))
      (λ z. cond_both (is_kind e) stops (cond (c == 92) (in_set ms (dash_slash i e)) (in_set (ms ++ range (span i (suc k)) e (code c) ∷ []) set_next)) (SetKept k) (λ y. tt)
      (λ y. cond_both (c == 92) (in_set ms (dash_slash i e)) (in_set (ms ++ range (span i (suc k)) e (code c) ∷ []) set_next) (SetKept k)
      (λ x. (f, j, h, side, ok, at_45, y, subst (At text w (suc j)) (eqb-true c 92 x) at_sc, ap suc q))
      (λ x. range_kept f (suc k) ms i j e (code c) h side ok at_45 y c at_sc (eqb-false c 93 z) (subst (λ m. Side text w (suc j) (suc m) (code c)) (sym q) (plain_side at_sc (eqb-false c 92 x))) refl)))
    where
      closed : At text w (suc j) c → c ≡ 93 → Members text w st k (with_one (with_one ms i j e) j k (code 45))
      closed at_sc z =
          let at_93 : At text w (suc j) 93 = subst (At text w (suc j)) z at_sc in
          let first = member_after f h (is_one side ok (λ y. y.3 (same_code w (suc j) y.0 93 y.2 at_93))) in
          let dash : IsMember text w false j (suc j) (one (span j (suc j)) (code 45)) = is_one (plain_side at_45 (λ y. eqb-false 45 92 refl y)) (λ y at_j. absurd (eqb-false 45 93 refl (same_code w j 45 93 at_45 at_j))) (λ y. absurd (eqb-false 45 93 refl (same_code w (suc j) 45 93 y.1 at_93))) in
          subst (λ m. Members text w st m (with_one (with_one ms i j e) j m (code 45))) (sym q) (members_before (member_after false first dash))

  escape_set_kept : (f : Bool) (k : ℕ) (ms : List Member) (i c : ℕ) (r : Answer InEscape Escaped) → Before f i ms → Answers r (λ x. EscapeOk text w true x i (suc k)) (λ e. Escape text w true i (suc k) e) → SetKept k (escape_in_set ms i r)
  escape_set_kept f k ms i c stops h a = tt
  escape_set_kept f k ms i c (goes x) h a = (f, h, a)
  escape_set_kept f k ms i c (ends e) h a = (f, h, escaped_side a, slash_begins f i (backslash text w a))

  quiet_at : (x : InEscape) (k c : ℕ) → At text w k c → escape_next x c ≡ stops → Quiet text w true 0 x k
  quiet_at x k c at_c q d at_d = ap (escape_next x) (same_code w k d c at_d at_c) ∙ q

  escape_next_kept : (f : Bool) (k : ℕ) (ms : List Member) (i : ℕ) (x : InEscape) (c : ℕ) (r : Answer InEscape Escaped) (o : Option Escaped) → escape_next x c ≡ r → escape_rest x ≡ o → Before f i ms → EscapeOk text w true x i k → At text w k c → Answers r (λ y. EscapeOk text w true y i (suc k)) (λ e. Escape text w true i (suc k) e) → SetKept k (escape_set_next k ms i r o c)
  escape_next_kept f k ms i x c stops None q z h ok at_c a = tt
  escape_next_kept f k ms i x c stops (Some e) q z h ok at_c a =
      let esc = rest_ok text w true i x k e ok (quiet_at x k c at_c q) z in
      side_next_kept f k ms i e c h (escaped_side esc) (slash_begins f i (backslash text w esc)) at_c
  escape_next_kept f k ms i x c (goes y) o q z h ok at_c a = (f, h, a)
  escape_next_kept f k ms i x c (ends e) o q z h ok at_c a = (f, h, escaped_side a, slash_begins f i (backslash text w a))

  range_ends_kept : (f : Bool) (k : ℕ) (ms : List Member) (i j : ℕ) (e d : Escaped) → Before f i ms → Side text w i j e → MayBegin f i → At text w j 45 → is_kind e ≡ false → Escape text w true (suc j) (suc k) d → SetKept k (range_ends (suc k) ms i e d)
  range_ends_kept f k ms i j e d h side ok at_45 nk esc =
      cond_both (is_kind d) stops (in_set (ms ++ range (span i (suc k)) e d ∷ []) set_next) (SetKept k) (λ z. tt) (λ z. range_kept f (suc k) ms i j e d h side ok at_45 nk 92 (backslash text w esc) (λ y. eqb-false 92 93 refl y) (escaped_side esc) z)

  dash_first_kept : (f : Bool) (k : ℕ) (ms : List Member) (i j : ℕ) (e : Escaped) (r : Answer InEscape Escaped) → Before f i ms → Side text w i j e → MayBegin f i → At text w j 45 → is_kind e ≡ false → Answers r (λ x. EscapeOk text w true x (suc j) (suc k)) (λ d. Escape text w true (suc j) (suc k) d) → SetKept k (escape_in_dash k ms i e r)
  dash_first_kept f k ms i j e stops h side ok at_45 nk a = tt
  dash_first_kept f k ms i j e (goes x) h side ok at_45 nk a = (f, j, h, side, ok, at_45, nk, a)
  dash_first_kept f k ms i j e (ends d) h side ok at_45 nk a = range_ends_kept f k ms i j e d h side ok at_45 nk a

  dash_escape_kept : (f : Bool) (k : ℕ) (ms : List Member) (i j : ℕ) (e : Escaped) (x : InEscape) (c : ℕ) (r : Answer InEscape Escaped) (o : Option Escaped) → escape_next x c ≡ r → escape_rest x ≡ o → Before f i ms → Side text w i j e → MayBegin f i → At text w j 45 → is_kind e ≡ false → EscapeOk text w true x (suc j) k → At text w k c → Answers r (λ y. EscapeOk text w true y (suc j) (suc k)) (λ d. Escape text w true (suc j) (suc k) d) → SetKept k (escape_dash_next k ms i e r o c)
  dash_escape_kept f k ms i j e x c stops None q z h side ok at_45 nk es at_c a = tt
  dash_escape_kept f k ms i j e x c stops (Some d) q z h side ok at_45 nk es at_c a =
      let esc = rest_ok text w true (suc j) x k d es (quiet_at x k c at_c q) z in
      cond_both (is_kind d) stops (member_first k (ms ++ range (span i k) e d ∷ []) c) (SetKept k) (λ y. tt) (λ y. member_first_kept k (ms ++ range (span i k) e d ∷ []) c (range_kept f k ms i j e d h side ok at_45 nk 92 (backslash text w esc) (λ v. eqb-false 92 93 refl v) (escaped_side esc) y) at_c)
  dash_escape_kept f k ms i j e x c (goes y) o q z h side ok at_45 nk es at_c a = (f, j, h, side, ok, at_45, nk, a)
  dash_escape_kept f k ms i j e x c (ends d) o q z h side ok at_45 nk es at_c a = range_ends_kept f k ms i j e d h side ok at_45 nk a

  -- The code after a backslash at `i`.
  first_at : (i k c : ℕ) → At text w i 92 → k ≡ suc i → At text w k c → Answers (escape_first (slashed text true c)) (λ x. EscapeOk text w true x i (suc k)) (λ e. Escape text w true i (suc k) e)
  first_at i k c back q at_c =
      subst (λ m. Answers (escape_first (slashed text true c)) (λ x. EscapeOk text w true x i (suc m)) (λ e. Escape text w true i (suc m) e)) (sym q) (first_ok text w true i (slashed text true c) (c, back, subst (λ m. At text w m c) q at_c, refl))

  pub set_kept : (k : ℕ) (ms : List Member) (p : InSet) (c : ℕ) → PartOk ms p k → At text w k c → SetKept k (set_step text k ms p c)
  set_kept k ms set_first c h at_c = side_first_kept true k ms c h at_c (λ z. absurd (true≢false z))
  set_kept k ms set_next c h at_c = member_first_kept k ms c h at_c
  set_kept k ms (set_slash i) c (f, h, back, q) at_c = escape_set_kept f k ms i c (escape_first (slashed text true c)) h (first_at i k c back q at_c)
  set_kept k ms (set_escape i x) c (f, h, es) at_c = escape_next_kept f k ms i x c (escape_next x c) (escape_rest x) refl refl h es at_c (next_ok text w true i x k c es at_c)
  set_kept k ms (set_side i e) c (f, h, side, ok) at_c = side_next_kept f k ms i e c h side ok at_c
  set_kept k ms (set_dash i j e) c (f, h, side, ok, at_45, q) at_c = dash_next_kept f k ms i j e c h side ok at_45 q at_c
  set_kept k ms (dash_slash i e) c (f, j, h, side, ok, at_45, nk, back, q) at_c = dash_first_kept f k ms i j e (escape_first (slashed text true c)) h side ok at_45 nk (first_at (suc j) k c back q at_c)
  set_kept k ms (dash_escape i e x) c (f, j, h, side, ok, at_45, nk, es) at_c = dash_escape_kept f k ms i j e x c (escape_next x c) (escape_rest x) refl refl h side ok at_45 nk es at_c (next_ok text w true (suc j) x k c es at_c)
