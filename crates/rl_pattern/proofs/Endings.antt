-- Whatever the machine is in the middle of, a few more codes make a pattern.
use Rattle.std.proofs.Common.{◌≡◌, ℕ, zero, suc, sub-one, ◌-◌, ◌<◌, Bool, true, false, cond, if◌then◌else◌, nat_le, List, [], ◌∷◌, ◌++◌, length, replicate, Some, refl, sym, ap, ◌∙◌, subst, append_assoc, arith}
use Rattle.std.specs.Prelude.{All}
use Rattle.std.specs.List.{list_all}
use Rattle.std.proofs.Math.Dec.{ltb}
use Rattle.std.proofs.lemmas.Bool.{ne_eqb, cond_both, ltb-true}
use Rattle.std.proofs.lemmas.List.Elements.{All-append, All-replicate, All-weaker}
use Rattle.std.proofs.lemmas.List.Sums.{AllPass-from_list_all}
use Rattle.rl_ranges.specs.Text.{code_count, IsText}
use Rattle.rl_ranges.specs.declared.universe.Universe.{Universe}
use Rattle.rl_ranges.specs.declared.universe.Universe.TheVariants.{Str, Bytes}
use Rattle.rl_pattern.specs.Tree.{span, Escaped, code, too_large, by_name, reference, Member, range, glyph, members, Whole, greedy, Kind, named, scoped, lookaround, conditional}
use Rattle.rl_pattern.specs.internal.Signs.{code_up_to}
use Rattle.rl_pattern.specs.Codes.{with_digit, sign, numeral, is_digit, hex, slashed, begins_name, goes_in_name, on_letter, off_letter, headed, no_flags, with_letter, counts, octal_code, hex_code, is_kind}
use Rattle.rl_pattern.specs.internal.Machine.{stops, goes, ends, InEscape, in_hex, name_brace, name_begins, name_goes, in_octal, after_low, after_high, after_two, escape_next, escape_rest, InSet, set_first, set_next, set_slash, set_escape, set_side, set_dash, dash_slash, dash_escape, in_set, escape_set_next, escape_dash_next, set_answer, InHead, paren, quest, after_p, after_less, group_name, group_name_goes, reference_name, reference_name_goes, asks, asks_digits, asks_name_goes, letters_on, letters_dash, letters_off, Frame, Base, Lex, between, line, comment, in_braces, counted, at_slash, in_escape, in_head, set_open, in_class, State, at, put_leaf, put_code, put_codes, no_count, put_repeat, open_group, close, escape_step, step_at, observe, finish_below, finish_escape, finish_at}

-- The codes that end an escape.
abbrev pub escape_ending : InEscape → List ℕ
escape_ending (in_hex still v) = replicate still 48
escape_ending name_brace = 123 ∷ 46 ∷ 125 ∷ []
escape_ending name_begins = 46 ∷ 125 ∷ []
escape_ending name_goes = 125 ∷ []
escape_ending (in_octal still v) = []
escape_ending (after_low v) = []
escape_ending after_high = []
escape_ending (after_two v) = []

abbrev pub set_ending : InSet → List ℕ
set_ending set_first = 48 ∷ 93 ∷ []
set_ending set_next = 93 ∷ []
set_ending (set_slash i) = 46 ∷ 93 ∷ []
set_ending (set_escape i x) = escape_ending x ++ 93 ∷ []
set_ending (set_side i e) = 93 ∷ []
set_ending (set_dash i j e) = 93 ∷ []
set_ending (dash_slash i e) = 46 ∷ 93 ∷ []
set_ending (dash_escape i e x) = escape_ending x ++ 93 ∷ []

abbrev pub head_ending : InHead → List ℕ
head_ending paren = 41 ∷ []
head_ending quest = 58 ∷ 41 ∷ []
head_ending after_p = 61 ∷ 97 ∷ 41 ∷ []
head_ending after_less = 61 ∷ 41 ∷ []
head_ending group_name = 97 ∷ 62 ∷ 41 ∷ []
head_ending (group_name_goes n) = 62 ∷ 41 ∷ []
head_ending reference_name = 97 ∷ 41 ∷ []
head_ending reference_name_goes = 41 ∷ []
head_ending asks = 48 ∷ 41 ∷ 41 ∷ []
head_ending asks_digits = 41 ∷ 41 ∷ []
head_ending asks_name_goes = 41 ∷ 41 ∷ []
head_ending (letters_on f) = 58 ∷ 41 ∷ []
head_ending (letters_dash f) = 105 ∷ 58 ∷ 41 ∷ []
head_ending (letters_off f g) = 58 ∷ 41 ∷ []

abbrev pub ending : Lex → List ℕ
ending between = []
ending line = 10 ∷ []
ending comment = 41 ∷ []
ending (in_braces a t) = []
ending (counted a p q n) = []
ending (at_slash a) = 46 ∷ []
ending (in_escape a x) = escape_ending x
ending (in_head a h) = head_ending h
ending (set_open a) = 48 ∷ 93 ∷ []
ending (in_class a v s) = set_ending s.part

-- Each of these codes is ASCII.
ascii : (codes : List ℕ) → list_all (λ c. ltb c 128) codes ≡ true → All (λ c. c < 128) codes
ascii codes h = All-weaker (λ c. ltb c 128 ≡ true) (λ c. c < 128) (λ c. ltb-true c 128) codes (AllPass-from_list_all (λ c. ltb c 128) codes h)

escape_ascii : (x : InEscape) → All (λ c. c < 128) (escape_ending x)
escape_ascii (in_hex still v) = All-replicate (λ c. c < 128) still 48 (omega arith)
escape_ascii name_brace = ascii (123 ∷ 46 ∷ 125 ∷ []) refl
escape_ascii name_begins = ascii (46 ∷ 125 ∷ []) refl
escape_ascii name_goes = ascii (125 ∷ []) refl
escape_ascii (in_octal n v) = ascii [] refl
escape_ascii (after_low v) = ascii [] refl
escape_ascii after_high = ascii [] refl
escape_ascii (after_two v) = ascii [] refl

set_ascii : (p : InSet) → All (λ c. c < 128) (set_ending p)
set_ascii set_first = ascii (48 ∷ 93 ∷ []) refl
set_ascii set_next = ascii (93 ∷ []) refl
set_ascii (set_slash i) = ascii (46 ∷ 93 ∷ []) refl
set_ascii (set_escape i x) = All-append (λ c. c < 128) (escape_ending x) (93 ∷ []) (escape_ascii x) (ascii (93 ∷ []) refl)
set_ascii (set_side i e) = ascii (93 ∷ []) refl
set_ascii (set_dash i j e) = ascii (93 ∷ []) refl
set_ascii (dash_slash i e) = ascii (46 ∷ 93 ∷ []) refl
set_ascii (dash_escape i e x) = All-append (λ c. c < 128) (escape_ending x) (93 ∷ []) (escape_ascii x) (ascii (93 ∷ []) refl)

head_ascii : (h : InHead) → All (λ c. c < 128) (head_ending h)
head_ascii paren = ascii (41 ∷ []) refl
head_ascii quest = ascii (58 ∷ 41 ∷ []) refl
head_ascii after_p = ascii (61 ∷ 97 ∷ 41 ∷ []) refl
head_ascii after_less = ascii (61 ∷ 41 ∷ []) refl
head_ascii group_name = ascii (97 ∷ 62 ∷ 41 ∷ []) refl
head_ascii (group_name_goes n) = ascii (62 ∷ 41 ∷ []) refl
head_ascii reference_name = ascii (97 ∷ 41 ∷ []) refl
head_ascii reference_name_goes = ascii (41 ∷ []) refl
head_ascii asks = ascii (48 ∷ 41 ∷ 41 ∷ []) refl
head_ascii asks_digits = ascii (41 ∷ 41 ∷ []) refl
head_ascii asks_name_goes = ascii (41 ∷ 41 ∷ []) refl
head_ascii (letters_on f) = ascii (58 ∷ 41 ∷ []) refl
head_ascii (letters_dash f) = ascii (105 ∷ 58 ∷ 41 ∷ []) refl
head_ascii (letters_off f g) = ascii (58 ∷ 41 ∷ []) refl

ending_ascii : (x : Lex) → All (λ c. c < 128) (ending x)
ending_ascii between = ascii [] refl
ending_ascii line = ascii (10 ∷ []) refl
ending_ascii comment = ascii (41 ∷ []) refl
ending_ascii (in_braces a t) = ascii [] refl
ending_ascii (counted a p q n) = ascii [] refl
ending_ascii (at_slash a) = ascii (46 ∷ []) refl
ending_ascii (in_escape a x) = escape_ascii x
ending_ascii (in_head a h) = head_ascii h
ending_ascii (set_open a) = ascii (48 ∷ 93 ∷ []) refl
ending_ascii (in_class a v s) = set_ascii s.part

-- `str` and `bytes` both contain the codes of ASCII.
-- The universe of `str` or of `bytes`.
abbrev pub universe_if : Bool → Universe
universe_if text = if text then Str else Bytes

ascii_in : (text : Bool) (c : ℕ) → c < 128 → c < code_count (universe_if text)
ascii_in true c l = omega (arith, l)
ascii_in false c l = omega (arith, l)

-- The codes that end what the machine is in the middle of, and a number of groups, are a text of each universe.
pub ending_text : (text : Bool) (x : Lex) (n : ℕ) → IsText (universe_if text) (ending x ++ replicate n 41)
ending_text text x n =
    All-weaker (λ c. c < 128) (λ c. c < code_count (universe_if text)) (ascii_in text) (ending x ++ replicate n 41)
    (All-append (λ c. c < 128) (ending x) (replicate n 41) (ending_ascii x) (All-replicate (λ c. c < 128) n 41 (omega arith)))

-- An escape that can still be completed.
abbrev pub MayEnd : InEscape → Type 0
MayEnd (in_hex still v) = 0 < still
MayEnd name_brace = Unit {0}
MayEnd name_begins = Unit {0}
MayEnd name_goes = Unit {0}
MayEnd (in_octal n v) = Unit {0}
MayEnd (after_low v) = Unit {0}
MayEnd after_high = Unit {0}
MayEnd (after_two v) = Unit {0}

-- The same within a class.
abbrev pub SetMayEnd : InSet → Type 0
SetMayEnd (set_escape i x) = MayEnd x
SetMayEnd (dash_escape i e x) = MayEnd x
SetMayEnd set_first = Unit {0}
SetMayEnd set_next = Unit {0}
SetMayEnd (set_slash i) = Unit {0}
SetMayEnd (set_side i e) = Unit {0}
SetMayEnd (set_dash i j e) = Unit {0}
SetMayEnd (dash_slash i e) = Unit {0}

-- What the machine is in the middle of can still be completed.
abbrev pub LexMayEnd : Lex → Type 0
LexMayEnd (in_escape a x) = MayEnd x
LexMayEnd (in_class a v s) = SetMayEnd s.part
LexMayEnd between = Unit {0}
LexMayEnd line = Unit {0}
LexMayEnd comment = Unit {0}
LexMayEnd (in_braces a t) = Unit {0}
LexMayEnd (counted a p q n) = Unit {0}
LexMayEnd (at_slash a) = Unit {0}
LexMayEnd (in_head a h) = Unit {0}
LexMayEnd (set_open a) = Unit {0}

-- These codes complete an escape as `e`, or the escape is `e` before a `)` and a `]`.
data Feeds (e : Escaped) : InEscape → List ℕ → Type 0 where
  at_rest : {x : InEscape} → escape_rest x ≡ Some e → escape_next x 41 ≡ stops → escape_next x 93 ≡ stops → Feeds e x []
  at_last : {x : InEscape} {c : ℕ} → escape_next x c ≡ ends e → Feeds e x (c ∷ [])
  feeds_on : {x y : InEscape} {c : ℕ} {r : List ℕ} → escape_next x c ≡ goes y → Feeds e y r → Feeds e x (c ∷ r)

no_kind : (m n : ℕ) → is_kind (code_up_to m n) ≡ false
no_kind m n = cond_both (nat_le n m) (code n) too_large (λ e. is_kind e ≡ false) (λ z. refl) (λ z. refl)

record Fed (x : InEscape) (r : List ℕ) : Type 0 where
  value : Escaped
  feeds : Feeds value x r
  no_kind : is_kind value ≡ false

feeds_hex : (m v : ℕ) → Fed (in_hex (suc m) v) (replicate (suc m) 48)
unfolding hex
feeds_hex zero v = record { value = hex_code (with_digit 16 v 0); feeds = at_last refl; no_kind = no_kind 1114111 (with_digit 16 v 0) }
feeds_hex (suc m) v =
    let r = feeds_hex m (with_digit 16 v 0) in
    record {
      value = r.value;
      feeds = feeds_on (ap (λ b. cond b (ends (hex_code (with_digit 16 v 0))) (goes (in_hex (suc (suc m) - 1) (with_digit 16 v 0)))) (ne_eqb (suc (suc m)) 1 (λ z. omega (arith, z))) ∙ ap (λ n. goes (in_hex n (with_digit 16 v 0))) (sub-one (suc (suc m)))) r.feeds;
      no_kind = r.no_kind;
    }

escape_fed : (x : InEscape) → MayEnd x → Fed x (escape_ending x)
unfolding numeral
escape_fed (in_hex zero v) l = absurd (omega (arith, l))
escape_fed (in_hex (suc m) v) l = feeds_hex m v
escape_fed name_brace l = record { value = by_name; feeds = feeds_on {y = name_begins} refl (feeds_on {y = name_goes} refl (at_last refl)); no_kind = refl }
escape_fed name_begins l = record { value = by_name; feeds = feeds_on {y = name_goes} refl (at_last refl); no_kind = refl }
escape_fed name_goes l = record { value = by_name; feeds = at_last refl; no_kind = refl }
escape_fed (in_octal n v) l = record { value = octal_code v; feeds = at_rest refl refl refl; no_kind = no_kind 255 v }
escape_fed (after_low v) l = record { value = reference; feeds = at_rest refl refl refl; no_kind = refl }
escape_fed after_high l = record { value = reference; feeds = at_rest refl refl refl; no_kind = refl }
escape_fed (after_two v) l = record { value = reference; feeds = at_rest refl refl refl; no_kind = refl }

module _ (text : Bool) where
  -- The codes from `k` on are read to a whole pattern.
  pub record IsRead (k : ℕ) (s : State) (r : List ℕ) : Type 0 where
    pub whole : Whole
    pub reads : observe text finish_at k (Some s) r ≡ Some whole

  read_step : (k c : ℕ) (s t : State) (r : List ℕ) → step_at text k s c ≡ Some t → IsRead (suc k) t r → IsRead k s (c ∷ r)
  read_step k c s t r e h = record { whole = h.whole; reads = ap (λ o. observe text finish_at (suc k) o r) e ∙ h.reads }

  same_read : (k c : ℕ) (s t : State) (r : List ℕ) → step_at text k s c ≡ step_at text k t c → IsRead k t (c ∷ r) → IsRead k s (c ∷ r)
  same_read k c s t r e h = record { whole = h.whole; reads = ap (λ o. observe text finish_at (suc k) o r) e ∙ h.reads }

  -- One `)` for each open group.
  closes_all : (fs : List Frame) (k : ℕ) (b : Base) → b.below ≡ fs → IsRead k (at b between) (replicate (length fs) 41)
  unfolding sign
  closes_all [] k b e = record { whole = _; reads = ap (finish_below k b) e }
  closes_all (f ∷ fs) k b e = read_step k 41 (at b between) _ (replicate (length fs) 41) (ap (close b k) e) (closes_all fs (suc k) _ refl)

  closed : (k : ℕ) (b : Base) → IsRead k (at b between) (replicate (length b.below) 41)
  closed k b = closes_all b.below k b refl

  -- What is pending is settled before a `)` and at the end.
  pending : (k : ℕ) (s t : State) (n : ℕ) → finish_at k s ≡ finish_at k t → step_at text k s 41 ≡ step_at text k t 41 → IsRead k t (replicate n 41) → IsRead k s (replicate n 41)
  pending k s t zero e f h = record { whole = h.whole; reads = e ∙ h.reads }
  pending k s t (suc n) e f h = same_read k 41 s t (replicate n 41) f h

  codes_below : (b : Base) (i : ℕ) (t : List ℕ) → (put_codes b i t).below ≡ b.below
  codes_below b i [] = refl
  codes_below b i (c ∷ t) = codes_below (put_code b i c) (suc i) t

  escape_read : (b : Base) (a n : ℕ) (e : Escaped) {x : InEscape} {r : List ℕ} → Feeds e x r → ((j : ℕ) → IsRead j (at (put_leaf b a j (glyph e)) between) (replicate n 41)) → (k : ℕ) → IsRead k (at b (in_escape a x)) (r ++ replicate n 41)
  escape_read b a n e (at_rest {x = x} h h41 h93) f k =
      pending k (at b (in_escape a x)) (at (put_leaf b a k (glyph e)) between) n (ap (finish_escape k b a) h) (ap (λ r. escape_step k b a r (escape_rest x) 41) h41 ∙ ap (λ o. escape_step k b a stops o 41) h) (f k)
  escape_read b a n e (at_last {x = x} {c = c} h) f k = read_step k c _ _ (replicate n 41) (ap (λ r. escape_step k b a r (escape_rest x) c) h) (f (suc k))
  escape_read b a n e (feeds_on {x = x} {y = y} {c = c} {r = r} h fed) f k = read_step k c _ (at b (in_escape a y)) (r ++ replicate n 41) (ap (λ r. escape_step k b a r (escape_rest x) c) h) (escape_read b a n e fed f (suc k))

  module _ (b : Base) (a : ℕ) (v : Bool) where
    abbrev In : List Member → InSet → State
    In ms p = at b (in_class a v (record { before = ms; part = p }))

    abbrev tail : List ℕ
    tail = replicate (length b.below) 41

    class_closes : (k : ℕ) (ms : List Member) → IsRead k (In ms set_next) (93 ∷ tail)
    class_closes k ms = read_step k 93 _ _ tail refl (closed (suc k) (put_leaf b a (suc k) (members v ms)))

    side_closes : (k : ℕ) (ms : List Member) (i : ℕ) (e : Escaped) → IsRead k (In ms (set_side i e)) (93 ∷ tail)
    side_closes k ms i e = read_step k 93 _ _ tail refl (closed (suc k) _)

    first_escape_read : (ms : List Member) (i : ℕ) (e : Escaped) {x : InEscape} {r : List ℕ} → Feeds e x r → (k : ℕ) → IsRead k (In ms (set_escape i x)) (r ++ 93 ∷ tail)
    first_escape_read ms i e (at_rest {x = x} h h41 h93) k =
        same_read k 93 _ (In ms (set_side i e)) tail (ap (λ r. set_answer k b a v (escape_set_next k ms i r (escape_rest x) 93)) h93 ∙ ap (λ o. set_answer k b a v (escape_set_next k ms i stops o 93)) h) (side_closes k ms i e)
    first_escape_read ms i e (at_last {x = x} {c = c} h) k = read_step k c _ (In ms (set_side i e)) (93 ∷ tail) (ap (λ r. set_answer k b a v (escape_set_next k ms i r (escape_rest x) c)) h) (side_closes (suc k) ms i e)
    first_escape_read ms i e (feeds_on {x = x} {y = y} {c = c} {r = r} h fed) k =
        read_step k c _ (In ms (set_escape i y)) (r ++ 93 ∷ tail) (ap (λ r. set_answer k b a v (escape_set_next k ms i r (escape_rest x) c)) h) (first_escape_read ms i e fed (suc k))

    second_escape_read : (ms : List Member) (i : ℕ) (e d : Escaped) → is_kind d ≡ false → {x : InEscape} {r : List ℕ} → Feeds d x r → (k : ℕ) → IsRead k (In ms (dash_escape i e x)) (r ++ 93 ∷ tail)
    second_escape_read ms i e d nk (at_rest {x = x} h h41 h93) k =
        same_read k 93 _ (In (ms ++ range (span i k) e d ∷ []) set_next) tail (ap (λ r. set_answer k b a v (escape_dash_next k ms i e r (escape_rest x) 93)) h93 ∙ ap (λ o. set_answer k b a v (escape_dash_next k ms i e stops o 93)) h ∙ ap (λ t. set_answer k b a v (cond t stops (ends (ms ++ range (span i k) e d ∷ [])))) nk) (class_closes k _)
    second_escape_read ms i e d nk (at_last {x = x} {c = c} h) k =
        read_step k c _ (In (ms ++ range (span i (suc k)) e d ∷ []) set_next) (93 ∷ tail) (ap (λ r. set_answer k b a v (escape_dash_next k ms i e r (escape_rest x) c)) h ∙ ap (λ t. set_answer k b a v (cond t stops (in_set (ms ++ range (span i (suc k)) e d ∷ []) set_next))) nk) (class_closes (suc k) _)
    second_escape_read ms i e d nk (feeds_on {x = x} {y = y} {c = c} {r = r} h fed) k =
        read_step k c _ (In ms (dash_escape i e y)) (r ++ 93 ∷ tail) (ap (λ r. set_answer k b a v (escape_dash_next k ms i e r (escape_rest x) c)) h) (second_escape_read ms i e d nk fed (suc k))

    set_ends : (k : ℕ) (ms : List Member) (p : InSet) → SetMayEnd p → IsRead k (In ms p) (set_ending p ++ tail)
    unfolding slashed numeral
    set_ends k ms set_first h = read_step k 48 _ _ (93 ∷ tail) refl (side_closes (suc k) ms k (code 48))
    set_ends k ms set_next h = class_closes k ms
    set_ends k ms (set_slash i) h = read_step k 46 _ _ (93 ∷ tail) refl (side_closes (suc k) ms i (code 46))
    set_ends k ms (set_escape i x) h = let f = escape_fed x h in subst (λ r. IsRead k (In ms (set_escape i x)) r) (sym (append_assoc (escape_ending x) (93 ∷ []) tail)) (first_escape_read ms i f.value f.feeds k)
    set_ends k ms (set_side i e) h = side_closes k ms i e
    set_ends k ms (set_dash i j e) h = read_step k 93 _ _ tail refl (closed (suc k) _)
    set_ends k ms (dash_slash i e) h = read_step k 46 _ _ (93 ∷ tail) refl (class_closes (suc k) _)
    set_ends k ms (dash_escape i e x) h = let f = escape_fed x h in subst (λ r. IsRead k (In ms (dash_escape i e x)) r) (sym (append_assoc (escape_ending x) (93 ∷ []) tail)) (second_escape_read ms i e f.value f.no_kind f.feeds k)

  -- A group that was just opened can be closed.
  opened_closes : (k a j : ℕ) (b : Base) (kd : Kind) → IsRead k (at (open_group b a j kd) between) (41 ∷ replicate (length b.below) 41)
  unfolding sign
  opened_closes k a j b kd = read_step k 41 _ _ (replicate (length b.below) 41) refl (closed (suc k) _)

  head_ends : (k a : ℕ) (b : Base) (h : InHead) → IsRead k (at b (in_head a h)) (head_ending h ++ replicate (length b.below) 41)
  unfolding sign headed on_letter off_letter begins_name goes_in_name is_digit numeral
  head_ends k a b paren = read_step k 41 _ _ (replicate (length b.below) 41) refl (closed (suc k) _)
  head_ends k a b quest = read_step k 58 _ _ (41 ∷ replicate (length b.below) 41) refl (opened_closes (suc k) a (suc k) b (scoped no_flags no_flags))
  head_ends k a b after_p = read_step k 61 _ _ (97 ∷ 41 ∷ replicate (length b.below) 41) refl (read_step (suc k) 97 _ (at b (in_head a reference_name_goes)) (41 ∷ replicate (length b.below) 41) refl (read_step (suc (suc k)) 41 _ _ (replicate (length b.below) 41) refl (closed (suc (suc (suc k))) _)))
  head_ends k a b after_less = read_step k 61 _ _ (41 ∷ replicate (length b.below) 41) refl (opened_closes (suc k) a (suc k) b (lookaround true false))
  head_ends k a b group_name = read_step k 97 _ (at b (in_head a (group_name_goes (97 ∷ [])))) (62 ∷ 41 ∷ replicate (length b.below) 41) refl (read_step (suc k) 62 _ _ (41 ∷ replicate (length b.below) 41) refl (opened_closes (suc (suc k)) a (suc (suc k)) b (named (97 ∷ []))))
  head_ends k a b (group_name_goes n) = read_step k 62 _ _ (41 ∷ replicate (length b.below) 41) refl (opened_closes (suc k) a (suc k) b (named n))
  head_ends k a b reference_name = read_step k 97 _ (at b (in_head a reference_name_goes)) (41 ∷ replicate (length b.below) 41) refl (read_step (suc k) 41 _ _ (replicate (length b.below) 41) refl (closed (suc (suc k)) _))
  head_ends k a b reference_name_goes = read_step k 41 _ _ (replicate (length b.below) 41) refl (closed (suc k) _)
  head_ends k a b asks = read_step k 48 _ (at b (in_head a asks_digits)) (41 ∷ 41 ∷ replicate (length b.below) 41) refl (read_step (suc k) 41 _ _ (41 ∷ replicate (length b.below) 41) refl (opened_closes (suc (suc k)) a (suc (suc k)) b conditional))
  head_ends k a b asks_digits = read_step k 41 _ _ (41 ∷ replicate (length b.below) 41) refl (opened_closes (suc k) a (suc k) b conditional)
  head_ends k a b asks_name_goes = read_step k 41 _ _ (41 ∷ replicate (length b.below) 41) refl (opened_closes (suc k) a (suc k) b conditional)
  head_ends k a b (letters_on f) = read_step k 58 _ _ (41 ∷ replicate (length b.below) 41) refl (opened_closes (suc k) a (suc k) b (scoped f no_flags))
  head_ends k a b (letters_dash f) = read_step k 105 _ _ (58 ∷ 41 ∷ replicate (length b.below) 41) refl (read_step (suc k) 58 _ _ (41 ∷ replicate (length b.below) 41) refl (opened_closes (suc (suc k)) a (suc (suc k)) b (scoped f (with_letter no_flags 105))))
  head_ends k a b (letters_off f g) = read_step k 58 _ _ (41 ∷ replicate (length b.below) 41) refl (opened_closes (suc k) a (suc k) b (scoped f g))

  pub ends_all : (k : ℕ) (b : Base) (x : Lex) → LexMayEnd x → IsRead k (at b x) (ending x ++ replicate (length b.below) 41)
  unfolding slashed numeral counts is_digit
  ends_all k b between h = closed k b
  ends_all k b line h = read_step k 10 _ _ (replicate (length b.below) 41) refl (closed (suc k) b)
  ends_all k b comment h = read_step k 41 _ _ (replicate (length b.below) 41) refl (closed (suc k) b)
  ends_all k b (in_braces a t) h = pending k _ (at (no_count b a t) between) (length b.below) refl refl (subst (λ fs. IsRead k (at (no_count b a t) between) (replicate (length fs) 41)) (codes_below (put_code b a 123) (suc a) t) (closed k (no_count b a t)))
  ends_all k b (counted a p q n) h = pending k _ (at (put_repeat b a p q k n greedy) between) (length b.below) refl refl (closed k _)
  ends_all k b (at_slash a) h = read_step k 46 _ _ (replicate (length b.below) 41) refl (closed (suc k) _)
  ends_all k b (in_escape a x) h = let f = escape_fed x h in escape_read b a (length b.below) f.value f.feeds (λ j. closed j (put_leaf b a j (glyph f.value))) k
  ends_all k b (in_head a x) h = head_ends k a b x
  ends_all k b (set_open a) h = read_step k 48 _ _ (93 ∷ replicate (length b.below) 41) refl (side_closes b a false (suc k) [] k (code 48))
  ends_all k b (in_class a v s) h = set_ends b a v k s.before s.part h
