-- The sets of the parts of a leaf hold what the leaf matches.
use Rattle.std.proofs.Common.{◌≡◌, ℕ, zero, suc, ◌<◌, ◌-◌, ◌==◌, min, nat_lt, Bool, true, false, not, ◌&&◌, ◌||◌, cond, List, [], ◌∷◌, length, drop, ◌+◌, inl, inr, Result, Ok, Err, refl, sym, ap, ap₂, ◌∙◌, arith}
use Rattle.std.proofs.lemmas.Bool.{and_parts, and_from, or_cases, or_left, or_right, lt-ltb, ltb-true, cases_eq, true≢false}
use Rattle.std.proofs.lemmas.Bool.Decides.{nat_tests}
use Rattle.std.specs.Prelude.{slice_index_or, IfOk}
use Rattle.std.proofs.lemmas.List.{at_drop_more}
use Rattle.rl_ranges.proofs.SetLemmas.{has-nil, or-false, or_assoc}
use Rattle.rl_ranges.specs.Codes.{has, is_between, IsInside}
use Rattle.rl_ranges.specs.Case.{is_case_kin, IsCaseClosed}
use Rattle.rl_ranges.specs.Named.{is_named, goes_by_ascii}
use Rattle.rl_ranges.specs.Text.{code_count}
use Rattle.rl_ranges.specs.declared.universe.Universe.{Universe}
use Rattle.rl_ranges.specs.declared.universe.Universe.TheVariants.{Str, Bytes}
use Rattle.rl_pattern.specs.declared.flags.Flags.{Flags}
use Rattle.rl_pattern.specs.Tree as t
use Rattle.rl_pattern.specs.Tree.{Named, Span, Escaped, Member, Leaf}
use Rattle.rl_pattern.specs.Codes.{no_flags}
use Rattle.rl_pattern.specs.Shape.{is_text}
use Rattle.rl_pattern.specs.LeafCodes.{some_below, closed_holds, within, leaf_codes, code_member, kind_member, members_hold}
use Rattle.rl_pattern.specs.internal.LeafSets.{closing_in, kind_in, escaped_in, code_in, codes_in, class_in, classes_in, members_in, some_member}

-- The result of a call, by what is known about it.
pub answered : {A E : Type 0} (r : Result A E) (P Q : A → Type 0) → ((a : A) → P a → Q a) → IfOk r P → IfOk r Q
answered (Ok a) P Q f h = f a h
answered (Err e) P Q f h = tt

pub answered_both : {A E : Type 0} (r : Result A E) (P Q R : A → Type 0) → ((a : A) → P a → Q a → R a) → IfOk r P → IfOk r Q → IfOk r R
answered_both (Ok a) P Q R f h k = f a h k
answered_both (Err e) P Q R f h k = tt

pub codes_same : {E : Type 0} (r : Result (List (ℕ × ℕ)) E) (p q : ℕ → Bool) → ((x : ℕ) → p x ≡ q x) → IfOk r (λ s. (x : ℕ) → has s x ≡ p x) → IfOk r (λ s. (x : ℕ) → has s x ≡ q x)
codes_same r p q same h = answered r (λ s. (x : ℕ) → has s x ≡ p x) (λ s. (x : ℕ) → has s x ≡ q x) (λ s g x. g x ∙ same x) h

-- A range that is cut off at the end of the universe.
pub between_some : (u : Universe) (first last code n upto : ℕ) → n ≡ code_count u → upto ≡ min last (n - 1) → is_between first upto code ≡ within u (is_between first last) code
unfolding is_between
between_some Str first last code n upto e f = grind (arith, nat_tests)
between_some Bytes first last code n upto e f = grind (arith, nat_tests)

pub between_none : (u : Universe) (first last code n upto : ℕ) → n ≡ code_count u → upto ≡ min last (n - 1) → upto < first → false ≡ within u (is_between first last) code
unfolding is_between
between_none Str first last code n upto e f h = grind (arith, nat_tests)
between_none Bytes first last code n upto e f h = grind (arith, nat_tests)

pub between_one : (code d : ℕ) → is_between code code d ≡ (d == code)
unfolding is_between
between_one code d = grind (arith, nat_tests)

pub same_within : (u : Universe) (p q : ℕ → Bool) → ((d : ℕ) → p d ≡ q d) → (d : ℕ) → within u p d ≡ within u q d
same_within u p q same d = ap (λ b. nat_lt d (code_count u) && b) (same d)

-- The two ways to say that ASCII decides.
pub ascii_rule : (ascii : Bool) (u : Universe) → (ascii || not (is_text u)) ≡ goes_by_ascii ascii u
ascii_rule true Str = refl
ascii_rule false Str = refl
ascii_rule true Bytes = refl
ascii_rule false Bytes = refl

-- A set of the universe holds no other codes.
pub inside_same : (u : Universe) (set : List (ℕ × ℕ)) (code : ℕ) (v : Bool) → IsInside u set → has set code ≡ v → has set code ≡ (nat_lt code (code_count u) && v)
inside_same u set code true inside e = e ∙ sym (ap (λ b. b && true) (lt-ltb code (code_count u) (inside code e)))
inside_same u set code false inside e = e ∙ sym (and_no (nat_lt code (code_count u)))
  where
    and_no : (b : Bool) → (b && false) ≡ false
    and_no true = refl
    and_no false = refl

some_from : (n d : ℕ) (test : ℕ → Bool) → d < n → test d ≡ true → some_below n test ≡ true
unfolding some_below
some_from zero d test h e = absurd (omega arith)
some_from (suc n) d test h e = elim (cases_eq d n) [
  | inl f ↦ or_left (test n) (some_below n test) (ap test (sym f) ∙ e)
  | inr f ↦ or_right (test n) (some_below n test) (some_from n d test (omega arith) e)
]

some_has : (n : ℕ) (test : ℕ → Bool) → some_below n test ≡ true → (d : ℕ) × (d < n) × (test d ≡ true)
unfolding some_below
some_has zero test h = absurd (true≢false (sym h))
some_has (suc n) test h = elim (or_cases (test n) (some_below n test) h) [
  | inl e ↦ (n, omega arith, e)
  | inr e ↦ let found = some_has n test e in (found.0, omega (arith, found.1), found.2)
]

same_true : (a b : Bool) → (a ≡ true → b ≡ true) → (b ≡ true → a ≡ true) → a ≡ b
same_true true true f g = refl
same_true true false f g = sym (f refl)
same_true false true f g = g refl
same_true false false f g = refl

-- A set that is closed under case holds what the closure of its codes holds.
closed_same : (u : Universe) (ascii : Bool) (set closed : List (ℕ × ℕ)) (p : ℕ → Bool) → ((d : ℕ) → has set d ≡ within u p d) → IsCaseClosed ascii set closed → IsInside u closed
    → (code : ℕ) → has closed code ≡ within u (closed_holds u ascii p) code
closed_same u ascii set closed p same is inside code =
    same_true (has closed code) (within u (closed_holds u ascii p) code)
    (λ h. let found = (is code).0 h in
    let parts = and_parts (nat_lt found.0 (code_count u)) (p found.0) (sym (same found.0) ∙ found.1) in
    and_from (nat_lt code (code_count u)) (closed_holds u ascii p code) (lt-ltb code (code_count u) (inside code h))
    (some_from (code_count u) found.0 (λ d. p d && is_case_kin ascii d code) (ltb-true found.0 (code_count u) parts.0) (and_from (p found.0) (is_case_kin ascii found.0 code) parts.1 found.2)))
    (λ h. let found = some_has (code_count u) (λ d. p d && is_case_kin ascii d code) (and_parts (nat_lt code (code_count u)) (closed_holds u ascii p code) h).1 in
    let parts = and_parts (p found.0) (is_case_kin ascii found.0 code) found.2 in
    (is code).1 (found.0, same found.0 ∙ and_from (nat_lt found.0 (code_count u)) (p found.0) (lt-ltb found.0 (code_count u) found.1) parts.0, parts.1))

pub closing_true : (u : Universe) (f : Flags) (set closed : List (ℕ × ℕ)) (p : ℕ → Bool) → f.ignore_case ≡ true → ((d : ℕ) → has set d ≡ within u p d) → IsCaseClosed (goes_by_ascii f.ascii u) set closed → IsInside u closed
    → (code : ℕ) → has closed code ≡ within u (closing_in u f p) code
closing_true u f set closed p e same is inside code =
    closed_same u (goes_by_ascii f.ascii u) set closed p same is inside code
    ∙ ap (λ a. within u (closed_holds u a p) code) (sym (ascii_rule f.ascii u))
    ∙ sym (ap (λ b. nat_lt code (code_count u) && cond b (closed_holds u (f.ascii || not (is_text u)) p code) (p code)) e)

pub kind_same : (u : Universe) (f : Flags) (k : Named) (inverse : Bool) (code : ℕ) → inverse ≡ false → is_named k (goes_by_ascii f.ascii u) code ≡ kind_in u f k inverse code
unfolding kind_in
kind_same u f k true code e = absurd (true≢false e)
kind_same u f k false code e = ap (λ a. is_named k a code) (sym (ascii_rule f.ascii u))

pub kind_other : (u : Universe) (f : Flags) (k : Named) (inverse : Bool) (code : ℕ) (held : Bool) → inverse ≡ true → held ≡ is_named k (goes_by_ascii f.ascii u) code → (nat_lt code (code_count u) && not held) ≡ kind_in u f k inverse code
unfolding kind_in
kind_other u f k false code held e h = absurd (true≢false (sym e))
kind_other u f k true code held e h =
    ap (λ b. nat_lt code (code_count u) && not b) (h ∙ ap (λ a. is_named k a code) (sym (ascii_rule f.ascii u)))

pub or_none : (a b : Bool) → a ≡ (a || (b && false))
or_none true b = refl
or_none false true = refl
or_none false false = refl

pub none_held : (set : List (ℕ × ℕ)) (code : ℕ) → set ≡ [] → has set code ≡ false
none_held set code e = ap (λ l. has l code) e ∙ has-nil code

pub none_inside : (u : Universe) (set : List (ℕ × ℕ)) → set ≡ [] → IsInside u set
none_inside u set e code h = absurd (true≢false (sym h ∙ none_held set code e))

-- The parts of a leaf, by their variants.
pub range_held : (u : Universe) (place : Span) (e d : Escaped) (first last x : ℕ) (held : Bool) → e ≡ t.code first → d ≡ t.code last → held ≡ within u (is_between first last) x → held ≡ code_in u (t.range place e d) x
unfolding code_in is_between
range_held u place e d first last x held i j h = h ∙ sym (ap (λ v. code_in u (t.range place v d) x) i ∙ ap (λ v. code_in u (t.range place (t.code first) v) x) j)

pub one_held : (u : Universe) (m : Member) (place : Span) (e : Escaped) (d x : ℕ) (held : Bool) → m ≡ t.one place e → e ≡ t.code d → held ≡ within u (is_between d d) x → held ≡ code_in u m x
unfolding code_in
one_held u m place e d x held i j h = h ∙ same_within u (is_between d d) (λ y. y == d) (between_one d) x ∙ sym (ap (λ v. code_in u v x) i ∙ ap (λ v. code_in u (t.one place v) x) j)

pub glyph_code : (u : Universe) (f : Flags) (e : Escaped) (d x : ℕ) (held : Bool) → e ≡ t.code d → held ≡ within u (closing_in u f (λ y. y == d)) x → held ≡ escaped_in u f e x
unfolding escaped_in
glyph_code u f e d x held i h = h ∙ sym (ap (λ v. escaped_in u f v x) i)

pub glyph_kind : (u : Universe) (f : Flags) (e : Escaped) (k : Named) (inverse : Bool) (x : ℕ) (set : List (ℕ × ℕ)) → e ≡ t.kind k inverse → IsInside u set → has set x ≡ kind_in u f k inverse x → has set x ≡ escaped_in u f e x
unfolding escaped_in kind_in
glyph_kind u f e k inverse x set i inside h = inside_same u set x (kind_in u f k inverse x) inside h ∙ sym (ap (λ v. escaped_in u f v x) i)

pub class_kind : (u : Universe) (f : Flags) (m : Member) (place : Span) (e : Escaped) (k : Named) (inverse : Bool) (x : ℕ) (set : List (ℕ × ℕ)) → m ≡ t.one place e → e ≡ t.kind k inverse → IsInside u set → has set x ≡ kind_in u f k inverse x → has set x ≡ class_in u f m x
unfolding class_in kind_in
class_kind u f m place e k inverse x set i j inside h =
    inside_same u set x (kind_in u f k inverse x) inside h ∙ sym (ap (λ v. class_in u f v x) i ∙ ap (λ v. class_in u f (t.one place v) x) j)

pub line_feed_out : (u : Universe) (f : Flags) (x : ℕ) → f.dot_all ≡ false → within u (is_between 10 10) x ≡ within u (λ d. not f.dot_all && d == 10) x
line_feed_out u f x e = same_within u (is_between 10 10) (λ d. d == 10) (between_one 10) x ∙ sym (ap (λ b. nat_lt x (code_count u) && (not b && x == 10)) e)

-- The members of a class, one after another.
spread : (a b c : Bool) → (a && (b || c)) ≡ ((a && b) || (a && c))
spread true b c = refl
spread false b c = refl

and_false : (b : Bool) → (b && false) ≡ false
and_false true = refl
and_false false = refl

codes_more : (u : Universe) (m : Member) (ms : List Member) (x : ℕ) → codes_in u (m ∷ ms) x ≡ (code_in u m x || codes_in u ms x)
unfolding code_in codes_in
codes_more u m ms x = spread (nat_lt x (code_count u)) _ _

classes_more : (u : Universe) (f : Flags) (m : Member) (ms : List Member) (x : ℕ) → classes_in u f (m ∷ ms) x ≡ (class_in u f m x || classes_in u f ms x)
unfolding class_in classes_in
classes_more u f m ms x = spread (nat_lt x (code_count u)) _ _

pub codes_step : (u : Universe) (ms : List Member) (i : ℕ) (d : Member) (x : ℕ) (before more next total : Bool) → i < length ms → next ≡ (before || more) → more ≡ code_in u (slice_index_or ms i d) x
    → (before || codes_in u (drop i ms) x) ≡ total → (next || codes_in u (drop (i + 1) ms) x) ≡ total
codes_step u ms i d x before more next total h e f g =
    ap (λ b. b || codes_in u (drop (i + 1) ms) x) (e ∙ ap (λ b. before || b) f)
    ∙ sym (or_assoc before (code_in u (slice_index_or ms i d) x) (codes_in u (drop (i + 1) ms) x))
    ∙ ap (λ b. before || b) (sym (codes_more u (slice_index_or ms i d) (drop (i + 1) ms) x) ∙ sym (at_drop_more (λ l. codes_in u l x) ms i d h))
    ∙ g

pub classes_step : (u : Universe) (f : Flags) (ms : List Member) (i : ℕ) (d : Member) (x : ℕ) (before next total : Bool) → i < length ms → next ≡ (before || class_in u f (slice_index_or ms i d) x)
    → (before || classes_in u f (drop i ms) x) ≡ total → (next || classes_in u f (drop (i + 1) ms) x) ≡ total
classes_step u f ms i d x before next total h e g =
    ap (λ b. b || classes_in u f (drop (i + 1) ms) x) e
    ∙ sym (or_assoc before (class_in u f (slice_index_or ms i d) x) (classes_in u f (drop (i + 1) ms) x))
    ∙ ap (λ b. before || b) (sym (classes_more u f (slice_index_or ms i d) (drop (i + 1) ms) x) ∙ sym (at_drop_more (λ l. classes_in u f l x) ms i d h))
    ∙ g

pub codes_end : (u : Universe) (x : ℕ) (held : Bool) → (held || codes_in u [] x) ≡ held
unfolding codes_in
codes_end u x held = ap (λ b. held || b) (and_false (nat_lt x (code_count u))) ∙ or-false held

pub classes_end : (u : Universe) (f : Flags) (x : ℕ) (held : Bool) → (held || classes_in u f [] x) ≡ held
unfolding classes_in
classes_end u f x held = ap (λ b. held || b) (and_false (nat_lt x (code_count u))) ∙ or-false held

-- The flags don't matter for the characters and ranges of a class.
member_free : (u : Universe) (f : Flags) (m : Member) (x : ℕ)
    → code_member u no_flags m x ≡ code_member u f m x
member_free u f (t.one s (t.code d)) x = refl
member_free u f (t.one s (t.kind k n)) x = refl
member_free u f (t.one s t.too_large) x = refl
member_free u f (t.one s t.by_name) x = refl
member_free u f (t.one s t.reference) x = refl
member_free u f (t.range s (t.code d) (t.code e)) x = refl
member_free u f (t.range s (t.code d) (t.kind k n)) x = refl
member_free u f (t.range s (t.code d) t.too_large) x = refl
member_free u f (t.range s (t.code d) t.by_name) x = refl
member_free u f (t.range s (t.code d) t.reference) x = refl
member_free u f (t.range s (t.kind k n) e) x = refl
member_free u f (t.range s t.too_large e) x = refl
member_free u f (t.range s t.by_name e) x = refl
member_free u f (t.range s t.reference e) x = refl

pub codes_held : Universe → Flags → List Member → ℕ → Bool
codes_held u f ms = some_member (code_member u f) ms

members_free : (u : Universe) (f : Flags) (ms : List Member) (x : ℕ) → codes_held u no_flags ms x ≡ codes_held u f ms x
unfolding codes_held
members_free u f [] x = refl
members_free u f (m ∷ ms) x = ap₂ ◌||◌ (member_free u f m x) (members_free u f ms x)

pub codes_are : (u : Universe) (ms : List Member) (x : ℕ) → codes_in u ms x ≡ within u (codes_held u no_flags ms) x
unfolding codes_in codes_held
codes_are u ms x = refl

pub members_held : (u : Universe) (f : Flags) (ms : List Member) (x : ℕ) (codes classes : Bool) → codes ≡ within u (closing_in u f (codes_held u no_flags ms)) x → classes ≡ classes_in u f ms x → (codes || classes) ≡ members_in u f ms x
unfolding codes_held classes_in members_in
members_held u f ms x codes classes h k =
    ap₂ ◌||◌ (h ∙ ap (λ p. within u (closing_in u f p) x) (λ i y. members_free u f ms y i)) k
    ∙ sym (spread (nat_lt x (code_count u)) (closing_in u f (codes_held u f ms) x) (some_member (kind_member u f) ms x))

-- What a leaf matches.
pub any_held : (u : Universe) (f : Flags) (l : Leaf) (x : ℕ) (out : Bool) → l ≡ t.any → out ≡ within u (λ d. not f.dot_all && d == 10) x → (nat_lt x (code_count u) && not out) ≡ leaf_codes u f l x
unfolding leaf_codes
any_held u f l x out i h =
    ap (λ b. nat_lt x (code_count u) && not b) h
    ∙ shift (nat_lt x (code_count u)) f.dot_all (x == 10)
    ∙ sym (ap (λ v. leaf_codes u f v x) i)
  where
    shift : (a b d : Bool) → (a && not (a && (not b && d))) ≡ (a && (b || not d))
    shift true true d = refl
    shift true false d = refl
    shift false b d = refl

pub glyph_held : (u : Universe) (f : Flags) (l : Leaf) (e : Escaped) (x : ℕ) → l ≡ t.glyph e → escaped_in u f e x ≡ leaf_codes u f l x
unfolding leaf_codes escaped_in
glyph_held u f l e x i = sym (ap (λ v. leaf_codes u f v x) i)

pub class_held : (u : Universe) (f : Flags) (l : Leaf) (inverse : Bool) (ms : List Member) (x : ℕ) → l ≡ t.members inverse ms → inverse ≡ false → members_in u f ms x ≡ leaf_codes u f l x
unfolding leaf_codes members_in
class_held u f l inverse ms x i j = sym (ap (λ v. leaf_codes u f v x) i ∙ ap (λ b. leaf_codes u f (t.members b ms) x) j)

pub inverse_held : (u : Universe) (f : Flags) (l : Leaf) (inverse : Bool) (ms : List Member) (x : ℕ) (held : Bool) → l ≡ t.members inverse ms → inverse ≡ true → held ≡ members_in u f ms x
    → (nat_lt x (code_count u) && not held) ≡ leaf_codes u f l x
unfolding leaf_codes members_in
inverse_held u f l inverse ms x held i j h =
    ap (λ b. nat_lt x (code_count u) && not b) h
    ∙ shift (nat_lt x (code_count u)) (members_hold u f ms x)
    ∙ sym (ap (λ v. leaf_codes u f v x) i ∙ ap (λ b. leaf_codes u f (t.members b ms) x) j)
  where
    shift : (a b : Bool) → (a && not (a && b)) ≡ (a && not b)
    shift true b = refl
    shift false b = refl
