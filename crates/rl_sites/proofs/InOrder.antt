-- The sites are in order: no site begins in the head of another, before its literals or among them.
use Rattle.std.proofs.Common.{◌≡◌, ℕ, zero, suc, ◌+◌, ◌-◌, ◌<◌, ◌≤◌, Bool, true, false, cond, ◌&&◌, List, [], ◌∷◌, ◌++◌, length, take, drop, refl, ap, sym, ◌∙◌, arith, subst, Some, None, Option, Ok, Err}
use Rattle.std.specs.Prelude.{All, slice_get, option_to_list, codes, bytes_eq, IfOk, Result}
use Rattle.std.specs.List.{prefix_len}
use Rattle.std.specs.Option.{option_or}
use Rattle.std.proofs.lemmas.Bool.{false≢true, and_parts, and_left, and_right, or_left}
use Rattle.std.proofs.lemmas.List.{length-take-le}
use Rattle.std.proofs.lemmas.List.Elements.{All-nil, All-cons, All-append}
use Rattle.std.proofs.lemmas.List.Kept.{AllPairs-cons}
use Rattle.std.proofs.lemmas.Option.{slice_get_within}
use Rattle.std.proofs.lemmas.Slice.Eq.{bytes_eq-Decides}
use Rattle.rl_pylex.specs.declared.token_list.Token.{Token}
use Rattle.rl_pylex.specs.declared.token_list.TokenKind.{TokenKind}
use Rattle.rl_pylex.specs.declared.token_list.TokenKind.TheVariants as kind
use Rattle.rl_pylex.specs.Source.{same_kind}
use Rattle.rl_sites.specs.declared.call.Call.{Call}
use Rattle.rl_sites.specs.declared.heads.Head.{Head}
use Rattle.rl_sites.specs.declared.imports.Alias.{Alias}
use Rattle.rl_sites.specs.declared.significant.SignificantToken.{SignificantToken}
use Rattle.rl_sites.specs.declared.site.Site.{Site}
use Rattle.rl_sites.specs.declared.site.SiteFlags.{SiteFlags}
use Rattle.rl_sites.specs.Significant.{significant_from, is_literal, is_name, is_op, is_word, word_of, is_at}
use Rattle.rl_sites.specs.Names.{names_any_module, is_module, call_named, call_aliased}
use Rattle.rl_sites.specs.internal.Meanings.{first_call}
use Rattle.rl_sites.specs.Sites.{dotted_head, bare_head, head_of, pattern_size, site_of_run, ends_whole, site_behind, site_here, hides, sites_from}
use Rattle.rl_sites.specs.internal.Parts.{call_by, head, flags_if, site_by}
use Rattle.rl_sites.specs.Runs.{AreInOrder}
use Rattle.rl_sites.proofs.Runs.{Literals, literals_front, prefix_within, get_take}

-- ---- increasing indexes

-- The indexes of the tokens increase, beginning with at least this one.
abbrev Rise : ℕ → List SignificantToken → Type 0
Rise n [] = Unit {0}
Rise n (m ∷ ms) = (n ≤ m.number) × Rise (suc m.number) ms

rise_lower : (k n : ℕ) (ms : List SignificantToken) → k ≤ n → Rise n ms → Rise k ms
rise_lower k n [] below h = tt
rise_lower k n (m ∷ ms) below h = (omega (arith, h.0), h.1)

rise_drop : (k n : ℕ) (ms : List SignificantToken) → Rise n ms → Rise n (drop k ms)
rise_drop zero n ms h = h
rise_drop (suc k) n [] h = h
rise_drop (suc k) n (m ∷ ms) h = rise_drop k n ms (rise_lower n (suc m.number) ms (omega (arith, h.0)) h.1)

significant_rise : (n : ℕ) (ts : List Token) → Rise n (significant_from n ts)
significant_rise n [] = tt
significant_rise n (t ∷ ts) =
    elim (same_kind kind.Comment t.kind) as (λ b. Rise n (cond b (significant_from (n + 1) ts) (record { number = n; inner = t } ∷ significant_from (n + 1) ts))) [
      | true ↦ rise_lower n (n + 1) (significant_from (n + 1) ts) (omega arith) (significant_rise (n + 1) ts)
      | false ↦ (omega arith, rise_lower (suc n) (n + 1) (significant_from (n + 1) ts) (omega arith) (significant_rise (n + 1) ts))
    ]

none_is_no : (m : SignificantToken) → None ≡ Some m → ⊥
none_is_no m e = cc

one_token : (x m : SignificantToken) → Some x ≡ Some m → x ≡ m
one_token x m e = cc

rise_at : (n k : ℕ) (ms : List SignificantToken) (m : SignificantToken) → slice_get ms k ≡ Some m → Rise n ms → n ≤ m.number
rise_at n k [] m e h = absurd (none_is_no m e)
rise_at n zero (x ∷ ms) m e h = subst (λ (y : SignificantToken). n ≤ y.number) (one_token x m e) h.0
rise_at n (suc k) (x ∷ ms) m e h = omega (arith, h.0, rise_at (suc x.number) k ms m e h.1)

-- The tokens after one have higher indexes.
rise_behind : (n k : ℕ) (ms : List SignificantToken) (m : SignificantToken) → slice_get ms k ≡ Some m → Rise n ms → Rise (suc m.number) (drop (suc k) ms)
rise_behind n k [] m e h = absurd (none_is_no m e)
rise_behind n zero (x ∷ ms) m e h = subst (λ (y : SignificantToken). Rise (suc y.number) ms) (one_token x m e) h.1
rise_behind n (suc k) (x ∷ ms) m e h = rise_behind (suc x.number) k ms m e h.1

-- No token has a lower index than the first.
rise_first : (n k : ℕ) (ms : List SignificantToken) (first m : SignificantToken) → slice_get ms 0 ≡ Some first → slice_get ms k ≡ Some m → Rise n ms → first.number ≤ m.number
rise_first n k [] first m f e h = absurd (none_is_no first f)
rise_first n k (x ∷ ms) first m f e h =
    subst (λ (y : SignificantToken). y.number ≤ m.number) (one_token x first f) (rise_at x.number k (x ∷ ms) m e (omega arith, h.1))

-- ---- sites begin at tokens

-- The site begins at this index or after it.
abbrev IsLate : ℕ → Site → Type 0
IsLate n site = n ≤ site.first

abbrev IsLateIfAny : ℕ → Option Site → Type 0
IsLateIfAny n None = Unit {0}
IsLateIfAny n (Some site) = IsLate n site

late_run : (n : ℕ) (call : Call) (whole : Bool) (flags : SiteFlags) (first last : Option SignificantToken) → ((m : SignificantToken) → first ≡ Some m → n ≤ m.number)
    → IsLateIfAny n (site_of_run call whole flags first last)
late_run n call whole flags None last h = tt
late_run n call whole flags (Some first) None h = tt
late_run n call whole flags (Some first) (Some last) h = h first refl

rise_take : (k n : ℕ) (ms : List SignificantToken) → Rise n ms → Rise n (take k ms)
rise_take zero n ms h = tt
rise_take (suc k) n [] h = h
rise_take (suc k) n (m ∷ ms) h = (h.0, rise_take k (suc m.number) ms h.1)

late_behind : (s : List ℕ) (al : List Alias) (n : ℕ) (call : Call) (ms : List SignificantToken) → Rise n ms → IsLateIfAny n (site_behind s al call ms)
unfolding site_behind
late_behind s al n call ms h =
    let run = drop (pattern_size s ms) ms in
    let size = prefix_len is_literal run in
    let whole = ends_whole s (drop size run) in
    late_run n call whole (flags_if whole s al call ms) (slice_get (take size run) 0) (slice_get (take size run) (length (take size run) - 1))
    (λ m e. rise_at n 0 (take size run) m e (rise_take size n run (rise_drop (pattern_size s ms) n ms h)))

late_by : (s : List ℕ) (al : List Alias) (n : ℕ) (o : Option Head) (ms : List SignificantToken) → Rise n ms → IsLateIfAny n (site_by s al o ms)
late_by s al n None ms h = tt
late_by s al n (Some head) ms h = late_behind s al n head.call (drop head.size ms) (rise_drop head.size n ms h)

late_list : (n : ℕ) (hidden : Bool) (o : Option Site) → IsLateIfAny n o → All (IsLate n) (cond hidden [] (option_to_list o))
late_list n true o h = All-nil (IsLate n)
late_list n false None h = All-nil (IsLate n)
late_list n false (Some site) h = All-cons (IsLate n) site [] h (All-nil (IsLate n))

all_late : (s : List ℕ) (al : List Alias) (n : ℕ) (hidden : Bool) (ms : List SignificantToken) → Rise n ms → All (IsLate n) (sites_from s al hidden ms)
all_late s al n hidden [] h = All-nil (IsLate n)
all_late s al n hidden (m ∷ ms) h =
    All-append (IsLate n) (cond hidden [] (option_to_list (site_here s al (m ∷ ms)))) (sites_from s al (hides s m) ms)
    (late_list n hidden (site_here s al (m ∷ ms)) (late_by s al n (head_of s al (m ∷ ms)) (m ∷ ms) h))
    (all_late s al n (hides s m) ms (rise_lower n (suc m.number) ms (omega (arith, h.0)) h.1))

-- ---- tokens at which no site begins

-- No site begins at any of the first tokens.
abbrev Quiet : List ℕ → List Alias → Bool → ℕ → List SignificantToken → Type 0
Quiet s al hidden zero ms = Unit {0}
Quiet s al hidden (suc k) [] = Unit {0}
Quiet s al hidden (suc k) (m ∷ ms) = (cond hidden [] (option_to_list (site_here s al (m ∷ ms))) ≡ []) × Quiet s al (hides s m) k ms

-- Tokens at which no site begins are skipped.
passed : (s : List ℕ) (al : List Alias) (n : ℕ) (hidden : Bool) (k : ℕ) (ms : List SignificantToken) → Quiet s al hidden k ms
    → ((h : Bool) → All (IsLate n) (sites_from s al h (drop k ms))) → All (IsLate n) (sites_from s al hidden ms)
passed s al n hidden zero ms q h = h hidden
passed s al n hidden (suc k) [] q h = All-nil (IsLate n)
passed s al n hidden (suc k) (m ∷ ms) q h =
    subst (λ (sites : List Site). All (IsLate n) (sites ++ sites_from s al (hides s m) ms)) (sym q.0)
    (passed s al n (hides s m) k ms q.1 h)

silent : (hidden : Bool) (o : Option Site) → o ≡ None → cond hidden [] (option_to_list o) ≡ []
silent true o e = refl
silent false o e = ap option_to_list e

covered : (hidden : Bool) (o : Option Site) → hidden ≡ true → cond hidden [] (option_to_list o) ≡ []
covered true o e = refl
covered false o e = absurd (false≢true e)

chosen : {A : Type 0} (b : Bool) (x : Option A) → b ≡ false → cond b x None ≡ None
chosen true x e = cc
chosen false x e = refl

no_head : (s : List ℕ) (al : List Alias) (ms : List SignificantToken) → dotted_head s al ms ≡ None → bare_head s al ms ≡ None → site_here s al ms ≡ None
unfolding head_of
no_head s al ms d b = ap (λ (h : Option Head). site_by s al h ms) (ap (λ (h : Option Head). option_or h (bare_head s al ms)) d ∙ b)

no_module : (s : List ℕ) (al : List Alias) (m : SignificantToken) → is_name m ≡ false → is_module s al m ≡ false
unfolding is_module
no_module s al m e = and_left (is_name m) (names_any_module s al (word_of s m)) e

no_call : (s : List ℕ) (al : List Alias) (m : SignificantToken) → is_name m ≡ false → call_aliased s al m ≡ None
unfolding call_aliased first_call
no_call s al m e = chosen (is_name m) (first_call s al (word_of s m)) e

no_dotted : (s : List ℕ) (al : List Alias) (m : SignificantToken) (ms : List SignificantToken) → is_name m ≡ false → dotted_head s al (m ∷ ms) ≡ None
unfolding dotted_head
no_dotted s al m ms e =
    chosen (is_at 1 (is_op s (codes ".")) (m ∷ ms) && is_at 3 (is_op s (codes "(")) (m ∷ ms) && is_module s al m)
    (head 4 (call_by (call_named s) (slice_get (m ∷ ms) 2)))
    (and_right (is_at 1 (is_op s (codes ".")) (m ∷ ms) && is_at 3 (is_op s (codes "(")) (m ∷ ms)) (is_module s al m) (no_module s al m e))

either : {A : Type 0} (b : Bool) (x : Option A) → x ≡ None → cond b x None ≡ None
either true x e = e
either false x e = refl

no_bare : (s : List ℕ) (al : List Alias) (m : SignificantToken) (ms : List SignificantToken) → is_name m ≡ false → bare_head s al (m ∷ ms) ≡ None
unfolding bare_head
no_bare s al m ms e =
    either (is_at 1 (is_op s (codes "(")) (m ∷ ms)) (head 2 (call_aliased s al m)) (ap (head 2) (no_call s al m e))

-- A site begins at a name.
no_name : (s : List ℕ) (al : List Alias) (m : SignificantToken) (ms : List SignificantToken) → is_name m ≡ false → site_here s al (m ∷ ms) ≡ None
no_name s al m ms e = no_head s al (m ∷ ms) (no_dotted s al m ms e) (no_bare s al m ms e)

-- The token after that name is `.` or `(` and no other operator.
no_such_dotted : (s : List ℕ) (al : List Alias) (m e : SignificantToken) (ms : List SignificantToken) → is_op s (codes ".") e ≡ false → dotted_head s al (m ∷ e ∷ ms) ≡ None
unfolding dotted_head
no_such_dotted s al m e ms d =
    chosen (is_op s (codes ".") e && is_at 3 (is_op s (codes "(")) (m ∷ e ∷ ms) && is_module s al m)
    (head 4 (call_by (call_named s) (slice_get (m ∷ e ∷ ms) 2)))
    (and_left (is_op s (codes ".") e && is_at 3 (is_op s (codes "(")) (m ∷ e ∷ ms)) (is_module s al m)
    (and_left (is_op s (codes ".") e) (is_at 3 (is_op s (codes "(")) (m ∷ e ∷ ms)) d))

no_such_bare : (s : List ℕ) (al : List Alias) (m e : SignificantToken) (ms : List SignificantToken) → is_op s (codes "(") e ≡ false → bare_head s al (m ∷ e ∷ ms) ≡ None
unfolding bare_head
no_such_bare s al m e ms p = chosen (is_op s (codes "(") e) (head 2 (call_by (call_aliased s al) (slice_get (m ∷ e ∷ ms) 0))) p

no_such : (s : List ℕ) (al : List Alias) (m e : SignificantToken) (ms : List SignificantToken) → is_op s (codes ".") e ≡ false → is_op s (codes "(") e ≡ false
    → site_here s al (m ∷ e ∷ ms) ≡ None
no_such s al m e ms d p = no_head s al (m ∷ e ∷ ms) (no_such_dotted s al m e ms d) (no_such_bare s al m e ms p)

op_no_name : (k : TokenKind) → same_kind kind.Op k ≡ true → same_kind kind.Name k ≡ false
op_no_name kind.Name h = absurd (false≢true h)
op_no_name kind.Number h = refl
op_no_name kind.Literal h = refl
op_no_name kind.Op h = refl
op_no_name kind.Comment h = refl
op_no_name kind.LineEnd h = refl

literal_no_name : (k : TokenKind) → same_kind kind.Literal k ≡ true → same_kind kind.Name k ≡ false
literal_no_name kind.Name h = absurd (false≢true h)
literal_no_name kind.Number h = refl
literal_no_name kind.Literal h = refl
literal_no_name kind.Op h = refl
literal_no_name kind.Comment h = refl
literal_no_name kind.LineEnd h = refl

-- No site begins at an operator.
no_op : (s : List ℕ) (al : List Alias) (op : List ℕ) (m : SignificantToken) (ms : List SignificantToken) → is_op s op m ≡ true → site_here s al (m ∷ ms) ≡ None
unfolding is_op
no_op s al op m ms h =
    no_name s al m ms (op_no_name m.inner.kind (and_parts (same_kind kind.Op m.inner.kind) (bytes_eq (word_of s m) op) h).0)

op_apart : (s a b : List ℕ) (m : SignificantToken) → bytes_eq a b ≡ false → is_op s a m ≡ true → is_op s b m ≡ false
unfolding is_op
op_apart s a b m apart h =
    let word : word_of s m ≡ a = (bytes_eq-Decides (word_of s m) a).0 (and_parts (same_kind kind.Op m.inner.kind) (bytes_eq (word_of s m) a) h).1 in
    and_right (same_kind kind.Op m.inner.kind) (bytes_eq (word_of s m) b) (ap (λ (w : List ℕ). bytes_eq w b) word ∙ apart)

dot_hides : (s : List ℕ) (m : SignificantToken) → is_op s (codes ".") m ≡ true → hides s m ≡ true
unfolding hides
dot_hides s m h = or_left (is_op s (codes ".") m) (is_word s (codes "def") m) h

-- ---- a site, and the sites that begin after its first token

quiet_literals : (s : List ℕ) (al : List Alias) (hidden : Bool) (k : ℕ) (ms : List SignificantToken) → Literals k ms → Quiet s al hidden k ms
quiet_literals s al hidden zero ms h = tt
quiet_literals s al hidden (suc k) [] h = tt
quiet_literals s al hidden (suc k) (m ∷ ms) h =
    (silent hidden (site_here s al (m ∷ ms)) (no_name s al m ms (literal_no_name m.inner.kind h.0)), quiet_literals s al (hides s m) k ms h.1)

quiet_assigned : (s : List ℕ) (al : List Alias) (hidden : Bool) (ms : List SignificantToken) → is_at 1 (is_op s (codes "=")) ms ≡ true → Quiet s al hidden 2 ms
quiet_assigned s al hidden [] h = tt
quiet_assigned s al hidden (m ∷ []) h = absurd (false≢true h)
quiet_assigned s al hidden (m ∷ e ∷ ms) h = (
  silent hidden (site_here s al (m ∷ e ∷ ms))
      (no_such s al m e ms (op_apart s (codes "=") (codes ".") e refl h) (op_apart s (codes "=") (codes "(") e refl h)),
  (silent (hides s m) (site_here s al (e ∷ ms)) (no_op s al (codes "=") e ms h), tt),
)

quiet_pattern : (s : List ℕ) (al : List Alias) (hidden : Bool) (ms : List SignificantToken) → Quiet s al hidden (pattern_size s ms) ms
quiet_pattern s al hidden ms =
    by-test (is_at 0 (is_word s (codes "pattern")) ms && is_at 1 (is_op s (codes "=")) ms) refl
  where
    by-test : (b : Bool) → (is_at 0 (is_word s (codes "pattern")) ms && is_at 1 (is_op s (codes "=")) ms) ≡ b → Quiet s al hidden (cond b 2 0) ms
    by-test true e =
        quiet_assigned s al hidden ms (and_parts (is_at 0 (is_word s (codes "pattern")) ms) (is_at 1 (is_op s (codes "=")) ms) e).1
    by-test false e = tt

-- `.`, a token and `(` after the name of the module.
quiet_dotted : (s : List ℕ) (al : List Alias) (hidden : Bool) (ms : List SignificantToken) → is_at 0 (is_op s (codes ".")) ms ≡ true → is_at 2 (is_op s (codes "(")) ms ≡ true
    → Quiet s al hidden 3 ms
quiet_dotted s al hidden [] d p = tt
quiet_dotted s al hidden (m ∷ []) d p = absurd (false≢true p)
quiet_dotted s al hidden (m ∷ x ∷ []) d p = absurd (false≢true p)
quiet_dotted s al hidden (m ∷ x ∷ b ∷ ms) d p = (
  silent hidden (site_here s al (m ∷ x ∷ b ∷ ms)) (no_op s al (codes ".") m (x ∷ b ∷ ms) d),
  (
    covered (hides s m) (site_here s al (x ∷ b ∷ ms)) (dot_hides s m d),
    (silent (hides s x) (site_here s al (b ∷ ms)) (no_op s al (codes "(") b ms p), tt),
  ),
)

-- `(` after the name of a function.
quiet_bare : (s : List ℕ) (al : List Alias) (hidden : Bool) (ms : List SignificantToken) → is_at 0 (is_op s (codes "(")) ms ≡ true → Quiet s al hidden 1 ms
quiet_bare s al hidden [] p = tt
quiet_bare s al hidden (m ∷ ms) p = (silent hidden (site_here s al (m ∷ ms)) (no_op s al (codes "(") m ms p), tt)

no_found : (h : Head) → None ≡ Some h → ⊥
no_found h e = cc

one_head : (x h : Head) → Some x ≡ Some h → x ≡ h
one_head x h e = cc

-- The test held, and the head has this size.
head_tested : (b : Bool) (size : ℕ) (call : Option Call) (found : Head) → cond b (head size call) None ≡ Some found → (b ≡ true) × (found.size ≡ size)
head_tested true size None found e = absurd (no_found found e)
head_tested true size (Some call) found e = (refl, ap (λ (h : Head). h.size) (sym (one_head (record { call = call; size = size }) found e)))
head_tested false size call found e = absurd (no_found found e)

-- No site begins in the head of another after its first token.
abbrev IsQuietHead : List ℕ → List Alias → Head → SignificantToken → List SignificantToken → Type 0
IsQuietHead s al found m ms = (k : ℕ) × (found.size ≡ suc k) × Quiet s al (hides s m) k ms

dotted_quiet : (s : List ℕ) (al : List Alias) (found : Head) (m : SignificantToken) (ms : List SignificantToken) → dotted_head s al (m ∷ ms) ≡ Some found → IsQuietHead s al found m ms
unfolding dotted_head
dotted_quiet s al found m ms e =
    let dot = is_at 0 (is_op s (codes ".")) ms in
    let bracket = is_at 2 (is_op s (codes "(")) ms in
    let t = head_tested (dot && bracket && is_module s al m) 4 (call_by (call_named s) (slice_get (m ∷ ms) 2)) found e in
    let both = and_parts dot bracket (and_parts (dot && bracket) (is_module s al m) t.0).0 in
    (3, t.1, quiet_dotted s al (hides s m) ms both.0 both.1)

bare_quiet : (s : List ℕ) (al : List Alias) (found : Head) (m : SignificantToken) (ms : List SignificantToken) → bare_head s al (m ∷ ms) ≡ Some found → IsQuietHead s al found m ms
unfolding bare_head
bare_quiet s al found m ms e =
    let t = head_tested (is_at 0 (is_op s (codes "(")) ms) 2 (call_by (call_aliased s al) (slice_get (m ∷ ms) 0)) found e in
    (1, t.1, quiet_bare s al (hides s m) ms t.0)

head_quiet : (s : List ℕ) (al : List Alias) (found : Head) (m : SignificantToken) (ms : List SignificantToken) → head_of s al (m ∷ ms) ≡ Some found → IsQuietHead s al found m ms
unfolding head_of
head_quiet s al found m ms e = by-dotted (dotted_head s al (m ∷ ms)) refl e
  where
    by-dotted : (d : Option Head) → dotted_head s al (m ∷ ms) ≡ d → option_or d (bare_head s al (m ∷ ms)) ≡ Some found → IsQuietHead s al found m ms
    by-dotted None i f = bare_quiet s al found m ms f
    by-dotted (Some x) i f = dotted_quiet s al found m ms (i ∙ f)

-- The run of the site ends before the other sites begin.
abbrev IsBefore : Option Site → List Site → Type 0
IsBefore None others = Unit {0}
IsBefore (Some site) others = All (λ b. site.first + site.count ≤ b.first) others

-- What holds for the sites that begin after a head holds for these sites.
abbrev Follow : List ℕ → List Alias → List SignificantToken → List Site → Type 0
Follow s al ms others = (n : ℕ) → ((h : Bool) → All (IsLate n) (sites_from s al h ms)) → All (IsLate n) others

before_run : (s : List ℕ) (al : List Alias) (n : ℕ) (call : Call) (whole : Bool) (flags : SiteFlags) (run : List SignificantToken) (others : List Site)
    → Rise n run → Follow s al run others → (first last : Option SignificantToken) → first ≡ slice_get (take (prefix_len is_literal run) run) 0
    → last ≡ slice_get (take (prefix_len is_literal run) run) (length (take (prefix_len is_literal run) run) - 1)
    → IsBefore (site_of_run call whole flags first last) others
before_run s al n call whole flags run others rise follow None last f l = tt
before_run s al n call whole flags run others rise follow (Some first) None f l = tt
before_run s al n call whole flags run others rise follow (Some first) (Some last) f l =
    let size = prefix_len is_literal run in
    let literals = take size run in
    let long : length literals ≡ size = length-take-le size run (prefix_within run) in
    let some : 0 < length literals = slice_get_within literals 0 first (sym f) in
    let end : suc (length literals - 1) ≡ size = omega (arith, long, some) in
    let there : slice_get run (length literals - 1) ≡ Some last = sym (get_take (length literals - 1) size run (omega (arith, end))) ∙ sym l in
    let up : first.number ≤ last.number =
    rise_first n (length literals - 1) literals first last (sym f) (sym l) (rise_take size n run rise) in
    let behind : Rise (suc last.number) (drop size run) =
    subst (λ (k : ℕ). Rise (suc last.number) (drop k run)) end (rise_behind n (length literals - 1) run last there rise) in
    let sum : suc last.number ≡ first.number + (last.number - first.number + 1) = omega (arith, up) in
    subst (λ (k : ℕ). All (IsLate k) others) sum
    (follow (suc last.number)
    (λ h. passed s al (suc last.number) h size run (quiet_literals s al h size run (literals_front run))
    (λ g. all_late s al (suc last.number) g (drop size run) behind)))

before_behind : (s : List ℕ) (al : List Alias) (n : ℕ) (call : Call) (ms : List SignificantToken) (others : List Site) → Rise n ms → Follow s al ms others
    → IsBefore (site_behind s al call ms) others
unfolding site_behind
before_behind s al n call ms others rise follow =
    let run = drop (pattern_size s ms) ms in
    let size = prefix_len is_literal run in
    let whole = ends_whole s (drop size run) in
    before_run s al n call whole (flags_if whole s al call ms) run others (rise_drop (pattern_size s ms) n ms rise)
    (λ k h. follow k (λ g. passed s al k g (pattern_size s ms) ms (quiet_pattern s al g ms) h)) (slice_get (take size run) 0)
    (slice_get (take size run) (length (take size run) - 1)) refl refl

before_by : (s : List ℕ) (al : List Alias) (n : ℕ) (m : SignificantToken) (ms : List SignificantToken) (o : Option Head) → Rise n (m ∷ ms) → head_of s al (m ∷ ms) ≡ o
    → IsBefore (site_by s al o (m ∷ ms)) (sites_from s al (hides s m) ms)
before_by s al n m ms None rise e = tt
before_by s al n m ms (Some found) rise e =
    let q = head_quiet s al found m ms e in
    before_behind s al n found.call (drop found.size (m ∷ ms)) (sites_from s al (hides s m) ms) (rise_drop found.size n (m ∷ ms) rise)
    (λ k h. passed s al k (hides s m) q.0 ms q.2 (λ g. subst (λ (i : ℕ). All (IsLate k) (sites_from s al g (drop i (m ∷ ms)))) q.1 (h g)))

put_before : (hidden : Bool) (o : Option Site) (others : List Site) → IsBefore o others → AreInOrder others → AreInOrder (cond hidden [] (option_to_list o) ++ others)
put_before true o others b h = h
put_before false None others b h = h
put_before false (Some site) others b h = AllPairs-cons (λ x y. x.first + x.count ≤ y.first) site others b h

in_order : (s : List ℕ) (al : List Alias) (n : ℕ) (hidden : Bool) (ms : List SignificantToken) → Rise n ms → AreInOrder (sites_from s al hidden ms)
in_order s al n hidden [] rise = λ i j d below within. absurd (omega arith)
in_order s al n hidden (m ∷ ms) rise =
    put_before hidden (site_here s al (m ∷ ms)) (sites_from s al (hides s m) ms)
    (before_by s al n m ms (head_of s al (m ∷ ms)) rise refl)
    (in_order s al (suc m.number) (hides s m) ms rise.1)

-- The sites among the significant tokens are in order.
pub all_in_order : {E : Type 0} (source : List ℕ) (tokens : List Token) (aliases : List Alias) (significant : List SignificantToken) (r : Result (List Site) E)
    → significant ≡ significant_from 0 tokens → IfOk r (λ sites. sites ≡ sites_from source aliases false significant) → IfOk r AreInOrder
all_in_order source tokens aliases significant (Ok sites) e h =
    subst AreInOrder (sym (h ∙ ap (sites_from source aliases false) e)) (in_order source aliases 0 false (significant_from 0 tokens) (significant_rise 0 tokens))
all_in_order source tokens aliases significant (Err fault) e h = tt
