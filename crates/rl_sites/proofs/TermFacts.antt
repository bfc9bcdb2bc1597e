-- The terms of an argument, one by one.
use Rattle.std.proofs.Common.{◌≡◌, ℕ, zero, suc, ◌+◌, ◌<◌, ◌≤◌, Bool, true, false, not, cond, List, [], ◌∷◌, take, drop, length, refl, ap, sym, ◌∙◌, arith, Some, None, Option, min, get_or, ◌⊎◌, inl, inr, ⊎_elim}
use Rattle.std.specs.Prelude.{position, unwrap_or}
use Rattle.std.specs.List.{onto_first, prefix_len}
use Rattle.std.proofs.lemmas.Bool.{cases_lt}
use Rattle.std.proofs.lemmas.List.{length-take, drop_all}
use Rattle.rl_pattern.specs.declared.flags.Flags.{Flags}
use Rattle.rl_pylex.proofs.Runs.{place-or-end}
use Rattle.rl_sites.specs.declared.significant.SignificantToken.{SignificantToken}
use Rattle.rl_sites.specs.declared.imports.Alias.{Alias}
use Rattle.rl_sites.specs.declared.flag.Flag.{Flag}
use Rattle.rl_sites.specs.declared.site.SiteFlags.TheVariants.{Known, Unknown}
use Rattle.rl_sites.specs.Flags.{term, set_all, with_flag}
use Rattle.rl_sites.specs.internal.Parts.{terms_of, is_bar, lone_term, dotted_term, set_by}

pub prefix_len-within : (p : SignificantToken → Bool) (xs : List SignificantToken) → prefix_len p xs ≤ length xs
prefix_len-within p [] = omega arith
prefix_len-within p (x ∷ xs) =
    elim (p x) as (λ b. cond b (1 + prefix_len p xs) 0 ≤ length (x ∷ xs)) [ true ↦ omega (arith, prefix_len-within p xs) | false ↦ omega arith ]

pub run_size : (p : SignificantToken → Bool) (xs : List SignificantToken) → unwrap_or (position p xs) (length xs) ≡ prefix_len (λ x. not (p x)) xs
run_size p xs = place-or-end (prefix_len (λ x. not (p x)) xs) (length xs) (prefix_len-within (λ x. not (p x)) xs)

pub bar_run : (s : List ℕ) (xs : List SignificantToken) → unwrap_or (position (is_bar s) xs) (length xs) ≡ prefix_len (λ x. not (is_bar s x)) xs
bar_run s xs = run_size (is_bar s) xs

pub ruleset runs = (bar_run, prefix_len-within)

prefix_len-take : (p : SignificantToken → Bool) (n : ℕ) (xs : List SignificantToken) → prefix_len p (take n xs) ≡ min n (prefix_len p xs)
prefix_len-take p zero xs = omega arith
prefix_len-take p (suc n) [] = omega arith
prefix_len-take p (suc n) (x ∷ xs) =
    elim (p x) as (λ b. cond b (1 + prefix_len p (take n xs)) 0 ≡ min (suc n) (cond b (1 + prefix_len p xs) 0)) [
      | true ↦ omega (arith, prefix_len-take p n xs)
      | false ↦ omega arith
    ]

-- The terms after a `|`.
abbrev pub behind_bar : List ℕ → List SignificantToken → List (List SignificantToken)
behind_bar s [] = []
behind_bar s (m ∷ ms) = terms_of s ms

bar_case : (s : List ℕ) (b : Bool) (m : SignificantToken) (ms : List SignificantToken) (k : ℕ) (rest : List (List SignificantToken)) → rest ≡ take k ms ∷ behind_bar s (drop k ms)
    → cond b ([] ∷ terms_of s ms) (onto_first m rest) ≡ take (cond (not b) (1 + k) 0) (m ∷ ms) ∷ behind_bar s (drop (cond (not b) (1 + k) 0) (m ∷ ms))
bar_case s true m ms k rest h = refl
bar_case s false m ms k rest h =
    let e : suc k ≡ 1 + k = omega arith in
    ap (onto_first m) h ∙ ap (λ n. take n (m ∷ ms) ∷ behind_bar s (drop n (m ∷ ms))) e

terms-front : (s : List ℕ) (ms : List SignificantToken) → terms_of s ms ≡ take (prefix_len (λ m. not (is_bar s m)) ms) ms ∷ behind_bar s (drop (prefix_len (λ m. not (is_bar s m)) ms) ms)
terms-front s [] = refl
terms-front s (m ∷ ms) = bar_case s (is_bar s m) m ms (prefix_len (λ x. not (is_bar s x)) ms) (terms_of s ms) (terms-front s ms)

-- No term has two tokens, or more than three.
pub term_none : (s : List ℕ) (al : List Alias) (t : List SignificantToken) → (length t ≡ 1 → ⊥) → (length t ≡ 3 → ⊥) → term s al t ≡ None
term_none s al [] h k = refl
term_none s al (a ∷ []) h k = absurd (h refl)
term_none s al (a ∷ b ∷ []) h k = refl
term_none s al (a ∷ b ∷ c ∷ []) h k = absurd (k refl)
term_none s al (a ∷ b ∷ c ∷ d ∷ t) h k = refl

pub term_one : (s : List ℕ) (al : List Alias) (t : List SignificantToken) (d : SignificantToken) → 1 ≤ length t → length t < 2 → term s al t ≡ lone_term s al (get_or t 0 d)
term_one s al [] d h k = absurd (omega arith)
term_one s al (a ∷ []) d h k = refl
term_one s al (a ∷ b ∷ t) d h k = absurd (omega arith)

pub term_three : (s : List ℕ) (al : List Alias) (t : List SignificantToken) (d : SignificantToken) → 3 ≤ length t → length t < 4 → term s al t ≡ dotted_term s al (get_or t 0 d) (get_or t 1 d) (get_or t 2 d)
term_three s al [] d h k = absurd (omega arith)
term_three s al (a ∷ []) d h k = absurd (omega arith)
term_three s al (a ∷ b ∷ []) d h k = absurd (omega arith)
term_three s al (a ∷ b ∷ c ∷ []) d h k = refl
term_three s al (a ∷ b ∷ c ∷ e ∷ t) d h k = absurd (omega arith)

pub term_short : (s : List ℕ) (al : List Alias) (t : List SignificantToken) → length t < 1 → None ≡ term s al t
term_short s al t h = sym (term_none s al t (λ e. omega arith) (λ e. omega arith))

pub term_two : (s : List ℕ) (al : List Alias) (t : List SignificantToken) → 2 ≤ length t → length t < 3 → None ≡ term s al t
term_two s al t h k = sym (term_none s al t (λ e. omega arith) (λ e. omega arith))

pub term_long : (s : List ℕ) (al : List Alias) (t : List SignificantToken) → 4 ≤ length t → None ≡ term s al t
term_long s al t h = sym (term_none s al t (λ e. omega arith) (λ e. omega arith))

pub ruleset terms = (term_one, term_three, term_short, term_two, term_long)

cases_of : (size k : ℕ) → size ≡ min 4 k → (size ≡ k) ⊎ ((size ≡ 4) × (4 < k))
cases_of size k h = elim (cases_lt 4 k) [ inl a ↦ inr (omega arith, omega arith) | inr b ↦ inl (omega arith) ]

two_apart : (o : Option Flag) (f : Flag) → o ≡ None → o ≡ Some f → ⊥
two_apart o f h k = cc

-- It makes no difference to look for the first `|` only among the first four tokens.
term-cap : (s : List ℕ) (al : List Alias) (rest : List SignificantToken) (size : ℕ) → size ≡ prefix_len (λ m. not (is_bar s m)) (take 4 rest)
    → term s al (take size rest) ≡ term s al (take (prefix_len (λ m. not (is_bar s m)) rest) rest)
term-cap s al rest size h =
    let k = prefix_len (λ m. not (is_bar s m)) rest in
    let within : k ≤ length rest = prefix_len-within (λ m. not (is_bar s m)) rest in
    let capped : size ≡ min 4 k = h ∙ prefix_len-take (λ m. not (is_bar s m)) 4 rest in
    ⊎_elim (λ (e : size ≡ k). ap (λ n. term s al (take n rest)) e)
    (λ (e : (size ≡ 4) × (4 < k)).
    sym (term_long s al (take size rest) (omega (arith, e.0, e.1, within, length-take size rest)))
    ∙ term_long s al (take k rest) (omega (arith, e.0, e.1, within, length-take k rest)))
    (cases_of size k capped)

term_size : (s : List ℕ) (al : List Alias) (rest : List SignificantToken) (size : ℕ) (f : Flag) → size ≡ prefix_len (λ m. not (is_bar s m)) (take 4 rest)
    → term s al (take size rest) ≡ Some f → size ≡ prefix_len (λ m. not (is_bar s m)) rest
term_size s al rest size f h e =
    let k = prefix_len (λ m. not (is_bar s m)) rest in
    let within : k ≤ length rest = prefix_len-within (λ m. not (is_bar s m)) rest in
    let capped : size ≡ min 4 k = h ∙ prefix_len-take (λ m. not (is_bar s m)) 4 rest in
    ⊎_elim (λ (same : size ≡ k). same)
    (λ (both : (size ≡ 4) × (4 < k)).
    absurd (two_apart (term s al (take size rest)) f (sym (term_long s al (take size rest) (omega (arith, both.0, both.1, within, length-take size rest)))) e))
    (cases_of size k capped)

all_front : (s : List ℕ) (al : List Alias) (rest : List SignificantToken) (size : ℕ) (flags : Flags) → size ≡ prefix_len (λ m. not (is_bar s m)) (take 4 rest)
    → set_all s al (terms_of s rest) flags
    ≡ set_by (term s al (take size rest)) flags (set_all s al (behind_bar s (drop (prefix_len (λ m. not (is_bar s m)) rest) rest)))
all_front s al rest size flags h =
    let others = set_all s al (behind_bar s (drop (prefix_len (λ m. not (is_bar s m)) rest) rest)) in
    ap (λ (ts : List (List SignificantToken)). set_all s al ts flags) (terms-front s rest)
    ∙ ap (λ (o : Option Flag). set_by o flags others) (sym (term-cap s al rest size h))

behind_some : (s : List ℕ) (rest : List SignificantToken) (k : ℕ) → k < length rest → behind_bar s (drop k rest) ≡ terms_of s (drop 1 (drop k rest))
behind_some s [] k h = absurd (omega arith)
behind_some s (m ∷ ms) zero h = refl
behind_some s (m ∷ ms) (suc k) h = behind_some s ms k (omega arith)

behind_all : (s : List ℕ) (rest : List SignificantToken) (k : ℕ) → length rest ≤ k → behind_bar s (drop k rest) ≡ []
behind_all s rest k h = ap (behind_bar s) (drop_all k rest h)

-- The tokens aren't a term.
pub all_unknown : (s : List ℕ) (al : List Alias) (rest part : List SignificantToken) (size : ℕ) (flags : Flags) → size ≡ prefix_len (λ m. not (is_bar s m)) (take 4 rest)
    → part ≡ take size rest → term s al part ≡ None → set_all s al (terms_of s rest) flags ≡ Unknown
all_unknown s al rest part size flags h p e =
    let others = set_all s al (behind_bar s (drop (prefix_len (λ m. not (is_bar s m)) rest) rest)) in
    all_front s al rest size flags h
    ∙ ap (λ (o : Option Flag). set_by o flags others) (ap (term s al) (sym p) ∙ e)

-- The last term.
pub all_last : (s : List ℕ) (al : List Alias) (rest part : List SignificantToken) (size : ℕ) (f : Flag) (flags : Flags) → size ≡ prefix_len (λ m. not (is_bar s m)) (take 4 rest)
    → part ≡ take size rest → term s al part ≡ Some f → size ≡ length rest → set_all s al (terms_of s rest) flags ≡ Known (with_flag f flags)
all_last s al rest part size f flags h p e last =
    let k = prefix_len (λ m. not (is_bar s m)) rest in
    let found : term s al (take size rest) ≡ Some f = ap (term s al) (sym p) ∙ e in
    let same : size ≡ k = term_size s al rest size f h found in
    all_front s al rest size flags h
    ∙ ap (λ (o : Option Flag). set_by o flags (set_all s al (behind_bar s (drop k rest)))) found
    ∙ ap (λ (ts : List (List SignificantToken)). set_all s al ts (with_flag f flags)) (behind_all s rest k (omega arith))

-- A term and a `|`.
pub all_more : (s : List ℕ) (al : List Alias) (rest part : List SignificantToken) (size : ℕ) (f : Flag) (flags : Flags) → size ≡ prefix_len (λ m. not (is_bar s m)) (take 4 rest)
    → part ≡ take size rest → term s al part ≡ Some f → size < length rest
    → set_all s al (terms_of s rest) flags ≡ set_all s al (terms_of s (drop 1 (drop size rest))) (with_flag f flags)
all_more s al rest part size f flags h p e more =
    let k = prefix_len (λ m. not (is_bar s m)) rest in
    let found : term s al (take size rest) ≡ Some f = ap (term s al) (sym p) ∙ e in
    let same : size ≡ k = term_size s al rest size f h found in
    all_front s al rest size flags h
    ∙ ap (λ (o : Option Flag). set_by o flags (set_all s al (behind_bar s (drop k rest)))) found
    ∙ ap (λ (ts : List (List SignificantToken)). set_all s al ts (with_flag f flags)) (behind_some s rest k (omega arith) ∙ ap (λ n. terms_of s (drop 1 (drop n rest))) (sym same))

pub ruleset steps = (all_unknown, all_last, all_more)
