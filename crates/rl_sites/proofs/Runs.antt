-- The literals of a site are among the tokens, with nothing but comments between them.
use Rattle.std.proofs.Common.{◌≡◌, ℕ, zero, suc, ◌+◌, ◌-◌, ◌<◌, ◌≤◌, Bool, true, false, cond, ◌&&◌, ◌||◌, ◌⊎◌, inl, inr, List, [], ◌∷◌, length, take, drop, refl, ap, sym, ◌∙◌, arith, subst, Some, None, Option, Ok, Err}
use Rattle.std.specs.Prelude.{All, slice_get, option_to_list, IfOk, Result}
use Rattle.std.specs.List.{list_all, prefix_len}
use Rattle.std.specs.Option.{option_map_or}
use Rattle.std.proofs.lemmas.Bool.{or_left, or_right}
use Rattle.std.proofs.lemmas.List.{drop-drop, length-drop, length-take-le}
use Rattle.std.proofs.lemmas.List.Elements.{All-nil, All-cons, All-append}
use Rattle.std.proofs.lemmas.Option.{slice_get_within}
use Rattle.rl_pylex.specs.declared.token_list.Token.{Token}
use Rattle.rl_pystr.specs.Runs.{is_literal as is_literal_token, IsLiteralRun}
use Rattle.rl_pylex.specs.declared.token_list.TokenKind.TheVariants as kind
use Rattle.rl_pylex.specs.Source.{same_kind}
use Rattle.rl_sites.specs.declared.call.Call.{Call}
use Rattle.rl_sites.specs.declared.heads.Head.{Head}
use Rattle.rl_sites.specs.declared.imports.Alias.{Alias}
use Rattle.rl_sites.specs.declared.significant.SignificantToken.{SignificantToken}
use Rattle.rl_sites.specs.declared.site.Site.{Site}
use Rattle.rl_sites.specs.declared.site.SiteFlags.{SiteFlags}
use Rattle.rl_sites.specs.Significant.{significant_from, is_literal}
use Rattle.rl_sites.specs.Sites.{pattern_size, site_of_run, ends_whole, site_behind, site_here, head_of, hides, sites_from}
use Rattle.rl_sites.specs.internal.Parts.{site_by, flags_if}
use Rattle.rl_sites.specs.Runs.{HasRun}

-- Whether the token is a literal or a comment.
abbrev is_of_run : Token → Bool
is_of_run token = is_literal_token token || same_kind kind.Comment token.kind

abbrev numbered : ℕ → Token → SignificantToken
numbered number token = record { number = number; inner = token }

and_true : (b c : Bool) → b ≡ true → c ≡ true → (b && c) ≡ true
and_true true c eb ec = ec
and_true false c eb ec = eb

-- The significant token with this index after the first is one of the tokens, and up to it there are only literals and
-- comments.
record Spans (n : ℕ) (tokens : List Token) (k : ℕ) : Type 0 where
  gap : ℕ
  last : SignificantToken
  at : slice_get (significant_from n tokens) k ≡ Some last
  number : last.number ≡ n + gap
  there : slice_get tokens gap ≡ Some last.inner
  parts : list_all is_of_run (take (suc gap) tokens) ≡ true
  literal : is_literal_token last.inner ≡ true

-- The first tokens are literals.
abbrev pub Literals : ℕ → List SignificantToken → Type 0
Literals zero ms = Unit {0}
Literals (suc k) [] = ⊥
Literals (suc k) (m ∷ ms) = (is_literal m ≡ true) × Literals k ms

pub literals_front : (ms : List SignificantToken) → Literals (prefix_len is_literal ms) ms
literals_front [] = tt
literals_front (m ∷ ms) = by-test (is_literal m) (literals_front ms) refl
  where
    next : (j : ℕ) → 1 + j ≡ suc j
    next j = omega arith

    by-test : (b : Bool) → Literals (prefix_len is_literal ms) ms → is_literal m ≡ b → Literals (cond b (1 + prefix_len is_literal ms) 0) (m ∷ ms)
    by-test true front e = subst (λ j. Literals j (m ∷ ms)) (sym (next (prefix_len is_literal ms))) (e, front)
    by-test false front e = tt

later : (n k : ℕ) (t : Token) (ts : List Token) (k' : ℕ) (ms : List SignificantToken) → is_of_run t ≡ true
    → ((m : SignificantToken) → slice_get (significant_from (n + 1) ts) k ≡ Some m → slice_get ms k' ≡ Some m) → ms ≡ significant_from n (t ∷ ts)
    → Spans (n + 1) ts k → Spans n (t ∷ ts) k'
later n k t ts k' ms part moved same s = record {
  gap = suc s.gap;
  last = s.last;
  at = ap (λ xs. slice_get xs k') (sym same) ∙ moved s.last s.at;
  number = omega (arith, s.number);
  there = s.there;
  parts = and_true (is_of_run t) (list_all is_of_run (take (suc s.gap) ts)) part s.parts;
  literal = s.literal;
}

spans : (n : ℕ) (tokens : List Token) (k : ℕ) → Literals (suc k) (significant_from n tokens) → Spans n tokens k
spans n [] k h = absurd h
spans n (t ∷ ts) k h = by-test (same_kind kind.Comment t.kind) (λ j g. spans (n + 1) ts j g) refl h
  where
    same : (b : Bool) → same_kind kind.Comment t.kind ≡ b → cond b (significant_from (n + 1) ts) (numbered n t ∷ significant_from (n + 1) ts) ≡ significant_from n (t ∷ ts)
    same b e = ap (λ c. cond c (significant_from (n + 1) ts) (numbered n t ∷ significant_from (n + 1) ts)) (sym e)

    first : (j : ℕ) → j ≡ 0 → same_kind kind.Comment t.kind ≡ false → is_literal (numbered n t) ≡ true → Spans n (t ∷ ts) j
    first j z e l = record {
      gap = 0;
      last = numbered n t;
      at = ap (λ xs. slice_get xs j) (sym (same false e)) ∙ ap (slice_get (numbered n t ∷ significant_from (n + 1) ts)) z;
      number = omega arith;
      there = refl;
      parts = and_true (is_of_run t) true (or_left (is_literal_token t) (same_kind kind.Comment t.kind) l) refl;
      literal = l;
    }

    more : (j : ℕ) → ((i : ℕ) → Literals (suc i) (significant_from (n + 1) ts) → Spans (n + 1) ts i)
        → same_kind kind.Comment t.kind ≡ false → is_literal (numbered n t) ≡ true → Literals j (significant_from (n + 1) ts) → Spans n (t ∷ ts) j
    more zero rest e l g = first zero refl e l
    more (suc j) rest e l g =
        later n j t ts (suc j) (numbered n t ∷ significant_from (n + 1) ts)
        (or_left (is_literal_token t) (same_kind kind.Comment t.kind) l) (λ m f. f) (same false e) (rest j g)

    by-test : (b : Bool) → ((i : ℕ) → Literals (suc i) (significant_from (n + 1) ts) → Spans (n + 1) ts i) → same_kind kind.Comment t.kind ≡ b → Literals (suc k) (cond b (significant_from (n + 1) ts) (numbered n t ∷ significant_from (n + 1) ts)) → Spans n (t ∷ ts) k
    by-test true rest e g =
        later n k t ts k (significant_from (n + 1) ts) (or_right (is_literal_token t) (same_kind kind.Comment t.kind) e) (λ m f. f) (same true e) (rest k g)
    by-test false rest e g = more k rest e g.0 g.1

-- The significant tokens that are left are the significant ones of the tokens that are left.
record LeftOf (n : ℕ) (tokens : List Token) (ms : List SignificantToken) : Type 0 where
  gap : ℕ
  same : ms ≡ significant_from (n + gap) (drop gap tokens)

left : (s n : ℕ) (tokens : List Token) → LeftOf n tokens (drop s (significant_from n tokens))
left zero n tokens = record { gap = 0; same = ap (λ k. significant_from k tokens) (omega arith) }
left (suc s) n [] = record { gap = 0; same = refl }
left (suc s) n (t ∷ ts) = by-test (same_kind kind.Comment t.kind) (left (suc s) (n + 1) ts) (left s (n + 1) ts)
  where
    further : (ms : List SignificantToken) → LeftOf (n + 1) ts ms → LeftOf n (t ∷ ts) ms
    further ms l = record { gap = suc l.gap; same = l.same ∙ ap (λ k. significant_from k (drop l.gap ts)) (omega arith) }

    by-test : (b : Bool) → LeftOf (n + 1) ts (drop (suc s) (significant_from (n + 1) ts)) → LeftOf (n + 1) ts (drop s (significant_from (n + 1) ts))
        → LeftOf n (t ∷ ts) (drop (suc s) (cond b (significant_from (n + 1) ts) (numbered n t ∷ significant_from (n + 1) ts)))
    by-test true all others = further (drop (suc s) (significant_from (n + 1) ts)) all
    by-test false all others = further (drop s (significant_from (n + 1) ts)) others

-- The tokens from the first one on that isn't a comment.
record Opens (n : ℕ) (tokens : List Token) : Type 0 where
  gap : ℕ
  first : Token
  rest : List Token
  are : drop gap tokens ≡ first ∷ rest
  kind_is : same_kind kind.Comment first.kind ≡ false
  significant : significant_from n tokens ≡ numbered (n + gap) first ∷ significant_from (n + gap + 1) rest

opens : (n : ℕ) (tokens : List Token) → (significant_from n tokens ≡ []) ⊎ Opens n tokens
opens n [] = inl refl
opens n (t ∷ ts) = by-test (same_kind kind.Comment t.kind) (opens (n + 1) ts) refl
  where
    further : same_kind kind.Comment t.kind ≡ true → (significant_from (n + 1) ts ≡ []) ⊎ Opens (n + 1) ts → (significant_from n (t ∷ ts) ≡ []) ⊎ Opens n (t ∷ ts)
    further e (inl h) = inl (ap (λ c. cond c (significant_from (n + 1) ts) (numbered n t ∷ significant_from (n + 1) ts)) e ∙ h)
    further e (inr o) = inr (record {
      gap = suc o.gap;
      first = o.first;
      rest = o.rest;
      are = o.are;
      kind_is = o.kind_is;
      significant = ap (λ c. cond c (significant_from (n + 1) ts) (numbered n t ∷ significant_from (n + 1) ts)) e ∙ o.significant
          ∙ ap (λ k. numbered k o.first ∷ significant_from (k + 1) o.rest) (omega arith);
    })

    by-test : (b : Bool) → (significant_from (n + 1) ts ≡ []) ⊎ Opens (n + 1) ts → same_kind kind.Comment t.kind ≡ b → (significant_from n (t ∷ ts) ≡ []) ⊎ Opens n (t ∷ ts)
    by-test true others e = further e others
    by-test false others e = inr (record {
      gap = 0;
      first = t;
      rest = ts;
      are = refl;
      kind_is = e;
      significant = ap (λ c. cond c (significant_from (n + 1) ts) (numbered n t ∷ significant_from (n + 1) ts)) e
          ∙ ap (λ k. numbered k t ∷ significant_from (k + 1) ts) (omega arith);
    })

-- The site, if there is one, has its run.
abbrev HasItsRun : List Token → Option Site → Type 0
HasItsRun all None = Unit {0}
HasItsRun all (Some site) = HasRun all site

pub get_take : {X : Type 0} (gap k : ℕ) (xs : List X) → gap < k → slice_get (take k xs) gap ≡ slice_get xs gap
get_take gap zero xs h = absurd (omega arith)
get_take gap (suc k) [] h = refl
get_take zero (suc k) (x ∷ xs) h = refl
get_take (suc gap) (suc k) (x ∷ xs) h = get_take gap k xs (omega arith)

tested : (t : Token) (o : Option Token) → o ≡ Some t → is_literal_token t ≡ true → option_map_or is_literal_token o false ≡ true
tested t o e h = ap (λ (p : Option Token). option_map_or is_literal_token p false) e ∙ h

-- A run that begins at a place, with its last literal `gap` tokens after the first.
run_there : (all : List Token) (place gap count : ℕ) (first last : Token) → count ≡ gap + 1
    → slice_get (drop place all) 0 ≡ Some first → is_literal_token first ≡ true
    → slice_get (drop place all) gap ≡ Some last → is_literal_token last ≡ true
    → list_all is_of_run (take (suc gap) (drop place all)) ≡ true
    → (place + count ≤ length all) × IsLiteralRun (take count (drop place all))
run_there all place gap count first last e f fl l ll parts =
    let rest = drop place all in
    let inside : gap < length rest = slice_get_within rest gap last l in
    let same : count ≡ suc gap = omega (arith, e) in
    let size : length (take (suc gap) rest) ≡ suc gap = length-take-le (suc gap) rest (omega arith) in
    let end : slice_get (take (suc gap) rest) (length (take (suc gap) rest) - 1) ≡ Some last =
    ap (slice_get (take (suc gap) rest)) (omega (arith, size)) ∙ get_take gap (suc gap) rest (omega arith) ∙ l in
    let front : slice_get (take (suc gap) rest) 0 ≡ Some first = get_take 0 (suc gap) rest (omega arith) ∙ f in (
      omega (arith, length-drop place all),
      subst (λ c. IsLiteralRun (take c rest)) (sym same) (record {
        kinds = parts;
        begins = tested first (slice_get (take (suc gap) rest) 0) front fl;
        ends = tested last (slice_get (take (suc gap) rest) (length (take (suc gap) rest) - 1)) end ll;
      }),
    )

-- The site of the literals that the tokens begin with.
abbrev site_in_front : Call → Bool → SiteFlags → ℕ → List SignificantToken → Option Site
site_in_front call whole flags size ms =
    site_of_run call whole flags (slice_get (take size ms) 0) (slice_get (take size ms) (length (take size ms) - 1))

nothing_in_front : (all : List Token) (call : Call) (whole : Bool) (flags : SiteFlags) (ms : List SignificantToken) → HasItsRun all (site_in_front call whole flags 0 ms)
nothing_in_front all call whole flags ms = tt

some_in_front : (all : List Token) (call : Call) (whole : Bool) (flags : SiteFlags) (n : ℕ) (first : Token) (rest : List Token)
    → drop n all ≡ first ∷ rest → same_kind kind.Comment first.kind ≡ false → (ms : List SignificantToken) (k size : ℕ) → size ≡ suc k
    → numbered n first ∷ ms ≡ significant_from n (first ∷ rest) → is_literal (numbered n first) ≡ true → Literals k ms → k ≤ length ms
    → HasItsRun all (site_in_front call whole flags size (numbered n first ∷ ms))
some_in_front all call whole flags n first rest d c ms k size z e l front within =
    let s = spans n (first ∷ rest) k (subst (Literals (suc k)) e (l, front)) in
    let long : length (take (suc k) (numbered n first ∷ ms)) ≡ suc k = length-take-le (suc k) (numbered n first ∷ ms) (omega arith) in
    let last : slice_get (take (suc k) (numbered n first ∷ ms)) (length (take (suc k) (numbered n first ∷ ms)) - 1) ≡ Some s.last =
    ap (slice_get (take (suc k) (numbered n first ∷ ms))) (omega (arith, long)) ∙ get_take k (suc k) (numbered n first ∷ ms) (omega arith)
    ∙ ap (λ xs. slice_get xs k) e ∙ s.at in
    let there =
    run_there all n s.gap (s.last.number - n + 1) first s.last.inner (omega (arith, s.number)) (ap (λ xs. slice_get xs 0) d)
    l (ap (λ xs. slice_get xs s.gap) d ∙ s.there) s.literal
    (ap (λ xs. list_all is_of_run (take (suc s.gap) xs)) d ∙ s.parts) in
    subst (λ j. HasItsRun all (site_in_front call whole flags j (numbered n first ∷ ms))) (sym z)
    (subst (λ (o : Option SignificantToken). HasItsRun all (site_of_run call whole flags (Some (numbered n first)) o)) (sym last)
    (record { within = there.0; run = there.1 }))

pub prefix_within : (xs : List SignificantToken) → prefix_len is_literal xs ≤ length xs
prefix_within [] = omega arith
prefix_within (x ∷ xs) =
    elim (is_literal x) as (λ b. cond b (1 + prefix_len is_literal xs) 0 ≤ length (x ∷ xs)) [ true ↦ omega (arith, prefix_within xs) | false ↦ omega arith ]

run_in_front : (all : List Token) (call : Call) (whole : Bool) (flags : SiteFlags) (n : ℕ) (ms : List SignificantToken) → ms ≡ significant_from n (drop n all)
    → HasItsRun all (site_in_front call whole flags (prefix_len is_literal ms) ms)
run_in_front all call whole flags n ms e = by-front (opens n (drop n all))
  where
    by-front : (significant_from n (drop n all) ≡ []) ⊎ Opens n (drop n all) → HasItsRun all (site_in_front call whole flags (prefix_len is_literal ms) ms)
    by-front (inl none) =
        subst (λ xs. HasItsRun all (site_in_front call whole flags (prefix_len is_literal xs) xs)) (sym (e ∙ none)) tt
    by-front (inr o) =
        subst (λ xs. HasItsRun all (site_in_front call whole flags (prefix_len is_literal xs) xs)) (sym (e ∙ o.significant)) (by-test (is_literal m) refl)
      where
        m : SignificantToken
        m = numbered (n + o.gap) o.first

        others : List SignificantToken
        others = significant_from (n + o.gap + 1) o.rest

        k : ℕ
        k = prefix_len is_literal others

        there : drop (n + o.gap) all ≡ o.first ∷ o.rest
        there = sym (drop-drop o.gap n all) ∙ o.are

        significant : m ∷ others ≡ significant_from (n + o.gap) (o.first ∷ o.rest)
        significant = ap (λ c. cond c others (m ∷ others)) (sym o.kind_is)

        by-test : (b : Bool) → is_literal m ≡ b → HasItsRun all (site_in_front call whole flags (cond b (1 + k) 0) (m ∷ others))
        by-test true l =
            some_in_front all call whole flags (n + o.gap) o.first o.rest there o.kind_is others k (1 + k) (omega arith) significant l (literals_front others) (prefix_within others)
        by-test false l = nothing_in_front all call whole flags (m ∷ others)

left_all : (all : List Token) (n s : ℕ) (ms : List SignificantToken) → ms ≡ significant_from n (drop n all) → (i : ℕ) × (drop s ms ≡ significant_from i (drop i all))
left_all all n s ms e =
    let l = left s n (drop n all) in
    (n + l.gap, ap (drop s) e ∙ l.same ∙ ap (significant_from (n + l.gap)) (drop-drop l.gap n all))

behind_ok : (source : List ℕ) (all : List Token) (aliases : List Alias) (call : Call) (n : ℕ) (ms : List SignificantToken) → ms ≡ significant_from n (drop n all)
    → HasItsRun all (site_behind source aliases call ms)
unfolding site_behind
behind_ok source all aliases call n ms e =
    let l = left_all all n (pattern_size source ms) ms e in
    let run = drop (pattern_size source ms) ms in
    let whole = ends_whole source (drop (prefix_len is_literal run) run) in
    run_in_front all call whole (flags_if whole source aliases call ms) l.0 run l.1

by_head : (source : List ℕ) (all : List Token) (aliases : List Alias) (n : ℕ) (ms : List SignificantToken) (o : Option Head) → ms ≡ significant_from n (drop n all)
    → HasItsRun all (site_by source aliases o ms)
by_head source all aliases n ms None e = tt
by_head source all aliases n ms (Some head) e =
    let l = left_all all n head.size ms e in
    behind_ok source all aliases head.call l.0 (drop head.size ms) l.1

of_option : (all : List Token) (o : Option Site) → HasItsRun all o → All (HasRun all) (option_to_list o)
of_option all None h = All-nil (HasRun all)
of_option all (Some site) h = All-cons (HasRun all) site [] h (All-nil (HasRun all))

unless_hidden : (all : List Token) (hidden : Bool) (o : Option Site) → HasItsRun all o → All (HasRun all) (cond hidden [] (option_to_list o))
unless_hidden all true o h = All-nil (HasRun all)
unless_hidden all false o h = of_option all o h

sites_all : (source : List ℕ) (all : List Token) (aliases : List Alias) (hidden : Bool) (n : ℕ) (tokens : List Token) → tokens ≡ drop n all
    → All (HasRun all) (sites_from source aliases hidden (significant_from n tokens))
sites_all source all aliases hidden n [] e = All-nil (HasRun all)
sites_all source all aliases hidden n (t ∷ ts) e =
    by-test (same_kind kind.Comment t.kind) (λ h f. sites_all source all aliases h (n + 1) ts f) refl
  where
    next : ts ≡ drop (n + 1) all
    next = ap (drop 1) e ∙ drop-drop 1 n all

    others : List SignificantToken
    others = significant_from (n + 1) ts

    here : same_kind kind.Comment t.kind ≡ false → numbered n t ∷ others ≡ significant_from n (drop n all)
    here f = ap (λ c. cond c others (numbered n t ∷ others)) (sym f) ∙ ap (significant_from n) e

    by-test : (b : Bool) → ((h : Bool) → ts ≡ drop (n + 1) all → All (HasRun all) (sites_from source aliases h (significant_from (n + 1) ts)))
        → same_kind kind.Comment t.kind ≡ b → All (HasRun all) (sites_from source aliases hidden (cond b others (numbered n t ∷ others)))
    by-test true rest f = rest hidden next
    by-test false rest f =
        All-append (HasRun all) (cond hidden [] (option_to_list (site_here source aliases (numbered n t ∷ others)))) (sites_from source aliases (hides source (numbered n t)) others)
        (unless_hidden all hidden (site_here source aliases (numbered n t ∷ others))
        (by_head source all aliases n (numbered n t ∷ others) (head_of source aliases (numbered n t ∷ others)) (here f)))
        (rest (hides source (numbered n t)) next)

-- The sites among the significant tokens have their runs.
pub all_runs : {E : Type 0} (source : List ℕ) (tokens : List Token) (aliases : List Alias) (significant : List SignificantToken) (r : Result (List Site) E)
    → significant ≡ significant_from 0 tokens → IfOk r (λ sites. sites ≡ sites_from source aliases false significant) → IfOk r (All (HasRun tokens))
all_runs source tokens aliases significant (Ok sites) e h =
    subst (All (HasRun tokens)) (sym (h ∙ ap (sites_from source aliases false) e)) (sites_all source tokens aliases false 0 tokens refl)
all_runs source tokens aliases significant (Err fault) e h = tt
