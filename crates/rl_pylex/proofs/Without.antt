-- A cut of the beginning of a source, without the name among its tokens, extended past a run of ordinary bytes.
use Rattle.std.proofs.Common.{◌≡◌, ℕ, zero, suc, ◌+◌, ◌-◌, ◌<◌, ◌≤◌, ◌⊎◌, inl, inr, Bool, true, false, cond, List, [], ◌∷◌, ◌++◌, length, get_or, drop, take, refl, ap, sym, ◌∙◌, arith, Some, None, Option, subst}
use Rattle.std.proofs.Common.{add-zero}
use Rattle.std.specs.Prelude.{nat_eq, ◌==◌, ◌≢◌, All, option_to_list}
use Rattle.std.specs.List.{prefix_len}
use Rattle.std.proofs.lemmas.Bool.{false≢true}
use Rattle.std.proofs.lemmas.Bool.Decides.{nat_tests}
use Rattle.std.proofs.lemmas.List.{drop-drop, get_or-drop}
use Rattle.std.proofs.lemmas.List.Elements.{All-append, All-nil}
use Rattle.rl_pylex.specs.declared.token_list.TokenKind.{TokenKind}
use Rattle.rl_pylex.specs.declared.token_list.TokenKind.TheVariants as kinds
use Rattle.rl_pylex.specs.declared.token_list.Token.{Token}
use Rattle.rl_pylex.specs.declared.rules.Fit.{Fit}
use Rattle.rl_pylex.specs.declared.rules.Fit.TheVariants.{Passes, Takes, Breaks}
use Rattle.rl_pylex.specs.declared.rules.Reading.{Reading}
use Rattle.rl_pylex.specs.declared.rules.Reading.TheVariants as reads
use Rattle.rl_pylex.specs.Bytes.{has_at, begins, is_blank, is_backslash, is_quote, in_line, text_start}
use Rattle.rl_pylex.specs.Literals.{opens_after, prefix_size, quote_count, close_from, size_after}
use Rattle.rl_pylex.specs.Rules.{blank, joined_line, literal, reading, depth_after}
use Rattle.rl_pylex.specs.internal.Rows.{IsBoundedReading}
use Rattle.rl_pylex.proofs.Fits.{fit_of_size, fit_after}
use Rattle.rl_pylex.specs.Source.{text_of, token_of, IsReadable, LacksName}
use Rattle.rl_pylex.specs.internal.Absence.{is_ordinary, lacks_word, IsFreeRun, size_of_fit, size_between, ReachesWithout}
use Rattle.rl_pylex.proofs.Firsts.{passed, taken, blank-not, joined_line-not}
use Rattle.rl_pylex.proofs.FirstBytes.{comment_read}
use Rattle.rl_pylex.proofs.Alone.{literal_first}
use Rattle.rl_pylex.proofs.LiteralFacts.{Sized-from, size_after-is}
use Rattle.rl_pylex.proofs.Sizes.{reading-bounded}
use Rattle.rl_pylex.proofs.Cuts.{Reaches-start, Reaches-push}
use Rattle.rl_pylex.proofs.RunPieces.{HasLetter, OrdinaryPiece, Prefixed, none_is_no_name, first_piece}
use Rattle.rl_pylex.proofs.Words.{has_at-drop}

-- A token isn't a name with this text.
IsOther : List ℕ → List ℕ → Token → Type 0
IsOther s name t = t.kind ≡ kinds.Name → text_of s t ≢ name

one_other : (s name : List ℕ) (at size : ℕ) (k : Option TokenKind) → (k ≡ Some kinds.Name → take size (drop at s) ≢ name) → All (IsOther s name) (option_to_list (token_of (record { kind = k; from = at; size = size })))
unfolding IsOther
one_other s name at size None other = All-nil (IsOther s name)
one_other s name at size (Some k) other = only
  where
    same_size : at + size - at ≡ size
    same_size = omega arith

    here : IsOther s name (record { kind = k; from = at; upto = at + size })
    here = λ is same. other (ap Some is) (ap (λ n. take n (drop at s)) (sym same_size) ∙ same)

    only : All (IsOther s name) (record { kind = k; from = at; upto = at + size } ∷ [])
    only zero d below = here
    only (suc j) d below = absurd (omega arith)

-- One more piece.
pub without-piece : (s name text : List ℕ) (at size : ℕ) (k : Option TokenKind) (r : ReachesWithout s name at) → drop at s ≡ text
    → reading r.depth text ≡ reads.Piece k size → (k ≡ Some kinds.Name → take size text ≢ name) → ReachesWithout s name (at + size)
unfolding IsOther
without-piece s name text at size k r here read other =
    record {
      depth = depth_after r.depth (drop at s);
      tokens = r.tokens ++ option_to_list (token_of (record { kind = k; from = at; size = size }));
      reaches = Reaches-push s at r.depth r.tokens _ k size r.reaches (ap (reading r.depth) here ∙ read) refl;
      none = All-append (IsOther s name) r.tokens (option_to_list (token_of (record { kind = k; from = at; size = size }))) r.none
          (one_other s name at size k (λ is same. other is (ap (take size) (sym here) ∙ same)));
    }

pub without-start : (s name : List ℕ) → ReachesWithout s name (text_start s)
unfolding IsOther
without-start s name =
    record { depth = 0; tokens = []; reaches = Reaches-start s; none = All-nil (IsOther s name) }

-- A piece between runs of ordinary bytes: it is read the same at any bracket depth, and it isn't a name.
record Between (text : List ℕ) (size : ℕ) : Type 0 where
  kind : Option TokenKind
  read : (depth : ℕ) → reading depth text ≡ reads.Piece kind size
  other : kind ≢ Some kinds.Name

literal_is_no_name : Some kinds.Literal ≡ Some kinds.Name → ⊥
literal_is_no_name e = cc

comment_is_no_name : Some kinds.Comment ≡ Some kinds.Name → ⊥
comment_is_no_name e = cc

quote_opens : (x : ℕ) (xs : List ℕ) → is_quote x ≡ true → prefix_size (x ∷ xs) ≡ Some 0
unfolding prefix_size opens_after
quote_opens x xs e = rw e refl

takes_literal : (text : List ℕ) (n m : ℕ) → prefix_size text ≡ Some n → size_after n text ≡ Some m → literal text ≡ Takes m
unfolding literal
takes_literal text n m prefix size = ap (λ o. fit_after o text) prefix ∙ ap fit_of_size size

between-quote : (x m : ℕ) (xs : List ℕ) → is_quote x ≡ true → size_after 0 (x ∷ xs) ≡ Some m → Between (x ∷ xs) m
between-quote x m xs quote e =
    record {
      kind = Some kinds.Literal;
      read = λ depth. literal_first depth x xs m (takes_literal (x ∷ xs) 0 m (quote_opens x xs quote) e);
      other = literal_is_no_name;
    }

some_value : (k m : ℕ) → Some k ≡ Some m → k ≡ m
some_value k m e = cc

between-hash : (x m : ℕ) (xs : List ℕ) → nat_eq 35 x ≡ true → Some (prefix_len in_line (x ∷ xs)) ≡ Some m → Between (x ∷ xs) m
between-hash x m xs hash e =
    subst (λ (n : ℕ). Between (x ∷ xs) n) (some_value (prefix_len in_line (x ∷ xs)) m e)
    (subst (λ (c : ℕ). Between (c ∷ xs) (prefix_len in_line (c ∷ xs))) (is_hash x hash)
    (record { kind = Some kinds.Comment; read = λ depth. comment_read depth xs; other = comment_is_no_name }))
  where
    is_hash : (x : ℕ) → nat_eq 35 x ≡ true → 35 ≡ x
    is_hash x e = grind (arith, nat_tests)

fit_takes : (f : Fit) (m : ℕ) → size_of_fit f ≡ Some m → f ≡ Takes m
fit_takes Passes m e = absurd (none m e)
  where
    none : (m : ℕ) → None ≡ Some m → ⊥
    none m e = cc
fit_takes (Takes k) m e = ap Takes (some_value k m e)
fit_takes Breaks m e = absurd (none m e)
  where
    none : (m : ℕ) → None ≡ Some m → ⊥
    none m e = cc

joins_by_backslash : (x m : ℕ) (xs : List ℕ) → joined_line (x ∷ xs) ≡ Takes m → is_backslash x ≡ true
joins_by_backslash x m xs e = by-test (is_backslash x) refl
  where
    apart : (f : Fit) → f ≡ Passes → f ≡ Takes m → ⊥
    apart f p t = cc

    by-test : (b : Bool) → is_backslash x ≡ b → b ≡ true
    by-test true h = refl
    by-test false h = absurd (apart (joined_line (x ∷ xs)) (joined_line-not x xs h) e)

backslash_is_no_blank : (x : ℕ) → is_backslash x ≡ true → is_blank x ≡ false
backslash_is_no_blank x e = grind (arith, nat_tests)

joined_read : (depth x m : ℕ) (xs : List ℕ) → joined_line (x ∷ xs) ≡ Takes m → reading depth (x ∷ xs) ≡ reads.Piece None m
unfolding reading
joined_read depth x m xs e =
    passed (blank (x ∷ xs)) None _ (blank-not x xs (backslash_is_no_blank x (joins_by_backslash x m xs e)))
    ∙ taken (joined_line (x ∷ xs)) None m _ e

between-joined : (x m : ℕ) (xs : List ℕ) → size_of_fit (joined_line (x ∷ xs)) ≡ Some m → Between (x ∷ xs) m
between-joined x m xs e =
    record {
      kind = None;
      read = λ depth. joined_read depth x m xs (fit_takes (joined_line (x ∷ xs)) m e);
      other = none_is_no_name;
    }

between : (x m : ℕ) (xs : List ℕ) → size_between (x ∷ xs) ≡ Some m → Between (x ∷ xs) m
unfolding size_between
between x m xs e = by-tests (is_quote x) (begins "#" (x ∷ xs)) refl refl
  where
    some_length : (n : ℕ) → (suc n == 0) ≡ false
    some_length n = grind (arith, nat_tests)

    hash : begins "#" (x ∷ xs) ≡ true → nat_eq 35 x ≡ true
    hash h = grind (arith, nat_tests)

    by-tests : (q h : Bool) → is_quote x ≡ q → begins "#" (x ∷ xs) ≡ h → Between (x ∷ xs) m
    by-tests true h eq eh = between-quote x m xs eq (rw (some_length (length xs), eq) at e)
    by-tests false true eq eh = between-hash x m xs (hash eh) (rw (some_length (length xs), eq, eh) at e)
    by-tests false false eq eh = between-joined x m xs (rw (some_length (length xs), eq, eh) at e)

nothing_between : (m : ℕ) → size_between [] ≡ Some m → 0 ≡ m
unfolding size_between
nothing_between m e = some_value 0 m e

-- The size of what is between runs is bounded by the length of the text.
pub size_between-bounded : (text : List ℕ) (m : ℕ) → size_between text ≡ Some m → (m ≤ length text) × (0 < length text → 0 < m)
size_between-bounded [] m e = (omega (arith, nothing_between m e), λ some. absurd (omega arith))
size_between-bounded (x ∷ xs) m e =
    let b = between x m xs e in
    let bounds : (0 < m) × (m ≤ length (x ∷ xs)) =
    subst (λ (r : Reading). IsBoundedReading r (length (x ∷ xs))) (b.read 0) (reading-bounded 0 (x ∷ xs)) in
    (bounds.1, λ some. bounds.0)

-- Past what is between runs.
without-between : (s name text : List ℕ) (at m : ℕ) → ReachesWithout s name at → drop at s ≡ text → size_between text ≡ Some m → ReachesWithout s name (at + m)
without-between s name [] at m r here e =
    subst (λ (n : ℕ). ReachesWithout s name n) (sym (add-zero at) ∙ ap (λ n. at + n) (nothing_between m e)) r
without-between s name (x ∷ xs) at m r here e =
    let b = between x m xs e in
    without-piece s name (x ∷ xs) at m b.kind r here (b.read r.depth) (λ is _. b.other is)

-- The size of a literal with a prefix is the sum of the sizes of the prefix and of the literal after it.
prefixed_size : (n m : ℕ) (text : List ℕ) → size_after 0 (drop n text) ≡ Some m → size_after n text ≡ Some (n + m)
prefixed_size n m text e =
    let z = Sized-from 0 (drop n text) m e in
    let q = quote_count (drop n text) in
    let quote : get_or (drop n text) 0 0 ≡ get_or text n 0 = get_or-drop n text 0 0 ∙ ap (λ k. get_or text k 0) (add-zero n) in
    let body : drop (0 + q) (drop n text) ≡ drop (n + q) text = drop-drop (0 + q) n text ∙ ap (λ k. drop k text) (zero-in q) in
    size_after-is n q (get_or text n 0) z.close text (drop (n + q) text) refl refl refl
    (ap (λ c. close_from q c 0 (drop (n + q) text)) (sym quote) ∙ ap (λ ys. close_from q (get_or (drop n text) 0 0) 0 ys) (sym body) ∙ z.found)
    ∙ ap Some (whole q z.close z.size)
  where
    zero-in : (q : ℕ) → n + (0 + q) ≡ n + q
    zero-in q = omega arith

    whole : (q close : ℕ) → m ≡ 0 + q + close → n + q + close ≡ n + m
    whole q close size = omega (arith, size)

-- If a quote follows a run, what is skipped there is its literal.
quote_between : (rest : List ℕ) (m : ℕ) → has_at is_quote 0 rest ≡ true → size_between rest ≡ Some m → size_after 0 rest ≡ Some m
unfolding size_between
quote_between [] m quote e = absurd (false≢true quote)
quote_between (x ∷ xs) m quote e = rw (some_length (length xs), quote) at e
  where
    some_length : (n : ℕ) → (suc n == 0) ≡ false
    some_length n = grind (arith, nat_tests)

without-prefixed : (s name xs : List ℕ) (x at m : ℕ) → ReachesWithout s name at → drop at s ≡ x ∷ xs → (p : Prefixed (x ∷ xs)) → size_between (drop p.size (x ∷ xs)) ≡ Some m
    → ReachesWithout s name (at + (p.size + m))
without-prefixed s name xs x at m r here p e =
    let text : List ℕ = x ∷ xs in
    let size : size_after p.size text ≡ Some (p.size + m) =
    prefixed_size p.size m text (quote_between (drop p.size text) m (has_at-drop is_quote p.size text ∙ p.quote) e) in
    without-piece s name text at (p.size + m) (Some kinds.Literal) r here
    (literal_first r.depth x xs (p.size + m) (takes_literal text p.size (p.size + m) p.prefix size)) (λ is _. literal_is_no_name is)

-- After a piece of ordinary bytes the run goes on.
run_left : (n : ℕ) (xs : List ℕ) → n ≤ prefix_len is_ordinary xs → prefix_len is_ordinary xs ≡ n + prefix_len is_ordinary (drop n xs)
run_left zero xs h = omega arith
run_left (suc n) [] h = absurd (omega arith)
run_left (suc n) (x ∷ xs) h = by-test (is_ordinary x) refl h (run_left n xs)
  where
    by-test : (b : Bool) → is_ordinary x ≡ b → suc n ≤ cond b (1 + prefix_len is_ordinary xs) 0
        → (n ≤ prefix_len is_ordinary xs → prefix_len is_ordinary xs ≡ n + prefix_len is_ordinary (drop n xs))
        → cond (is_ordinary x) (1 + prefix_len is_ordinary xs) 0 ≡ suc n + prefix_len is_ordinary (drop n xs)
    by-test true o within later = rw o (omega (arith, later (omega (arith, within))))
    by-test false o within later = absurd (omega (arith, within))

-- How a run is skipped after a piece of it.
IsPassedBehind : List ℕ → List ℕ → List ℕ → ℕ → ℕ → ℕ → ℕ → Type 0
IsPassedBehind s name text fuel at m size =
    prefix_len is_ordinary (drop size text) ≤ fuel → drop (at + size) s ≡ drop size text → lacks_word name false (drop size text) ≡ true
    → ReachesWithout s name (at + size) → size_between (drop (prefix_len is_ordinary (drop size text)) (drop size text)) ≡ Some m
    → ReachesWithout s name (at + size + (prefix_len is_ordinary (drop size text) + m))

walk-end : (s name text : List ℕ) (at n m : ℕ) → n ≡ 0 → drop at s ≡ text → ReachesWithout s name at → size_between (drop n text) ≡ Some m → ReachesWithout s name (at + (n + m))
walk-end s name text at n m none here r e =
    let same : at + m ≡ at + (n + m) = omega (arith, none) in
    subst (λ (k : ℕ). ReachesWithout s name k) same
    (without-between s name text at m r here (ap (λ k. size_between (drop k text)) (sym none) ∙ e))

walk-piece : (s name text : List ℕ) (fuel at m : ℕ) (r : ReachesWithout s name at) → (p : OrdinaryPiece name text r.depth) → prefix_len is_ordinary text ≤ suc fuel → drop at s ≡ text
    → size_between (drop (prefix_len is_ordinary text) text) ≡ Some m → IsPassedBehind s name text fuel at m p.size → ReachesWithout s name (at + (prefix_len is_ordinary text + m))
unfolding IsPassedBehind
walk-piece s name text fuel at m r p short here e later =
    let left : prefix_len is_ordinary text ≡ p.size + prefix_len is_ordinary (drop p.size text) = run_left p.size text p.inside in
    let end : at + p.size + (prefix_len is_ordinary (drop p.size text) + m) ≡ at + (prefix_len is_ordinary text + m) = omega (arith, left) in
    let rest : drop (prefix_len is_ordinary (drop p.size text)) (drop p.size text) ≡ drop (prefix_len is_ordinary text) text =
    drop-drop (prefix_len is_ordinary (drop p.size text)) p.size text ∙ ap (λ k. drop k text) (sym left) in
    subst (λ (k : ℕ). ReachesWithout s name k) end
    (later (omega (arith, left, short, p.some)) (sym (drop-drop p.size at s) ∙ ap (drop p.size) here) p.later
    (without-piece s name text at p.size p.kind r here p.read p.other)
    (ap size_between rest ∙ e))

walk-prefixed : (s name xs : List ℕ) (x at m : ℕ) → ReachesWithout s name at → drop at s ≡ x ∷ xs → (p : Prefixed (x ∷ xs))
    → size_between (drop (prefix_len is_ordinary (x ∷ xs)) (x ∷ xs)) ≡ Some m → ReachesWithout s name (at + (prefix_len is_ordinary (x ∷ xs) + m))
walk-prefixed s name xs x at m r here p e =
    subst (λ (k : ℕ). ReachesWithout s name (at + (k + m))) p.whole
    (without-prefixed s name xs x at m r here p (ap (λ k. size_between (drop k (x ∷ xs))) p.whole ∙ e))

walk-first : (s name xs : List ℕ) (x fuel at m : ℕ) (b : Bool) → is_ordinary x ≡ b → prefix_len is_ordinary (x ∷ xs) ≤ suc fuel → HasLetter name → drop at s ≡ x ∷ xs
    → lacks_word name false (x ∷ xs) ≡ true → ReachesWithout s name at → size_between (drop (prefix_len is_ordinary (x ∷ xs)) (x ∷ xs)) ≡ Some m
    → ((size : ℕ) → IsPassedBehind s name (x ∷ xs) fuel at m size) → ReachesWithout s name (at + (prefix_len is_ordinary (x ∷ xs) + m))
walk-first s name xs x fuel at m false o short h here lacks r e later =
    walk-end s name (x ∷ xs) at (prefix_len is_ordinary (x ∷ xs)) m (rw o refl) here r e
walk-first s name xs x fuel at m true o short h here lacks r e later =
    by-piece (first_piece name xs x r.depth h o lacks)
  where
    by-piece : OrdinaryPiece name (x ∷ xs) r.depth ⊎ Prefixed (x ∷ xs) → ReachesWithout s name (at + (prefix_len is_ordinary (x ∷ xs) + m))
    by-piece (inl p) = walk-piece s name (x ∷ xs) fuel at m r p short here e (later p.size)
    by-piece (inr p) = walk-prefixed s name xs x at m r here p e

-- From a boundary of pieces past a run of ordinary bytes without the name, and past what follows it.
without-walk : (s name text : List ℕ) (fuel at m : ℕ) → prefix_len is_ordinary text ≤ fuel → HasLetter name → drop at s ≡ text → lacks_word name false text ≡ true
    → ReachesWithout s name at → size_between (drop (prefix_len is_ordinary text) text) ≡ Some m → ReachesWithout s name (at + (prefix_len is_ordinary text + m))
unfolding IsPassedBehind
without-walk s name [] fuel at m short h here lacks r e = walk-end s name [] at 0 m refl here r e
without-walk s name (x ∷ xs) zero at m short h here lacks r e =
    walk-end s name (x ∷ xs) at (prefix_len is_ordinary (x ∷ xs)) m (omega (arith, short)) here r e
without-walk s name (x ∷ xs) (suc fuel) at m short h here lacks r e =
    walk-first s name xs x fuel at m (is_ordinary x) refl short h here lacks r e
    (λ size less there more on behind. without-walk s name (drop size (x ∷ xs)) fuel (at + size) m less h there more on behind)

pub without-run : (s name text rest : List ℕ) (at n m : ℕ) → HasLetter name → text ≡ drop at s → IsFreeRun name text n → ReachesWithout s name at
    → rest ≡ drop (at + n) s → Some m ≡ size_between rest → ReachesWithout s name (at + n + m)
without-run s name text rest at n m h here free r there e =
    let behind : drop (prefix_len is_ordinary text) text ≡ rest =
    ap (λ k. drop k text) (sym free.run) ∙ ap (drop n) here ∙ drop-drop n at s ∙ sym there in
    let end : at + (prefix_len is_ordinary text + m) ≡ at + n + m = omega (arith, free.run) in
    subst (λ (k : ℕ). ReachesWithout s name k) end
    (without-walk s name text (prefix_len is_ordinary text) at m (omega arith) h (sym here) free.free r (ap size_between behind ∙ sym e))

-- A source that passes the checks and is cut up to its end.
pub lacks_name-end : (s name : List ℕ) → IsReadable s → ReachesWithout s name (length s) → LacksName s name
lacks_name-end s name readable r =
    record {
      tokens = r.tokens;
      are_tokens = record { readable = readable; depth = r.depth; reaches = r.reaches };
      none = r.none;
    }

pub ruleset bounds = (size_between-bounded)
