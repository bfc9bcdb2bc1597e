-- Removing outer anchors from the ends of a branch.
use Rattle.std.proofs.Common.{◌≡◌, ◌≢◌, ◌<◌, length, arith, Bool, true, false, cond, List, [], ◌∷◌, ◌++◌, map, reverse, Option, Some, None, refl, sym, ap, ◌∙◌}
use Rattle.std.proofs.lemmas.Bool.{false≢true}
use Rattle.std.proofs.lemmas.List.{map-append, reverse-append, reverse-reverse, append-nil}
use Rattle.std.specs.Option.{option_to_list, IsSome}
use Rattle.rl_pattern.specs.declared.tree.SyntaxNode.{SyntaxNode as Spelled}
use Rattle.rl_pattern.specs.declared.tree.SyntaxNode.TheViews as V
use Rattle.rl_pattern.specs.declared.tree.SyntaxNode.TheFolds.{the_lemmas}
use Rattle.rl_pattern.specs.internal.Views.{node_of}
use Rattle.rl_pattern.specs.Tree.{Span, SyntaxNode, leaf, mark, repeat, group, nothing, seq, choice, nodes, branch_body, caret, text_start, dollar, text_end, boundary}
use Rattle.rl_pattern.specs.internal.Judged.{without_leading, without_trailing, trail_at, both_trails}
use Rattle.rl_pattern.specs.Found.{Trail, no_trail, dollar_trail, end_trail, is_some_trail, is_leading, begins_leading, trail_of, run_of, trailing_run, inner_items, inner_of, listed}

pub listed-nodes : (ps : List SyntaxNode) → listed (nodes ps) ≡ ps
listed-nodes [] = refl
listed-nodes (p ∷ ps) = ap (λ qs. p ∷ qs) (listed-nodes ps)

-- A leading anchor is never a trailing one.
leading_is_no_trail : (p : SyntaxNode) → is_leading p ≡ true → trail_of p ≡ no_trail
leading_is_no_trail (mark s f text_start) h = refl
leading_is_no_trail (mark s f caret) h = refl
leading_is_no_trail (mark s f dollar) h = absurd (false≢true h)
leading_is_no_trail (mark s f text_end) h = absurd (false≢true h)
leading_is_no_trail (mark s f (boundary n)) h = refl
leading_is_no_trail (leaf s f x) h = refl
leading_is_no_trail (repeat s q n g p) h = refl
leading_is_no_trail (group s k p) h = refl
leading_is_no_trail (nothing s) h = refl
leading_is_no_trail (seq s ps) h = refl
leading_is_no_trail (choice s bs) h = refl

run_before : (ps : List SyntaxNode) (p : SyntaxNode) → trail_of p ≡ no_trail → trailing_run (ps ++ p ∷ []) ≡ trailing_run ps
run_before [] p h = ap (λ t. run_of t no_trail) h
run_before (q ∷ ps) p h = ap (run_of (trail_of q)) (run_before ps p h)

-- The run at the end doesn't extend into the one at the start.
pub run_of_rest : (ps : List SyntaxNode) → trailing_run (reverse (without_leading ps)) ≡ trailing_run (reverse ps)
run_of_rest [] = refl
run_of_rest (p ∷ ps) = go (is_leading p) refl (run_of_rest ps)
  where
    go : (b : Bool) → is_leading p ≡ b → trailing_run (reverse (without_leading ps)) ≡ trailing_run (reverse ps) → trailing_run (reverse (without_leading (p ∷ ps))) ≡ trailing_run (reverse (p ∷ ps))
    go true e h =
        ap (λ b. trailing_run (reverse (cond b (without_leading ps) (p ∷ ps)))) e
        ∙ h
        ∙ sym (ap trailing_run (reverse-append (p ∷ []) ps) ∙ run_before (reverse ps) p (leading_is_no_trail p e))
    go false e h = ap (λ b. trailing_run (reverse (cond b (without_leading ps) (p ∷ ps)))) e

pub map-reverse : {A : Type 0} (f : A → SyntaxNode) (xs : List A) → map f (reverse xs) ≡ reverse (map f xs)
map-reverse f [] = refl
map-reverse f (x ∷ xs) =
    ap (map f) (reverse-append (x ∷ []) xs)
    ∙ map-append f (reverse xs) (x ∷ [])
    ∙ ap (λ ys. ys ++ f x ∷ []) (map-reverse f xs)
    ∙ sym (reverse-append (f x ∷ []) (map f xs))

-- The last item is the first one in reverse order.
last_first : {A : Type 0} (f : A → SyntaxNode) (xs ys : List A) (x : A) → xs ≡ ys ++ x ∷ [] → reverse (map f xs) ≡ f x ∷ reverse (map f ys)
last_first f xs ys x e = ap (λ zs. reverse (map f zs)) e ∙ ap reverse (map-append f ys (x ∷ [])) ∙ reverse-append (map f ys) (f x ∷ [])

all_left : {A : Type 0} (f : A → SyntaxNode) (xs ys : List A) → xs ≡ ys ++ [] → reverse (map f ys) ≡ reverse (map f xs)
all_left f xs ys e = ap (λ zs. reverse (map f zs)) (sym (e ∙ append-nil ys))

-- Removing one leading anchor at the end, and none.
pub leading_off : {A : Type 0} (f : A → SyntaxNode) (xs ys : List A) (last : Option A) → begins_leading (reverse (map f xs)) ≡ true → xs ≡ ys ++ option_to_list last → without_leading (reverse (map f ys)) ≡ without_leading (reverse (map f xs))
leading_off f xs ys None h e = ap without_leading (all_left f xs ys e)
leading_off f xs ys (Some x) h e =
    let turned = last_first f xs ys x e in
    sym (ap without_leading turned ∙ ap (λ b. cond b (without_leading (reverse (map f ys))) (f x ∷ reverse (map f ys))) (sym (ap begins_leading turned) ∙ h))

pub leading_kept : (ps : List SyntaxNode) → begins_leading ps ≡ false → ps ≡ without_leading ps
leading_kept [] h = refl
leading_kept (p ∷ ps) h = sym (ap (λ b. cond b (without_leading ps) (p ∷ ps)) h)

-- Removing one trailing anchor at the end, and none.
trail_first : {A : Type 0} (f : A → SyntaxNode) (xs ys : List A) (x : A) (trail : Trail) → xs ≡ ys ++ x ∷ [] → trail ≡ trail_at (reverse (map f xs)) → trail ≡ trail_of (f x)
trail_first f xs ys x trail e h = h ∙ ap trail_at (last_first f xs ys x e)

pub trailing_off : {A : Type 0} (f : A → SyntaxNode) (xs ys : List A) (last : Option A) (trail : Trail) → trail ≡ trail_at (reverse (map f xs)) → is_some_trail trail ≡ true → xs ≡ ys ++ option_to_list last → without_trailing (reverse (map f ys)) ≡ without_trailing (reverse (map f xs))
trailing_off f xs ys None trail t h e = ap without_trailing (all_left f xs ys e)
trailing_off f xs ys (Some x) trail t h e =
    sym (ap without_trailing (last_first f xs ys x e) ∙ ap (λ b. cond b (without_trailing (reverse (map f ys))) (f x ∷ reverse (map f ys))) (sym (ap is_some_trail (trail_first f xs ys x trail e t)) ∙ h))

-- What a run of trailing anchors amounts to, combined one after another.
run_on : (run trail rest : Trail) → is_some_trail trail ≡ true → both_trails (both_trails run trail) rest ≡ both_trails run (run_of trail rest)
run_on run no_trail rest h = absurd (false≢true h)
run_on no_trail dollar_trail rest h = refl
run_on no_trail end_trail rest h = refl
run_on dollar_trail dollar_trail no_trail h = refl
run_on dollar_trail dollar_trail dollar_trail h = refl
run_on dollar_trail dollar_trail end_trail h = refl
run_on dollar_trail end_trail rest h = refl
run_on end_trail dollar_trail rest h = refl
run_on end_trail end_trail rest h = refl

pub run_more : {A : Type 0} (f : A → SyntaxNode) (xs ys : List A) (last : Option A) (run trail : Trail) → IsSome last → trail ≡ trail_at (reverse (map f xs)) → is_some_trail trail ≡ true → xs ≡ ys ++ option_to_list last → both_trails (both_trails run trail) (trailing_run (reverse (map f ys))) ≡ both_trails run (trailing_run (reverse (map f xs)))
run_more f xs ys None run trail some t h e = absurd (false≢true some)
run_more f xs ys (Some x) run trail some t h e =
    run_on run trail (trailing_run (reverse (map f ys))) h
    ∙ ap (λ v. both_trails run (run_of v (trailing_run (reverse (map f ys))))) (trail_first f xs ys x trail e t)
    ∙ sym (ap (λ ps. both_trails run (trailing_run ps)) (last_first f xs ys x e))

pub trail_stands : {A : Type 0} (f : A → SyntaxNode) (xs : List A) (trail : Trail) → trail ≡ trail_at (reverse (map f xs)) → is_some_trail trail ≡ true → 0 < length xs
trail_stands f [] trail t h = absurd (false≢true (sym (ap is_some_trail t) ∙ h))
trail_stands f (x ∷ xs) trail t h = omega arith

pub trailing_kept : (ps : List SyntaxNode) → trail_at ps ≡ no_trail → ps ≡ without_trailing ps
trailing_kept [] h = refl
trailing_kept (p ∷ ps) h = sym (ap (λ t. cond (is_some_trail t) (without_trailing ps) (p ∷ ps)) h)

pub run_ended : (run : Trail) (ps : List SyntaxNode) → trail_at ps ≡ no_trail → run ≡ both_trails run (trailing_run ps)
run_ended no_trail [] h = refl
run_ended dollar_trail [] h = refl
run_ended end_trail [] h = refl
run_ended no_trail (p ∷ ps) h = sym (ap (λ t. run_of t (trailing_run ps)) h)
run_ended dollar_trail (p ∷ ps) h = sym (ap (λ t. run_of dollar_trail (run_of t (trailing_run ps))) h)
run_ended end_trail (p ∷ ps) h = refl

pub some_trail : (t : Trail) → t ≢ no_trail → is_some_trail t ≡ true
some_trail no_trail h = absurd (h refl)
some_trail dollar_trail h = refl
some_trail end_trail h = refl

-- Reversing the items, removing the run from their end, and reversing them back.
pub taken_in_front : {A : Type 0} (f : A → SyntaxNode) (xs turned rest back : List A) → turned ≡ reverse xs → reverse (map f rest) ≡ without_leading (reverse (map f turned)) → back ≡ reverse rest → map f back ≡ without_leading (map f xs)
taken_in_front f xs turned rest back e h b =
    ap (map f) b
    ∙ map-reverse f rest
    ∙ h
    ∙ ap (λ ys. without_leading (reverse (map f ys))) e
    ∙ ap (λ ys. without_leading (reverse ys)) (map-reverse f xs)
    ∙ ap without_leading (reverse-reverse (map f xs))

-- What is left of the items of a branch after its ends have been removed one after the other.
pub ends_taken : (s : Span) (ps rest middle : List SyntaxNode) (body : SyntaxNode) (leading : Bool) (run : Trail) → leading ≡ begins_leading ps → rest ≡ without_leading ps → reverse middle ≡ without_trailing (reverse rest) → run ≡ trailing_run (reverse rest) → body ≡ branch_body s middle → record { body = body; leading = leading; trail = run } ≡ inner_of s (nothing s) (Some ps)
ends_taken s ps rest middle body leading run l r m t b = made l whole_run whole_body
  where
    whole_run : run ≡ trailing_run (reverse ps)
    whole_run = t ∙ ap (λ qs. trailing_run (reverse qs)) r ∙ run_of_rest ps

    whole_body : body ≡ branch_body s (inner_items ps)
    whole_body = b ∙ ap (branch_body s) (sym (reverse-reverse middle) ∙ ap reverse (m ∙ ap (λ qs. without_trailing (reverse qs)) r))

    made : leading ≡ begins_leading ps → run ≡ trailing_run (reverse ps) → body ≡ branch_body s (inner_items ps) → record { body = body; leading = leading; trail = run } ≡ inner_of s (nothing s) (Some ps)
    made e f g = cc

pub node_of-seq : (s : Span) (ps : List Spelled) → node_of (V.Seq s ps) ≡ seq s (nodes (map node_of ps))
node_of-seq s ps = search the_lemmas
