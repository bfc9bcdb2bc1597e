-- Lemmas on lists of items that are put together.
use Rattle.std.proofs.Common.{◌≡◌, List, [], ◌∷◌, ◌++◌, refl, sym, ap, ap₂, ◌∙◌, append_assoc}
use Rattle.std.proofs.lemmas.List.{append-nil}
use Rattle.rl_syntax.specs.declared.anchors.Guard.{Guard}
use Rattle.rl_prio.specs.Items.{Item, test_at, pass, guarded, all_guarded, replaced}

pub all_guarded-nil : (l : List Item) → all_guarded [] l ≡ l
all_guarded-nil [] = refl
all_guarded-nil (test_at gs p ∷ l) = ap (λ m. test_at gs p ∷ m) (all_guarded-nil l)
all_guarded-nil (pass gs ∷ l) = ap (λ m. pass gs ∷ m) (all_guarded-nil l)

pub all_guarded-append : (gs : List Guard) (l m : List Item) → all_guarded gs (l ++ m) ≡ all_guarded gs l ++ all_guarded gs m
all_guarded-append gs [] m = refl
all_guarded-append gs (x ∷ l) m = ap (λ n. guarded gs x ∷ n) (all_guarded-append gs l m)

pub all_guarded-twice : (gs hs : List Guard) (l : List Item) → all_guarded gs (all_guarded hs l) ≡ all_guarded (gs ++ hs) l
all_guarded-twice gs hs [] = refl
all_guarded-twice gs hs (test_at ks p ∷ l) =
    ap₂ (λ xs m. test_at xs p ∷ m) (sym (append_assoc gs hs ks)) (all_guarded-twice gs hs l)
all_guarded-twice gs hs (pass ks ∷ l) =
    ap₂ (λ xs m. pass xs ∷ m) (sym (append_assoc gs hs ks)) (all_guarded-twice gs hs l)

pub replaced-append : (l m c : List Item) → replaced (l ++ m) c ≡ replaced l c ++ replaced m c
replaced-append [] m c = refl
replaced-append (test_at gs p ∷ l) m c = ap (λ n. test_at gs p ∷ n) (replaced-append l m c)
replaced-append (pass gs ∷ l) m c =
    ap (λ n. all_guarded gs c ++ n) (replaced-append l m c) ∙ sym (append_assoc (all_guarded gs c) (replaced l c) (replaced m c))

pub replaced-all_guarded : (gs : List Guard) (l c : List Item) → replaced (all_guarded gs l) c ≡ all_guarded gs (replaced l c)
replaced-all_guarded gs [] c = refl
replaced-all_guarded gs (test_at hs p ∷ l) c = ap (λ n. test_at (gs ++ hs) p ∷ n) (replaced-all_guarded gs l c)
replaced-all_guarded gs (pass hs ∷ l) c =
    ap₂ (λ x y. x ++ y) (sym (all_guarded-twice gs hs c)) (replaced-all_guarded gs l c)
    ∙ sym (all_guarded-append gs (all_guarded hs c) (replaced l c))

-- Ends can be replaced in any order.
pub replaced-twice : (l m c : List Item) → replaced (replaced l m) c ≡ replaced l (replaced m c)
replaced-twice [] m c = refl
replaced-twice (test_at gs p ∷ l) m c = ap (λ n. test_at gs p ∷ n) (replaced-twice l m c)
replaced-twice (pass gs ∷ l) m c =
    replaced-append (all_guarded gs m) (replaced l m) c
    ∙ ap₂ (λ x y. x ++ y) (replaced-all_guarded gs m c) (replaced-twice l m c)

-- If each end is kept, the items are the same.
pub replaced-kept : (l : List Item) → replaced l (pass [] ∷ []) ≡ l
replaced-kept [] = refl
replaced-kept (test_at gs p ∷ l) = ap (λ n. test_at gs p ∷ n) (replaced-kept l)
replaced-kept (pass gs ∷ l) = ap₂ (λ hs n. pass hs ∷ n) (append-nil gs) (replaced-kept l)
