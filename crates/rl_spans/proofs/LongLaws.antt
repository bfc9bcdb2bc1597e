-- Errors of lists of items. If a list of a part of a tree is too long, so is one of the tree.
use Rattle.std.proofs.Common.{◌≡◌, ℕ, ◌+◌, ◌<◌, ◌≤◌, ◌⊎◌, inl, inr, List, [], ◌∷◌, ◌++◌, length, Result, Ok, Err, IfErr, refl, sym, ap, ap₂, subst, ◌∙◌, arith, length-append}
use Rattle.std.specs.Prelude.{IsErrAnd}
use Rattle.std.proofs.lemmas.Result.{err_from_is_err_and}
use Rattle.rl_syntax.specs.declared.limits.TheConstants.{MOST_MOVES}
use Rattle.rl_marks.specs.Marked.{Marked, both, further, mark}
use Rattle.rl_marks.specs.declared.threads.Act.{Act}
use Rattle.rl_marks.specs.declared.threads.Act.TheVariants.{OpenGroup as open_group, CloseGroup as close_group}
use Rattle.rl_marks.specs.declared.threads.MarkItem.{MarkItem}
use Rattle.rl_marks.specs.declared.threads.MarkItem.TheVariants.{Pass as pass}
use Rattle.rl_marks.specs.MarkItems.{all_prefixed, replaced, places, first, after}
use Rattle.rl_spans.specs.declared.items.ListError.{ListError}
use Rattle.rl_spans.specs.declared.items.ListError.TheVariants.{TooLong}
use Rattle.rl_spans.specs.Limits.{IsShort, IsShortBehind}
use Rattle.rl_spans.proofs.ShortLaws.{length-prefixed, after-left, behind-left, behind-right, behind-entered}

-- ---- errors that are handed on

pub carried : {T : Type 0} (r : Result T ListError) (x : ListError) (A B : Type 0) → IsErrAnd r (λ y. y ≡ x) → (x ≡ TooLong → A) → (A → B)
    → IfErr r (λ e. e ≡ TooLong → B)
carried r x A B h long k =
    let p = err_from_is_err_and r h in
    subst (λ v. IfErr v (λ e. e ≡ TooLong → B)) (sym p.1) (λ e. k (long (sym p.2 ∙ e)))

pub handed : {T : Type 0} (r : Result T ListError) (A B : Type 0) → IfErr r (λ e. e ≡ TooLong → A) → (A → B) → IfErr r (λ e. e ≡ TooLong → B)
handed (Ok v) A B h k = tt
handed (Err x) A B h k = λ e. k (h e)

-- ---- a list with no room for all items

pub no_room : (acts : List Act) (l old rest items : List MarkItem) → l ++ all_prefixed acts rest ≡ old ++ all_prefixed acts items → 1 ≤ length rest
    → MOST_MOVES ≤ length l → MOST_MOVES < length old + length items
no_room acts l old rest items e some full =
    omega (
      arith,
      ap length e,
      length-append l (all_prefixed acts rest),
      length-append old (all_prefixed acts items),
      length-prefixed acts rest,
      length-prefixed acts items,
    )

pub no_room-behind : (acts : List Act) (l items rest tail others : List MarkItem) → l ++ replaced rest others ≡ replaced items others → rest ≡ pass acts ∷ tail
    → MOST_MOVES < length l + length others → MOST_MOVES < length (replaced items others)
no_room-behind acts l items rest tail others e is full =
    omega (
      arith,
      ap length e,
      length-append l (replaced rest others),
      ap (λ x. length (replaced x others)) is,
      length-append (all_prefixed acts others) (replaced tail others),
      length-prefixed acts others,
    )

-- ---- entering a tree

pub of-part : (m t e e' : Marked) (b : ℕ) → m ≡ t → e' ≡ e → (IsShort t b → IsShort e b) → ¬ IsShort e' b → ¬ IsShort m b
of-part m t e e' b is same weaker never = λ s. never (subst (λ x. IsShort x b) (sym same) (weaker (subst (λ x. IsShort x b) is s)))

pub of-next : (m t e f f' : Marked) (b k : ℕ) → m ≡ t → f' ≡ f → k ≡ places e → (IsShort t b → IsShort f (b + places e)) → ¬ IsShort f' (b + k) → ¬ IsShort m b
of-next m t e f f' b k is same size weaker never =
    λ s.
    never (subst (λ x. IsShort x (b + k)) (sym same)
    (subst (λ n. IsShort f (b + n)) (sym size) (weaker (subst (λ x. IsShort x b) is s))))

-- The list of a tree, which is put together of others, is too long itself.
pub of-first : (m t : Marked) (b n : ℕ) → m ≡ t → n ≡ length (first t b) → MOST_MOVES < n → ¬ IsShort m b
of-first m t b n is same full = λ s. let k : IsShort t b = subst (λ x. IsShort x b) is s in omega (arith, k.entering)

pub mark-closed : (n : ℕ) (m e : Marked) (b : ℕ) (items close : List MarkItem) → m ≡ mark n e → items ≡ first e b → close ≡ pass (close_group n ∷ []) ∷ []
    → MOST_MOVES < length (replaced items close) → ¬ IsShort m b
mark-closed n m e b items close is left right full =
    of-first m (mark n e) b (length (replaced items close)) is
    (ap₂ (λ x y. length (replaced x y)) left right
    ∙ sym (length-prefixed (open_group ∷ []) (replaced (first e b) (pass (close_group n ∷ []) ∷ []))))
    full

pub mark-opened : (n : ℕ) (m e : Marked) (b : ℕ) (items close list closed : List MarkItem) → m ≡ mark n e → items ≡ first e b → close ≡ pass (close_group n ∷ []) ∷ []
    → list ≡ [] → closed ≡ replaced items close → MOST_MOVES < length list + length closed → ¬ IsShort m b
mark-opened n m e b items close list closed is left right none whole full =
    mark-closed n m e b items close is left right (omega (arith, ap length none, ap length whole, full))

-- ---- behind a place of a tree

-- If the place is one of the tree, too many items are tried behind some place.
abbrev pub NotBehind : Marked → ℕ → ℕ → Type 0
NotBehind m b p = b ≤ p → p < b + places m → ¬ IsShortBehind m b

pub behind-part : (m t e e' : Marked) (b p : ℕ) → m ≡ t → e' ≡ e → (b ≤ p → p < b + places t → p < b + places e) → (IsShortBehind t b → IsShortBehind e b)
    → NotBehind e' b p → NotBehind m b p
behind-part m t e e' b p is same within weaker never =
    λ from below s.
    let lt : p < b + places e = within from (subst (λ x. p < b + places x) is below) in
    never from (subst (λ x. p < b + places x) (sym same) lt) (subst (λ x. IsShortBehind x b) (sym same) (weaker (subst (λ x. IsShortBehind x b) is s)))

pub behind-next : (m t e f f' : Marked) (b p k : ℕ) → m ≡ t → f' ≡ f → k ≡ places e → places t ≡ places e + places f → b + k ≤ p
    → (IsShortBehind t b → IsShortBehind f (b + places e)) → NotBehind f' (b + k) p → NotBehind m b p
behind-next m t e f f' b p k is same size sum le weaker never =
    λ from below s.
    let lt : p < b + k + places f' = omega (arith, subst (λ x. p < b + places x) is below, sum, size, ap places same) in
    never le lt
    (subst (λ x. IsShortBehind x (b + k)) (sym same)
    (subst (λ n. IsShortBehind f (b + n)) (sym size) (weaker (subst (λ x. IsShortBehind x b) is s))))

-- The part is entered behind a place of the part before it.
pub behind-into : (m t e f f' : Marked) (b p k : ℕ) → m ≡ t → f' ≡ f → k ≡ places e → p < b + k
    → (0 < places e → IsShortBehind t b → IsShort f (b + places e)) → ¬ IsShort f' (b + k) → NotBehind m b p
behind-into m t e f f' b p k is same size lt weaker never =
    λ from below s.
    let some : 0 < places e = omega arith in
    never (subst (λ x. IsShort x (b + k)) (sym same)
    (subst (λ n. IsShort f (b + n)) (sym size) (weaker some (subst (λ x. IsShortBehind x b) is s))))

-- The tree is entered again behind one of its places.
pub behind-again_into : (m t e : Marked) (b p : ℕ) → m ≡ t → places t ≡ places e → (0 < places e → IsShortBehind t b → IsShort t b) → ¬ IsShort m b → NotBehind m b p
behind-again_into m t e b p is size weaker never =
    λ from below s.
    let lt : p < b + places t = subst (λ x. p < b + places x) is below in
    let some : 0 < places e = omega arith in
    never (subst (λ x. IsShort x b) (sym is) (weaker some (subst (λ x. IsShortBehind x b) is s)))

-- The list behind the place is too long itself.
pub behind-itself : (m t : Marked) (b p n : ℕ) → m ≡ t → n ≡ length (after t b p) → MOST_MOVES < n → NotBehind m b p
behind-itself m t b p n is same full =
    λ from below s.
    let k : length (after t b p) ≤ MOST_MOVES = (subst (λ x. IsShortBehind x b) is s) p from (subst (λ x. p < b + places x) is below) in
    omega arith

-- ---- two parts, of which the second one follows in any case, or if the first one took a code

-- The tree has both parts.
abbrev pub IsTurn : Marked → Marked → Marked → Type 0
IsTurn m e f = (m ≡ both e f) ⊎ (m ≡ further e f)

pub turn-left : (m e e' f : Marked) (b p k : ℕ) → IsTurn m e f → e' ≡ e → k ≡ places e → p < b + k → NotBehind e' b p → NotBehind m b p
turn-left m e e' f b p k (inl is) same size lt never = behind-part m (both e f) e e' b p is same (λ from below. omega arith) (behind-left e f b) never
turn-left m e e' f b p k (inr is) same size lt never = behind-part m (further e f) e e' b p is same (λ from below. omega arith) (behind-left e f b) never

pub turn-right : (m e f f' : Marked) (b p k : ℕ) → IsTurn m e f → f' ≡ f → k ≡ places e → b + k ≤ p → NotBehind f' (b + k) p → NotBehind m b p
turn-right m e f f' b p k (inl is) same size le never = behind-next m (both e f) e f f' b p k is same size refl le (behind-right e f b) never
turn-right m e f f' b p k (inr is) same size le never = behind-next m (further e f) e f f' b p k is same size refl le (behind-right e f b) never

pub turn-into : (m e f f' : Marked) (b p k : ℕ) → IsTurn m e f → f' ≡ f → k ≡ places e → p < b + k → ¬ IsShort f' (b + k) → NotBehind m b p
turn-into m e f f' b p k (inl is) same size lt never = behind-into m (both e f) e f f' b p k is same size lt (behind-entered e f b) never
turn-into m e f f' b p k (inr is) same size lt never = behind-into m (further e f) e f f' b p k is same size lt (behind-entered e f b) never

pub turn-itself : (m e f : Marked) (b p k : ℕ) (items others : List MarkItem) → IsTurn m e f → k ≡ places e → p < b + k → items ≡ after e b p → others ≡ first f (b + k)
    → MOST_MOVES < length (replaced items others) → NotBehind m b p
turn-itself m e f b p k items others turn size lt left right full = by turn
  where
    below_first : p < b + places e
    below_first = omega arith

    joined : length (replaced items others) ≡ length (after (both e f) b p)
    joined =
        ap (λ l. length (replaced l others)) left
        ∙ ap (λ l. length (replaced (after e b p) l)) (right ∙ ap (λ n. first f (b + n)) size)
        ∙ sym (ap length (after-left e f b p below_first))

    by : IsTurn m e f → NotBehind m b p
    by (inl is) = behind-itself m (both e f) b p (length (replaced items others)) is joined full
    by (inr is) = behind-itself m (further e f) b p (length (replaced items others)) is joined full
