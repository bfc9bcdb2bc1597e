-- Values joined together, and the first refusal.
use Rattle.std.proofs.Common.{◌≡◌, ℕ, zero, suc, ◌+◌, ◌-◌, ◌<◌, ◌≤◌, Bool, List, [], ◌∷◌, length, get_or, drop, take, refl, ap, ap₂, sym, ◌∙◌, arith, append_assoc, subst}
use Rattle.std.specs.Prelude.{Result, Ok, Err, All}
use Rattle.rl_pylex.specs.declared.token_list.Token.{Token}
use Rattle.rl_pylex.specs.Source.{IsReadAt}
use Rattle.std.proofs.lemmas.List.{append-nil, length-drop, take_all}
use Rattle.std.specs.Char.{len_utf8}
use Rattle.rl_pystr.specs.declared.escapes.Cause.{Cause}
use Rattle.rl_pystr.specs.declared.escapes.Cause.TheVariants as cause
use Rattle.rl_pystr.specs.declared.escapes.Gives.{Gives}
use Rattle.rl_pystr.specs.declared.fault.StrError.{StrError}
use Rattle.rl_pystr.specs.declared.fault.StrError.TheVariants as error
use Rattle.rl_pystr.specs.declared.placed.Placed.{Placed}
use Rattle.rl_pystr.specs.Escapes.{unit, size_of}
use Rattle.rl_pystr.specs.Values.{empty, joined, joined_results, refusal, given, value_from, IsRefused}
use Rattle.rl_pystr.specs.Runs.{token_value, values}

joined_by : List ℕ → List ℕ → Placed
joined_by codes places = record { codes = codes; places = places }

joined-assoc : (a b c : Placed) → joined (joined a b) c ≡ joined a (joined b c)
unfolding joined_by
joined-assoc a b c = ap₂ joined_by (append_assoc a.codes b.codes c.codes) (append_assoc a.places b.places c.places)

joined-empty : (a : Placed) → joined a empty ≡ a
unfolding joined_by
joined-empty a = ap₂ joined_by (append-nil a.codes) (append-nil a.places)

pub before_assoc : (p q r : Result Placed StrError) → joined_results (joined_results p q) r ≡ joined_results p (joined_results q r)
before_assoc (Ok a) (Ok b) (Ok c) = ap Ok (joined-assoc a b c)
before_assoc (Ok a) (Ok b) (Err e) = refl
before_assoc (Ok a) (Err e) r = refl
before_assoc (Err e) q r = refl

pub before-empty : (a : Placed) → joined_results (Ok a) (Ok empty) ≡ Ok a
before-empty a = ap Ok (joined-empty a)

pub empty-before : (r : Result Placed StrError) → joined_results (Ok empty) r ≡ r
empty-before (Ok a) = refl
empty-before (Err e) = refl

pub IsRefused-before : (p r : Result Placed StrError) (e : StrError) → IsRefused p e → IsRefused (joined_results p r) e
IsRefused-before p r error.OutOfMemory h = tt
IsRefused-before p r _ h = ap (λ q. joined_results q r) h

pub IsRefused-refusal : (why : Cause) (place : ℕ) → IsRefused (Err (refusal why place)) (refusal why place)
IsRefused-refusal cause.BadEscape place = refl
IsRefused-refusal cause.NamedEscape place = refl
IsRefused-refusal cause.NotAscii place = refl

pub IsRefused-memory : (r : Result Placed StrError) (e : StrError) → e ≡ error.OutOfMemory → IsRefused r e
IsRefused-memory r e h = subst (λ x. IsRefused r x) (sym h) tt

pub ruleset refusals = (IsRefused-refusal, IsRefused-memory, before-empty)

-- Everything after the first item.
pub behind_first : {A : Type 0} (xs : List A) → take (length xs - 1) (drop 1 xs) ≡ drop 1 xs
behind_first xs = take_all (length xs - 1) (drop 1 xs) (omega (arith, length-drop 1 xs))

-- A code point that is skipped.
pub value-skip : (raw bytes : Bool) (place skip : ℕ) (text : List ℕ) → 0 < skip → 0 < length text
    → value_from raw bytes place skip text ≡ value_from raw bytes (place + len_utf8 (get_or text 0 0)) (skip - 1) (drop 1 text)
value-skip raw bytes place zero text h k = absurd (omega arith)
value-skip raw bytes place (suc skip) [] h k = absurd (omega arith)
value-skip raw bytes place (suc skip) (c ∷ text) h k =
    ap (λ n. value_from raw bytes (place + len_utf8 c) n text) (omega arith)

-- A unit that the text begins with.
pub value-unit : (raw bytes : Bool) (place : ℕ) (text : List ℕ) → 0 < length text
    → value_from raw bytes place 0 text
    ≡ joined_results (given (unit raw bytes text) place) (value_from raw bytes (place + len_utf8 (get_or text 0 0)) (size_of (unit raw bytes text) - 1) (drop 1 text))
value-unit raw bytes place [] k = absurd (omega arith)
value-unit raw bytes place (c ∷ text) k = refl

pub step_more : (raw bytes : Bool) (place : ℕ) (text : List ℕ) (old new : Placed) → 0 < length text
    → Ok new ≡ joined_results (Ok old) (given (unit raw bytes text) place)
    → joined_results (Ok old) (value_from raw bytes place 0 text) ≡ joined_results (Ok new) (value_from raw bytes (place + len_utf8 (get_or text 0 0)) (size_of (unit raw bytes text) - 1) (drop 1 text))
step_more raw bytes place text old new some e =
    let rest = value_from raw bytes (place + len_utf8 (get_or text 0 0)) (size_of (unit raw bytes text) - 1) (drop 1 text) in
    ap (joined_results (Ok old)) (value-unit raw bytes place text some)
    ∙ sym (before_assoc (Ok old) (given (unit raw bytes text) place) rest)
    ∙ ap (λ p. joined_results p rest) (sym e)

pub step_refused : (raw bytes : Bool) (place : ℕ) (text : List ℕ) (old : Placed) (e : StrError) → 0 < length text
    → IsRefused (joined_results (Ok old) (given (unit raw bytes text) place)) e
    → IsRefused (joined_results (Ok old) (value_from raw bytes place 0 text)) e
step_refused raw bytes place text old e some h =
    let rest = value_from raw bytes (place + len_utf8 (get_or text 0 0)) (size_of (unit raw bytes text) - 1) (drop 1 text) in
    let same : joined_results (joined_results (Ok old) (given (unit raw bytes text) place)) rest ≡ joined_results (Ok old) (value_from raw bytes place 0 text) =
    before_assoc (Ok old) (given (unit raw bytes text) place) rest ∙ ap (joined_results (Ok old)) (sym (value-unit raw bytes place text some)) in
    subst (λ r. IsRefused r e) same (IsRefused-before (joined_results (Ok old) (given (unit raw bytes text) place)) rest e h)

pub step_skips : (raw bytes : Bool) (place skip : ℕ) (text : List ℕ) (old : Placed) → 0 < skip → 0 < length text
    → joined_results (Ok old) (value_from raw bytes place skip text) ≡ joined_results (Ok old) (value_from raw bytes (place + len_utf8 (get_or text 0 0)) (skip - 1) (drop 1 text))
step_skips raw bytes place skip text old h k = ap (joined_results (Ok old)) (value-skip raw bytes place skip text h k)

-- The first unit is read, and what it gives is appended.
pub step_done : (raw bytes : Bool) (place skip next : ℕ) (text : List ℕ) (old new : Placed) (gives : Gives) → skip ≤ 0 → 0 < length text
    → gives ≡ unit raw bytes text → Ok new ≡ joined_results (Ok old) (given gives place) → next ≡ size_of gives - 1
    → joined_results (Ok old) (value_from raw bytes place skip text) ≡ joined_results (Ok new) (value_from raw bytes (place + len_utf8 (get_or text 0 0)) next (drop 1 text))
step_done raw bytes place skip next text old new gives none some u e size =
    ap (λ k. joined_results (Ok old) (value_from raw bytes place k text)) (omega arith)
    ∙ step_more raw bytes place text old new some (e ∙ ap (λ g. joined_results (Ok old) (given g place)) u)
    ∙ ap (λ k. joined_results (Ok new) (value_from raw bytes (place + len_utf8 (get_or text 0 0)) k (drop 1 text))) (ap (λ g. size_of g - 1) (sym u) ∙ sym size)

pub ruleset steps = (step_more, step_refused, step_skips)

-- One more token.
pub token_done : (p q : Result Placed StrError) (old new : Placed) → Ok new ≡ joined_results (Ok old) p → joined_results (Ok old) (joined_results p q) ≡ joined_results (Ok new) q
token_done p q old new e = sym (before_assoc (Ok old) p q) ∙ ap (λ r. joined_results r q) (sym e)

pub token_refused : (p q : Result Placed StrError) (old : Placed) (e : StrError) → IsRefused (joined_results (Ok old) p) e → IsRefused (joined_results (Ok old) (joined_results p q)) e
token_refused p q old e h =
    subst (λ r. IsRefused r e) (before_assoc (Ok old) p q) (IsRefused-before (joined_results (Ok old) p) q e h)

pub front_done : (bytes : Bool) (s : List ℕ) (run : List Token) (t d : Token) (old new : Placed) → 0 < length run → t ≡ get_or run 0 d → Ok new ≡ joined_results (Ok old) (token_value bytes s t)
    → joined_results (Ok old) (values bytes s run) ≡ joined_results (Ok new) (values bytes s (drop 1 run))
front_done bytes s [] t d old new some e h = absurd (omega arith)
front_done bytes s (x ∷ xs) t d old new some e h =
    token_done (token_value bytes s x) (values bytes s xs) old new (h ∙ ap (λ u. joined_results (Ok old) (token_value bytes s u)) e)

pub front_refused : (bytes : Bool) (s : List ℕ) (run : List Token) (t d : Token) (old : Placed) (e : StrError) → 0 < length run → t ≡ get_or run 0 d → IsRefused (joined_results (Ok old) (token_value bytes s t)) e
    → IsRefused (joined_results (Ok old) (values bytes s run)) e
front_refused bytes s [] t d old e some same h = absurd (omega arith)
front_refused bytes s (x ∷ xs) t d old e some same h =
    token_refused (token_value bytes s x) (values bytes s xs) old e (subst (λ u. IsRefused (joined_results (Ok old) (token_value bytes s u)) e) same h)

pub front_read : (s : List ℕ) (run : List Token) (d : Token) → 0 < length run → All (IsReadAt s) run → IsReadAt s (get_or run 0 d)
front_read s run d some h = h 0 d some

pub rest_read : (s : List ℕ) (run : List Token) → All (IsReadAt s) run → All (IsReadAt s) (drop 1 run)
rest_read s [] h = h
rest_read s (x ∷ xs) h = λ k d l. h (suc k) d (omega arith)

pub ruleset runs = (IsRefused-memory, before-empty, empty-before)
