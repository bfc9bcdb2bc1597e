-- The tokens of a run, and its last literal.
use Rattle.std.proofs.Common.{◌≡◌, ℕ, zero, suc, ◌+◌, ◌-◌, ◌<◌, ◌≤◌, Bool, true, false, List, [], ◌∷◌, length, get_or, drop, take, sym, ◌∙◌, arith, Some, None, Option, subst}
use Rattle.std.specs.Prelude.{All, IsTrue, IsUtf8, slice_get}
use Rattle.std.specs.Option.{option_map_or}
use Rattle.std.proofs.lemmas.Bool.{false≢true}
use Rattle.std.proofs.lemmas.List.{length-drop, length-take, get_or-take, get_or-drop}
use Rattle.rl_pylex.specs.declared.token_list.Token.{Token}
use Rattle.rl_pylex.specs.Literals.{IsLiteral}
use Rattle.rl_pylex.specs.Source.{text_of, IsReadAt, IsTokenList}
use Rattle.rl_pylex.proofs.TokenFacts.{IsInOrder-tokens}
use Rattle.rl_pystr.specs.Runs.{is_literal, ends_literal, quotes_of}
use Rattle.rl_pystr.proofs.Bounds.{quotes_room, literal_token}

get_or-drop-take : (n m : ℕ) (ts : List Token) (k : ℕ) (d : Token) → k < length (take n (drop m ts)) → (m + k < length ts) × (get_or (take n (drop m ts)) k d ≡ get_or ts (m + k) d)
get_or-drop-take n m ts k d h =
    let inside : k < n = omega (arith, length-take n (drop m ts)) in
    (omega (arith, length-take n (drop m ts), length-drop m ts), get_or-take n (drop m ts) k d inside ∙ get_or-drop m ts k d)

-- Each token of a run is what is read at its place.
pub run_read : (s : List ℕ) (ts : List Token) (n m : ℕ) → IsTokenList s ts → All (IsReadAt s) (take n (drop m ts))
run_read s ts n m h = λ k d l.
    let same = get_or-drop-take n m ts k d l in
    subst (IsReadAt s) (sym same.1) ((IsInOrder-tokens s ts h).each (m + k) d same.0)

pub source_utf8 : (s : List ℕ) (ts : List Token) → IsTokenList s ts → IsUtf8 s
source_utf8 s ts h = h.readable.utf8

pub source_short : (s : List ℕ) (ts : List Token) → IsTokenList s ts → length s ≤ 4194304
source_short s ts h = h.readable.short

pub quotes_before : (s : List ℕ) (t : Token) → IsLiteral (text_of s t) → quotes_of (text_of s t) ≤ t.upto
quotes_before s t l =
    omega (arith, quotes_room (text_of s t) l, length-take (t.upto - t.from) (drop t.from s))

none_is_no : (t : Token) → None ≡ Some t → ⊥
none_is_no t e = cc

one_token : (x t : Token) → Some x ≡ Some t → x ≡ t
one_token x t e = cc

from_true : (b : Bool) → IsTrue b → b ≡ true
from_true b h = h

get_read : (xs : List Token) (i : ℕ) (t : Token) → slice_get xs i ≡ Some t → (i < length xs) × (get_or xs i t ≡ t)
get_read [] i t h = absurd (none_is_no t h)
get_read (x ∷ xs) zero t h = (omega arith, one_token x t h)
get_read (x ∷ xs) (suc i) t h =
    let later = get_read xs i t h in (omega (arith, later.0), later.1)

pub last_read : (s : List ℕ) (run : List Token) (t : Token) → All (IsReadAt s) run → slice_get run (length run - 1) ≡ Some t → is_literal t ≡ true → IsLiteral (text_of s t)
last_read s run t read last literal =
    let place = get_read run (length run - 1) t last in
    literal_token s t (subst (IsReadAt s) place.1 (read (length run - 1) t place.0)) literal

pub some_last : (run : List Token) (t : Token) → slice_get run (length run - 1) ≡ Some t → IsTrue (ends_literal run) → is_literal t ≡ true
some_last run t e h =
    from_true (is_literal t) (subst (λ (o : Option Token). IsTrue (option_map_or is_literal o false)) e h)

pub none_last : (run : List Token) → slice_get run (length run - 1) ≡ None → IsTrue (ends_literal run) → ⊥
none_last run e h =
    false≢true (subst (λ (o : Option Token). IsTrue (option_map_or is_literal o false)) e h)

pub ruleset ends = (run_read, source_utf8, source_short, quotes_before, last_read, some_last, none_last)
