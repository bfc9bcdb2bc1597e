-- The table of the meanings of names, alias by alias.
use Rattle.std.proofs.Common.{◌≡◌, ℕ, ◌+◌, ◌<◌, ◌≤◌, Bool, true, false, cond, List, [], ◌∷◌, take, length, get_or, refl, ap, ap₂, sym, ◌∙◌, arith, Some, None, Option}
use Rattle.std.specs.Prelude.{◌||◌, ◌&&◌, map, slice_get, bytes_eq, nat_lt, nat_le, ⊤, unwrap_or}
use Rattle.std.specs.Map.{lookup}
use Rattle.std.specs.Option.{is_none, option_map_or}
use Rattle.std.proofs.lemmas.Bool.Decides.{nat_tests}
use Rattle.std.proofs.lemmas.List.Folds.{list_any_more}
use Rattle.std.proofs.lemmas.Slice.Eq.{bytes_eq-Decides}
use denote.Ref.{Bor}
use Rattle.rl_sites.specs.declared.significant.SignificantToken.{SignificantToken}
use Rattle.rl_sites.specs.declared.imports.Alias.{Alias}
use Rattle.rl_sites.specs.declared.call.Call.{Call}
use Rattle.rl_sites.specs.declared.call.Call.TheVariants as call
use Rattle.rl_sites.specs.declared.flag.Flag.{Flag}
use Rattle.rl_sites.specs.declared.flag.Flag.TheVariants as flag
use Rattle.rl_sites.specs.declared.meaning.Meaning.{Meaning}
use Rattle.rl_sites.specs.Significant.{word_of}
use Rattle.rl_sites.specs.Names.{calls, call_word, flag_names, names_any_module, names_any_member}
use Rattle.rl_sites.specs.internal.Meanings.{call_of, call_rank, flag_rank, earlier, nothing, joined, own_meaning, meaning_with, meaning_of, meaning_in, IsMeaningTable, flag_of, first_call, first_flag}

-- Whether the alias is one of the module.
abbrev is_of_module : Option SignificantToken → Bool
is_of_module member = is_none member

-- Whether the alias is one of the member with this name.
abbrev is_of_member : List ℕ → List ℕ → Option SignificantToken → Bool
is_of_member source word member = option_map_or (λ m. bytes_eq (word_of source m) word) member false

-- Whether the alias gives this name to the module.
abbrev names_module : List ℕ → List ℕ → Alias → Bool
names_module source name alias = bytes_eq (word_of source alias.name) name && is_of_module alias.member

-- Whether the alias gives this name to the member with that name.
abbrev names_member : List ℕ → List ℕ → List ℕ → Alias → Bool
names_member source name member alias =
    bytes_eq (word_of source alias.name) name && is_of_member source member alias.member

-- The ranks of the values in a table don't decrease.
abbrev from_on : {X : Type 0} → (X → ℕ) → ℕ → List (List ℕ × X) → Bool
from_on rank n [] = true
from_on rank n ((k, x) ∷ es) = nat_le n (rank x) && from_on rank n es

abbrev rising : {X : Type 0} → (X → ℕ) → List (List ℕ × X) → Bool
rising rank [] = true
rising rank ((k, x) ∷ es) = from_on rank (rank x) es && rising rank es

-- What is found has a rank of at least n.
abbrev IsFrom : {X : Type 0} → (X → ℕ) → ℕ → Option X → Type 0
IsFrom rank n None = ⊤
IsFrom rank n (Some x) = n ≤ rank x

-- No two values have the same rank.
abbrev IsOneEach : {X : Type 0} → (X → ℕ) → Type 0
IsOneEach {X} rank = (x y : X) → rank x ≡ rank y → x ≡ y

and_left : (a b : Bool) → (a && b) ≡ true → a ≡ true
and_left true b h = refl
and_left false b h = h

and_right : (a b : Bool) → (a && b) ≡ true → b ≡ true
and_right true b h = h
and_right false b h = cc

le_from : (m n : ℕ) → nat_le m n ≡ true → m ≤ n
le_from m n h = grind (arith, nat_tests)

lookup-from : {X : Type 0} (rank : X → ℕ) (p : List ℕ → Bool) (n : ℕ) (es : List (List ℕ × X)) → from_on rank n es ≡ true → IsFrom rank n (lookup p es)
lookup-from rank p n [] h = tt
lookup-from rank p n ((k, x) ∷ es) h =
    elim (p k) as (λ b. IsFrom rank n (cond b (Some x) (lookup p es))) [
      | true ↦ le_from n (rank x) (and_left (nat_le n (rank x)) (from_on rank n es) h)
      | false ↦ lookup-from rank p n es (and_right (nat_le n (rank x)) (from_on rank n es) h)
    ]

cond_false : {X : Type 0} (b : Bool) (x y : X) → b ≡ false → cond b x y ≡ y
cond_false true x y h = cc
cond_false false x y h = refl

not_lt : (m n : ℕ) → n ≤ m → nat_lt m n ≡ false
not_lt m n h = grind (arith, nat_tests)

not_less : (m n : ℕ) → nat_lt m n ≡ false → n ≤ m
not_less m n h = grind (arith, nat_tests)

not_below : {X : Type 0} (rank : X → ℕ) (x : X) (o : Option X) → IsFrom rank (rank x) o → earlier rank (Some x) o ≡ Some x
not_below rank x None h = refl
not_below rank x (Some y) h = cond_false (nat_lt (rank y) (rank x)) (Some y) (Some x) (not_lt (rank y) (rank x) h)

below : {X : Type 0} (rank : X → ℕ) (x : X) (o : Option X) → IsOneEach rank → IsFrom rank (rank x) o → earlier rank o (Some x) ≡ Some x
below rank x None one h = refl
below rank x (Some y) one h = by-test (nat_lt (rank x) (rank y)) refl
  where
    by-test : (b : Bool) → nat_lt (rank x) (rank y) ≡ b → cond b (Some x) (Some y) ≡ Some x
    by-test true e = refl
    by-test false e = ap Some (one y x (omega (arith, h, not_less (rank x) (rank y) e)))

or_case : {X : Type 0} (rank : X → ℕ) (a b : Bool) (x : X) (both first second : Option X) → IsOneEach rank → both ≡ earlier rank first second
    → IsFrom rank (rank x) first → IsFrom rank (rank x) second
    → cond (a || b) (Some x) both ≡ earlier rank (cond a (Some x) first) (cond b (Some x) second)
or_case rank true true x both first second one h k l = sym (not_below rank x (Some x) (omega arith))
or_case rank true false x both first second one h k l = sym (not_below rank x second l)
or_case rank false true x both first second one h k l = sym (below rank x first one k)
or_case rank false false x both first second one h k l = h

-- The first value that satisfies one of two tests is the earlier one of the first values that satisfy each of them.
lookup-or : {X : Type 0} (rank : X → ℕ) (p q : List ℕ → Bool) (es : List (List ℕ × X)) → IsOneEach rank → rising rank es ≡ true
    → lookup (λ k. p k || q k) es ≡ earlier rank (lookup p es) (lookup q es)
lookup-or rank p q [] one h = refl
lookup-or rank p q ((k, x) ∷ es) one h =
    let higher : from_on rank (rank x) es ≡ true = and_left (from_on rank (rank x) es) (rising rank es) h in
    or_case rank (p k) (q k) x (lookup (λ j. p j || q j) es) (lookup p es) (lookup q es) one
    (lookup-or rank p q es one (and_right (from_on rank (rank x) es) (rising rank es) h)) (lookup-from rank p (rank x) es higher) (lookup-from rank q (rank x) es higher)

lookup-same : {X : Type 0} (p q : List ℕ → Bool) (es : List (List ℕ × X)) → ((k : List ℕ) → p k ≡ q k) → lookup p es ≡ lookup q es
lookup-same p q [] h = refl
lookup-same p q ((k, x) ∷ es) h = ap₂ (λ b o. cond b (Some x) o) (h k) (lookup-same p q es h)

or_false : (b : Bool) → (b || false) ≡ b
or_false true = refl
or_false false = refl

-- One more test, if it counts.
lookup_case : {X : Type 0} (rank : X → ℕ) (b : Bool) (p q : List ℕ → Bool) (es : List (List ℕ × X)) → IsOneEach rank → rising rank es ≡ true
    → lookup (λ k. p k || (b && q k)) es ≡ cond b (earlier rank (lookup p es) (lookup q es)) (lookup p es)
lookup_case rank true p q es one h = lookup-or rank p q es one h
lookup_case rank false p q es one h = lookup-same (λ k. p k || false) p es (λ k. or_false (p k))

-- The functions with their names.
abbrev call_names : List (List ℕ × Call)
call_names = map (λ c. (call_word c, c)) calls

one_value : {X : Type 0} (x y : X) → Some x ≡ Some y → x ≡ y
one_value x y e = ap (λ o. unwrap_or o x) e

call_at : (c : Call) → slice_get calls (call_rank c) ≡ Some c
call_at call.Compile = refl
call_at call.Match = refl
call_at call.Search = refl
call_at call.Fullmatch = refl
call_at call.Findall = refl
call_at call.Finditer = refl
call_at call.Split = refl
call_at call.Sub = refl
call_at call.Subn = refl

one_call : IsOneEach call_rank
one_call c d e = one_value c d (sym (call_at c) ∙ ap (slice_get calls) e ∙ call_at d)

abbrev flags_in_order : List Flag
flags_in_order = flag.Ascii ∷ flag.IgnoreCase ∷ flag.Locale ∷ flag.Multiline ∷ flag.DotAll ∷ flag.Unicode ∷ flag.Verbose ∷ flag.Nothing ∷ []

flag_at : (f : Flag) → slice_get flags_in_order (flag_rank f) ≡ Some f
flag_at flag.Ascii = refl
flag_at flag.IgnoreCase = refl
flag_at flag.Locale = refl
flag_at flag.Multiline = refl
flag_at flag.DotAll = refl
flag_at flag.Unicode = refl
flag_at flag.Verbose = refl
flag_at flag.Nothing = refl

one_flag : IsOneEach flag_rank
one_flag f g e = one_value f g (sym (flag_at f) ∙ ap (slice_get flags_in_order) e ∙ flag_at g)

any_case : (b p q : Bool) → (p || (b && q)) ≡ cond b (p || q) p
any_case true p q = refl
any_case false p q = or_false p

made : Bool → Option Call → Option Flag → Meaning
made of_module call flag = record { of_module = of_module; call = call; flag = flag }

made_case : (b : Bool) (m n : Bool) (c d : Option Call) (f g : Option Flag) → made (cond b m n) (cond b c d) (cond b f g) ≡ cond b (made m c f) (made n d g)
made_case true m n c d f g = refl
made_case false m n c d f g = refl

member_more : (s : List ℕ) (al : List Alias) (i : ℕ) (a : Alias) (name member : List ℕ) → i < length al
    → names_any_member s (take (i + 1) al) name member ≡ (names_any_member s (take i al) name member || (bytes_eq (word_of s (get_or al i a).name) name && is_of_member s member (get_or al i a).member))
unfolding names_any_member
member_more s al i a name member h = list_any_more (names_member s name member) al i a h

module_more : (s : List ℕ) (al : List Alias) (i : ℕ) (a : Alias) (name : List ℕ) → i < length al
    → names_any_module s (take (i + 1) al) name ≡ (names_any_module s (take i al) name || (bytes_eq (word_of s (get_or al i a).name) name && is_of_module (get_or al i a).member))
unfolding names_any_module
module_more s al i a name h = list_any_more (names_module s name) al i a h

own_call : (s : List ℕ) (m : Option SignificantToken) → lookup (λ name. is_of_member s name m) call_names ≡ (own_meaning s m).call
unfolding call_of
own_call s None = refl
own_call s (Some m) = refl

own_flag : (s : List ℕ) (m : Option SignificantToken) → lookup (λ name. is_of_member s name m) flag_names ≡ (own_meaning s m).flag
unfolding flag_of
own_flag s None = refl
own_flag s (Some m) = refl

own_module : (s : List ℕ) (m : Option SignificantToken) → is_of_module m ≡ (own_meaning s m).of_module
own_module s None = refl
own_module s (Some m) = refl

-- What a table gives after one more alias.
value_more : {X : Type 0} (rank : X → ℕ) (table : List (List ℕ × X)) (s : List ℕ) (al : List Alias) (i : ℕ) (a : Alias) (name : List ℕ) → IsOneEach rank → rising rank table ≡ true → i < length al
    → lookup (names_any_member s (take (i + 1) al) name) table
    ≡ cond (bytes_eq (word_of s (get_or al i a).name) name)
    (earlier rank (lookup (names_any_member s (take i al) name) table) (lookup (λ k. is_of_member s k (get_or al i a).member) table))
    (lookup (names_any_member s (take i al) name) table)
value_more rank table s al i a name one order h =
    let b = bytes_eq (word_of s (get_or al i a).name) name in
    lookup-same (names_any_member s (take (i + 1) al) name) (λ k. names_any_member s (take i al) name k || (b && is_of_member s k (get_or al i a).member)) table
    (λ k. member_more s al i a name k h)
    ∙ lookup_case rank b (names_any_member s (take i al) name) (λ k. is_of_member s k (get_or al i a).member) table one order

call_more : (s : List ℕ) (al : List Alias) (i : ℕ) (a : Alias) (name : List ℕ) → i < length al
    → first_call s (take (i + 1) al) name ≡ cond (bytes_eq (word_of s (get_or al i a).name) name) (earlier call_rank (first_call s (take i al) name) (own_meaning s (get_or al i a).member).call) (first_call s (take i al) name)
unfolding first_call
call_more s al i a name h =
    let b = bytes_eq (word_of s (get_or al i a).name) name in
    let old = lookup (names_any_member s (take i al) name) call_names in
    value_more call_rank call_names s al i a name one_call refl h
    ∙ ap (λ (o : Option Call). cond b (earlier call_rank old o) old) (own_call s (get_or al i a).member)

flag_more : (s : List ℕ) (al : List Alias) (i : ℕ) (a : Alias) (name : List ℕ) → i < length al
    → first_flag s (take (i + 1) al) name ≡ cond (bytes_eq (word_of s (get_or al i a).name) name) (earlier flag_rank (first_flag s (take i al) name) (own_meaning s (get_or al i a).member).flag) (first_flag s (take i al) name)
unfolding first_flag
flag_more s al i a name h =
    let b = bytes_eq (word_of s (get_or al i a).name) name in
    let old = lookup (names_any_member s (take i al) name) flag_names in
    value_more flag_rank flag_names s al i a name one_flag refl h
    ∙ ap (λ (o : Option Flag). cond b (earlier flag_rank old o) old) (own_flag s (get_or al i a).member)

-- One more alias.
meaning_more : (s : List ℕ) (al : List Alias) (i : ℕ) (a : Alias) (name : List ℕ) → i < length al
    → meaning_of s (take (i + 1) al) name ≡ meaning_with s (get_or al i a) name (meaning_of s (take i al) name)
unfolding made
meaning_more s al i a name h =
    let b = bytes_eq (word_of s (get_or al i a).name) name in
    let old = meaning_of s (take i al) name in
    let own = own_meaning s (get_or al i a).member in
    ap (λ m. made m (first_call s (take (i + 1) al) name) (first_flag s (take (i + 1) al) name))
    (module_more s al i a name h ∙ any_case b old.of_module (is_of_module (get_or al i a).member) ∙ ap (λ m. cond b (old.of_module || m) old.of_module) (own_module s (get_or al i a).member))
    ∙ ap₂ (made (cond b (old.of_module || own.of_module) old.of_module)) (call_more s al i a name h) (flag_more s al i a name h)
    ∙ made_case b (old.of_module || own.of_module) old.of_module (earlier call_rank old.call own.call) old.call (earlier flag_rank old.flag own.flag) old.flag

meaning_none : (s : List ℕ) (name : List ℕ) → nothing ≡ meaning_of s [] name
unfolding names_any_module names_any_member first_call first_flag
meaning_none s name = refl

-- A table without entries.
pub meant_none : (s : List ℕ) (al : List Alias) (entries : List (Bor (List ℕ) × Meaning)) → entries ≡ [] → IsMeaningTable s (take 0 al) entries
meant_none s al entries h =
    record { each = λ name. ap (λ (es : List (Bor (List ℕ) × Meaning)). meaning_in es name) h ∙ meaning_none s name }

-- One alias is added to the table.
pub meant_more : (s : List ℕ) (al : List Alias) (i : ℕ) (a d : Alias) (old new : List (Bor (List ℕ) × Meaning)) → i < length al → a ≡ get_or al i d
    → IsMeaningTable s (take i al) old → ((name : List ℕ) → meaning_in new name ≡ meaning_with s a name (meaning_in old name)) → IsMeaningTable s (take (i + 1) al) new
meant_more s al i a d old new h e was more = record {
  each = λ name.
      more name
      ∙ ap₂ (λ (x : Alias) (m : Meaning). meaning_with s x name m) e (was.each name)
      ∙ sym (meaning_more s al i d name h);
}

value_case : (b : Bool) (o : Option Meaning) (value : Meaning) → unwrap_or (cond b (Some value) o) nothing ≡ cond b value (unwrap_or o nothing)
value_case true o value = refl
value_case false o value = refl

with_case : (b : Bool) (key name : List ℕ) (old : List (Bor (List ℕ) × Meaning)) (own : Meaning) → (b ≡ true → key ≡ name)
    → cond b (joined (meaning_in old key) own) (meaning_in old name) ≡ cond b (joined (meaning_in old name) own) (meaning_in old name)
with_case true key name old own h = ap (λ (n : List ℕ). joined (meaning_in old n) own) (h refl)
with_case false key name old own h = refl

-- The entry of a name is written.
pub added : (old new : List (Bor (List ℕ) × Meaning)) (key name : List ℕ) (value own : Meaning)
    → lookup (λ (k : Bor (List ℕ)). bytes_eq name k.now) new ≡ cond (bytes_eq key name) (Some value) (lookup (λ (k : Bor (List ℕ)). bytes_eq name k.now) old)
    → value ≡ joined (meaning_in old key) own
    → meaning_in new name ≡ cond (bytes_eq key name) (joined (meaning_in old name) own) (meaning_in old name)
added old new key name value own h e =
    ap (λ (o : Option Meaning). unwrap_or o nothing) h
    ∙ value_case (bytes_eq key name) (lookup (λ (k : Bor (List ℕ)). bytes_eq name k.now) old) value
    ∙ ap (λ (m : Meaning). cond (bytes_eq key name) m (meaning_in old name)) e
    ∙ with_case (bytes_eq key name) key name old own (bytes_eq-Decides key name).0
