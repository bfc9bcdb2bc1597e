-- The JSON form of a certificate: how it is written, as one compact line, and how it is read, in any layout. A certificate is
-- a verdict with a family of texts (heads and pumps), and four lists: anchors, which are two states each; a rank for each
-- state; doubles, which are two states with a number; and triples, which are three states with a number. What is read is an
-- option: it is none if the value doesn't have the form that is asked for.
use Rattle.std.specs.Prelude.{◌≡◌, ℕ, ◌<◌, ◌≤◌, ◌^◌, Bool, false, ◌&&◌, ◌==◌, nat_lt, List, [], ◌∷◌, ◌++◌, map, length, All, Option, Some, None, option_map, option_and_then, codes, IsUtf8, if◌then◌else◌}
use Rattle.std.specs.Option.{option_map_or}
use Rattle.std.specs.Str.{bytes_eq}
use Rattle.serde_json.specs.Data.{Data, Items, no_items, item, Members, no_members, number, unsigned, string, array, object, put}
use Rattle.serde_json.specs.Events.{members_len}
use Rattle.serde_json.specs.Find.{get, as_array, as_number, as_object, as_str, as_u64}
use Rattle.serde_json.specs.Read.{read}
use Rattle.serde_json.specs.View.{items_of}
use Rattle.serde_json.specs.Written.{compact_text}
use Rattle.rl_syntax.specs.declared.verdict.Family.{Family}
use Rattle.rl_syntax.specs.declared.verdict.Verdict.{Verdict}
use Rattle.rl_syntax.specs.declared.verdict.Verdict.TheVariants.{Degree, Expo, Undecided}
use Rattle.rl_cert.specs.declared.certificate.Anchor.{Anchor}
use Rattle.rl_numbers.specs.declared.double.Double.{Double}
use Rattle.rl_numbers.specs.declared.triple.Triple.{Triple}
use Rattle.rl_cert.specs.declared.certificate.Certificate.{Certificate}
use Rattle.rl_cert.specs.declared.limits.TheConstants.{MOST_CERTIFICATE_BYTES}

-- ---- writing

-- The number as a JSON number.
abbrev pub whole : ℕ → Data
whole n = number (unsigned n)

-- A row of numbers as a JSON array.
abbrev pub row_data : List ℕ → Data
row_data row = array (items_of (map whole row))

-- Rows of numbers as a JSON array of arrays.
abbrev pub rows_data : List (List ℕ) → Data
rows_data rows = array (items_of (map row_data rows))

-- An anchor, which is two states, as the row `[r, q]`.
abbrev pub anchor_row : Anchor → List ℕ
anchor_row a = a.r ∷ (a.q ∷ [])

-- A double, which is two states with a number, as the row `[p, q, number]`.
abbrev pub double_row : Double → List ℕ
double_row d = d.p ∷ (d.q ∷ (d.number ∷ []))

-- A triple, which is three states with a number, as the row `[p, q, r, number]`.
abbrev pub triple_row : Triple → List ℕ
triple_row t = t.p ∷ (t.q ∷ (t.r ∷ (t.number ∷ [])))

-- The members that every certificate has: the version 1, the four lists of the certificate `c`, and the heads and pumps of the
-- family `f`. The kind and the degree aren't among them.
abbrev pub common_members : Certificate → Family → Members
common_members c f =
    put (codes "version") (whole 1)
    (put (codes "triples") (rows_data (map triple_row c.triples))
    (put (codes "ranks") (row_data c.ranks)
    (put (codes "pumps") (rows_data f.pumps)
    (put (codes "heads") (rows_data f.heads)
    (put (codes "doubles") (rows_data (map double_row c.doubles))
    (put (codes "anchors") (rows_data (map anchor_row c.anchors)) no_members))))))

-- The members of a certificate. A degree has one member more than exponential growth: the degree itself. An undecided verdict,
-- which no certificate has, gives no members.
abbrev pub form_members : Certificate → Verdict → Members
form_members c (Degree d f) = put (codes "kind") (string (codes "degree")) (put (codes "degree") (whole d) (common_members c f))
form_members c (Expo f) = put (codes "kind") (string (codes "exponential")) (common_members c f)
form_members c (Undecided limit) = no_members

-- The text that is written for a certificate: its object as compact JSON, followed by a line feed.
abbrev pub form_text : Certificate → List ℕ
form_text c = compact_text (object (form_members c c.verdict)) ++ codes "\n"

-- ---- reading

-- The number if it is less than 2^32, or none.
abbrev pub fitting : ℕ → Option ℕ
fitting n = if nat_lt n (2 ^ 32) then Some n else None

-- The value read as a whole number from 0 to 2^32 - 1, or none.
abbrev pub number_read : Data → Option ℕ
number_read d = option_and_then fitting (option_and_then as_u64 (as_number d))

-- The items of a JSON array, each read by `f`, or none if one of them can't be read. No items are read as the empty list.
abbrev pub items_read : {A : Type 0} → (Data → Option A) → Items → Option (List A)
items_read f no_items = Some []
items_read f (item d ds) = option_and_then (λ x. option_map (λ xs. x ∷ xs) (items_read f ds)) (f d)

-- The value read as an array of whole numbers from 0 to 2^32 - 1, or none.
abbrev pub row_read : Data → Option (List ℕ)
row_read d = option_and_then (items_read number_read) (as_array d)

-- The value read as an array of arrays of whole numbers from 0 to 2^32 - 1, or none.
abbrev pub rows_read : Data → Option (List (List ℕ))
rows_read d = option_and_then (items_read row_read) (as_array d)

-- The results of `f` for all members of the list, in order, or none if there is no result for one of them. The result for the
-- empty list is the empty list.
abbrev pub all_of : {A B : Type 0} → (A → Option B) → List A → Option (List B)
all_of f [] = Some []
all_of f (x ∷ l) = option_and_then (λ y. option_map (λ ys. y ∷ ys) (all_of f l)) (f x)

-- The anchor that a row describes, or none if the row doesn't have exactly two numbers.
abbrev pub anchor_of : List ℕ → Option Anchor
anchor_of (r ∷ (q ∷ [])) = Some (record { r = r; q = q })
anchor_of row = None

-- The double that a row describes, or none if the row doesn't have exactly three numbers.
abbrev pub double_of : List ℕ → Option Double
double_of (p ∷ (q ∷ (k ∷ []))) = Some (record { p = p; q = q; number = k })
double_of row = None

-- The triple that a row describes, or none if the row doesn't have exactly four numbers.
abbrev pub triple_of : List ℕ → Option Triple
triple_of (p ∷ (q ∷ (r ∷ (k ∷ [])))) = Some (record { p = p; q = q; r = r; number = k })
triple_of row = None

-- The value read as a list of anchors, or none if it isn't an array whose items are arrays of two whole numbers below 2^32.
abbrev pub anchors_read : Data → Option (List Anchor)
anchors_read d = option_and_then (all_of anchor_of) (rows_read d)

-- The value read as a list of doubles, or none if it isn't an array whose items are arrays of three whole numbers below 2^32.
abbrev pub doubles_read : Data → Option (List Double)
doubles_read d = option_and_then (all_of double_of) (rows_read d)

-- The value read as a list of triples, or none if it isn't an array whose items are arrays of four whole numbers below 2^32.
abbrev pub triples_read : Data → Option (List Triple)
triples_read d = option_and_then (all_of triple_of) (rows_read d)

-- The member of the value `d` at the key `key`, read by `f`, or none if `d` has no such member or it can't be read.
abbrev pub read_at : {A : Type 0} → (Data → Option A) → List ℕ → Data → Option A
read_at f key d = option_and_then f (get key d)

-- The family of a certificate, made of the members `heads` and `pumps`, or none if one of them is missing or can't be read.
abbrev pub family_read : Data → Option Family
family_read d =
    option_and_then (λ heads. option_map (λ pumps. record { heads = heads; pumps = pumps }) (read_at rows_read (codes "pumps") d))
    (read_at rows_read (codes "heads") d)

-- The number of members of an object, or 0 for any other value.
abbrev pub member_count : Data → ℕ
member_count d = option_map_or members_len (as_object d) 0

-- The verdict of the kind `kind` with the family `f`, for the value `d`. For the kind `degree`, `d` must have exactly nine
-- members, one of which is the degree; for the kind `exponential`, exactly eight. So no unknown key is accepted. It is none
-- for another number of members, for another kind, and if the degree can't be read.
abbrev pub verdict_of : List ℕ → Family → Data → Option Verdict
verdict_of kind f d =
    if bytes_eq kind (codes "degree")
    then (if member_count d == 9 then option_map (λ n. Degree n f) (read_at number_read (codes "degree") d) else None)
    else (if bytes_eq kind (codes "exponential") && (member_count d == 8) then Some (Expo f) else None)

-- The verdict of a certificate, by its kind and its family, or none if it can't be read.
abbrev pub verdict_read : Data → Option Verdict
verdict_read d =
    option_and_then (λ kind. option_and_then (λ f. verdict_of kind f d) (family_read d)) (read_at as_str (codes "kind") d)

-- Whether there is a version, and it is 1.
abbrev pub is_version : Option ℕ → Bool
is_version version = option_map_or (λ n. n == 1) version false

-- The certificate with the given verdict and the lists that are read from the value, or none if one of them is missing or
-- can't be read.
abbrev pub lists_read : Verdict → Data → Option Certificate
lists_read verdict d =
    option_and_then (λ anchors. option_and_then (λ ranks. option_and_then (λ doubles. option_map (λ triples.
    record { verdict = verdict; anchors = anchors; ranks = ranks; doubles = doubles; triples = triples })
    (read_at triples_read (codes "triples") d)) (read_at doubles_read (codes "doubles") d))
    (read_at row_read (codes "ranks") d)) (read_at anchors_read (codes "anchors") d)

-- The value read as a certificate, or none if its version isn't 1 or if a part of it is missing or can't be read.
abbrev pub certificate_read : Data → Option Certificate
certificate_read d =
    if is_version (read_at number_read (codes "version") d) then option_and_then (λ verdict. lists_read verdict d) (verdict_read d) else None

-- The bytes are a form of the certificate: they are at most `MOST_CERTIFICATE_BYTES`, they are UTF-8 and JSON, and the JSON
-- value is read as this certificate.
pub record IsForm (bytes : List ℕ) (c : Certificate) : Type 0 where
  pub small : length bytes ≤ MOST_CERTIFICATE_BYTES
  pub utf8 : IsUtf8 bytes
  pub value : Data
  pub reads : read bytes ≡ Some value
  pub holds : certificate_read value ≡ Some c

-- ---- what can be written

-- The number fits 32 bits.
abbrev pub FitsU32 : ℕ → Type 0
FitsU32 n = n < 2 ^ 32

-- All numbers of the rows fit 32 bits.
abbrev pub AllFitU32 : List (List ℕ) → Type 0
AllFitU32 rows = All (All FitsU32) rows

-- The verdict isn't undecided.
abbrev pub IsDecided : Verdict → Type 0
IsDecided (Degree d f) = Unit {0}
IsDecided (Expo f) = Unit {0}
IsDecided (Undecided limit) = ⊥

-- The verdict isn't undecided, and all its numbers fit 32 bits.
abbrev pub VerdictFitsU32 : Verdict → Type 0
VerdictFitsU32 (Degree d f) = FitsU32 d × AllFitU32 f.heads × AllFitU32 f.pumps
VerdictFitsU32 (Expo f) = AllFitU32 f.heads × AllFitU32 f.pumps
VerdictFitsU32 (Undecided limit) = ⊥

-- The verdict isn't undecided, and all numbers of the certificate fit 32 bits.
pub record IsWritten (c : Certificate) : Type 0 where
  pub verdict : VerdictFitsU32 c.verdict
  pub anchors : AllFitU32 (map anchor_row c.anchors)
  pub ranks : All FitsU32 c.ranks
  pub doubles : AllFitU32 (map double_row c.doubles)
  pub triples : AllFitU32 (map triple_row c.triples)
