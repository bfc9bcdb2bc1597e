-- Values that can be read back from their text: whole numbers of 64 bits, texts in UTF-8, and members in the order of their
-- keys.
use Rattle.std.proofs.Common.{◌≡◌, ℕ, zero, suc, ◌<◌, ◌≤◌, ◌^◌, Bool, true, false, List, [], ◌∷◌, ◌++◌, Some, option_map, option_and_then, Ordering, Less, Equal, Greater, nat_cmp, decimal, IsUtf8, refl, ap, sym, ◌∙◌, arith, append-nil}
use Rattle.std.specs.Prelude.{⊤}
use Rattle.std.specs.Cmp.Lexicographic.{slice_cmp}
use Rattle.std.specs.Ordering.{match_ordering, ordering_reverse}
use Rattle.std.proofs.lemmas.Cmp.{nat_list_cmp_total}
use Rattle.std.proofs.lemmas.Fmt.{IsAscii-decimal}
use Rattle.std.proofs.lemmas.Str.{IsUtf8-append, IsUtf8-nil, IsUtf8-from_ascii}
use Rattle.json.specs.Json as json
use Rattle.json.specs.Lex.{tokens}
use Rattle.json.specs.Print.{quoted}
use Rattle.json.specs.Tree as tree
use Rattle.json.proofs.Printed.Decimals.{IsNumber-decimal}
use Rattle.json.proofs.Printed.Trees.{value-json_tokens, ArePrintable-json_tokens}
use Rattle.json.proofs.Printed.Utf8.{IsUtf8-quoted, IsUtf8-are_ascii}
use Rattle.serde_json.specs.Data.{Num, unsigned, negative, float, Data, null, boolean, number, string, array, object, Items, no_items, item, Members, no_members, member, put}
use Rattle.serde_json.specs.Read.{read, of_json, of_items, of_members, max_depth}
use Rattle.serde_json.specs.Written.{outline, items_outline, members_outline, comma_if, compact_text, items_text, members_text}
use Rattle.serde_json.proofs.Numbers.{number_of-decimal}
use Rattle.serde_json.proofs.Texts.{print-outline}
use Rattle.rl_json.proofs.LineEnd.{tokens-line}

abbrev IsWhole : Num → Type 0
IsWhole (unsigned n) = n < 2 ^ 64
IsWhole (negative z) = ⊥
IsWhole (float x) = ⊥

-- The key comes before the first of the members.
abbrev IsBefore : List ℕ → Members → Type 0
IsBefore k no_members = ⊤
IsBefore k (member l e ms) = slice_cmp nat_cmp k l ≡ Less

-- The value is nested at most `n` levels deep.
abbrev mutual
  pub IsWritable : ℕ → Data → Type 0
  IsWritable n null = ⊥
  IsWritable n (boolean b) = ⊥
  IsWritable n (number k) = IsWhole k
  IsWritable n (string s) = IsUtf8 s
  IsWritable zero (array ds) = ⊥
  IsWritable (suc n) (array ds) = AreWritableItems n ds
  IsWritable zero (object ms) = ⊥
  IsWritable (suc n) (object ms) = AreWritable n ms

  pub AreWritableItems : ℕ → Items → Type 0
  AreWritableItems n no_items = ⊤
  AreWritableItems n (item d ds) = IsWritable n d × AreWritableItems n ds

  pub AreWritable : ℕ → Members → Type 0
  AreWritable n no_members = ⊤
  AreWritable n (member k d ms) = IsUtf8 k × IsWritable n d × IsBefore k ms × AreWritable n ms

-- ---- adding members keeps them in order

put-before : (o : Ordering) (l k m : List ℕ) (d e : Data) (ms : Members) → slice_cmp nat_cmp l k ≡ Less → slice_cmp nat_cmp l m ≡ Less
    → IsBefore l (match_ordering o (member k d (member m e ms)) (member m d ms) (member m e (put k d ms)))
put-before Less l k m d e ms h i = h
put-before Equal l k m d e ms h i = i
put-before Greater l k m d e ms h i = i

before-put : (l k : List ℕ) (d : Data) (ms : Members) → slice_cmp nat_cmp l k ≡ Less → IsBefore l ms → IsBefore l (put k d ms)
before-put l k d no_members h i = h
before-put l k d (member m e ms) h i = put-before (slice_cmp nat_cmp k m) l k m d e ms h i

put-at : (n : ℕ) (o : Ordering) (k l : List ℕ) (d e : Data) (ms : Members) → slice_cmp nat_cmp k l ≡ o → IsUtf8 k → IsWritable n d → AreWritable n (member l e ms) → AreWritable n (put k d ms)
    → AreWritable n (match_ordering o (member k d (member l e ms)) (member l d ms) (member l e (put k d ms)))
put-at n Less k l d e ms is u w all later = (u, w, is, all)
put-at n Equal k l d e ms is u w all later = (all.0, w, all.2, all.3)
put-at n Greater k l d e ms is u w all later =
    let after : slice_cmp nat_cmp l k ≡ Less = nat_list_cmp_total.antisymm l k ∙ ap ordering_reverse is in
    (all.0, all.1, before-put l k d ms after all.2, later)

pub put-writable : (n : ℕ) (k : List ℕ) (d : Data) (ms : Members) → IsUtf8 k → IsWritable n d → AreWritable n ms → AreWritable n (put k d ms)
put-writable n k d no_members u w all = (u, w, tt, tt)
put-writable n k d (member l e ms) u w all = put-at n (slice_cmp nat_cmp k l) k l d e ms refl u w all (put-writable n k d ms u w all.3)

-- ---- the value of the text

-- The members, with one more at the end.
abbrev behind : Members → List ℕ → Data → Members
behind no_members k d = member k d no_members
behind (member l e ms) k d = member l e (behind ms k d)

abbrev joined : Members → Members → Members
joined no_members more = more
joined (member l e ms) more = member l e (joined ms more)

joined-behind : (ms : Members) (k : List ℕ) (d : Data) (more : Members) → joined (behind ms k d) more ≡ joined ms (member k d more)
joined-behind no_members k d more = refl
joined-behind (member l e ms) k d more = ap (member l e) (joined-behind ms k d more)

joined-none : (ms : Members) → joined ms no_members ≡ ms
joined-none no_members = refl
joined-none (member l e ms) = ap (member l e) (joined-none ms)

-- Each of the members comes before the key.
abbrev AreBefore : Members → List ℕ → Type 0
AreBefore no_members k = ⊤
AreBefore (member l e ms) k = (slice_cmp nat_cmp l k ≡ Less) × AreBefore ms k

put-last : (ms : Members) (k : List ℕ) (d : Data) → AreBefore ms k → put k d ms ≡ behind ms k d
put-last no_members k d h = refl
put-last (member l e ms) k d h =
    let above : slice_cmp nat_cmp k l ≡ Greater = nat_list_cmp_total.antisymm k l ∙ ap ordering_reverse h.0 in
    rw above (ap (member l e) (put-last ms k d h.1))

before-next : (ms : Members) (k m : List ℕ) (d : Data) → AreBefore ms k → slice_cmp nat_cmp k m ≡ Less → AreBefore (behind ms k d) m
before-next no_members k m d h i = (i, tt)
before-next (member l e ms) k m d h i = (nat_list_cmp_total.trans l k m h.0 i, before-next ms k m d h.1 i)

-- The members found so far come before the first of those that are left.
abbrev Precede : Members → Members → Type 0
Precede found no_members = ⊤
Precede found (member k d ms) = AreBefore found k

precede-next : (found : Members) (k : List ℕ) (d : Data) (ms : Members) → AreBefore found k → IsBefore k ms → Precede (behind found k d) ms
precede-next found k d no_members h i = tt
precede-next found k d (member m e ms) h i = before-next found k m d h i

mutual
  value-outline : (n : ℕ) (d : Data) → IsWritable n d → of_json (outline d) ≡ Some d
  value-outline n null h = absurd h
  value-outline n (boolean b) h = absurd h
  value-outline n (number (unsigned k)) h = ap (option_map number) (number_of-decimal k h)
  value-outline n (number (negative z)) h = absurd h
  value-outline n (number (float x)) h = absurd h
  value-outline n (string s) h = refl
  value-outline zero (array ds) h = absurd h
  value-outline (suc n) (array ds) h = ap (option_map array) (items-outline n ds h)
  value-outline zero (object ms) h = absurd h
  value-outline (suc n) (object ms) h = ap (option_map object) (members-outline n ms no_members h (from-none ms))

  items-outline : (n : ℕ) (ds : Items) → AreWritableItems n ds → of_items (items_outline ds) ≡ Some ds
  items-outline n no_items h = refl
  items-outline n (item d ds) h =
      ap (option_and_then (λ v. option_map (item v) (of_items (items_outline ds)))) (value-outline n d h.0) ∙ ap (option_map (item d)) (items-outline n ds h.1)

  members-outline : (n : ℕ) (ms found : Members) → AreWritable n ms → Precede found ms → of_members (members_outline ms) found ≡ Some (joined found ms)
  members-outline n no_members found h p = ap Some (sym (joined-none found))
  members-outline n (member k d ms) found h p =
      ap (option_and_then (λ v. of_members (members_outline ms) (put k v found))) (value-outline n d h.1)
      ∙ ap (of_members (members_outline ms)) (put-last found k d p)
      ∙ members-outline n ms (behind found k d) h.3 (precede-next found k d ms p h.2)
      ∙ ap Some (joined-behind found k d ms)

  from-none : (ms : Members) → Precede no_members ms
  from-none no_members = tt
  from-none (member k d ms) = tt

-- ---- its depth and its numbers

mutual
  depth-outline : (n : ℕ) (d : Data) → IsWritable n d → tree.depth (outline d) ≤ n
  depth-outline n null h = absurd h
  depth-outline n (boolean b) h = absurd h
  depth-outline n (number k) h = omega arith
  depth-outline n (string s) h = omega arith
  depth-outline zero (array ds) h = absurd h
  depth-outline (suc n) (array ds) h = let below : tree.items_depth (items_outline ds) ≤ n = items-depth n ds h in omega arith
  depth-outline zero (object ms) h = absurd h
  depth-outline (suc n) (object ms) h = let below : tree.members_depth (members_outline ms) ≤ n = members-depth n ms h in omega arith

  items-depth : (n : ℕ) (ds : Items) → AreWritableItems n ds → tree.items_depth (items_outline ds) ≤ n
  items-depth n no_items h = omega arith
  items-depth n (item d ds) h = omega (arith, depth-outline n d h.0, items-depth n ds h.1)

  members-depth : (n : ℕ) (ms : Members) → AreWritable n ms → tree.members_depth (members_outline ms) ≤ n
  members-depth n no_members h = omega arith
  members-depth n (member k d ms) h = omega (arith, depth-outline n d h.1, members-depth n ms h.3)

mutual
  numbers-outline : (n : ℕ) (d : Data) → IsWritable n d → tree.HasNumbers (outline d)
  numbers-outline n null h = absurd h
  numbers-outline n (boolean b) h = absurd h
  numbers-outline n (number (unsigned k)) h = IsNumber-decimal k h
  numbers-outline n (number (negative z)) h = absurd h
  numbers-outline n (number (float x)) h = absurd h
  numbers-outline n (string s) h = tt
  numbers-outline zero (array ds) h = absurd h
  numbers-outline (suc n) (array ds) h = items-numbers n ds h
  numbers-outline zero (object ms) h = absurd h
  numbers-outline (suc n) (object ms) h = members-numbers n ms h

  items-numbers : (n : ℕ) (ds : Items) → AreWritableItems n ds → tree.ItemsHaveNumbers (items_outline ds)
  items-numbers n no_items h = tt
  items-numbers n (item d ds) h = (numbers-outline n d h.0, items-numbers n ds h.1)

  members-numbers : (n : ℕ) (ms : Members) → AreWritable n ms → tree.MembersHaveNumbers (members_outline ms)
  members-numbers n no_members h = tt
  members-numbers n (member k d ms) h = (numbers-outline n d h.1, members-numbers n ms h.3)

-- ---- its text is UTF-8

comma-utf8 : (later : Bool) → IsUtf8 (comma_if later)
comma-utf8 true = IsUtf8-are_ascii (44 ∷ []) refl
comma-utf8 false = IsUtf8-nil

mutual
  text-utf8 : (n : ℕ) (d : Data) → IsWritable n d → IsUtf8 (compact_text d)
  text-utf8 n null h = absurd h
  text-utf8 n (boolean b) h = absurd h
  text-utf8 n (number (unsigned k)) h = IsUtf8-from_ascii (decimal k) (IsAscii-decimal k h)
  text-utf8 n (number (negative z)) h = absurd h
  text-utf8 n (number (float x)) h = absurd h
  text-utf8 n (string s) h = IsUtf8-quoted s h
  text-utf8 zero (array ds) h = absurd h
  text-utf8 (suc n) (array ds) h = IsUtf8-append (91 ∷ []) (items_text false ds) (IsUtf8-are_ascii (91 ∷ []) refl) (items-utf8 n false ds h)
  text-utf8 zero (object ms) h = absurd h
  text-utf8 (suc n) (object ms) h = IsUtf8-append (123 ∷ []) (members_text false ms) (IsUtf8-are_ascii (123 ∷ []) refl) (members-utf8 n false ms h)

  items-utf8 : (n : ℕ) (later : Bool) (ds : Items) → AreWritableItems n ds → IsUtf8 (items_text later ds)
  items-utf8 n later no_items h = IsUtf8-are_ascii (93 ∷ []) refl
  items-utf8 n later (item d ds) h =
      IsUtf8-append (comma_if later) (compact_text d ++ items_text true ds) (comma-utf8 later) (IsUtf8-append (compact_text d) (items_text true ds) (text-utf8 n d h.0) (items-utf8 n true ds h.1))

  members-utf8 : (n : ℕ) (later : Bool) (ms : Members) → AreWritable n ms → IsUtf8 (members_text later ms)
  members-utf8 n later no_members h = IsUtf8-are_ascii (125 ∷ []) refl
  members-utf8 n later (member k d ms) h =
      let rest = compact_text d ++ members_text true ms in
      IsUtf8-append (comma_if later) (quoted k ++ 58 ∷ rest) (comma-utf8 later)
      (IsUtf8-append (quoted k) (58 ∷ rest) (IsUtf8-quoted k h.0)
      (IsUtf8-append (58 ∷ []) rest (IsUtf8-are_ascii (58 ∷ []) refl)
      (IsUtf8-append (compact_text d) (members_text true ms) (text-utf8 n d h.1) (members-utf8 n true ms h.3))))

pub line-utf8 : (n : ℕ) (d : Data) → IsWritable n d → IsUtf8 (compact_text d ++ 10 ∷ [])
line-utf8 n d h = IsUtf8-append (compact_text d) (10 ∷ []) (text-utf8 n d h) (IsUtf8-are_ascii (10 ∷ []) refl)

-- ---- the line is read back

tokens-of-line : (n : ℕ) (d : Data) → IsWritable n d → tokens (compact_text d ++ 10 ∷ []) ≡ tree.json_tokens (outline d)
tokens-of-line n d h =
    ap (λ text. tokens (text ++ 10 ∷ [])) (sym (print-outline d)) ∙ tokens-line (tree.json_tokens (outline d)) (ArePrintable-json_tokens (outline d) (numbers-outline n d h))

pub line-reads : (n : ℕ) (d : Data) → n ≤ max_depth → IsWritable n d → read (compact_text d ++ 10 ∷ []) ≡ Some d
line-reads n d shallow h =
    let below : tree.depth (outline d) ≤ max_depth = omega (arith, depth-outline n d h) in
    let parsed : json.value max_depth (tokens (compact_text d ++ 10 ∷ [])) ≡ Some (outline d, []) =
    ap (json.value max_depth) (tokens-of-line n d h ∙ sym (append-nil (tree.json_tokens (outline d)))) ∙ value-json_tokens (outline d) max_depth [] below in
    ap (λ o. option_and_then of_json (option_and_then (λ p. json.if_last p.0 p.1) o)) parsed ∙ value-outline n d h
