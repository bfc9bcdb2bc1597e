-- What is written of a certificate is read back.
use Rattle.std.proofs.Common.{◌≡◌, ◌∙◌, ℕ, suc, ◌≤◌, ◌^◌, true, List, [], ◌∷◌, length, map, Option, Some, option_map, option_and_then, All, codes, lt-ltb, refl, sym, ap, arith}
use Rattle.std.proofs.lemmas.List.Elements.{All-head, All-tail}
use Rattle.json.proofs.Printed.Utf8.{IsUtf8-are_ascii, are_ascii}
use Rattle.serde_json.specs.Data.{Data, Members, no_members, object, string, put}
use Rattle.serde_json.specs.View.{items_of}
use Rattle.rl_syntax.specs.declared.verdict.Family.{Family}
use Rattle.rl_syntax.specs.declared.verdict.Verdict.{Verdict}
use Rattle.rl_syntax.specs.declared.verdict.Verdict.TheVariants.{Degree, Expo, Undecided}
use Rattle.rl_cert.specs.declared.certificate.Anchor.{Anchor}
use Rattle.rl_numbers.specs.declared.double.Double.{Double}
use Rattle.rl_numbers.specs.declared.triple.Triple.{Triple}
use Rattle.rl_cert.specs.declared.certificate.Certificate.{Certificate}
use Rattle.rl_cert.specs.declared.limits.TheConstants.{MOST_CERTIFICATE_BYTES}
use Rattle.rl_cert.specs.Form.{whole, row_data, rows_data, anchor_row, double_row, triple_row, common_members, form_members, form_text, number_read, items_read, row_read, rows_read, all_of, anchor_of, double_of, triple_of, anchors_read, doubles_read, triples_read, lists_read, verdict_read, certificate_read, IsForm, FitsU32, AllFitU32, VerdictFitsU32, IsWritten}
use Rattle.rl_json.proofs.Writable.{IsWritable, AreWritable, AreWritableItems, put-writable, line-reads, line-utf8}

-- ---- lists

items-back : {A : Type 0} (f : Data → Option A) (g : A → Data) (P : A → Type 0) (l : List A) → ((x : A) → P x → f (g x) ≡ Some x) → All P l → items_read f (items_of (map g l)) ≡ Some l
items-back f g P [] each all = refl
items-back {A = A} f g P (x ∷ l) each all =
    ap (option_and_then (λ (y : A). option_map (λ (ys : List A). y ∷ ys) (items_read f (items_of (map g l))))) (each x (All-head P x l all))
    ∙ ap (option_map (λ (ys : List A). x ∷ ys)) (items-back f g P l each (All-tail P x l all))

number-back : (n : ℕ) → FitsU32 n → number_read (whole n) ≡ Some n
number-back n h = rw (lt-ltb n (2 ^ 32) h) refl

row-back : (row : List ℕ) → All FitsU32 row → row_read (row_data row) ≡ Some row
row-back row all = items-back number_read whole FitsU32 row number-back all

rows-back : (rows : List (List ℕ)) → AllFitU32 rows → rows_read (rows_data rows) ≡ Some rows
rows-back rows all = items-back row_read row_data (All FitsU32) rows row-back all

all-back : {A B : Type 0} (f : A → Option B) (g : B → A) (l : List B) → ((x : B) → f (g x) ≡ Some x) → all_of f (map g l) ≡ Some l
all-back f g [] each = refl
all-back {B = B} f g (x ∷ l) each =
    ap (option_and_then (λ (y : B). option_map (λ (ys : List B). y ∷ ys) (all_of f (map g l)))) (each x) ∙ ap (option_map (λ (ys : List B). x ∷ ys)) (all-back f g l each)

anchors-back : (l : List Anchor) → AllFitU32 (map anchor_row l) → anchors_read (rows_data (map anchor_row l)) ≡ Some l
anchors-back l all = ap (option_and_then (all_of anchor_of)) (rows-back (map anchor_row l) all) ∙ all-back anchor_of anchor_row l (λ a. refl)

doubles-back : (l : List Double) → AllFitU32 (map double_row l) → doubles_read (rows_data (map double_row l)) ≡ Some l
doubles-back l all = ap (option_and_then (all_of double_of)) (rows-back (map double_row l) all) ∙ all-back double_of double_row l (λ a. refl)

triples-back : (l : List Triple) → AllFitU32 (map triple_row l) → triples_read (rows_data (map triple_row l)) ≡ Some l
triples-back l all = ap (option_and_then (all_of triple_of)) (rows-back (map triple_row l) all) ∙ all-back triple_of triple_row l (λ a. refl)

-- ---- the members

family-back : (heads pumps : List (List ℕ)) (h p : Data) → rows_read h ≡ Some heads → rows_read p ≡ Some pumps
    → option_and_then (λ (hs : List (List ℕ)). option_map (λ (ps : List (List ℕ)). let f : Family = record { heads = hs; pumps = ps } in f) (rows_read p)) (rows_read h) ≡ Some (record { heads = heads; pumps = pumps })
family-back heads pumps h p e d = rw (e, d) refl

lists-back : (v : Verdict) (c : Certificate) (a r d t : Data) → anchors_read a ≡ Some c.anchors → row_read r ≡ Some c.ranks → doubles_read d ≡ Some c.doubles → triples_read t ≡ Some c.triples
    → option_and_then (λ (anchors : _). option_and_then (λ (ranks : List ℕ). option_and_then (λ (doubles : _). option_map (λ (triples : _).
    let x : Certificate = record { verdict = v; anchors = anchors; ranks = ranks; doubles = doubles; triples = triples } in x) (triples_read t)) (doubles_read d)) (row_read r)) (anchors_read a) ≡ Some (record c { verdict = v })
lists-back v c a r d t ea er ed et = rw (ea, er, ed, et) refl

lists-there : (c : Certificate) (v w : Verdict) → IsWritten c → VerdictFitsU32 v → lists_read w (object (form_members c v)) ≡ Some (record c { verdict = w })
lists-there c (Degree d f) w ok told =
    lists-back w c (rows_data (map anchor_row c.anchors)) (row_data c.ranks) (rows_data (map double_row c.doubles)) (rows_data (map triple_row c.triples))
    (anchors-back c.anchors ok.anchors) (row-back c.ranks ok.ranks) (doubles-back c.doubles ok.doubles) (triples-back c.triples ok.triples)
lists-there c (Expo f) w ok told =
    lists-back w c (rows_data (map anchor_row c.anchors)) (row_data c.ranks) (rows_data (map double_row c.doubles)) (rows_data (map triple_row c.triples))
    (anchors-back c.anchors ok.anchors) (row-back c.ranks ok.ranks) (doubles-back c.doubles ok.doubles) (triples-back c.triples ok.triples)
lists-there c (Undecided limit) w ok told = absurd told

verdict-there : (c : Certificate) (v : Verdict) → VerdictFitsU32 v → verdict_read (object (form_members c v)) ≡ Some v
verdict-there c (Degree d f) told =
    ap (option_and_then (λ (g : Family). option_map (λ (n : ℕ). Degree n g) (number_read (whole d)))) (family-back f.heads f.pumps (rows_data f.heads) (rows_data f.pumps) (rows-back f.heads told.1) (rows-back f.pumps told.2))
    ∙ ap (option_map (λ (n : ℕ). Degree n f)) (number-back d told.0)
verdict-there c (Expo f) told =
    ap (option_and_then (λ (g : Family). Some (Expo g))) (family-back f.heads f.pumps (rows_data f.heads) (rows_data f.pumps) (rows-back f.heads told.0) (rows-back f.pumps told.1))
verdict-there c (Undecided limit) told = absurd told

version-there : (c : Certificate) (v : Verdict) (w : Option Certificate) → VerdictFitsU32 v → option_and_then (λ (x : Verdict). lists_read x (object (form_members c v))) (verdict_read (object (form_members c v))) ≡ w → certificate_read (object (form_members c v)) ≡ w
version-there c (Degree d f) w told e = e
version-there c (Expo f) w told e = e
version-there c (Undecided limit) w told e = absurd told

members-back : (c : Certificate) (v : Verdict) → IsWritten c → VerdictFitsU32 v → certificate_read (object (form_members c v)) ≡ Some (record c { verdict = v })
members-back c v ok told =
    version-there c v (Some (record c { verdict = v })) told
    (ap (option_and_then (λ (x : Verdict). lists_read x (object (form_members c v)))) (verdict-there c v told) ∙ lists-there c v v ok told)

-- ---- the line

row-writable : (n : ℕ) (row : List ℕ) → All FitsU32 row → AreWritableItems n (items_of (map whole row))
row-writable n [] all = tt
row-writable n (x ∷ row) all = (let small = All-head FitsU32 x row all in omega arith, row-writable n row (All-tail FitsU32 x row all))

rows-writable : (n : ℕ) (rows : List (List ℕ)) → AllFitU32 rows → AreWritableItems (suc n) (items_of (map row_data rows))
rows-writable n [] all = tt
rows-writable n (row ∷ rows) all = (row-writable n row (All-head (All FitsU32) row rows all), rows-writable n rows (All-tail (All FitsU32) row rows all))

-- A member with a name in ASCII.
put-named : (n : ℕ) (k : List ℕ) (d : Data) (ms : Members) → are_ascii k ≡ true → IsWritable n d → AreWritable n ms → AreWritable n (put k d ms)
put-named n k d ms ascii w all = put-writable n k d ms (IsUtf8-are_ascii k ascii) w all

common-writable : (c : Certificate) (f : Family) → IsWritten c → AllFitU32 f.heads → AllFitU32 f.pumps → AreWritable 2 (common_members c f)
common-writable c f ok heads pumps =
    let m1 = put (codes "anchors") (rows_data (map anchor_row c.anchors)) no_members in
    let m2 = put (codes "doubles") (rows_data (map double_row c.doubles)) m1 in
    let m3 = put (codes "heads") (rows_data f.heads) m2 in
    let m4 = put (codes "pumps") (rows_data f.pumps) m3 in
    let m5 = put (codes "ranks") (row_data c.ranks) m4 in
    let m6 = put (codes "triples") (rows_data (map triple_row c.triples)) m5 in
    put-named 2 (codes "version") (whole 1) m6 refl (omega arith)
    (put-named 2 (codes "triples") (rows_data (map triple_row c.triples)) m5 refl (rows-writable 0 (map triple_row c.triples) ok.triples)
    (put-named 2 (codes "ranks") (row_data c.ranks) m4 refl (row-writable 1 c.ranks ok.ranks)
    (put-named 2 (codes "pumps") (rows_data f.pumps) m3 refl (rows-writable 0 f.pumps pumps)
    (put-named 2 (codes "heads") (rows_data f.heads) m2 refl (rows-writable 0 f.heads heads)
    (put-named 2 (codes "doubles") (rows_data (map double_row c.doubles)) m1 refl (rows-writable 0 (map double_row c.doubles) ok.doubles)
    (put-named 2 (codes "anchors") (rows_data (map anchor_row c.anchors)) no_members refl (rows-writable 0 (map anchor_row c.anchors) ok.anchors) tt))))))

members-writable : (c : Certificate) (v : Verdict) → IsWritten c → VerdictFitsU32 v → IsWritable 3 (object (form_members c v))
members-writable c (Degree d f) ok told =
    put-named 2 (codes "kind") (string (codes "degree")) (put (codes "degree") (whole d) (common_members c f)) refl (IsUtf8-are_ascii (codes "degree") refl)
    (put-named 2 (codes "degree") (whole d) (common_members c f) refl (let small = told.0 in omega arith) (common-writable c f ok told.1 told.2))
members-writable c (Expo f) ok told =
    put-named 2 (codes "kind") (string (codes "exponential")) (common_members c f) refl (IsUtf8-are_ascii (codes "exponential") refl) (common-writable c f ok told.0 told.1)
members-writable c (Undecided limit) ok told = absurd told

pub back : (c : Certificate) → IsWritten c → length (form_text c) ≤ MOST_CERTIFICATE_BYTES → IsForm (form_text c) c
back c ok short =
    let d = object (form_members c c.verdict) in
    let writable = members-writable c c.verdict ok ok.verdict in
    record {
      small = short;
      utf8 = line-utf8 3 d writable;
      value = d;
      reads = line-reads 3 d (omega arith) writable;
      holds = members-back c c.verdict ok ok.verdict;
    }

pub one : (bytes : List ℕ) (c d : Certificate) → IsForm bytes c → IsForm bytes d → c ≡ d
one bytes c d a b =
    let read_same : Some a.value ≡ Some b.value = sym a.reads ∙ b.reads in
    let same : a.value ≡ b.value = cc in
    let listed : Some c ≡ Some d = sym a.holds ∙ ap certificate_read same ∙ b.holds in
    cc
