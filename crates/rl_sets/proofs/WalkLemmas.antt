-- Lemmas on the rows of a walk and the sets that they represent.
use Rattle.std.proofs.Common.{set as put, ◌*◌, ◌≡◌, ◌≢◌, ℕ, zero, suc, ◌<◌, ◌≤◌, ◌⊎◌, Bool, true, false, List, [], ◌∷◌, ◌++◌, length, get_or, map, if◌then◌else◌, slice_get, position, Option, Some, None, Result, Ok, Err, IfOk, IfErr, OnErr, set, Contains, sym, ap, ◌∙◌, subst, inl, inr, arith}
use Rattle.std.specs.List.{list_any}
use Rattle.std.specs.Option.{option_map}
use Rattle.std.proofs.lemmas.Bool.{both_ways, cases_lt, cases_eq}
use Rattle.std.proofs.lemmas.List.{get_or-set_same, get_or-set_other, get_or_past, length-set, get_or_default, length_push, get_or_push, get_or_append_left, length-map, get_or-map}
use Rattle.std.proofs.lemmas.List.Elements.{All-push}
use Rattle.std.proofs.lemmas.List.Folds.{list_any_at}
use Rattle.std.proofs.lemmas.List.Quantifiers.{position-Some}
use Rattle.std.proofs.lemmas.Option.{slice_get-map, slice_get-get_or, slice_get_within, get_or_from_slice_get}
use Rattle.indexmap.specs.IndexSet.{insert_key}
use Rattle.rl_lanes.specs.Rows.{row_eq, row_eq_decides}
use Rattle.rl_sets.specs.declared.error.SetsError.{SetsError}
use Rattle.rl_sets.specs.declared.error.SetsError.TheVariants.{Sets}
use Rattle.rl_sets.specs.declared.life.Life.TheVariants.{Unknown}
use Rattle.std.proofs.Math.Nat.{mul-le-mul_right}
use Rattle.std.proofs.lemmas.Nat.{same_from_place}
use Rattle.rl_sets.specs.Live.{image}
use Rattle.rl_sets.specs.Rests.{IsLife}
use Rattle.rl_sets.specs.Rows.{members_of, marked}
use Rattle.rl_prio.specs.Automaton.{letters_count, Automaton}
use Rattle.rl_sets.specs.Walk.{set_at, image_place, Walk, IsSetOf, IsMadeFor, IsListed, IsFull, AreRows, AreKept, AreFields}
use Rattle.rl_sets.specs.declared.split.SplitMoves.{SplitMoves}
use Rattle.rl_sets.specs.declared.split.SetMoves.{SetMoves}
use Rattle.rl_sets.specs.Split.{IsSplit, AreMovesOf}
use Rattle.rl_sets.specs.internal.Steps.{IsAsked}
use Rattle.rl_sets.specs.Live.{holds}
use Rattle.rl_sets.proofs.RowLemmas.{same_rows, holds-members}
use Rattle.rl_sets.proofs.SplitLemmas.{targets_wide, unsplit_wide, reached-by_split}
use Rattle.rl_lanes.specs.Rows.{list_and_not}
use Rattle.rl_sets.specs.internal.Moves.{targets_of, IsReached}

-- The sets that rows represent.
abbrev pub sets_of : List (List Bool) → List (List ℕ)
sets_of rows = map members_of rows

-- A row at a place.
pub row_found : (rows : List (List Bool)) (row : List Bool) (n : ℕ) → Some n ≡ position (row_eq row) rows → slice_get (sets_of rows) n ≡ Some (members_of row)
row_found rows row n e =
    let h = position-Some (row_eq row) rows n [] (sym e) in
    let same : row ≡ get_or rows n [] = (row_eq_decides row (get_or rows n [])).0 h.1 in
    slice_get-map members_of rows n ∙ ap (option_map members_of) (slice_get-get_or rows n [] h.0) ∙ ap (λ r. Some (members_of r)) (sym same)

-- A row that isn't listed.
row_absent : (states limit : ℕ) (rows : List (List Bool)) (row : List Bool) → AreRows states limit rows → length row ≡ states → list_any (row_eq row) rows ≡ false → (k : ℕ) → k < length rows → get_or rows k [] ≢ row
row_absent states limit rows row are long none k lt e =
    both_ways (list_any (row_eq row) rows) none (list_any_at (row_eq row) rows k [] lt ((row_eq_decides row (get_or rows k [])).1 (sym e)))

pub set_absent : (states limit : ℕ) (rows : List (List Bool)) (row : List Bool) → AreRows states limit rows → length row ≡ states → list_any (row_eq row) rows ≡ false → Contains (sets_of rows) (members_of row) → ⊥
set_absent states limit rows row are long none c =
    let lt : c.0 < length rows = omega (arith, length-map rows members_of, c.1) in
    let same : members_of (get_or rows c.0 []) ≡ members_of row = sym (get_or-map members_of rows c.0 [] (members_of row) lt) ∙ c.2 in
    row_absent states limit rows row are long none c.0 lt (same_rows (get_or rows c.0 []) row (are.wide c.0 [] lt ∙ sym long) same)

-- One more row.
pub AreRows-push : (states limit : ℕ) (rows : List (List Bool)) (row : List Bool) → AreRows states limit rows → length row ≡ states → list_any (row_eq row) rows ≡ false → length rows < limit → AreRows states limit (rows ++ row ∷ [])
AreRows-push states limit rows row are long none room = record {
  low = are.low;
  few = omega (arith, length_push rows row);
  wide = All-push (λ r. length r ≡ states) rows row are.wide long;
  apart = λ m n lt below. by m n lt (cases_lt n (length rows)) (omega (arith, length_push rows row));
}
  where
    by : (m n : ℕ) → m < n → (n < length rows) ⊎ (length rows ≤ n) → n ≤ length rows → get_or (rows ++ row ∷ []) m [] ≢ get_or (rows ++ row ∷ []) n []
    by m n lt (inl old) le e = are.apart m n lt old (sym (get_or_append_left rows (row ∷ []) [] m (omega arith)) ∙ e ∙ get_or_append_left rows (row ∷ []) [] n old)
    by m n lt (inr new) le e =
        row_absent states limit rows row are long none m (omega arith) (sym (get_or_append_left rows (row ∷ []) [] m (omega arith)) ∙ e ∙ get_or_push rows row [] n (omega arith))

-- The keys with a new row.
pub inserted : (rows : List (List Bool)) (row : List Bool) → list_any (row_eq row) rows ≡ false → insert_key row_eq rows row ≡ rows ++ row ∷ []
inserted rows row none = ap (λ b. if b then rows else rows ++ row ∷ []) none

pub room_left : (n limit : ℕ) → n ≤ limit → (n ≡ limit → ⊥) → n < limit
room_left n limit le other = elim (cases_lt n limit) [ inl lt ↦ lt | inr ge ↦ absurd (other (omega arith)) ]

-- A row that is stored at a place.
pub row_stored : (rows : List (List Bool)) (row : List Bool) (n : ℕ) → (k : List Bool) × (slice_get rows n ≡ Some k) × (row_eq row k ≡ true) → slice_get (sets_of rows) n ≡ Some (members_of row)
row_stored rows row n s =
    slice_get-map members_of rows n ∙ ap (option_map members_of) s.1 ∙ ap (λ r. Some (members_of r)) (sym ((row_eq_decides row s.0).0 s.2))

-- Membership in a set, by the row of the set.
pub row_at : (rows : List (List Bool)) (row : List Bool) (n : ℕ) → slice_get rows n ≡ Some row → members_of row ≡ get_or (sets_of rows) n []
row_at rows row n read = sym (get_or_from_slice_get (sets_of rows) n (members_of row) [] (slice_get-map members_of rows n ∙ ap (option_map members_of) read))

pub holds-row : (rows : List (List Bool)) (row : List Bool) (n q : ℕ) → slice_get rows n ≡ Some row → get_or row q false ≡ holds (get_or (sets_of rows) n []) q
holds-row rows row n q read = sym (holds-members row q) ∙ ap (λ l. holds l q) (row_at rows row n read)

pub row_wide : (states limit : ℕ) (rows : List (List Bool)) (row : List Bool) (n : ℕ) → AreRows states limit rows → slice_get rows n ≡ Some row → length row ≡ states
row_wide states limit rows row n are read = ap length (sym (get_or_from_slice_get rows n row [] read)) ∙ are.wide n [] (slice_get_within rows n row read)

-- The members of a list stay when another one is appended.
pub get_kept : {X : Type 0} (xs ys : List X) (i : ℕ) (x : X) → slice_get xs i ≡ Some x → slice_get (xs ++ ys) i ≡ Some x
get_kept [] ys i x e = cc
get_kept (y ∷ xs) ys zero x e = e
get_kept (y ∷ xs) ys (suc i) x e = get_kept xs ys i x e

-- ---- a walk goes on being one of its automaton
pub same_walk : (v w : Walk) → v.sets ≡ w.sets → v.limit ≡ w.limit → v.kept ≡ w.kept → v ≡ w
same_walk v w e f g = λ i. record { sets = e i; limit = f i; kept = g i }

pub IsMadeFor-same : (old new : Walk) (a : Automaton) → IsMadeFor old a → new.sets ≡ old.sets → new.limit ≡ old.limit → new.kept ≡ old.kept → IsMadeFor new a
IsMadeFor-same old new a made e f g = subst (λ (w : Walk). IsMadeFor w a) (sym (same_walk new old e f g)) made

pub IsMadeFor-pushed : (old : Walk) (a : Automaton) (set : List ℕ) → IsMadeFor old a → IsSetOf a set → (Contains old.sets set → ⊥) → length old.sets < old.limit → IsMadeFor (record { sets = old.sets ++ set ∷ []; limit = old.limit; kept = old.kept }) a
IsMadeFor-pushed old a set made is none room = record {
  sets = λ n lt. by_sets n (cases_lt n (length old.sets)) (omega (arith, length_push old.sets set));
  apart = λ m n lt below. by m n lt (cases_lt n (length old.sets)) (omega (arith, length_push old.sets set));
  few = omega (arith, length_push old.sets set);
  low = made.low;
  states = made.states;
  split = made.split;
  few_images = omega (arith, made.few_images, mul-le-mul_right {m = length old.sets} {n = length (old.sets ++ set ∷ [])} (suc (letters_count a)) (omega (arith, length_push old.sets set)));
  images = λ n letter m lt small e. by_images n letter m (cases_lt n (length old.sets)) (omega (arith, length_push old.sets set)) small e;
  first_route = made.first_route;
  few_lives = omega (arith, made.few_lives, length_push old.sets set);
  lives = λ n lt. by_lives n (cases_lt n (length old.sets)) (omega (arith, length_push old.sets set));
}
  where
    by_sets : (n : ℕ) → (n < length old.sets) ⊎ (length old.sets ≤ n) → n ≤ length old.sets → IsSetOf a (get_or (old.sets ++ set ∷ []) n [])
    by_sets n (inl lt) le = subst (IsSetOf a) (sym (get_or_append_left old.sets (set ∷ []) [] n lt)) (made.sets n lt)
    by_sets n (inr ge) le = subst (IsSetOf a) (sym (get_or_push old.sets set [] n (omega arith))) is

    by_images : (n letter m : ℕ) → (n < length old.sets) ⊎ (length old.sets ≤ n) → n ≤ length old.sets → letter ≤ letters_count a → get_or old.kept.images (image_place a n letter) None ≡ Some m → slice_get (old.sets ++ set ∷ []) m ≡ Some (image a (get_or (old.sets ++ set ∷ []) n []) letter)
    by_images n letter m (inl lt) le small e =
        get_kept old.sets (set ∷ []) m (image a (set_at old n) letter) (made.images n letter m lt small e)
        ∙ ap (λ (s : List ℕ). Some (image a s letter)) (sym (get_or_append_left old.sets (set ∷ []) [] n lt))
    by_images n letter m (inr ge) le small e =
        let past : length old.kept.images ≤ image_place a n letter = omega (arith, made.few_images, mul-le-mul_right {m = length old.sets} {n = n} (suc (letters_count a)) ge) in
        let none = get_or_past old.kept.images (image_place a n letter) None past in
        cc

    by_lives : (n : ℕ) → (n < length old.sets) ⊎ (length old.sets ≤ n) → n ≤ length old.sets → IsLife a old.kept.routes (get_or (old.sets ++ set ∷ []) n []) (get_or old.kept.lives n Unknown)
    by_lives n (inl lt) le = subst (λ (s : List ℕ). IsLife a old.kept.routes s (get_or old.kept.lives n Unknown)) (sym (get_or_append_left old.sets (set ∷ []) [] n lt)) (made.lives n lt)
    by_lives n (inr ge) le =
        subst (IsLife a old.kept.routes (get_or (old.sets ++ set ∷ []) n [])) (sym (get_or_past old.kept.lives n Unknown (omega (arith, made.few_lives)))) tt

    by : (m n : ℕ) → m < n → (n < length old.sets) ⊎ (length old.sets ≤ n) → n ≤ length old.sets → get_or (old.sets ++ set ∷ []) m [] ≢ get_or (old.sets ++ set ∷ []) n []
    by m n lt (inl old_n) le e = made.apart m n lt old_n (sym (get_or_append_left old.sets (set ∷ []) [] m (omega arith)) ∙ e ∙ get_or_append_left old.sets (set ∷ []) [] n old_n)
    by m n lt (inr new_n) le e =
        none (m, omega arith, get_or_default old.sets m set [] (omega arith) ∙ sym (get_or_append_left old.sets (set ∷ []) [] m (omega arith)) ∙ e ∙ get_or_push old.sets set [] n (omega arith))

pub IsMadeFor-listed : (old new : Walk) (a : Automaton) (set : List ℕ) (n : ℕ) → IsMadeFor old a → IsSetOf a set → IsListed old.sets new.sets set n → length new.sets ≤ new.limit → new.limit ≡ old.limit → new.kept ≡ old.kept → IsMadeFor new a
IsMadeFor-listed old new a set n made is listed few f g = by listed.grown
  where
    by : (new.sets ≡ old.sets) ⊎ ((Contains old.sets set → ⊥) × (new.sets ≡ old.sets ++ set ∷ [])) → IsMadeFor new a
    by (inl same) = IsMadeFor-same old new a made same f g
    by (inr more) =
        let room : length old.sets < old.limit = omega (arith, ap length more.1, length_push old.sets set) in
        subst (λ (w : Walk). IsMadeFor w a) (sym (same_walk new (record { sets = old.sets ++ set ∷ []; limit = old.limit; kept = old.kept }) more.1 f g)) (IsMadeFor-pushed old a set made is more.0 room)

-- The same if the set may have been refused.
pub IsMadeFor-added : (old new : Walk) (a : Automaton) (set : List ℕ) (r : Result ℕ SetsError) → IsMadeFor old a → IsSetOf a set → IfOk r (IsListed old.sets new.sets set) → OnErr r (new.sets ≡ old.sets) → length new.sets ≤ new.limit → new.limit ≡ old.limit → new.kept ≡ old.kept → IsMadeFor new a
IsMadeFor-added old new a set (Ok n) made is listed same few f g = IsMadeFor-listed old new a set n made is listed few f g
IsMadeFor-added old new a set (Err e) made is listed same few f g = IsMadeFor-same old new a made same f g

-- The sets that were there stay where they are.
pub set_stays : (old new : List (List ℕ)) (set : List ℕ) (n k : ℕ) → IsListed old new set n → k < length old → get_or new k [] ≡ get_or old k []
set_stays old new set n k listed lt =
    elim listed.grown [ inl same ↦ ap (λ l. get_or l k []) same | inr more ↦ ap (λ l. get_or l k []) more.1 ∙ get_or_append_left old (set ∷ []) [] k lt ]

-- ---- a walk that is asked for a set
-- The walk after a set was added or refused.
pub IsAsked-added : (old new : Walk) (a : Automaton) (set members : List ℕ) (r : Result ℕ SetsError) → IsMadeFor old a → IsSetOf a set → members ≡ set → IfOk r (IsListed old.sets new.sets members) → IfOk r (λ n. n < length new.sets) → length old.sets ≤ length new.sets → length new.sets ≤ new.limit → new.limit ≡ old.limit → new.kept ≡ old.kept
    → IfErr r (λ e. e ≡ Sets → IsFull old.sets old.limit members) → OnErr r (new.sets ≡ old.sets) → IsAsked a old new set r
IsAsked-added old new a set members r made is same listed inside longer few limit kept full unchanged =
    let here = subst (λ (s : List ℕ). IfOk r (IsListed old.sets new.sets s)) same listed in
    record {
      listed = here;
      inside = inside;
      longer = longer;
      made = IsMadeFor-added old new a set r made is here unchanged few limit kept;
      limit = limit;
      full = subst (λ (s : List ℕ). IfErr r (λ (e : SetsError). e ≡ Sets → IsFull old.sets old.limit s)) same full;
      unchanged = unchanged;
    }

-- Steps before and after that leave the sets as they are.
pub IsAsked-same : (old mid new last : Walk) (a : Automaton) (set : List ℕ) (r : Result ℕ SetsError) → IsAsked a mid new set r → mid.sets ≡ old.sets → mid.limit ≡ old.limit → last.sets ≡ new.sets → last.limit ≡ new.limit → IsMadeFor last a → IsAsked a old last set r
IsAsked-same old mid new last a set r asked before limit_before after limit_after made = record {
  listed = subst (λ (l : List (List ℕ)). IfOk r (IsListed l last.sets set)) before (subst (λ (l : List (List ℕ)). IfOk r (IsListed mid.sets l set)) (sym after) asked.listed);
  inside = subst (λ (l : List (List ℕ)). IfOk r (λ n. n < length l)) (sym after) asked.inside;
  longer = omega (arith, asked.longer, ap length before, ap length after);
  made = made;
  limit = limit_after ∙ asked.limit ∙ limit_before;
  full = subst (λ (n : ℕ). IfErr r (λ (e : SetsError). e ≡ Sets → IsFull old.sets n set)) limit_before (subst (λ (l : List (List ℕ)). IfErr r (λ (e : SetsError). e ≡ Sets → IsFull l mid.limit set)) before asked.full);
  unchanged = subst (λ (l : List (List ℕ)). OnErr r (last.sets ≡ l)) before (subst (λ (l : List (List ℕ)). OnErr r (l ≡ mid.sets)) (sym after) asked.unchanged);
}

-- ---- split moves
-- The walk with split moves.
pub IsMadeFor-split : (w : Walk) (a : Automaton) (s : SplitMoves) → IsMadeFor w a → IsSplit a s
    → IsMadeFor (record { sets = w.sets; limit = w.limit; kept = record { states = w.kept.states; split = Some s; images = w.kept.images; routes = w.kept.routes; lives = w.kept.lives } }) a
IsMadeFor-split w a s made is = record {
  sets = made.sets;
  apart = made.apart;
  few = made.few;
  low = made.low;
  states = made.states;
  split = λ r e. let same : s ≡ r = cc in subst (IsSplit a) same is;
  few_images = made.few_images;
  images = made.images;
  first_route = made.first_route;
  few_lives = made.few_lives;
  lives = made.lives;
}

-- No moves are kept.
pub AreKept-none : (keys : List (List Bool)) (split : Option SplitMoves) (recent : List SetMoves) → recent ≡ [] → AreKept keys split recent
AreKept-none keys split recent none s e i d lt = absurd (omega (arith, ap length none))

-- The kept moves of one set.
pub kept_moves : (keys : List (List Bool)) (row : List Bool) (split : Option SplitMoves) (s : SplitMoves) (recent items : List SetMoves) (m : SetMoves) (set i : ℕ) → AreKept keys split recent → split ≡ Some s → items ≡ recent → i < length items → m ≡ get_or items i m → m.set ≡ set → slice_get keys set ≡ Some row → AreMovesOf s row m
kept_moves keys row split s recent items m set i kept e same lt read here stands =
    let each = subst (AreKept keys split) (sym same) kept s e i m lt in
    let own : AreMovesOf s (get_or keys m.set []) m = subst (λ (n : SetMoves). AreMovesOf s (get_or keys n.set []) n) (sym read) each.1 in
    let row_is : get_or keys m.set [] ≡ row = ap (λ n. get_or keys n []) here ∙ get_or_from_slice_get keys set row [] stands in
    subst (λ (r : List Bool). AreMovesOf s r m) row_is own

-- The moves of another set.
pub AreKept-more : (keys : List (List Bool)) (row : List Bool) (split : Option SplitMoves) (s : SplitMoves) (recent : List SetMoves) (m : SetMoves) (set : ℕ) → AreKept keys split recent → split ≡ Some s → m.set ≡ set → slice_get keys set ≡ Some row → AreMovesOf s row m → AreKept keys split (recent ++ m ∷ [])
AreKept-more keys row split s recent m set kept e here stands moves r f =
    let same : s ≡ r = cc in
    let within : m.set < length keys = omega (arith, slice_get_within keys set row stands) in
    let row_is : row ≡ get_or keys m.set [] = sym (ap (λ n. get_or keys n []) here ∙ get_or_from_slice_get keys set row [] stands) in
    All-push (λ (n : SetMoves). (n.set < length keys) × AreMovesOf r (get_or keys n.set []) n) recent m (kept r f) (within, subst (λ (t : SplitMoves). AreMovesOf t (get_or keys m.set []) m) same (subst (λ (x : List Bool). AreMovesOf s x m) row_is moves))

-- The kept moves of sets stay right when another row is appended.
pub AreKept-push : (rows : List (List Bool)) (row : List Bool) (split : Option SplitMoves) (recent : List SetMoves) → AreKept rows split recent → AreKept (rows ++ row ∷ []) split recent
AreKept-push rows row split recent kept s e i d lt =
    let h = kept s e i d lt in
    (omega (arith, h.0, length_push rows row), subst (λ (r : List Bool). AreMovesOf s r (get_or recent i d)) (sym (get_or_append_left rows (row ∷ []) [] (get_or recent i d).set h.0)) h.1)

-- What the fields of a walk with the view `v` say of the row of a set and of the moves of its members.
module _ (a : Automaton) (v now : Walk) (keys : List (List Bool)) (split : Option SplitMoves) (recent : List SetMoves) (row : List Bool) (set : ℕ) (view : v ≡ now) (made : IsMadeFor now a) (fields : AreFields v.kept.states v.limit keys split recent) (stands : slice_get keys set ≡ Some row) where
  pub row_long : length row ≡ a.states
  row_long = row_wide v.kept.states v.limit keys row set fields.rows stands ∙ ap (λ (w : Walk). w.kept.states) view ∙ made.states

  pub row_members : v.sets ≡ sets_of keys → members_of row ≡ set_at now set
  row_members same = row_at keys row set stands ∙ ap (λ l. get_or l set []) (sym same) ∙ ap (λ (w : Walk). set_at w set) view

  module _ (s : SplitMoves) (m : SetMoves) (letter : ℕ) (small : letter ≤ letters_count a) (is : v.kept.split ≡ Some s) (moves : AreMovesOf s row m) where
    is_split : IsSplit a s
    is_split = made.split s (ap (λ (w : Walk). w.kept.split) (sym view) ∙ is)

    pub kept_targets_wide : length m.targets ≡ a.states
    kept_targets_wide = targets_wide a s row m letter is_split row_long small moves

    pub kept_unsplit_wide : length m.unsplit ≡ a.states
    kept_unsplit_wide = unsplit_wide a s row m letter is_split row_long small moves

    pub kept_reached : v.sets ≡ sets_of keys → (marks : List Bool) → marks ≡ marked (list_and_not m.targets (get_or s.barred.items letter [])) (targets_of a (members_of m.unsplit) letter) → IsReached a (set_at now set) letter marks
    kept_reached same marks e = subst (λ (x : List ℕ). IsReached a x letter marks) (row_members same) (reached-by_split a s row m letter is_split row_long small moves marks e)

-- ---- numbers of images
module _ (w : Walk) (a : Automaton) (longer : List (Option ℕ)) (made : IsMadeFor w a) (same : (i : ℕ) → get_or longer i None ≡ get_or w.kept.images i None) (few : length longer ≤ length w.sets * suc (letters_count a)) where
  -- The walk with room for more.
  pub IsMadeFor-room : IsMadeFor (record { sets = w.sets; limit = w.limit; kept = record { states = w.kept.states; split = w.kept.split; images = longer; routes = w.kept.routes; lives = w.kept.lives } }) a
  IsMadeFor-room = record {
    sets = made.sets;
    apart = made.apart;
    few = made.few;
    low = made.low;
    states = made.states;
    split = made.split;
    few_images = few;
    images = λ n letter m lt small e. made.images n letter m lt small (sym (same (image_place a n letter)) ∙ e);
    first_route = made.first_route;
    few_lives = made.few_lives;
    lives = made.lives;
  }

-- The walk with one more number.
pub IsMadeFor-image : (w : Walk) (a : Automaton) (set letter number : ℕ) → IsMadeFor w a → letter ≤ letters_count a → image_place a set letter < length w.kept.images → slice_get w.sets number ≡ Some (image a (set_at w set) letter)
    → IsMadeFor (record { sets = w.sets; limit = w.limit; kept = record { states = w.kept.states; split = w.kept.split; images = put w.kept.images (image_place a set letter) (Some number); routes = w.kept.routes; lives = w.kept.lives } }) a
IsMadeFor-image w a set letter number made small there is = record {
  sets = made.sets;
  apart = made.apart;
  few = made.few;
  low = made.low;
  states = made.states;
  split = made.split;
  few_images = omega (arith, made.few_images, length-set w.kept.images (image_place a set letter) (Some number));
  images = λ n l m lt low e. by n l m lt low e (cases_eq (image_place a n l) (image_place a set letter));
  first_route = made.first_route;
  few_lives = made.few_lives;
  lives = made.lives;
}
  where
    by : (n l m : ℕ) → n < length w.sets → l ≤ letters_count a → get_or (put w.kept.images (image_place a set letter) (Some number)) (image_place a n l) None ≡ Some m → (image_place a n l ≡ image_place a set letter) ⊎ (image_place a n l ≡ image_place a set letter → ⊥)
        → slice_get w.sets m ≡ Some (image a (set_at w n) l)
    by n l m lt low e (inl here) =
        let both = same_from_place n l set letter (suc (letters_count a)) (omega arith) (omega arith) here in
        let read : get_or (put w.kept.images (image_place a set letter) (Some number)) (image_place a n l) None ≡ Some number = ap (λ i. get_or (put w.kept.images (image_place a set letter) (Some number)) i None) here ∙ get_or-set_same w.kept.images (image_place a set letter) (Some number) None there in
        let which : m ≡ number = cc in
        ap (slice_get w.sets) which ∙ is ∙ ap (λ k. Some (image a (set_at w k) letter)) (sym both.0) ∙ ap (λ k. Some (image a (set_at w n) k)) (sym both.1)
    by n l m lt low e (inr other) = made.images n l m lt low (sym (get_or-set_other w.kept.images (image_place a set letter) (image_place a n l) (Some number) None other) ∙ e)
