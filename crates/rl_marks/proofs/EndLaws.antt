-- The ends of what a marked tree finds are those of the run of the tree without its marks.
use Rattle.std.proofs.Common.{◌≡◌, ℕ, zero, suc, ◌-◌, ◌<◌, Bool, true, false, List, [], ◌∷◌, ◌++◌, length, map, slice_get, nat_lt, if◌then◌else◌, refl, sym, ap, ap₂, ◌∙◌}
use Rattle.std.proofs.lemmas.Bool.{cond-true, lt-ltb}
use Rattle.rl_syntax.specs.Guards.{is_in, holds_at}
use Rattle.rl_syntax.specs.Run.{Step, test, end, one_more, run}
use Rattle.rl_syntax.specs.Run as Run
use Rattle.rl_marks.specs.Marked.{Marked, empty, one, guard, both, either, many, further, mark, plain, IsStrict}
use Rattle.rl_marks.specs.Finds.{GroupSpan, Found, followed, ended, later, onward, closed, rounds, finds, ends}
use Rattle.rl_marks.specs.RunEnds.{run_ends}
use Rattle.rl_marks.proofs.GoLaws.{Each, takes}

pub map-append : {A B : Type 0} (f : A → B) (l m : List A) → map f (l ++ m) ≡ map f l ++ map f m
map-append f [] m = refl
map-append f (x ∷ l) m = ap (λ n. f x ∷ n) (map-append f l m)

pub run_ends-append : (l m : List Step) → run_ends (l ++ m) ≡ run_ends l ++ run_ends m
run_ends-append [] m = refl
run_ends-append (test ∷ l) m = run_ends-append l m
run_ends-append (end j ∷ l) m = ap (λ n. j ∷ n) (run_ends-append l m)

ends-later : (spans : List GroupSpan) (l : List Found) → ends (map (later spans) l) ≡ ends l
ends-later spans [] = refl
ends-later spans (x ∷ l) = ap (λ n. x.end ∷ n) (ends-later spans l)

ends-closed : (n i : ℕ) (l : List Found) → ends (map (closed n i) l) ≡ ends l
ends-closed n i [] = refl
ends-closed n i (x ∷ l) = ap (λ m. x.end ∷ m) (ends-closed n i l)

ends-append : (l m : List Found) → ends (l ++ m) ≡ ends l ++ ends m
ends-append l m = map-append (λ (x : Found). x.end) l m

-- The ends of what follows are what follows from the ends.
ends-onward : (next : ℕ → List Found) (l : List Found) → ends (onward l next) ≡ followed (ends l) (λ j. ends (next j))
ends-onward next [] = refl
ends-onward next (x ∷ l) =
    ends-append (map (later x.spans) (next x.end)) (onward l next)
    ∙ ap₂ (λ a b. a ++ b) (ends-later x.spans (next x.end)) (ends-onward next l)

run_ends-onward : (next : ℕ → List Step) (l : List Step) → run_ends (Run.onward l next) ≡ followed (run_ends l) (λ j. run_ends (next j))
run_ends-onward next [] = refl
run_ends-onward next (test ∷ l) = run_ends-onward next l
run_ends-onward next (end j ∷ l) = run_ends-append (next j) (Run.onward l next) ∙ ap (λ n. run_ends (next j) ++ n) (run_ends-onward next l)

followed-same : (f g : ℕ → List ℕ) → ((j : ℕ) → f j ≡ g j) → (l : List ℕ) → followed l f ≡ followed l g
followed-same f g h [] = refl
followed-same f g h (j ∷ l) = ap₂ (λ a b. a ++ b) (h j) (followed-same f g h l)

-- What follows ends alike, if both sides do.
onward_alike : (next : ℕ → List Found) (other : ℕ → List Step) → ((j : ℕ) → ends (next j) ≡ run_ends (other j))
    → (l : List Found) (m : List Step) → ends l ≡ run_ends m → ends (onward l next) ≡ run_ends (Run.onward m other)
onward_alike next other h l m e =
    ends-onward next l
    ∙ followed-same (λ j. ends (next j)) (λ j. run_ends (other j)) h (ends l)
    ∙ ap (λ x. followed x (λ j. run_ends (other j))) e
    ∙ sym (run_ends-onward other m)

one_more_alike : (greedy : Bool) (i : ℕ) (l : List Found) (m : List Step) → ends l ≡ run_ends m
    → ends (one_more greedy (ended i) l) ≡ run_ends (one_more greedy (end i) m)
one_more_alike true i l m e = ends-append l (ended i ∷ []) ∙ ap (λ n. n ++ i ∷ []) e ∙ sym (run_ends-append m (end i ∷ []))
one_more_alike false i l m e = ap (λ n. i ∷ n) e

if_alike : (b : Bool) (x y : List Found) (s t : List Step) → ends x ≡ run_ends s → ends y ≡ run_ends t
    → ends (if b then x else y) ≡ run_ends (if b then s else t)
if_alike true x y s t p q = p
if_alike false x y s t p q = q

rounds_alike : (body : ℕ → List Found) (other : ℕ → List Step) → ((j : ℕ) → ends (body j) ≡ run_ends (other j))
    → (greedy : Bool) (n i : ℕ) → ends (rounds body greedy n i) ≡ run_ends (Run.rounds other greedy n i)
rounds_alike body other h greedy zero i = one_more_alike greedy i (body i) (other i) (h i)
rounds_alike body other h greedy (suc n) i =
    one_more_alike greedy i
    (onward (body i) (λ j. if nat_lt i j then rounds body greedy n j else ended j ∷ []))
    (Run.onward (other i) (λ j. if nat_lt i j then Run.rounds other greedy n j else end j ∷ []))
    (onward_alike (λ j. if nat_lt i j then rounds body greedy n j else ended j ∷ []) (λ j. if nat_lt i j then Run.rounds other greedy n j else end j ∷ [])
    (λ j. if_alike (nat_lt i j) (rounds body greedy n j) (ended j ∷ []) (Run.rounds other greedy n j) (end j ∷ []) (rounds_alike body other h greedy n j) refl)
    (body i) (other i) (h i))

onward-same : (P : ℕ → Type 0) (next other : ℕ → List Found) → ((j : ℕ) → P j → next j ≡ other j) → (l : List Found) → Each P (ends l) → onward l next ≡ onward l other
onward-same P next other f [] p = refl
onward-same P next other f (x ∷ l) p = ap₂ (λ a b. map (later x.spans) a ++ b) (f x.end p.0) (onward-same P next other f l p.1)

pub ends-run : (m : Marked) → IsStrict m → (w : List ℕ) (i : ℕ) → ends (finds m w i) ≡ run_ends (run (plain m) w i)
ends-run empty s w i = refl
ends-run (one set) s w i = if_alike (is_in set (slice_get w i)) (ended (suc i) ∷ []) [] (end (suc i) ∷ []) [] refl refl
ends-run (guard g) s w i = if_alike (holds_at g w i) (ended i ∷ []) [] (end i ∷ []) [] refl refl
ends-run (both e f) s w i =
    onward_alike (finds f w) (run (plain f) w) (λ j. ends-run f s.1 w j) (finds e w i) (run (plain e) w i) (ends-run e s.0 w i)
ends-run (either e f) s w i =
    ends-append (finds e w i) (finds f w i)
    ∙ ap₂ (λ a b. a ++ b) (ends-run e s.0 w i) (ends-run f s.1 w i)
    ∙ sym (run_ends-append (run (plain e) w i) (run (plain f) w i))
ends-run (many e greedy) s w i = rounds_alike (finds e w) (run (plain e) w) (λ j. ends-run e s w j) greedy (length w - i) i
ends-run (further e f) s w i =
    ap ends (onward-same (λ j. i < j) (λ j. if nat_lt i j then finds f w j else ended j ∷ []) (finds f w)
    (λ j lt. cond-true (nat_lt i j) (finds f w j) (ended j ∷ []) (lt-ltb i j lt)) (finds e w i) (takes e w i s.0))
    ∙ onward_alike (finds f w) (run (plain f) w) (λ j. ends-run f s.2 w j) (finds e w i) (run (plain e) w i) (ends-run e s.1 w i)
ends-run (mark n e) s w i = ends-closed n i (finds e w i) ∙ ends-run e s w i
