-- What a search does at a place: the match from there, one step, and the search from the next place, if there is one.
use Rattle.std.proofs.Common.{◌≡◌, ℕ, suc, ◌<◌, Bool, true, false, List, [], ◌∷◌, ◌++◌, Option, Some, None, slice_get, nat_lt, if◌then◌else◌, refl, ap, ◌∙◌, arith, append-nil, lt-ltb}
use Rattle.std.proofs.lemmas.List.Elements.{All-head}
use Rattle.rl_ranges.specs.declared.universe.Universe.{Universe}
use Rattle.rl_ranges.specs.Text.{code_count, IsText}
use Rattle.rl_syntax.specs.Guards.{is_in}
use Rattle.rl_syntax.specs.Tree.{Tree, one, many}
use Rattle.rl_syntax.specs.Run.{Step, test, end, onward, run}
use Rattle.rl_syntax.specs.Modes.{is_code, sought}
use Rattle.rl_syntax.proofs.RunLaws.{run-many}

-- What follows the test of the character at the place: nothing if there is none.
abbrev pub skipped : Universe → List ℕ → ℕ → Option ℕ → List Step
skipped u w i here = onward (if is_in (is_code u) here then end (suc i) ∷ [] else []) (λ j. if nat_lt i j then run (many (one (is_code u)) false) w j else end j ∷ [])

pub run-sought : (u : Universe) (t : Tree) (w : List ℕ) (i : ℕ) → run (sought u false t) w i ≡ run t w i ++ (test ∷ onward (skipped u w i (slice_get w i)) (run t w))
run-sought u t w i = ap (λ l. onward l (run t w)) (run-many (one (is_code u)) false w i)

skipped-none : (u : Universe) (w : List ℕ) (i : ℕ) → skipped u w i None ≡ []
unfolding is_in
skipped-none u w i = refl

skipped-one : (u : Universe) (w : List ℕ) (i c : ℕ) → is_code u c ≡ true → skipped u w i (Some c) ≡ run (many (one (is_code u)) false) w (suc i)
unfolding is_in
skipped-one u w i c code =
    ap (λ (b : Bool). onward (if b then end (suc i) ∷ [] else []) (λ j. if nat_lt i j then run (many (one (is_code u)) false) w j else end j ∷ [])) code
    ∙ append-nil (if nat_lt i (suc i) then run (many (one (is_code u)) false) w (suc i) else end (suc i) ∷ [])
    ∙ ap (λ (b : Bool). if b then run (many (one (is_code u)) false) w (suc i) else end (suc i) ∷ []) (lt-ltb i (suc i) (omega arith))

pub run-end : (u : Universe) (t : Tree) (w : List ℕ) (i : ℕ) → slice_get w i ≡ None → run (sought u false t) w i ≡ run t w i ++ (test ∷ [])
run-end u t w i h =
    run-sought u t w i ∙ ap (λ o. run t w i ++ (test ∷ onward (skipped u w i o) (run t w))) h ∙ ap (λ l. run t w i ++ (test ∷ onward l (run t w))) (skipped-none u w i)

pub run-on : (u : Universe) (t : Tree) (w : List ℕ) (i c : ℕ) → slice_get w i ≡ Some c → is_code u c ≡ true → run (sought u false t) w i ≡ run t w i ++ (test ∷ run (sought u false t) w (suc i))
run-on u t w i c h code =
    run-sought u t w i ∙ ap (λ o. run t w i ++ (test ∷ onward (skipped u w i o) (run t w))) h ∙ ap (λ l. run t w i ++ (test ∷ onward l (run t w))) (skipped-one u w i c code)

pub text-code : (u : Universe) (c : ℕ) (w : List ℕ) → IsText u (c ∷ w) → is_code u c ≡ true
unfolding is_code
text-code u c w text = lt-ltb c (code_count u) (All-head (λ d. d < code_count u) c w text)
