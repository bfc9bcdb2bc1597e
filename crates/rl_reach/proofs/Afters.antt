-- The cost of a search, by matches behind each character. They see the character that a guard looks back at.
use Rattle.std.proofs.Common.{◌≡◌, ℕ, suc, ◌+◌, ◌<◌, ◌≤◌, inr, Bool, true, false, List, [], ◌∷◌, ◌++◌, length, None, Some, slice_get, if◌then◌else◌, refl, ap, ◌∙◌, arith, append-nil}
use Rattle.std.proofs.lemmas.List.Elements.{All-tail}
use Rattle.rl_ranges.specs.declared.universe.Universe.{Universe}
use Rattle.rl_ranges.specs.Text.{code_count, IsText}
use Rattle.rl_syntax.specs.declared.re.Ending.{Ending}
use Rattle.rl_syntax.specs.Guards.{is_in}
use Rattle.rl_syntax.specs.Tree.{Tree}
use Rattle.rl_syntax.specs.Run.{Step, test, end, onward, run}
use Rattle.rl_syntax.specs.Cost.{tests, up_to_hit, is_hit, all_tests, cost}
use Rattle.rl_syntax.specs.Modes.{is_code, sought}
use Rattle.rl_reach.specs.Places.{cost_of_all, after_one}
use Rattle.rl_reach.proofs.Later.{run-later}
use Rattle.rl_reach.proofs.Hits.{tests-append, tests-later, up_to_hit-most}
use Rattle.rl_reach.proofs.Skipping.{run-end, run-on, text-code}

-- The steps up to the first hit.
module _ (u : Universe) (ending : Ending) where
  steps : Tree → List ℕ → ℕ → ℕ
  steps t w i = up_to_hit (tests (is_hit ending (length w)) (run t w i))

  steps-cost : (t : Tree) (w : List ℕ) → cost t ending w ≡ suc (steps t w 0)
  unfolding steps all_tests
  steps-cost t w = refl

  steps-later : (t : Tree) (c d : ℕ) (w : List ℕ) → steps t (c ∷ d ∷ w) 2 ≡ steps t (d ∷ w) 1
  unfolding steps
  steps-later t c d w =
      ap (λ l. up_to_hit (tests (is_hit ending (length (c ∷ d ∷ w))) l)) (run-later t c (d ∷ w) 1 (inr (omega arith)))
      ∙ ap up_to_hit (tests-later ending (length (d ∷ w)) (run t (d ∷ w) 1))

  steps-joined : (t : Tree) (w : List ℕ) (i : ℕ) (l : List Step) → run (sought u false t) w i ≡ run t w i ++ (test ∷ l) → steps (sought u false t) w i ≤ steps t w i + suc (up_to_hit (tests (is_hit ending (length w)) l))
  unfolding steps
  steps-joined t w i l e =
      let parts : tests (is_hit ending (length w)) (run (sought u false t) w i) ≡ tests (is_hit ending (length w)) (run t w i) ++ (false ∷ tests (is_hit ending (length w)) l) =
      ap (tests (is_hit ending (length w))) e ∙ tests-append (is_hit ending (length w)) (run t w i) (test ∷ l) in
      rw parts (up_to_hit-most (tests (is_hit ending (length w)) (run t w i)) (false ∷ tests (is_hit ending (length w)) l))

  steps-end : (t : Tree) (w : List ℕ) (i : ℕ) → slice_get w i ≡ None → steps (sought u false t) w i ≤ steps t w i + 1
  steps-end t w i h = steps-joined t w i [] (run-end u t w i h)

  steps-on : (t : Tree) (w : List ℕ) (i c : ℕ) → slice_get w i ≡ Some c → is_code u c ≡ true → steps (sought u false t) w i ≤ steps t w i + suc (steps (sought u false t) w (suc i))
  unfolding steps
  steps-on t w i c h code = steps-joined t w i (run (sought u false t) w (suc i)) (run-on u t w i c h code)

  after-cost : (t : Tree) (c : ℕ) (w : List ℕ) → is_code u c ≡ true → cost (after_one u t) ending (c ∷ w) ≡ suc (suc (steps t (c ∷ w) 1))
  unfolding steps all_tests is_in
  after-cost t c w code =
      ap (λ (b : Bool). suc (suc (up_to_hit (tests (is_hit ending (length (c ∷ w))) (onward (if b then end 1 ∷ [] else []) (run t (c ∷ w))))))) code
      ∙ ap (λ l. suc (suc (up_to_hit (tests (is_hit ending (length (c ∷ w))) l)))) (append-nil (run t (c ∷ w) 1))

  -- From behind the first character on.
  after-first : (t : Tree) (c : ℕ) (w : List ℕ) → IsText u (c ∷ w) → suc (steps (sought u false t) (c ∷ w) 1) ≤ cost_of_all (after_one u t) ending (c ∷ w)
  after-first t c [] text =
      let e = after-cost t c [] (text-code u c [] text) in
      let most : steps (sought u false t) (c ∷ []) 1 ≤ steps t (c ∷ []) 1 + 1 = steps-end t (c ∷ []) 1 refl in
      omega (arith, e, most)
  after-first t c (d ∷ w) text =
      let later_text = All-tail (λ x. x < code_count u) c (d ∷ w) text in
      let e = after-cost t c (d ∷ w) (text-code u c (d ∷ w) text) in
      let most : steps (sought u false t) (c ∷ d ∷ w) 1 ≤ steps t (c ∷ d ∷ w) 1 + suc (steps (sought u false t) (c ∷ d ∷ w) 2) = steps-on t (c ∷ d ∷ w) 1 d refl (text-code u d w later_text) in
      let rest = after-first t d w later_text in
      let same = steps-later (sought u false t) c d w in
      omega (arith, e, most, rest, same)

  pub search-after : (t : Tree) (w : List ℕ) → IsText u w → cost (sought u false t) ending w ≤ cost t ending w + cost_of_all (after_one u t) ending w
  search-after t [] text =
      omega (arith, steps-cost (sought u false t) [], steps-cost t [], steps-end t [] 0 refl)
  search-after t (c ∷ w) text =
      omega (arith, steps-cost (sought u false t) (c ∷ w), steps-cost t (c ∷ w), steps-on t (c ∷ w) 0 c refl (text-code u c w text), after-first t c w text)
