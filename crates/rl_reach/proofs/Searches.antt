-- The cost of a search: a match from the start of the text, and then, if it fails, a search of the rest behind one character
-- that is skipped.
use Rattle.std.proofs.Common.{◌≡◌, ℕ, suc, ◌+◌, ◌<◌, ◌≤◌, Bool, true, false, inl, List, [], ◌∷◌, ◌++◌, length, slice_get, if◌then◌else◌, refl, sym, ap, ◌∙◌, arith, add-zero, suc-add, suc-le-suc}
use Rattle.std.proofs.lemmas.List.Elements.{All-tail}
use Rattle.rl_ranges.specs.declared.universe.Universe.{Universe}
use Rattle.rl_ranges.specs.Text.{code_count, IsText}
use Rattle.rl_syntax.specs.declared.re.Ending.{Ending}
use Rattle.rl_syntax.specs.Tree.{Tree}
use Rattle.rl_syntax.specs.Run.{test, onward, run}
use Rattle.rl_syntax.specs.Cost.{tests, up_to_hit, is_hit, all_tests, cost, matched}
use Rattle.rl_syntax.specs.Modes.{is_code, sought}
use Rattle.rl_reach.specs.Behind.{looks_behind}
use Rattle.rl_reach.specs.Places.{cost_in_turn}
use Rattle.rl_reach.proofs.Later.{later, run-later}
use Rattle.rl_reach.proofs.Skipping.{skipped, run-sought, run-end, run-on, text-code}
use Rattle.rl_reach.proofs.Hits.{tests-append, tests-later, up_to_hit-least, up_to_hit-found, up_to_hit-none}

search-run : (u : Universe) (t : Tree) → looks_behind t ≡ false → (c : ℕ) (w : List ℕ) → is_code u c ≡ true
    → run (sought u false t) (c ∷ w) 0 ≡ run t (c ∷ w) 0 ++ (test ∷ later (run (sought u false t) w 0))
search-run u t h c w code = run-on u t (c ∷ w) 0 c refl code ∙ ap (λ l. run t (c ∷ w) 0 ++ (test ∷ l)) (run-later (sought u false t) c w 0 (inl h))

-- The steps of a search are those of the match, one more, and others.
module _ (u : Universe) (t : Tree) (ending : Ending) where
  others : List ℕ → List Bool
  others w = tests (is_hit ending (length w)) (onward (skipped u w 0 (slice_get w 0)) (run t w))

  search-tests : (w : List ℕ) → all_tests (sought u false t) ending w ≡ all_tests t ending w ++ (false ∷ others w)
  unfolding all_tests others
  search-tests w =
      ap (tests (is_hit ending (length w))) (run-sought u t w 0) ∙ tests-append (is_hit ending (length w)) (run t w 0) (test ∷ onward (skipped u w 0 (slice_get w 0)) (run t w))

  pub search-least : (w : List ℕ) → cost t ending w ≤ cost (sought u false t) ending w
  search-least w = rw (search-tests w) (suc-le-suc (up_to_hit-least (all_tests t ending w) (false ∷ others w)))

  pub search-found : (w : List ℕ) → matched t ending w ≡ true → cost (sought u false t) ending w ≡ cost t ending w
  search-found w h = ap (λ l. suc (up_to_hit l)) (search-tests w) ∙ ap suc (up_to_hit-found (all_tests t ending w) (false ∷ others w) h)

  pub search-more : (w : List ℕ) → matched t ending w ≡ false → cost t ending w < cost (sought u false t) ending w
  search-more w h =
      let e : cost (sought u false t) ending w ≡ suc (up_to_hit (all_tests t ending w) + suc (up_to_hit (others w))) =
      ap (λ l. suc (up_to_hit l)) (search-tests w) ∙ ap suc (up_to_hit-none (all_tests t ending w) (false ∷ others w) h) in
      omega (arith, e)

  -- A failed match at the end of the text is followed by one step.
  search-end : matched t ending [] ≡ false → cost (sought u false t) ending [] ≡ cost t ending [] + 1
  unfolding all_tests
  search-end h =
      let e : all_tests (sought u false t) ending [] ≡ all_tests t ending [] ++ (false ∷ []) =
      ap (tests (is_hit ending 0)) (run-end u t [] 0 refl) ∙ tests-append (is_hit ending 0) (run t [] 0) (test ∷ []) in
      let f : up_to_hit (all_tests t ending [] ++ (false ∷ [])) ≡ up_to_hit (all_tests t ending []) + 1 = up_to_hit-none (all_tests t ending []) (false ∷ []) h in
      ap (λ l. suc (up_to_hit l)) e ∙ ap suc f ∙ sym (suc-add (up_to_hit (all_tests t ending [])) 1)

  -- A failed match before it is followed by a search of the rest.
  search-rest : looks_behind t ≡ false → (c : ℕ) (w : List ℕ) → is_code u c ≡ true → matched t ending (c ∷ w) ≡ false
      → cost (sought u false t) ending (c ∷ w) ≡ cost t ending (c ∷ w) + cost (sought u false t) ending w
  unfolding all_tests
  search-rest h c w code failed =
      let e : all_tests (sought u false t) ending (c ∷ w) ≡ all_tests t ending (c ∷ w) ++ (false ∷ all_tests (sought u false t) ending w) =
      ap (tests (is_hit ending (length (c ∷ w)))) (search-run u t h c w code)
      ∙ tests-append (is_hit ending (length (c ∷ w))) (run t (c ∷ w) 0) (test ∷ later (run (sought u false t) w 0))
      ∙ ap (λ l. all_tests t ending (c ∷ w) ++ (false ∷ l)) (tests-later ending (length w) (run (sought u false t) w 0)) in
      let f = up_to_hit-none (all_tests t ending (c ∷ w)) (false ∷ all_tests (sought u false t) ending w) failed in
      ap (λ l. suc (up_to_hit l)) e ∙ ap suc f ∙ sym (suc-add (up_to_hit (all_tests t ending (c ∷ w))) (cost (sought u false t) ending w))

  -- A search is a match from each place in turn.
  pub search-in-turn : looks_behind t ≡ false → (w : List ℕ) → IsText u w → cost (sought u false t) ending w ≡ cost_in_turn t ending w
  search-in-turn h [] text = by (matched t ending []) refl
    where
      by : (b : Bool) → matched t ending [] ≡ b → cost (sought u false t) ending [] ≡ cost t ending [] + (if matched t ending [] then 0 else 1)
      by true e = search-found [] e ∙ sym (ap (λ (b : Bool). cost t ending [] + (if b then 0 else 1)) e ∙ add-zero (cost t ending []))
      by false e = search-end e ∙ sym (ap (λ (b : Bool). cost t ending [] + (if b then 0 else 1)) e)
  search-in-turn h (c ∷ w) text =
      by (search-in-turn h w (All-tail (λ d. d < code_count u) c w text)) (matched t ending (c ∷ w)) refl
    where
      by : cost (sought u false t) ending w ≡ cost_in_turn t ending w → (b : Bool) → matched t ending (c ∷ w) ≡ b
          → cost (sought u false t) ending (c ∷ w) ≡ cost t ending (c ∷ w) + (if matched t ending (c ∷ w) then 0 else cost_in_turn t ending w)
      by rest true e = search-found (c ∷ w) e ∙ sym (ap (λ (b : Bool). cost t ending (c ∷ w) + (if b then 0 else cost_in_turn t ending w)) e ∙ add-zero (cost t ending (c ∷ w)))
      by rest false e =
          search-rest h c w (text-code u c w text) e
          ∙ ap (λ n. cost t ending (c ∷ w) + n) rest
          ∙ sym (ap (λ (b : Bool). cost t ending (c ∷ w) + (if b then 0 else cost_in_turn t ending w)) e)
