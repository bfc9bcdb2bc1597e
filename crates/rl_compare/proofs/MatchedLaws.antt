-- Laws of matched trees.
use Rattle.std.proofs.Common.{◌≡◌, ◌∙◌, ℕ, zero, suc, ◌+◌, ◌<◌, ◌≤◌, inl, inr, List, length, get_or, slice_get, true, IsTrue, ◌↔◌, refl, ap, subst, arith}
use Rattle.std.proofs.lemmas.Bool.{cases_lt, lt-ltb, ltb-true}
use Rattle.std.proofs.lemmas.Option.{slice_get-get_or}
use Rattle.rl_ranges.specs.declared.universe.Universe.{Universe}
use Rattle.rl_ranges.specs.Text.{code_count, IsText}
use Rattle.rl_syntax.specs.declared.re.Ending.{Ending}
use Rattle.rl_syntax.specs.declared.re.Ending.TheVariants.{AtEnd, Anywhere}
use Rattle.rl_syntax.specs.Guards.{is_in}
use Rattle.rl_syntax.specs.Tree.{Tree, one, IsOver}
use Rattle.rl_syntax.specs.Language.{Rounds, stop, again, Spans}
use Rattle.rl_syntax.specs.Modes.{is_code}
use Rattle.rl_syntax.specs.Run.{run}
use Rattle.rl_syntax.specs.Cost.{matched}
use Rattle.rl_syntax.proofs.RunLaws.{Goes, run_goes}
use Rattle.rl_prio.proofs.MatchLemmas.{at_end, span-end, matched_to_end, matched_to_some}
use Rattle.rl_equiv.specs.Languages.{IsIn}
use Rattle.rl_compare.specs.Matched.{matched_tree}

code-in : (u : Universe) (w : List ℕ) (k : ℕ) → IsText u w → k < length w → is_in (is_code u) (slice_get w k) ≡ true
unfolding is_in is_code
code-in u w k text lt = ap (is_in (is_code u)) (slice_get-get_or w k 0 lt) ∙ lt-ltb (get_or w k 0) (code_count u) (text k 0 lt)

-- Any number of codes spans the rest of a text.
rest-spans : (u : Universe) (w : List ℕ) → IsText u w → (n k : ℕ) → k + n ≡ length w → Rounds (Spans (one (is_code u)) w) k (length w)
rest-spans u w text zero k e = let here : k ≡ length w = omega arith in subst (λ (j : ℕ). Rounds (Spans (one (is_code u)) w) k j) here stop
rest-spans u w text (suc n) k e = again (omega arith) (code-in u w k text (omega arith), refl) (rest-spans u w text n (suc k) (omega arith))

span-within : (t : Tree) (w : List ℕ) (j : ℕ) → Spans t w 0 j → j ≤ length w
span-within t w j span =
    let go : Goes w 0 j = at_end (Goes w 0) (run t w 0) j (run_goes t w 0) (span-end t w 0 j span) in
    elim (cases_lt 0 j) [
      | inl lt ↦ go.1 lt
      | inr le ↦ omega arith
    ]

rest-of : (j n : ℕ) → j ≤ n → (m : ℕ) × (j + m ≡ n)
rest-of zero n le = (n, omega arith)
rest-of (suc j) zero le = absurd (omega arith)
rest-of (suc j) (suc n) le = let r = rest-of j n (omega arith) in (r.0, omega (arith, r.1))

pub matched-spans : (u : Universe) (t : Tree) (ending : Ending) (w : List ℕ) → IsText u w → IsIn (matched_tree u t ending) w ↔ IsTrue (matched t ending w)
matched-spans u t AtEnd w text = let m = matched_to_end t w in (m.1, m.0)
matched-spans u t Anywhere w text =
    let m = matched_to_some t w in (
      λ i. m.1 (i.0, i.1),
      λ h. let s = m.0 h in let r = rest-of s.0 (length w) (span-within t w s.0 s.1) in (s.0, s.1, rest-spans u w text r.0 s.0 r.1),
    )

-- If a tree is over a universe, so is its matched tree.
pub matched-over : (u : Universe) (t : Tree) (ending : Ending) → IsOver u t → IsOver u (matched_tree u t ending)
unfolding is_code
matched-over u t AtEnd over = over
matched-over u t Anywhere over = (over, λ c h. ltb-true c (code_count u) h)
