-- Laws of regions: what their texts say about two trees.
use Rattle.std.proofs.Common.{◌≡◌, ◌∙◌, ℕ, suc, ◌<◌, ◌≤◌, inl, inr, List, [], ◌∷◌, length, map, Option, Some, None, All, Contains, Bool, true, false, not, ◌&&◌, cond, IsTrue, ◌↔◌, refl, sym, ap, ap₂, subst, arith}
use Rattle.std.proofs.lemmas.Bool.{false≢true, cases_lt}
use Rattle.std.proofs.lemmas.List.{take_all, length-map}
use Rattle.std.proofs.lemmas.List.Elements.{All-nil, All-cons, All-take, All-contains}
use Rattle.rl_ranges.specs.declared.universe.Universe.{Universe}
use Rattle.rl_ranges.specs.Letters.{class_of}
use Rattle.rl_ranges.specs.Text.{code_count, IsText}
use Rattle.rl_syntax.specs.declared.re.Ending.TheVariants.{AtEnd}
use Rattle.rl_syntax.specs.Tree.{Tree}
use Rattle.rl_syntax.specs.Cost.{matched}
use Rattle.rl_prio.specs.Automaton.{Automaton}
use Rattle.rl_equiv.specs.declared.pair.SetPair.{SetPair}
use Rattle.rl_equiv.specs.declared.compared.Compared.{Compared}
use Rattle.rl_equiv.specs.SetPairs.{joint_sets, first_pair, SetPairs, set_pairs, word_of}
use Rattle.rl_equiv.specs.Numbering.{found_after, Reached, pairs_reached, reached_after, first_reached, Reads, IsReached}
use Rattle.rl_equiv.specs.Joined.{StandTogether}
use Rattle.rl_equiv.specs.Regions.{word_where, IsSpelled, IsTextOf, AreRegions}
use Rattle.rl_equiv.specs.Comparison.{IsOfRegion, IsTrueComparison}
use Rattle.rl_equiv.proofs.WordLaws.{reached-found, reached-reads, all-found}
use Rattle.rl_equiv.proofs.ReadLaws.{text-leads, text-told}

-- A text that spells a word has that word.
spelled-text : (sets : List (ℕ → Bool)) (u : Universe) (word text : List ℕ) → IsSpelled sets (code_count u) word text → IsText u text × (map (class_of sets (code_count u)) text ≡ word)
spelled-text sets u [] [] i = (All-nil (λ c. c < code_count u), refl)
spelled-text sets u (letter ∷ word) (code ∷ text) i =
    let more = spelled-text sets u word text i.1 in
    (All-cons (λ c. c < code_count u) code text i.0.within more.0, ap₂ (λ (l : ℕ) (ls : List ℕ). l ∷ ls) i.0.in_it more.1)
spelled-text sets u [] (code ∷ text) i = absurd i
spelled-text sets u (letter ∷ word) [] i = absurd i

-- The word of the first set pair that passes a test is that of one of them.
where-some : (test : SetPair → Bool) (l : List Reached) (word : List ℕ) → word_where test l ≡ Some word → (r : Reached) × Contains l r × (test r.pair ≡ true) × (r.word ≡ word)
where-some test [] word e = cc
where-some test (r ∷ rs) word e = by (where-some test rs word) (test r.pair) refl e
  where
    by : (word_where test rs ≡ Some word → (x : Reached) × Contains rs x × (test x.pair ≡ true) × (x.word ≡ word)) → (b : Bool) → test r.pair ≡ b → cond b (Some r.word) (word_where test rs) ≡ Some word → (x : Reached) × Contains (r ∷ rs) x × (test x.pair ≡ true) × (x.word ≡ word)
    by later true h e = (r, (0, omega arith, refl), h, cc)
    by later false h e = let m = later e in (m.0, (suc m.1.0, omega (arith, m.1.1), m.1.2), m.2, m.3)

-- If there is none, no set pair passes the test.
where-none : (test : SetPair → Bool) (l : List Reached) → word_where test l ≡ None → All (λ p. test p ≡ false) (pairs_reached l)
where-none test [] e = All-nil (λ p. test p ≡ false)
where-none test (r ∷ rs) e = by (where-none test rs) (test r.pair) refl e
  where
    by : (word_where test rs ≡ None → All (λ p. test p ≡ false) (pairs_reached rs)) → (b : Bool) → test r.pair ≡ b → cond b (Some r.word) (word_where test rs) ≡ None → All (λ p. test p ≡ false) (r.pair ∷ pairs_reached rs)
    by later true h e = cc
    by later false h e = All-cons (λ p. test p ≡ false) r.pair (pairs_reached rs) h (later e)

-- A test of the two ends of a set pair.
abbrev ends_test : (Bool → Bool → Bool) → SetPairs → SetPair → Bool
ends_test g d p = g (d.ends_first p) (d.ends_second p)

module _ (u : Universe) (s t : Tree) (a b : Automaton) (st : StandTogether u s t a b) (limit : ℕ) where
  test-told : (g : Bool → Bool → Bool) (w : List ℕ) → IsText u w → (q : SetPair) → Reads (set_pairs u s t) first_pair (word_of u s t w) q
      → ends_test g (set_pairs u s t) q ≡ g (matched s AtEnd w) (matched t AtEnd w)
  test-told g w text q reads = let told = text-told u s t a b st w text q reads in ap₂ g told.0 told.1

  region-told : (g : Bool → Bool → Bool) (more : Bool) (text : Option (List ℕ)) → (more ≡ false → length (found_after (set_pairs u s t) limit) ≤ limit)
      → IsTextOf (joint_sets s t) (code_count u) (word_where (ends_test g (set_pairs u s t)) (first_reached (set_pairs u s t) limit)) text
      → IsOfRegion u (λ w. g (matched s AtEnd w) (matched t AtEnd w)) more text
  region-told g more text few is =
      let D = set_pairs u s t in
      let S = joint_sets s t in
      let L = first_reached D limit in
      record {
        some = λ w here. some (word_where (ends_test g D) L) refl w (subst (IsTextOf S (code_count u) (word_where (ends_test g D) L)) here is);
        none = λ all here w there. none (word_where (ends_test g D) L) refl (few all) (subst (IsTextOf S (code_count u) (word_where (ends_test g D) L)) here is) w there;
      }
    where
      some : (o : Option (List ℕ)) → word_where (ends_test g (set_pairs u s t)) (first_reached (set_pairs u s t) limit) ≡ o
          → (w : List ℕ) → IsTextOf (joint_sets s t) (code_count u) o (Some w) → IsText u w × (g (matched s AtEnd w) (matched t AtEnd w) ≡ true)
      some None h w i = absurd i
      some (Some word) h w i =
          let D = set_pairs u s t in
          let x = spelled-text (joint_sets s t) u word w i in
          let r = where-some (ends_test g D) (first_reached D limit) word h in
          let led : IsReached D r.0 = All-contains (IsReached D) (first_reached D limit) r.0 (All-take (IsReached D) limit (reached_after D limit) (reached-reads D limit)) r.1 in
          let reads : Reads D first_pair (word_of u s t w) r.0.pair = subst (λ (l : List ℕ). Reads D first_pair l r.0.pair) (r.3 ∙ sym x.1) led in
          (x.0, sym (test-told g w x.0 r.0.pair reads) ∙ r.2)

      none : (o : Option (List ℕ)) → word_where (ends_test g (set_pairs u s t)) (first_reached (set_pairs u s t) limit) ≡ o
          → length (found_after (set_pairs u s t) limit) ≤ limit
          → IsTextOf (joint_sets s t) (code_count u) o None → (w : List ℕ) → IsText u w → g (matched s AtEnd w) (matched t AtEnd w) ≡ false
      none (Some word) h le i w there = absurd i
      none None h le i w there =
          let D = set_pairs u s t in
          let q = text-leads u s t a b st w there in
          let found : Contains (found_after D limit) q.0 = all-found D limit le (word_of u s t w) q.0 q.1 in
          let long : length (reached_after D limit) ≤ limit = omega (arith, ap length (reached-found D limit), length-map (reached_after D limit) (λ (r : Reached). r.pair), le) in
          let each = where-none (ends_test g D) (first_reached D limit) h in
          let all : All (λ p. ends_test g D p ≡ false) (found_after D limit) =
          subst (All (λ p. ends_test g D p ≡ false)) (ap pairs_reached (take_all limit (reached_after D limit) long) ∙ reached-found D limit) each in
          sym (test-told g w there q.0 q.1) ∙ All-contains (λ p. ends_test g D p ≡ false) (found_after D limit) q.0 all found

  few-from : (more : Bool) (n : ℕ) → IsTrue more ↔ (limit < n) → more ≡ false → n ≤ limit
  few-from more n h e =
      elim (cases_lt limit n) [
        | inl lt ↦ absurd (false≢true (sym e ∙ h.1 lt))
        | inr le ↦ le
      ]

  -- The texts of the regions say which texts the trees match.
  pub regions-told : (c : Compared) → AreRegions u s t limit c → IsTrueComparison u (matched s AtEnd) (matched t AtEnd) c
  regions-told c r =
      let few = few-from c.more (length (found_after (set_pairs u s t) limit)) r.more in
      record {
        first = region-told (λ x y. x && not y) c.more c.first few r.first;
        second = region-told (λ x y. not x && y) c.more c.second few r.second;
        both = region-told (λ x y. x && y) c.more c.both few r.both;
      }
