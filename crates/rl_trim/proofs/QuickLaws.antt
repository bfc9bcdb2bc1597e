-- Laws of a quick trial: its pairs, once all are looked at, and the sets that are reached from the start cover what is reached.
use Rattle.std.proofs.Common.{◌≡◌, ◌∙◌, ℕ, ◌+◌, ◌<◌, ◌≤◌, ◌⊎◌, inl, inr, List, ◌++◌, length, get_or, map, All, Contains, Bool, true, false, not, refl, sym, ap, subst, arith}
use Rattle.std.proofs.Math.Bool.{beq}
use Rattle.std.proofs.lemmas.Bool.{both_ways}
use Rattle.std.proofs.lemmas.List.{length-map, length-append, get_or-map}
use Rattle.std.proofs.lemmas.List.Elements.{All-append, All-map, All-from_get_or, Contains-get_or, Contains-append_left, Contains-append_right}
use Rattle.rl_prio.specs.Automaton.{Automaton, letters_count}
use Rattle.rl_sets.specs.Live.{below, image}
use Rattle.rl_sets.specs.Walk.{Walk, set_at}
use Rattle.rl_equiv.specs.declared.pair.SetPair.{SetPair}
use Rattle.rl_equiv.specs.SetPairs.{first_pair, differs}
use Rattle.rl_equiv.proofs.ImageLaws.{length-below, get_or-below}
use Rattle.rl_trim.specs.declared.key.Key.{Key}
use Rattle.rl_trim.specs.declared.judgement.Judgement.TheVariants.{Equal, Apart}
use Rattle.rl_trim.specs.Judged.{IsFound}
use Rattle.rl_trim.specs.internal.Trims.{trimmed, trim_on, trim_nexts, trim_run, trim_differs, set_ends, trim_pairs, LeadsApart}
use Rattle.rl_trim.specs.Reached.{HasImage}
use Rattle.rl_trim.specs.internal.Quick.{no_key, pair_of, pair_at, HasPair, root, IsRoot, IsThere, ArePairs, HasNexts, IsDone, AreDone, NoneApart}
use Rattle.rl_trim.proofs.ApartLaws.{reads-run}
use Rattle.rl_trim.proofs.CoverLaws.{cover_apart, cover_equal}
use Rattle.rl_trim.proofs.TrimOrder.{all-below, trim-nexts, trim-differs}

module _ (a : Automaton) (keep : List Bool) (w : Walk) (count : ℕ) (keys : List Key) (p : ArePairs a keep w count keys) where
  abbrev roots : List SetPair
  roots = map (root keep w) (below count)

  abbrev found : List SetPair
  found = map (pair_of w) keys

  abbrev cover : List SetPair
  cover = roots ++ found

  cover-length : length cover ≡ count + length keys
  cover-length = omega (arith, length-append roots found, length-map (below count) (root keep w), length-below count, length-map keys (pair_of w))

  pair-in : (q : SetPair) → HasPair w keys q → Contains cover q
  pair-in q h =
      let lt : h.place < length found = omega (arith, h.inside, length-map keys (pair_of w)) in
      let e : get_or found h.place first_pair ≡ q = get_or-map (pair_of w) keys h.place no_key first_pair h.inside ∙ h.is in
      Contains-append_right roots found q (subst (Contains found) e (Contains-get_or found h.place first_pair lt))

  root-in : (q : SetPair) → IsRoot keep w count q → Contains cover q
  root-in q r =
      let lt : r.number < length roots = omega (arith, r.inside, length-map (below count) (root keep w), length-below count) in
      let e : get_or roots r.number first_pair ≡ q = get_or-below (root keep w) count r.number first_pair r.inside ∙ r.is in
      Contains-append_left roots found q (subst (Contains roots) e (Contains-get_or roots r.number first_pair lt))

  there-in : (q : SetPair) → IsThere keep w count keys q → Contains cover q
  there-in q (inl r) = root-in q r
  there-in q (inr h) = pair-in q h

  nexts-in : (q : SetPair) → HasNexts a keep w count keys q (letters_count a) → All (Contains cover) ((trim_pairs a keep).nexts q)
  nexts-in q h =
      subst (All (Contains cover)) (sym (trim-nexts a keep q))
      (All-from_get_or (Contains cover) (trim_nexts a keep q) first_pair
      (λ i lt.
      let small : i < letters_count a = omega (arith, lt, length-map (below (letters_count a)) (trim_on a keep q), length-below (letters_count a)) in
      subst (Contains cover) (sym (get_or-below (trim_on a keep q) (letters_count a) i first_pair small)) (there-in (trim_on a keep q i) (h i small))))

  first-in : Contains cover first_pair
  first-in =
      let e : root keep w 0 ≡ first_pair = ap (λ (s : List ℕ). let r : SetPair = record { first = s; second = trimmed keep s } in r) p.closed.start in
      root-in first_pair (record { number = 0; inside = p.closed.some; is = e })

  -- One set with itself shows no difference, and its next pairs are there.
  abbrev IsCalm : SetPair → Type 0
  IsCalm q = (differs (trim_pairs a keep) q ≡ false) × All (Contains cover) ((trim_pairs a keep).nexts q)

  same-ends : (b : Bool) → not (beq b b) ≡ false
  same-ends true = refl
  same-ends false = refl

  whole-calm : (k : ℕ) → k < count → trimmed keep (set_at w k) ≡ set_at w k → IsCalm (root keep w k)
  whole-calm k lt whole = (
    trim-differs a keep (root keep w k) ∙ ap (λ (s : List ℕ). not (beq (set_ends a (set_at w k)) (set_ends a s))) whole ∙ same-ends (set_ends a (set_at w k)),
    nexts-in (root keep w k) (λ letter small. inl (by letter (p.closed.images k letter lt small))),
  )
    where
      by : (letter : ℕ) → HasImage a w count k letter → IsRoot keep w count (trim_on a keep (root keep w k) letter)
      by letter h =
          let e : root keep w h.number ≡ trim_on a keep (root keep w k) letter =
          λ j. record { first = h.is j; second = trimmed keep ((h.is ∙ ap (λ (s : List ℕ). image a s letter) (sym whole)) j) } in
          record { number = h.number; inside = h.inside; is = e }

  -- What holds of those that are found holds of the others.
  roots-so : (P : SetPair → Type 0) → ((q : SetPair) → IsCalm q → P q) → ((i : ℕ) → i < length keys → P (pair_at w keys i)) → (k : ℕ) → k < count → P (root keep w k)
  roots-so P calm each k lt = by (p.rooted.roots k lt)
    where
      by : (trimmed keep (set_at w k) ≡ set_at w k) ⊎ HasPair w keys (root keep w k) → P (root keep w k)
      by (inl whole) = calm (root keep w k) (whole-calm k lt whole)
      by (inr h) = subst P h.is (each h.place h.inside)

  all-so : (P : SetPair → Type 0) → ((q : SetPair) → IsCalm q → P q) → ((i : ℕ) → i < length keys → P (pair_at w keys i)) → All P cover
  all-so P calm each =
      All-append P roots found
      (All-map P (root keep w) (below count) (all-below (λ k. P (root keep w k)) count (roots-so P calm each)))
      (All-map P (pair_of w) keys (All-from_get_or (λ (k : Key). P (pair_of w k)) keys no_key each))

  pub quick-equal : (limit : ℕ) → AreDone a keep w count keys (length keys) → NoneApart a w keys (length keys) → length keys + count ≤ limit → IsFound (trim_pairs a keep) limit Equal
  quick-equal limit done none few = cover_equal (trim_pairs a keep) limit cover (omega (arith, few, cover-length)) first-in (all-so IsCalm (λ q calm. calm) (λ i lt. by i lt (done i lt)))
    where
      by : (i : ℕ) → i < length keys → IsDone a keep w count keys i → IsCalm (pair_at w keys i)
      by i lt (inl apart) = absurd (both_ways (trim_differs a (pair_at w keys i)) (none i lt) apart)
      by i lt (inr h) = (trim-differs a keep (pair_at w keys i) ∙ none i lt, nexts-in (pair_at w keys i) h)

  pub quick-apart : (limit : ℕ) (word : List ℕ) → AreDone a keep w count keys (length keys) → length keys + count ≤ limit → LeadsApart a keep word → IsFound (trim_pairs a keep) limit Apart
  quick-apart limit word done few leads =
      cover_apart (trim_pairs a keep) limit cover (omega (arith, few, cover-length)) first-in
      (all-so (λ q. (differs (trim_pairs a keep) q ≡ true) ⊎ All (Contains cover) ((trim_pairs a keep).nexts q)) (λ q calm. inr calm.1) (λ i lt. by i (done i lt)))
      (trim_run a keep first_pair word) word (reads-run a keep word first_pair leads.small) (trim-differs a keep (trim_run a keep first_pair word) ∙ leads.apart)
    where
      by : (i : ℕ) → IsDone a keep w count keys i → (differs (trim_pairs a keep) (pair_at w keys i) ≡ true) ⊎ All (Contains cover) ((trim_pairs a keep).nexts (pair_at w keys i))
      by i (inl apart) = inl (trim-differs a keep (pair_at w keys i) ∙ apart)
      by i (inr h) = inr (nexts-in (pair_at w keys i) h)
