-- Laws of the search for live pairs: if a pair has the same moves on a letter as on the letter before it, the row is the
-- same.
use Rattle.std.proofs.Common.{◌≡◌, ◌∙◌, ℕ, suc, ◌+◌, ◌-◌, ◌*◌, ◌<◌, ◌≤◌, inl, inr, List, [], ◌∷◌, ◌++◌, length, take, refl, sym, ap, subst, arith}
use Rattle.std.proofs.Math.Nat.{suc-mul, mul-le-mul_right}
use Rattle.std.proofs.lemmas.Bool.{cases_lt}
use Rattle.std.proofs.lemmas.List.{append_assoc, append-nil, take_all}
use Rattle.rl_graph.specs.Paths.{Each}
use Rattle.rl_graph.proofs.Sums.{each-has, Each-has}
use Rattle.rl_prio.specs.Automaton.{Automaton, letters_count, moves_at}
use Rattle.rl_sets.specs.Live.{image}
use Rattle.rl_sets.specs.Walk.{Walk, set_at}
use Rattle.rl_pairs.specs.declared.pair.Pair.{Pair}
use Rattle.rl_pairs.specs.LivePairs.{pairs_from, next_pairs}
use Rattle.rl_pairs.specs.internal.Counting.{Keeps, IsOnward, IsNumberOf, HasNumber}
use Rattle.rl_pairs.specs.internal.Finding.{Found, with_row, pair_at, width, next_of, IsFound, IsRowOf, IsMoved, IsTrying, IsFurther, tried}
use Rattle.rl_pairs.proofs.RowLaws.{pairs-has}
use Rattle.rl_pairs.proofs.FindingLaws.{found-keeps, found-old, found-row, Stays-refl}
use Rattle.rl_pairs.proofs.ExpandLaws.{row-stays, pair-stays, next-inside, letter-done}

-- A row of pairs that are found already.
found-more : (a : Automaton) (w : Walk) (f : Found) (done row : List ℕ) → IsFound a w (with_row f done) → Each (λ k. k < length f.keys) row → IsFound a w (with_row f (done ++ row))
found-more a w f done [] i e = subst (λ l. IsFound a w (with_row f l)) (sym (append-nil done)) i
found-more a w f done (j ∷ row) i e = subst (λ l. IsFound a w (with_row f l)) (append_assoc done (j ∷ []) row) (found-more a w f (done ++ j ∷ []) row (found-old a w f done j e.0 i) e.1)

-- The walk has the set for the last move.
last-stands : (a : Automaton) (w : Walk) (img ts : List ℕ) → HasNumber w img → Each (λ p. HasNumber w p.set) (pairs_from a img ts) → HasNumber w (tried a img (take (length ts - 1) ts))
last-stands a w img [] s e = s
last-stands a w img (t ∷ ts) s e =
    let n : length ts ≡ length (t ∷ ts) - 1 = omega arith in
    subst (λ k. HasNumber w (tried a img (take k (t ∷ ts)))) n (Each-has (λ p. HasNumber w p.set) _ (pairs_from a img (t ∷ ts)) e (pairs-has a img (t ∷ ts) (length ts) (omega arith)))

module _ (a : Automaton) (v w : Walk) (f : Found) (from letter : ℕ) (i : IsFound a v f) (from_in : from < length f.keys) (le : letter ≤ letters_count a) (m : IsMoved a v f (from * width a + letter)) (o : IsOnward a v w) where
  earlier : (q l : ℕ) → l < width a → q * width a + l < from * width a + letter → q < length f.keys
  earlier q l small lt = elim (cases_lt q (length f.keys)) [
    | inl less ↦ less
    | inr more ↦ absurd (omega (arith, mul-le-mul_right {m = suc from} {n = q} (width a) (omega arith), suc-mul from (width a)))
  ]

  row-keeps : (q l : ℕ) → l ≤ letters_count a → q * width a + l < from * width a + letter → IsRowOf a w f (next_pairs a (pair_at v f q) l) (next_of a f q l)
  row-keeps q l small lt = row-stays a v w f f (next_pairs a (pair_at v f q) l) (next_of a f q l) o.keeps (Stays-refl f) (next-inside a v f q l i (omega arith)) i.sets (m.moves q l small lt)

  -- The walk grows while a pair's moves are looked at.
  pub further-onward : IsFurther a v w f f (from * width a + letter)
  further-onward = record {
    onward = o;
    found = found-keeps a v w f o.keeps i;
    stays = Stays-refl f;
    moved = record {
      long = m.long;
      moves = λ q l small lt.
          let q_in = earlier q l (omega arith) lt in
          subst (λ (p : Pair). IsRowOf a w f (next_pairs a p l) (next_of a f q l)) (sym (pair-stays v w f f q o.keeps (Stays-refl f) q_in (i.sets q q_in))) (row-keeps q l small lt);
      order = m.order;
    };
  }

  module _ (later : 0 < letter) (same : next_pairs a (pair_at v f from) (letter - 1) ≡ next_pairs a (pair_at v f from) letter) (s : HasNumber w (image a (pair_at v f from).set letter)) where
    abbrev img : List ℕ
    img = image a (pair_at v f from).set letter

    abbrev ts : List ℕ
    ts = moves_at a (pair_at v f from).state letter

    abbrev row : List ℕ
    row = next_of a f from (letter - 1)

    before : IsRowOf a w f (next_pairs a (pair_at v f from) letter) row
    before = subst (λ ps. IsRowOf a w f ps row) same (row-keeps from (letter - 1) (omega arith) (omega arith))

    trying : IsTrying a v w f f img ts row (length ts) (last-stands a w img ts s before.standing).0
    trying = record {
      onward = o;
      found = found-more a w f [] row (found-row a w f (found-keeps a v w f o.keeps i)) (each-has (λ k. k < length f.keys) row (next-inside a v f from (letter - 1) i (omega arith)));
      stays = Stays-refl f;
      rows = refl;
      row_of = subst (λ ps. IsRowOf a w f ps row) (ap (pairs_from a img) (sym (take_all (length ts) ts (omega arith)))) before;
      number = (last-stands a w img ts s before.standing).1;
    }

    -- The row of the letter before is the row of the letter.
    pub row-again : IsFurther a v w f (with_row f row) (from * width a + suc letter)
    row-again = letter-done a v f from letter img ts refl i from_in le w f row (length ts) (last-stands a w img ts s before.standing).0 trying (omega arith) m

-- ---- the same moves on two letters

pub same-image : (a : Automaton) (v x w : Walk) (set before letter m n : ℕ) → set < length v.sets → Keeps v x → Keeps x w → IsNumberOf x (image a (set_at v set) before) m → IsNumberOf w (image a (set_at x set) letter) n → m ≡ n → image a (set_at v set) before ≡ image a (set_at v set) letter
same-image a v x w set before letter m n lt k l p q e =
    sym p.is ∙ sym (l.same m p.within) ∙ ap (set_at w) e ∙ q.is ∙ ap (λ s. image a s letter) (k.same set lt)

pub image-stands : (a : Automaton) (v x w : Walk) (set letter n : ℕ) → set < length v.sets → Keeps v x → IsNumberOf w (image a (set_at x set) letter) n → HasNumber w (image a (set_at v set) letter)
image-stands a v x w set letter n lt k q = (n, record { within = q.within; is = q.is ∙ ap (λ s. image a s letter) (k.same set lt) })
