-- The search by rows of middle states: its words, one more step, the end, and what it answers.
use Rattle.std.proofs.Common.{eqb, ◌≡◌, ◌≢◌, ℕ, zero, suc, ◌+◌, ◌-◌, ◌*◌, ◌/◌, ◌%◌, ◌<◌, ◌≤◌, ◌⊎◌, inl, inr, Bool, true, false, not, List, [], ◌∷◌, ◌++◌, length, get_or, set, replicate, reverse, map, flat_map, append_assoc, refl, sym, ◌∙◌, ap, ap₂, subst, arith}
use Rattle.std.proofs.lemmas.Bool.{eqb-false, cases_eq, cases_lt, cases_Bool, cond-true, cond-false, and_parts, and_from, or_left, or_right, both_ways}
use Rattle.std.proofs.lemmas.List.{get_or_read, get_or-set_same, get_or-set_other, get_or-replicate, get_or_push, get_or_append_left, length_push, length-set, length-replicate, append-nil, reverse-append}
use Rattle.rl_lanes.specs.Rows.{list_or, list_and_not, HasOther}
use Rattle.rl_lanes.specs.Tables.{image as rows_image}
use Rattle.rl_lanes.proofs.RowLemmas.{length-list_or, get_or-list_or, length-list_and_not, get_or-list_and_not, get_or-replicate_false}
use Rattle.rl_lanes.proofs.ImageLemmas.{get_or-image, length-image}
use Rattle.rl_graph.specs.Paths.{total, one, Has, paths, Reaches}
use Rattle.rl_graph.specs.Graph.{Graph, edges_of}
use Rattle.rl_graph.specs.Product.{pair_moves}
use Rattle.rl_graph.proofs.Sums.{total-there, Has-left, Has-right, Has-last, Has-push, Has-get_or, Has-map, has-map, has-flat_map, at-has, at-short, at-get_or}
use Rattle.rl_graph.proofs.PathLaws.{nil-same, paths-nil, through_one, positive, move-path, Reaches-move, Reaches-trans}
use Rattle.rl_kernel.specs.Members.{is_member}
use Rattle.rl_degree.specs.internal.Moves.{cell, with_cell, IsMoveTable, IsUsed, AreMoveTables}
use Rattle.rl_degree.specs.internal.Pairs.{IsTable}
use Rattle.rl_degree.specs.internal.Rows.{Field, field_of, SearchState, has_middle, row_with, start_state, number_of_new, words_from, word_at, IsRooted, reached, IsReached, behind, IsFound, Waits, AreMovesSeen, IsSearching, work_of, IsFurther, IsImage, IsMet, outer_of, outer_moves, IsFollowedOn, IsFollowedUpTo}
use Rattle.rl_degree.specs.declared.pairs.PairTable.{PairTable}
use Rattle.rl_degree.specs.declared.rows.Step.{Step}
use Rattle.rl_degree.specs.declared.rows.Found.{Found}
use Rattle.rl_kernel.proofs.MemberLaws.{member-there}
use Rattle.rl_kernel.proofs.InnerPaths.{pair-first}
use Rattle.rl_degree.proofs.TableLaws.{cell-within, cell-one_back, cell-one_here, cell-one_stays, cell-or_back, cell-or_here, cell-or_stays}

-- The laws below are about words.

words-stay : (words : List (List ℕ)) (steps : List Step) (k : ℕ) → k < length words → get_or (words_from words steps) k [] ≡ get_or words k []
words-stay words [] k h = refl
words-stay words (s ∷ steps) k h =
    let w = get_or words s.from [] ++ s.letter ∷ [] in
    words-stay (words ++ w ∷ []) steps k (omega (arith, length_push words w)) ∙ get_or_append_left words (w ∷ []) [] k h

words-length : (words : List (List ℕ)) (steps : List Step) → length (words_from words steps) ≡ length words + length steps
words-length words [] = omega arith
words-length words (s ∷ steps) =
    let w = get_or words s.from [] ++ s.letter ∷ [] in
    omega (arith, words-length (words ++ w ∷ []) steps, length_push words w)

words-push : (words : List (List ℕ)) (steps : List Step) (s : Step)
    → words_from words (steps ++ s ∷ []) ≡ words_from words steps ++ (get_or (words_from words steps) s.from [] ++ s.letter ∷ []) ∷ []
words-push words [] s = refl
words-push words (x ∷ steps) s = words-push (words ++ (get_or words x.from [] ++ x.letter ∷ []) ∷ []) steps s

-- One more step leaves the words of the others as they are.
pub word-old : (steps : List Step) (s : Step) (k : ℕ) → k ≤ length steps → word_at (steps ++ s ∷ []) k ≡ word_at steps k
word-old steps s k h =
    let all = words_from ([] ∷ []) steps in
    let w = get_or all s.from [] ++ s.letter ∷ [] in
    ap (λ (v : List (List ℕ)). get_or v k []) (words-push ([] ∷ []) steps s) ∙ get_or_append_left all (w ∷ []) [] k (omega (arith, words-length ([] ∷ []) steps))

-- The new step has the word of the step that it follows, and its letter.
pub word-new : (steps : List Step) (s : Step) → word_at (steps ++ s ∷ []) (length steps + 1) ≡ word_at steps s.from ++ s.letter ∷ []
word-new steps s =
    let all = words_from ([] ∷ []) steps in
    let w = get_or all s.from [] ++ s.letter ∷ [] in
    ap (λ (v : List (List ℕ)). get_or v (length steps + 1) []) (words-push ([] ∷ []) steps s) ∙ get_or_push all w [] (length steps + 1) (omega (arith, words-length ([] ∷ []) steps))

words-step : (words : List (List ℕ)) (steps : List Step) (i n : ℕ) (d : Step) → i < length steps → n ≡ length words + i → (get_or steps i d).from < n
    → get_or (words_from words steps) n [] ≡ get_or (words_from words steps) (get_or steps i d).from [] ++ (get_or steps i d).letter ∷ []
words-step words [] i n d h e below = absurd (omega arith)
words-step words (s ∷ steps) zero n d h e below =
    let w = get_or words s.from [] ++ s.letter ∷ [] in
    let more = words ++ w ∷ [] in
    let here : get_or (words_from more steps) n [] ≡ w = words-stay more steps n (omega (arith, length_push words w)) ∙ get_or_push words w [] n (omega arith) in
    let from : get_or (words_from more steps) s.from [] ≡ get_or words s.from [] =
    words-stay more steps s.from (omega (arith, length_push words w)) ∙ get_or_append_left words (w ∷ []) [] s.from (omega arith) in
    here ∙ ap (λ (v : List ℕ). v ++ s.letter ∷ []) (sym from)
words-step words (s ∷ steps) (suc i) n d h e below =
    let w = get_or words s.from [] ++ s.letter ∷ [] in
    words-step (words ++ w ∷ []) steps i n d (omega arith) (omega (arith, length_push words w)) below

-- A step has its word by its number, which counts from 1.
pub word-step : (steps : List Step) (k : ℕ) (s : Step) → IsRooted steps → 0 < k → k ≤ length steps → s ≡ get_or steps (k - 1) s → word_at steps k ≡ word_at steps s.from ++ s.letter ∷ []
word-step steps k s rooted some within e =
    let r = rooted (k - 1) s (omega arith) in
    let d = ap (λ (z : Step). z.from) e in
    words-step ([] ∷ []) steps (k - 1) k s (omega arith) (omega arith) (omega (arith, r))
    ∙ ap₂ (λ (x : ℕ) (y : ℕ). word_at steps x ++ y ∷ []) (sym d) (sym (ap (λ (z : Step). z.letter) e))

-- The laws below are about the work that is left.

total-set : {A : Type 0} (g : A → ℕ) (l : List A) (i : ℕ) (v d : A) → i < length l → total g (set l i v) + g (get_or l i d) ≡ total g l + g v
total-set g [] i v d h = absurd (omega arith)
total-set g (x ∷ l) zero v d h = omega arith
total-set g (x ∷ l) (suc i) v d h = omega (arith, total-set g l i v d (omega arith))

-- If a row holds true wherever another one does, no more of its places hold false.
fewer : (a b : List Bool) → length a ≡ length b → ((k : ℕ) → get_or a k false ≡ true → get_or b k false ≡ true) → total (λ x. one (not x)) b ≤ total (λ x. one (not x)) a
fewer [] [] same more = omega arith
fewer [] (y ∷ b) same more = absurd (omega arith)
fewer (x ∷ a) [] same more = absurd (omega arith)
fewer (true ∷ a) (true ∷ b) same more = omega (arith, fewer a b (omega arith) (λ k. more (suc k)))
fewer (true ∷ a) (false ∷ b) same more = absurd (both_ways false refl (more 0 refl))
fewer (false ∷ a) (true ∷ b) same more = omega (arith, fewer a b (omega arith) (λ k. more (suc k)))
fewer (false ∷ a) (false ∷ b) same more = omega (arith, fewer a b (omega arith) (λ k. more (suc k)))

-- Fewer of its places hold false if one of them is new.
one_fewer : (a b : List Bool) (i : ℕ) → length a ≡ length b → ((k : ℕ) → get_or a k false ≡ true → get_or b k false ≡ true) → get_or a i false ≡ false → get_or b i false ≡ true
    → total (λ x. one (not x)) b + 1 ≤ total (λ x. one (not x)) a
one_fewer [] [] i same more off on = absurd (both_ways false refl on)
one_fewer [] (y ∷ b) i same more off on = absurd (omega arith)
one_fewer (x ∷ a) [] i same more off on = absurd (omega arith)
one_fewer (true ∷ a) (y ∷ b) zero same more off on = absurd (both_ways true off refl)
one_fewer (false ∷ a) (false ∷ b) zero same more off on = absurd (both_ways false refl on)
one_fewer (false ∷ a) (true ∷ b) zero same more off on = omega (arith, fewer a b (omega arith) (λ k. more (suc k)))
one_fewer (true ∷ a) (true ∷ b) (suc i) same more off on = omega (arith, one_fewer a b i (omega arith) (λ k. more (suc k)) off on)
one_fewer (true ∷ a) (false ∷ b) (suc i) same more off on = absurd (both_ways false refl (more 0 refl))
one_fewer (false ∷ a) (true ∷ b) (suc i) same more off on = omega (arith, one_fewer a b i (omega arith) (λ k. more (suc k)) off on)
one_fewer (false ∷ a) (false ∷ b) (suc i) same more off on = omega (arith, one_fewer a b i (omega arith) (λ k. more (suc k)) off on)

-- The laws below are about one more step.

one-more : (next : ℕ → ℕ → List ℕ) (q m t l : ℕ) (w : List ℕ) → 1 ≤ paths next q m w → Has t (next m l) → 1 ≤ paths next q t (w ++ l ∷ [])
one-more next q m t l w h k =
    omega (arith, through_one next q m t w (l ∷ []), positive (paths next q m w) (paths next m t (l ∷ [])) h (move-path next m t t l [] k (omega (arith, paths-nil next t))))

-- A step adds the states that are new beside a member that the pair of what was found moves to.
module _ (d : Field) (f : Found) (l y : ℕ) (image : List Bool) (old : SearchState)
    (s : IsSearching d (behind f old)) (img : IsImage d f l image) (move : Has y (d.pairs (get_or d.members f.place 0) l)) (member : is_member d.members d.places y ≡ true) where
  abbrev p : ℕ
  p = get_or d.places y 0

  abbrev later : SearchState
  later = reached f.step l p image old

  abbrev added : Found
  added = record { step = number_of_new old; place = p; middle = list_and_not image (get_or old.seen p []) }

  f-found : IsFound d (behind f old) f
  f-found = s.found f (inl refl)

  p-in : p < length old.seen
  p-in = omega (arith, (member-there d.members d.places y member).0, s.high)

  p-wide : length (get_or old.seen p []) ≡ length image
  p-wide = s.wide p (omega (arith, p-in, s.high)) ∙ sym img.wide

  stays : (i m : ℕ) → cell old.seen i m ≡ true → cell later.seen i m ≡ true
  stays i m h = cell-or_stays old.seen p i m image p-in p-wide h

  queue-stays : (e : Found) → Has e (f ∷ old.queue) → Has e (f ∷ later.queue)
  queue-stays e (inl h) = inl h
  queue-stays e (inr h) = inr (Has-left e old.queue (added ∷ []) h)

  queue-back : (e : Found) → Has e (f ∷ later.queue) → Has e (f ∷ old.queue) ⊎ (e ≡ added)
  queue-back e (inl h) = inl (inl h)
  queue-back e (inr h) = by (Has-push e added old.queue h)
    where
      by : Has e old.queue ⊎ (e ≡ added) → Has e (f ∷ old.queue) ⊎ (e ≡ added)
      by (inl a) = inl (inr a)
      by (inr a) = inr a

  waits-stays : (i m : ℕ) → Waits (behind f old) i m → Waits (behind f later) i m
  waits-stays i m w = (w.0, queue-stays w.0 w.1, w.2, w.3)

  -- What is seen now was seen before, or it waits.
  seen-cases : (i m : ℕ) → cell later.seen i m ≡ true → (cell old.seen i m ≡ true) ⊎ Waits (behind f later) i m
  seen-cases i m h = by (cell-or_back old.seen p i m image p-in p-wide h)
    where
      last : i ≡ p → get_or image m false ≡ true → (cell old.seen p m ≡ true) ⊎ (cell old.seen p m ≡ false) → (cell old.seen i m ≡ true) ⊎ Waits (behind f later) i m
      last e on (inl a) = inl (rw e a)
      last e on (inr a) =
          inr (added, inr (Has-last added old.queue), sym e, get_or-list_and_not image (get_or old.seen p []) m (sym p-wide) ∙ and_from (get_or image m false) (not (get_or (get_or old.seen p []) m false)) on (ap not a))

      by : (cell old.seen i m ≡ true) ⊎ ((i ≡ p) × (get_or image m false ≡ true)) → (cell old.seen i m ≡ true) ⊎ Waits (behind f later) i m
      by (inl a) = inl a
      by (inr a) = last a.0 a.1 (cases_Bool (cell old.seen p m))

  abbrev st : Step
  st = record { from = f.step; letter = l }

  -- The steps are the ones before, and the new one if steps are kept.
  steps-cases : ((later.steps ≡ old.steps ++ st ∷ []) × (added.step ≡ length old.steps + 1)) ⊎ ((old.keeps ≡ false) × (later.steps ≡ old.steps) × (added.step ≡ 0))
  steps-cases = by (cases_Bool old.keeps)
    where
      by : (old.keeps ≡ true) ⊎ (old.keeps ≡ false) → ((later.steps ≡ old.steps ++ st ∷ []) × (added.step ≡ length old.steps + 1)) ⊎ ((old.keeps ≡ false) × (later.steps ≡ old.steps) × (added.step ≡ 0))
      by (inl e) = inl (cond-true old.keeps (old.steps ++ st ∷ []) old.steps e, cond-true old.keeps (length old.steps + 1) 0 e)
      by (inr e) = inr (e, cond-false old.keeps (old.steps ++ st ∷ []) old.steps e, cond-false old.keeps (length old.steps + 1) 0 e)

  word-stays : (k : ℕ) → k ≤ length old.steps → word_at later.steps k ≡ word_at old.steps k
  word-stays k h = by steps-cases
    where
      by : ((later.steps ≡ old.steps ++ st ∷ []) × (added.step ≡ length old.steps + 1)) ⊎ ((old.keeps ≡ false) × (later.steps ≡ old.steps) × (added.step ≡ 0)) → word_at later.steps k ≡ word_at old.steps k
      by (inl a) = ap (λ (z : List Step). word_at z k) a.0 ∙ word-old old.steps st k h
      by (inr a) = ap (λ (z : List Step). word_at z k) a.1

  longer : (length old.steps ≤ length later.steps) × (added.step ≤ length later.steps)
  longer = by steps-cases
    where
      by : ((later.steps ≡ old.steps ++ st ∷ []) × (added.step ≡ length old.steps + 1)) ⊎ ((old.keeps ≡ false) × (later.steps ≡ old.steps) × (added.step ≡ 0)) → (length old.steps ≤ length later.steps) × (added.step ≤ length later.steps)
      by (inl a) = let e = ap length a.0 in let g = length_push old.steps st in (omega (arith, e, g), omega (arith, e, g, a.1))
      by (inr a) = let e = ap length a.1 in (omega (arith, e), omega (arith, a.2))

  found-stays : (e : Found) → IsFound d (behind f old) e → IsFound d (behind f later) e
  found-stays e h = record {
    place_in = h.place_in;
    step_in = omega (arith, h.step_in, longer.0);
    wide = h.wide;
    word = h.word;
    outer = h.outer;
    inner = h.inner;
    kept = λ k. h.kept k ∙ sym (word-stays e.step h.step_in);
  }

  found-new : IsFound d (behind f later) added
  found-new =
      let a = member-there d.members d.places y member in
      record {
        place_in = a.0;
        step_in = longer.1;
        wide = length-list_and_not image (get_or old.seen p []) (sym p-wide) ∙ img.wide;
        word = f-found.word ++ l ∷ [];
        outer = subst (λ (z : ℕ). 1 ≤ paths d.pairs (get_or d.members old.place 0) z (f-found.word ++ l ∷ [])) (sym a.1)
            (one-more d.pairs (get_or d.members old.place 0) (get_or d.members f.place 0) y l f-found.word f-found.outer move);
        inner = λ m on. by m (img.moves m).0 on;
        kept = λ k. kept k steps-cases;
      }
    where
      by : (m : ℕ) → (get_or image m false ≡ true → (k : ℕ) × (has_middle f k ≡ true) × Has m (d.next k l)) → get_or (list_and_not image (get_or old.seen p [])) m false ≡ true
          → 1 ≤ paths d.next old.from m (f-found.word ++ l ∷ [])
      by m moves on =
          let parts = and_parts (get_or image m false) (not (get_or (get_or old.seen p []) m false)) (sym (get_or-list_and_not image (get_or old.seen p []) m (sym p-wide)) ∙ on) in
          let k = moves parts.0 in
          one-more d.next old.from k.0 m l f-found.word (f-found.inner k.0 k.1) k.2

      kept : old.keeps ≡ true → ((later.steps ≡ old.steps ++ st ∷ []) × (added.step ≡ length old.steps + 1)) ⊎ ((old.keeps ≡ false) × (later.steps ≡ old.steps) × (added.step ≡ 0)) → f-found.word ++ l ∷ [] ≡ word_at later.steps added.step
      kept k (inl a) = ap (λ (v : List ℕ). v ++ l ∷ []) (f-found.kept k) ∙ sym (ap₂ (λ (z : List Step) (n : ℕ). word_at z n) a.0 a.1 ∙ word-new old.steps st)
      kept k (inr a) = absurd (both_ways old.keeps a.0 k)

  rooted-new : IsRooted later.steps
  rooted-new k e h = by steps-cases
    where
      pushed : k < length (old.steps ++ st ∷ []) → (k < length old.steps) ⊎ (length old.steps ≤ k) → (get_or (old.steps ++ st ∷ []) k e).from ≤ k
      pushed lt (inl a) = omega (arith, s.rooted k e a, ap (λ (z : Step). z.from) (get_or_append_left old.steps (st ∷ []) e k a))
      pushed lt (inr a) =
          let at : length old.steps ≡ k = omega (arith, length_push old.steps st) in
          omega (arith, f-found.step_in, ap (λ (z : Step). z.from) (get_or_push old.steps st e k at))

      by : ((later.steps ≡ old.steps ++ st ∷ []) × (added.step ≡ length old.steps + 1)) ⊎ ((old.keeps ≡ false) × (later.steps ≡ old.steps) × (added.step ≡ 0)) → (get_or later.steps k e).from ≤ k
      by (inl a) =
          subst (λ (z : List Step). (get_or z k e).from ≤ k) (sym a.0) (pushed (subst (λ (z : List Step). k < length z) a.0 h) (cases_lt k (length old.steps)))
      by (inr a) =
          subst (λ (z : List Step). (get_or z k e).from ≤ k) (sym a.1) (s.rooted k e (subst (λ (z : List Step). k < length z) a.1 h))

  searching-new : IsSearching d (behind f later)
  searching-new = record {
    high = length-set old.seen p (list_or (get_or old.seen p []) image) ∙ s.high;
    wide = λ i lt. wide i lt (cases_eq i p);
    rooted = rooted-new;
    found = λ e h. found e (queue-back e h);
    start = stays old.place old.from s.start;
    settled = λ i m h. settled i m (seen-cases i m h);
    goal = λ h. goal (seen-cases old.place old.to h);
  }
    where
      wide : (i : ℕ) → i < length d.members → (i ≡ p) ⊎ (i ≢ p) → length (get_or later.seen i []) ≡ d.states
      wide i lt (inr n) = ap length (get_or-set_other old.seen p i (list_or (get_or old.seen p []) image) [] n) ∙ s.wide i lt
      wide i lt (inl e) =
          ap (λ z. length (get_or later.seen z [])) e ∙ (ap length (get_or-set_same old.seen p (list_or (get_or old.seen p []) image) [] p-in) ∙ (length-list_or (get_or old.seen p []) image p-wide ∙ (p-wide ∙ img.wide)))

      found : (e : Found) → Has e (f ∷ old.queue) ⊎ (e ≡ added) → IsFound d (behind f later) e
      found e (inl h) = found-stays e (s.found e h)
      found e (inr h) = subst (IsFound d (behind f later)) (sym h) found-new

      before : (i m : ℕ) → Waits (behind f old) i m ⊎ ((l : ℕ) → AreMovesSeen d (behind f old) l i m) → Waits (behind f later) i m ⊎ ((l : ℕ) → AreMovesSeen d (behind f later) l i m)
      before i m (inl w) = inl (waits-stays i m w)
      before i m (inr a) = inr (λ l x k hx mx hk. stays (get_or d.places x 0) k (a l x k hx mx hk))

      settled : (i m : ℕ) → (cell old.seen i m ≡ true) ⊎ Waits (behind f later) i m → Waits (behind f later) i m ⊎ ((l : ℕ) → AreMovesSeen d (behind f later) l i m)
      settled i m (inr w) = inl w
      settled i m (inl h) = before i m (s.settled i m h)

      goal : (cell old.seen old.place old.to ≡ true) ⊎ Waits (behind f later) old.place old.to → Waits (behind f later) old.place old.to
      goal (inr w) = w
      goal (inl h) = waits-stays old.place old.to (s.goal h)

  work-new : HasOther image (get_or old.seen p []) → work_of later ≤ work_of old
  work-new other =
      let row = get_or old.seen p [] in
      let set = total-set (λ (r : List Bool). total (λ b. one (not b)) r) old.seen p (list_or row image) [] p-in in
      let less = one_fewer row (list_or row image) other.0 (sym (length-list_or row image p-wide))
      (λ k h. get_or-list_or row image k p-wide ∙ or_left (get_or row k false) (get_or image k false) h) other.2
      (get_or-list_or row image other.0 p-wide ∙ or_right (get_or row other.0 false) (get_or image other.0 false) other.1) in
      omega (arith, set, less, length_push old.queue added)

  pub further-new : HasOther image (get_or old.seen (get_or d.places y 0) []) → IsFurther d f old (reached f.step l (get_or d.places y 0) image old)
  further-new other = record { keeps = refl; place = refl; from = refl; to = refl; searching = searching-new; grows = stays; work = work-new other }

  pub seen-new : (k : ℕ) → get_or image k false ≡ true → cell (reached f.step l (get_or d.places y 0) image old).seen (get_or d.places y 0) k ≡ true
  seen-new k h = cell-or_here old.seen p k image p-in p-wide h

pub further-self : (d : Field) (f : Found) (s : SearchState) → IsSearching d (behind f s) → IsFurther d f s s
further-self d f s h = record { keeps = refl; place = refl; from = refl; to = refl; searching = h; grows = λ i m on. on; work = omega arith }

pub further-more : (d : Field) (f : Found) (a b c : SearchState) → IsFurther d f a b → IsFurther d f b c → IsFurther d f a c
further-more d f a b c x y = record {
  keeps = y.keeps ∙ x.keeps;
  place = y.place ∙ x.place;
  from = y.from ∙ x.from;
  to = y.to ∙ x.to;
  searching = y.searching;
  grows = λ i m on. y.grows i m (x.grows i m on);
  work = omega (arith, x.work, y.work);
}

-- If a pair is met, the search goes further, and the middle states were seen beside it.
pub reach-further : (d : Field) (f : Found) (l y : ℕ) (image : List Bool) (old new : SearchState) → IsSearching d (behind f old) → IsImage d f l image
    → Has y (d.pairs (get_or d.members f.place 0) l) → is_member d.members d.places y ≡ true → IsReached f.step l (get_or d.places y 0) image old new
    → IsFurther d f old new × ((k : ℕ) → get_or image k false ≡ true → cell new.seen (get_or d.places y 0) k ≡ true)
reach-further d f l y image old fresh s img move member (inl a) =
    subst (λ (z : SearchState). IsFurther d f old z × ((k : ℕ) → get_or image k false ≡ true → cell z.seen (get_or d.places y 0) k ≡ true)) (sym a.1) (further-self d f old s, a.0)
reach-further d f l y image old fresh s img move member (inr a) =
    subst (λ (z : SearchState). IsFurther d f old z × ((k : ℕ) → get_or image k false ≡ true → cell z.seen (get_or d.places y 0) k ≡ true)) (sym a.1)
    (further-new d f l y image old s img move member a.0, seen-new d f l y image old s img move member)

-- The laws below are about the moves of the pair on a letter, one after the other.

-- What was met stays met.
pub met-stays : (d : Field) (f : Found) (image : List Bool) (y : ℕ) (old new : SearchState) → IsFurther d f old new → IsMet d image old y → IsMet d image new y
met-stays d f image y old new further met member k on = further.grows (get_or d.places y 0) k (met member k on)

-- If something stays so for the first numbers and holds for the next one, it holds for one more.
pub first-more : (before after : ℕ → Type 0) (end : ℕ) → ((j : ℕ) → before j → after j) → after end → ((j : ℕ) → j < end → before j) → (j : ℕ) → j < end + 1 → after j
first-more before after end stays here old j lt = by (cases_lt j end)
  where
    by : (j < end) ⊎ (end ≤ j) → after j
    by (inl a) = stays j (old j a)
    by (inr a) = let e : end ≡ j = omega arith in subst after e here

-- If something holds at all places of a list, it holds of all its members.
pub each-place : (is : ℕ → Type 0) (l : List ℕ) (end : ℕ) → length l ≤ end → ((j : ℕ) → j < end → is (get_or l j 0)) → (y : ℕ) → Has y l → is y
each-place is l end long all y h =
    let j = at-has y l h in
    subst is (at-get_or l j.0 y 0 j.1) (all j.0 (omega (arith, at-short l j.0 y j.1)))

pub has-long : (x : ℕ) (l : List ℕ) → Has x l → length l ≡ 0 → ⊥
has-long x l h e = let i = at-has x l h in absurd (omega (arith, e, at-short l i.0 x i.1))

-- The targets of the two states are pairs.
has-both : (n x y : ℕ) (a b : List ℕ) → Has x a → Has y b → Has (x * n + y) (flat_map (λ x. map (λ y. x * n + y) b) a)
has-both n x y [] b hx hy = absurd hx
has-both n x y (z ∷ a) b (inl e) hy =
    Has-left (x * n + y) (map (λ y. z * n + y) b) (flat_map (λ x. map (λ y. x * n + y) b) a)
    (subst (λ (u : ℕ). Has (u * n + y) (map (λ y. z * n + y) b)) (sym e) (Has-map (λ y. z * n + y) y b hy))
has-both n x y (z ∷ a) b (inr h) hy =
    Has-right (x * n + y) (map (λ y. z * n + y) b) (flat_map (λ x. map (λ y. x * n + y) b) a) (has-both n x y a b h hy)

pub outer-has : (next : ℕ → ℕ → List ℕ) (n p q z l x y : ℕ) (firsts seconds : List ℕ) → p ≡ z / n → q ≡ z % n → firsts ≡ next p l → seconds ≡ next q l
    → Has x firsts → Has y seconds → Has (x * n + y) (pair_moves next n z l)
outer-has next n p q z l x y firsts seconds ep eq ef es hx hy =
    has-both n x y (next (z / n) l) (next (z % n) l) (subst (λ (r : List ℕ). Has x r) (ef ∙ ap (λ (i : ℕ). next i l) ep) hx) (subst (λ (r : List ℕ). Has y r) (es ∙ ap (λ (i : ℕ). next i l) eq) hy)

-- The pair moves to no others.
pub outer-only : (next : ℕ → ℕ → List ℕ) (n p q z l m : ℕ) (firsts seconds : List ℕ) → p ≡ z / n → q ≡ z % n → firsts ≡ next p l → seconds ≡ next q l
    → Has m (pair_moves next n z l) → (x : ℕ) × (y : ℕ) × Has x firsts × Has y seconds × (m ≡ x * n + y)
outer-only next n p q z l m firsts seconds ep eq ef es h =
    let a = has-flat_map (λ x. map (λ y. x * n + y) (next (z % n) l)) m (next (z / n) l) h in
    let b = has-map (λ y. a.0 * n + y) m (next (z % n) l) a.2 in (
      a.0,
      b.0,
      subst (λ (r : List ℕ). Has a.0 r) (sym (ef ∙ ap (λ (i : ℕ). next i l) ep)) a.1,
      subst (λ (r : List ℕ). Has b.0 r) (sym (es ∙ ap (λ (i : ℕ). next i l) eq)) b.1,
      b.2,
    )

-- If all of them were met, what was found was followed.
pub met-all : (d : Field) (f : Found) (l : ℕ) (image : List Bool) (s : SearchState) → IsImage d f l image → ((y : ℕ) → Has y (outer_moves d f l) → IsMet d image s y) → IsFollowedOn d f l s
met-all d f l image s img all m fresh y k hy member hk = all y hy member k ((img.moves k).1 (m, fresh, hk))

-- If what was found was followed on one more letter, it was followed up to the next one.
pub followed-more : (d : Field) (f : Found) (end : ℕ) (old new : SearchState) → IsFurther d f old new → IsFollowedOn d f end new → IsFollowedUpTo d f end old → IsFollowedUpTo d f (end + 1) new
followed-more d f end old new further here before l lt m fresh y k hy member hk = by (cases_lt l end)
  where
    by : (l < end) ⊎ (end ≤ l) → cell new.seen (get_or d.places y 0) k ≡ true
    by (inl a) = further.grows (get_or d.places y 0) k (before l a m fresh y k hy member hk)
    by (inr a) =
        let e : l ≡ end = omega arith in
        here m fresh y k (rw e at hy) member (rw e at hk)

-- The row is the image of what was found.
pub image-of : (g : Graph) (t : PairTable) (part l : ℕ) (f : Found) (table : List (List Bool)) (row : List Bool) → IsMoveTable g l table → row ≡ rows_image table f.middle g.states
    → IsImage (field_of g t part) f l row
image-of g t part l f table row on e = record {
  wide = ap length e ∙ length-image table f.middle g.states on.wide;
  moves = λ k. (
    λ h. let a = (get_or-image table f.middle g.states k on.wide).0 (sym (ap (λ (r : List Bool). get_or r k false) e) ∙ h) in (a.0, a.1, (on.moves a.0 k).0 a.2),
    λ h. ap (λ (r : List Bool). get_or r k false) e ∙ (get_or-image table f.middle g.states k on.wide).1 (h.0, h.1, (on.moves h.0 k).1 h.2),
  );
}

-- If something was found, there are tables.
pub tables-there : (g : Graph) (t : PairTable) (part : ℕ) (f : Found) (s : SearchState) → IsTable g t → IsSearching (field_of g t part) (behind f s) → AreMoveTables g t.inner t.moves.items
tables-there g t part f s is h =
    let here = (h.found f (inl refl)).place_in in
    is.moves (outer_of (field_of g t part) f) (is.placed.pairs part f.place here) (is.placed.are_wanted part f.place here)

-- A letter that its pair moves on is used.
pub used-there : (g : Graph) (t : PairTable) (part l p : ℕ) (f : Found) (s : SearchState) (firsts : List ℕ) → IsTable g t → IsSearching (field_of g t part) (behind f s) → p ≡ outer_of (field_of g t part) f / t.inner.states
    → firsts ≡ edges_of t.inner p l → eqb (length firsts) 0 ≡ false → IsUsed t.inner l
used-there g t part l p f s firsts is h ep ef some =
    let here = is.placed.pairs part f.place (h.found f (inl refl)).place_in in
    let ne : length firsts ≢ 0 = eqb-false (length firsts) 0 some in
    let small = pair-first t.inner.states (outer_of (field_of g t part) f) here in
    (p, get_or firsts 0 0, omega (arith, small, ep), subst (λ (r : List ℕ). Has (get_or firsts 0 0) r) ef (Has-get_or firsts 0 0 (omega (arith, ne))))

-- The table of such a letter is right.
pub table-at : (g : Graph) (t : PairTable) (part l : ℕ) (f : Found) (s : SearchState) (table : List (List Bool)) → IsTable g t → IsSearching (field_of g t part) (behind f s) → l < g.letters → IsUsed t.inner l → table ≡ get_or t.moves.items l table → IsMoveTable g l table
table-at g t part l f s table is h small used e =
    let are = tables-there g t part f s is h in
    subst (IsMoveTable g l) (sym (get_or_read t.moves.items l table (omega (arith, are.size)) e [])) (are.right l small used)

-- What was found has been followed on all letters.

pub settle : (d : Field) (f : Found) (s : SearchState) (letters : ℕ) → ((x l : ℕ) → letters ≤ l → d.pairs x l ≡ []) → IsSearching d (behind f s) → IsFollowedUpTo d f letters s
    → (f.place ≡ s.place → has_middle f s.to ≡ true → ⊥) → IsSearching d s
settle d f s letters none h all other = record {
  high = h.high;
  wide = h.wide;
  rooted = h.rooted;
  found = λ e has. same e (h.found e (inr has));
  start = h.start;
  settled = λ i m on. settled i m (h.settled i m on);
  goal = λ on. goal (h.goal on);
}
  where
    same : (e : Found) → IsFound d (behind f s) e → IsFound d s e
    same e x = record { place_in = x.place_in; step_in = x.step_in; wide = x.wide; word = x.word; outer = x.outer; inner = x.inner; kept = x.kept }

    passed : (m l : ℕ) → has_middle f m ≡ true → (l < letters) ⊎ (letters ≤ l) → AreMovesSeen d s l f.place m
    passed m l fresh (inl a) = all l a m fresh
    passed m l fresh (inr a) = λ y k hy member hk. absurd (subst (λ (r : List ℕ). Has y r) (none (get_or d.members f.place 0) l a) hy)

    settled : (i m : ℕ) → Waits (behind f s) i m ⊎ ((l : ℕ) → AreMovesSeen d (behind f s) l i m) → Waits s i m ⊎ ((l : ℕ) → AreMovesSeen d s l i m)
    settled i m (inr a) = inr a
    settled i m (inl (e, inr has, at, fresh)) = inl (e, has, at, fresh)
    settled i m (inl (e, inl here, at, fresh)) =
        let fresh2 : has_middle f m ≡ true = ap (λ (z : Found). has_middle z m) (sym here) ∙ fresh in
        let at2 : f.place ≡ i = ap (λ (z : Found). z.place) (sym here) ∙ at in
        inr (λ l. subst (λ (z : ℕ). AreMovesSeen d s l z m) at2 (passed m l fresh2 (cases_lt l letters)))

    goal : Waits (behind f s) s.place s.to → Waits s s.place s.to
    goal (e, inr has, at, fresh) = (e, has, at, fresh)
    goal (e, inl here, at, fresh) =
        absurd (other (ap (λ (z : Found). z.place) (sym here) ∙ at) (ap (λ (z : Found). has_middle z s.to) (sym here) ∙ fresh))

-- The laws below are about the start of a search.

pub searching-start : (d : Field) (keeps : Bool) (hopeless : List Bool) (pairs place from to : ℕ) → pairs ≡ length d.members → place < pairs → from < d.states → length hopeless ≡ d.states
    → ((m l k : ℕ) → get_or hopeless m false ≡ true → Has k (d.next m l) → get_or hopeless k false ≡ true) → (get_or hopeless to false ≡ true → ⊥) → IsSearching d (start_state keeps hopeless pairs place from to)
searching-start d keeps hopeless pairs place from to e hp hf wide-row closed lacks = record {
  high = length-set (replicate pairs hopeless) place (set (get_or (replicate pairs hopeless) place []) from true) ∙ (length-replicate pairs hopeless ∙ e);
  wide = λ i lt. wide i (omega (arith, e)) (cases_eq i place);
  rooted = λ k s h. absurd (omega arith);
  found = λ f has. found f has;
  start = cell-one_here (replicate pairs hopeless) place from hr hw;
  settled = λ i m on. settled i m (cell-one_back (replicate pairs hopeless) place from i m hr on);
  goal = λ on. goal (cell-one_back (replicate pairs hopeless) place from place to hr on);
}
  where
    hr : place < length (replicate pairs hopeless)
    hr = omega (arith, length-replicate pairs hopeless)

    row-there : (i : ℕ) → i < pairs → get_or (replicate pairs hopeless) i [] ≡ hopeless
    row-there i lt = get_or-replicate pairs i hopeless [] lt

    hw : from < length (get_or (replicate pairs hopeless) place [])
    hw = omega (arith, ap length (row-there place hp), wide-row)

    wide : (i : ℕ) → i < pairs → (i ≡ place) ⊎ (i ≢ place) → length (get_or (with_cell (replicate pairs hopeless) place from) i []) ≡ d.states
    wide i lt (inr n) =
        ap length (get_or-set_other (replicate pairs hopeless) place i (set (get_or (replicate pairs hopeless) place []) from true) [] n)
        ∙ (ap length (row-there i lt) ∙ wide-row)
    wide i lt (inl a) =
        ap (λ z. length (get_or (with_cell (replicate pairs hopeless) place from) z [])) a
        ∙ (ap length (get_or-set_same (replicate pairs hopeless) place (set (get_or (replicate pairs hopeless) place []) from true) [] hr)
        ∙ (length-set (get_or (replicate pairs hopeless) place []) from true ∙ (ap length (row-there place hp) ∙ wide-row)))

    fresh-first : has_middle (record { step = 0; place = place; middle = row_with (length hopeless) from }) from ≡ true
    fresh-first = get_or-set_same (replicate (length hopeless) false) from true false (omega (arith, length-replicate (length hopeless) false, wide-row))

    only-from : (m : ℕ) → (m ≡ from) ⊎ (m ≢ from) → get_or (row_with (length hopeless) from) m false ≡ true → m ≡ from
    only-from m (inl a) on = a
    only-from m (inr a) on =
        absurd (both_ways (get_or (row_with (length hopeless) from) m false) (get_or-set_other (replicate (length hopeless) false) from m true false a ∙ get_or-replicate_false (length hopeless) m) on)

    found : (f : Found) → Has f (record { step = 0; place = place; middle = row_with (length hopeless) from } ∷ []) → IsFound d (start_state keeps hopeless pairs place from to) f
    found f (inl here) = subst (IsFound d (start_state keeps hopeless pairs place from to)) (sym here) (record {
      place_in = omega (arith, e);
      step_in = omega arith;
      wide = length-set (replicate (length hopeless) false) from true ∙ (length-replicate (length hopeless) false ∙ wide-row);
      word = [];
      outer = omega (arith, paths-nil d.pairs (get_or d.members place 0));
      inner = λ m on. let same = only-from m (cases_eq m from) on in rw same (omega (arith, paths-nil d.next from));
      kept = λ k. refl;
    })
    found f (inr none) = absurd none

    waits : (i m : ℕ) → i ≡ place → m ≡ from → Waits (start_state keeps hopeless pairs place from to) i m
    waits i m a b = (record { step = 0; place = place; middle = row_with (length hopeless) from }, inl refl, sym a, rw b fresh-first)

    -- A cell that is set in the rows before the start is set in the row `hopeless`.
    in-row : (i m : ℕ) → cell (replicate pairs hopeless) i m ≡ true → get_or hopeless m false ≡ true
    in-row i m on =
        let lt : i < pairs = omega (arith, cell-within (replicate pairs hopeless) i m on, length-replicate pairs hopeless) in
        ap (λ (r : List Bool). get_or r m false) (sym (row-there i lt)) ∙ on

    settled : (i m : ℕ) → (cell (replicate pairs hopeless) i m ≡ true) ⊎ ((i ≡ place) × (m ≡ from))
        → Waits (start_state keeps hopeless pairs place from to) i m ⊎ ((l : ℕ) → AreMovesSeen d (start_state keeps hopeless pairs place from to) l i m)
    settled i m (inr a) = inl (waits i m a.0 a.1)
    settled i m (inl a) = inr (λ l y k hy member hk.
        let lt : get_or d.places y 0 < pairs = omega (arith, e, (member-there d.members d.places y member).0) in
        cell-one_stays (replicate pairs hopeless) place from (get_or d.places y 0) k hr hw (ap (λ (r : List Bool). get_or r k false) (row-there (get_or d.places y 0) lt) ∙ closed m l k (in-row i m a) hk))

    goal : (cell (replicate pairs hopeless) place to ≡ true) ⊎ ((place ≡ place) × (to ≡ from)) → Waits (start_state keeps hopeless pairs place from to) place to
    goal (inl a) = absurd (lacks (in-row place to a))
    goal (inr a) = waits place to refl a.1

-- The laws below are about the end of a search.

-- If nothing is left to follow, whatever is reached was seen.
reached-seen : (d : Field) (s : SearchState) → IsSearching d s → s.queue ≡ [] → (z q : ℕ) (w : List ℕ) (v m : ℕ)
    → ((y : ℕ) → Reaches d.pairs v y → Reaches d.pairs y z → is_member d.members d.places y ≡ true)
    → cell s.seen (get_or d.places v 0) m ≡ true → 1 ≤ paths d.pairs v z w → 1 ≤ paths d.next m q w → cell s.seen (get_or d.places z 0) q ≡ true
reached-seen d s h empty z q [] v m all on p r =
    let e = nil-same d.pairs v z p in
    let f = nil-same d.next m q r in
    subst (λ (a : ℕ). cell s.seen (get_or d.places a 0) q ≡ true) e (subst (λ (a : ℕ). cell s.seen (get_or d.places v 0) a ≡ true) f on)
reached-seen d s h empty z q (l ∷ w) v m all on p r =
    let x = total-there (λ a. paths d.pairs a z w) (d.pairs v l) p in
    let k = total-there (λ a. paths d.next a q w) (d.next m l) r in
    let here = all v ([], omega (arith, paths-nil d.pairs v)) ((l ∷ w), p) in
    let there = all x.0 (Reaches-move d.pairs v x.0 l x.1) (w, x.2) in
    reached-seen d s h empty z q w x.0 k.0 (λ y to back. all y (Reaches-trans d.pairs v x.0 y (Reaches-move d.pairs v x.0 l x.1) to) back)
    (step x.0 k.0 (member-there d.members d.places v here).1 there x.1 k.1 (h.settled (get_or d.places v 0) m on)) x.2 k.2
  where
    step : (x k : ℕ) → get_or d.members (get_or d.places v 0) 0 ≡ v → is_member d.members d.places x ≡ true → Has x (d.pairs v l) → Has k (d.next m l)
        → Waits s (get_or d.places v 0) m ⊎ ((l : ℕ) → AreMovesSeen d s l (get_or d.places v 0) m) → cell s.seen (get_or d.places x 0) k ≡ true
    step x k at member hx hk (inl waits) = absurd (subst (λ (r : List Found). Has waits.0 r) empty waits.1)
    step x k at member hx hk (inr passed) = passed l x k (subst (λ (a : ℕ). Has x (d.pairs a l)) (sym at) hx) member hk

-- So what is looked for is not reached.
pub never-reached : (d : Field) (s : SearchState) → IsSearching d s → s.queue ≡ [] → (x : ℕ) (w : List ℕ) → get_or d.places x 0 ≡ s.place
    → ((y : ℕ) → Reaches d.pairs x y → Reaches d.pairs y x → is_member d.members d.places y ≡ true) → 1 ≤ paths d.pairs x x w → 1 ≤ paths d.next s.from s.to w → ⊥
never-reached d s h empty x w at all p r =
    let on = reached-seen d s h empty x s.to w x s.from all (subst (λ (a : ℕ). cell s.seen a s.from ≡ true) (sym at) h.start) p r in
    let waits = h.goal (subst (λ (a : ℕ). cell s.seen a s.to ≡ true) at on) in
    absurd (subst (λ (r : List Found). Has waits.0 r) empty waits.1)

-- The laws below are about the word on the way back.

-- The letters so far, the last one first, lead from a step to the one that is asked for.
pub record IsWayBack (steps : List Step) (at goal : ℕ) (letters : List ℕ) : Type 0 where
  pub within : at ≤ length steps
  pub word : word_at steps goal ≡ word_at steps at ++ reverse letters

pub way-none : (steps : List Step) (goal : ℕ) → goal ≤ length steps → IsWayBack steps goal goal []
way-none steps goal h = record { within = h; word = sym (append-nil (word_at steps goal)) }

pub way-more : (steps : List Step) (at goal : ℕ) (s : Step) (letters longer : List ℕ) → IsRooted steps → 0 < at → s ≡ get_or steps (at - 1) s → IsWayBack steps at goal letters
    → longer ≡ letters ++ s.letter ∷ [] → IsWayBack steps s.from goal longer
way-more steps at goal s letters longer rooted some e way f = record {
  within = omega (arith, way.within, rooted (at - 1) s (omega (arith, way.within)), ap (λ (z : Step). z.from) e);
  word = way.word
      ∙ (ap (λ (v : List ℕ). v ++ reverse letters) (word-step steps at s rooted some way.within e)
      ∙ (append_assoc (word_at steps s.from) (s.letter ∷ []) (reverse letters)
      ∙ ap (λ (v : List ℕ). word_at steps s.from ++ v) (sym (ap reverse f ∙ reverse-append letters (s.letter ∷ [])))));
}

pub way-done : (steps : List Step) (at goal : ℕ) (letters word : List ℕ) → at ≤ 0 → IsWayBack steps at goal letters → word ≡ reverse letters → word ≡ word_at steps goal
way-done steps at goal letters word h way e =
    let z : at ≡ 0 = omega arith in
    e ∙ sym (way.word ∙ ap (λ (v : List ℕ). v ++ reverse letters) (ap (word_at steps) z ∙ words-stay ([] ∷ []) steps 0 (omega arith)))
