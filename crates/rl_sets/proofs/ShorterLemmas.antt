-- Lemmas on a walk that forgets the sets that were found last.
use Rattle.std.proofs.Common.{◌*◌, ◌≡◌, ℕ, suc, ◌<◌, ◌≤◌, List, [], length, get_or, take, slice_get, Option, Some, None, sym, ap, ◌∙◌, subst, arith}
use Rattle.std.proofs.lemmas.List.{get_or-take, length-take, length-take-le}
use Rattle.std.proofs.lemmas.Option.{slice_get-get_or, slice_get_within, get_or_from_slice_get}
use Rattle.rl_prio.specs.Automaton.{Automaton, letters_count}
use Rattle.rl_sets.specs.declared.life.Life.TheVariants.{Unknown}
use Rattle.rl_sets.specs.Live.{image}
use Rattle.rl_sets.specs.Rests.{IsLife}
use Rattle.rl_sets.specs.Walk.{Walk, set_at, image_place, IsSetOf, IsMadeFor}

-- A member of a list is in its first part if its index is.
get_first : {X : Type 0} (n : ℕ) (xs : List X) (i : ℕ) (x : X) → i < n → slice_get xs i ≡ Some x → slice_get (take n xs) i ≡ Some x
get_first n xs i x lt e =
    let within : i < length (take n xs) = omega (arith, length-take n xs, slice_get_within xs i x e) in
    slice_get-get_or (take n xs) i x within ∙ ap Some (get_or-take n xs i x lt ∙ get_or_from_slice_get xs i x x e)

-- The walk with its first `n` sets. In `fewer`, all images are images of the first sets, and all numbers are those of first sets.
module _ (w : Walk) (a : Automaton) (n : ℕ) (fewer : List (Option ℕ)) (made : IsMadeFor w a) (less : n ≤ length w.sets) (few : length fewer ≤ n * suc (letters_count a))
    (below : (i m : ℕ) → get_or fewer i None ≡ Some m → (get_or w.kept.images i None ≡ Some m) × (m < n)) where
  size : length (take n w.sets) ≡ n
  size = length-take-le n w.sets less

  pub IsMadeFor-first : IsMadeFor (record { sets = take n w.sets; limit = w.limit; kept = record { states = w.kept.states; split = w.kept.split; images = fewer; routes = w.kept.routes; lives = take n w.kept.lives } }) a
  IsMadeFor-first = record {
    sets = λ k lt. subst (IsSetOf a) (sym (get_or-take n w.sets k [] (omega (arith, size, lt)))) (made.sets k (omega (arith, size, lt, less)));
    apart = λ k m lt last e. made.apart k m lt (omega (arith, size, last, less)) (sym (get_or-take n w.sets k [] (omega (arith, size, lt, last))) ∙ e ∙ get_or-take n w.sets m [] (omega (arith, size, last)));
    few = omega (arith, size, made.few, less);
    low = made.low;
    states = made.states;
    split = made.split;
    few_images = subst (λ (k : ℕ). length fewer ≤ k * suc (letters_count a)) (sym size) few;
    images = by_images;
    first_route = made.first_route;
    few_lives = omega (arith, size, length-take n w.kept.lives);
    lives = by_lives;
  }
    where
      by_images : (k letter m : ℕ) → k < length (take n w.sets) → letter ≤ letters_count a → get_or fewer (image_place a k letter) None ≡ Some m → slice_get (take n w.sets) m ≡ Some (image a (get_or (take n w.sets) k []) letter)
      by_images k letter m lt small e =
          let was = below (image_place a k letter) m e in
          get_first n w.sets m (image a (set_at w k) letter) was.1 (made.images k letter m (omega (arith, size, lt, less)) small was.0)
          ∙ ap (λ (s : List ℕ). Some (image a s letter)) (sym (get_or-take n w.sets k [] (omega (arith, size, lt))))

      by_lives : (k : ℕ) → k < length (take n w.sets) → IsLife a w.kept.routes (get_or (take n w.sets) k []) (get_or (take n w.kept.lives) k Unknown)
      by_lives k lt =
          let within : k < n = omega (arith, size, lt) in
          let life = subst (IsLife a w.kept.routes (set_at w k)) (sym (get_or-take n w.kept.lives k Unknown within)) (made.lives k (omega (arith, less))) in
          subst (λ (s : List ℕ). IsLife a w.kept.routes s (get_or (take n w.kept.lives) k Unknown)) (sym (get_or-take n w.sets k [] within)) life
