-- Some states of a graph, put in one by one.
use Rattle.std.proofs.Common.{◌≡◌, ◌≢◌, ℕ, ◌+◌, ◌<◌, ◌≤◌, ◌⊎◌, inl, inr, Bool, true, false, [], ◌∷◌, length, get_or, refl, sym, ◌∙◌, ap, arith, length-set, get_or-set_same, get_or-set_other}
use Rattle.std.proofs.lemmas.Bool.{cases_eq, cases_lt, both_ways}
use Rattle.std.proofs.lemmas.List.{length_push, get_or_push, get_or_append_left}
use Rattle.rl_graph.specs.Parts.{PartTable, number_of}
use Rattle.rl_kernel.specs.Members.{is_member}
use Rattle.rl_kernel.specs.Seats.{Seats, state_at, with_seat, AreSeats, HoldsUpTo}
use Rattle.rl_kernel.proofs.MemberLaws.{member-there, there-member}

seats-later : (p : PartTable) (n x : ℕ) (s : Seats) → AreSeats p n x s → AreSeats p n (x + 1) s
seats-later p n x s o = record {
  size = o.size;
  short = omega (arith, o.short);
  same_length = o.same_length;
  below = λ i h. omega (arith, o.below i h);
  place = o.place;
  level = o.level;
}

pub holds-passed : (test : ℕ → Bool) (p : PartTable) (n x : ℕ) (s : Seats) → test x ≡ false → HoldsUpTo test p n x s → HoldsUpTo test p n (x + 1) s
holds-passed test p n x s w o = record { seats = seats-later p n x s o.seats; held = λ q h c. by q h c (cases_eq q x) }
  where
    by : (q : ℕ) → q < x + 1 → test q ≡ true → (q ≡ x) ⊎ (q ≢ x) → is_member s.states s.places q ≡ true
    by q h c (inr ne) = o.held q (omega arith) c
    by q h c (inl e) = absurd (both_ways (test x) w (rw e at c))

module _ (p : PartTable) (n x level : ℕ) (s : Seats) (hx : x < n) (is : level ≡ number_of p x) (o : AreSeats p n x s) where
  more : Seats
  more = with_seat x level s

  room : x < length s.places
  room = omega (arith, hx, o.size)

  state-old : (i : ℕ) → i < length s.states → state_at (with_seat x level s) i ≡ state_at s i
  state-old i h = get_or_append_left s.states (x ∷ []) 0 i h

  state-new : (i : ℕ) → i ≡ length s.states → state_at (with_seat x level s) i ≡ x
  state-new i e = get_or_push s.states x 0 i (sym e)

  place-old : (q : ℕ) → q ≢ x → get_or (with_seat x level s).places q 0 ≡ get_or s.places q 0
  place-old q ne = get_or-set_other s.places x q (length s.states) 0 ne

  place-new : get_or (with_seat x level s).places x 0 ≡ length s.states
  place-new = get_or-set_same s.places x (length s.states) 0 room

  seats-more : AreSeats p n (x + 1) (with_seat x level s)
  seats-more = record {
    size = length-set s.places x (length s.states) ∙ o.size;
    short = omega (arith, o.short, length_push s.states x);
    same_length = length_push s.levels level ∙ (ap (λ z. z + 1) o.same_length ∙ sym (length_push s.states x));
    below = λ i h. below i h (cases_lt i (length s.states));
    place = λ i h. place i h (cases_lt i (length s.states));
    level = λ i h. number i h (cases_lt i (length s.states));
  }
    where
      last : (i : ℕ) → i < length (with_seat x level s).states → length s.states ≤ i → i ≡ length s.states
      last i h b = omega (arith, h, b, length_push s.states x)

      below : (i : ℕ) → i < length (with_seat x level s).states → (i < length s.states) ⊎ (length s.states ≤ i) → state_at (with_seat x level s) i < x + 1
      below i h (inl a) = omega (arith, state-old i a, o.below i a)
      below i h (inr b) = omega (arith, state-new i (last i h b))

      place : (i : ℕ) → i < length (with_seat x level s).states → (i < length s.states) ⊎ (length s.states ≤ i) → get_or (with_seat x level s).places (state_at (with_seat x level s) i) 0 ≡ i
      place i h (inl a) =
          let e = state-old i a in
          ap (λ z. get_or (with_seat x level s).places z 0) e ∙ (place-old (state_at s i) (λ f. omega (arith, f, o.below i a)) ∙ o.place i a)
      place i h (inr b) =
          ap (λ z. get_or (with_seat x level s).places z 0) (state-new i (last i h b)) ∙ (place-new ∙ sym (last i h b))

      number : (i : ℕ) → i < length (with_seat x level s).states → (i < length s.states) ⊎ (length s.states ≤ i) → get_or (with_seat x level s).levels i 0 ≡ number_of p (state_at (with_seat x level s) i)
      number i h (inl a) =
          get_or_append_left s.levels (level ∷ []) 0 i (omega (arith, a, o.same_length)) ∙ (o.level i a ∙ ap (number_of p) (sym (state-old i a)))
      number i h (inr b) =
          let e = last i h b in
          get_or_push s.levels level 0 i (o.same_length ∙ sym e) ∙ (is ∙ ap (number_of p) (sym (state-new i e)))

  pub holds-more : (test : ℕ → Bool) → HoldsUpTo test p n x s → HoldsUpTo test p n (x + 1) (with_seat x level s)
  holds-more test k = record { seats = seats-more; held = λ q h c. by q h c (cases_eq q x) }
    where
      by : (q : ℕ) → q < x + 1 → test q ≡ true → (q ≡ x) ⊎ (q ≢ x) → is_member (with_seat x level s).states (with_seat x level s).places q ≡ true
      by q h c (inl e) =
          rw e (there-member (with_seat x level s).states (with_seat x level s).places x (omega (arith, place-new, length_push s.states x)) (ap (state_at (with_seat x level s)) place-new ∙ state-new (length s.states) refl))
      by q h c (inr ne) =
          let t = member-there s.states s.places q (k.held q (omega arith) c) in
          let e = place-old q ne in
          there-member (with_seat x level s).states (with_seat x level s).places q (omega (arith, e, t.0, length_push s.states x)) (ap (state_at (with_seat x level s)) e ∙ (state-old (get_or s.places q 0) t.0 ∙ t.1))
