use Rattle.std.proofs.Common.{◌≡◌, ◌≢◌, ℕ, ◌+◌, ◌<◌, ◌⊎◌, inl, inr, length, get_or, None, IfSome, sym, ◌∙◌, subst, arith}
use Rattle.std.proofs.lemmas.List.{get_or_default}
use Rattle.std.proofs.lemmas.Bool.{cases_eq}
use Rattle.rl_graph.specs.Graph.{Graph}
use Rattle.rl_graph.specs.Parts.{PartTable}
use Rattle.rl_kernel.specs.Seats.{Seats, seats_of}
use Rattle.rl_expo.specs.internal.Meeting.{NoneMeets, AreSearched}
use Rattle.rl_expo.proofs.MeetingLaws.{searched-more, searched-at}
use Rattle.rl_expo.proofs.forks.fork_from.Goals as goal
use Rattle.rl_expo.proofs.forks.fork_from.Goals.{then-not-is_again+in_default+then-edges-gt1, then-not-is_again+in_default+else-edges-gt1, else-not-is_again}

-- None meets on one more letter.
none-more : (g : Graph) (s : Seats) (p : PartTable) (i n : ℕ) → ((c : ℕ) → c < n → NoneMeets g s p i c) → NoneMeets g s p i n → (c : ℕ) → c < n + 1 → NoneMeets g s p i c
none-more g s p i n before last c lt = by (cases_eq c n)
  where
    by : (c ≡ n) ⊎ (c ≢ n) → NoneMeets g s p i c
    by (inl e) = subst (NoneMeets g s p i) (sym e) last
    by (inr ne) = before c (omega (arith, lt, ne))

pub loop-letter-preserved : goal.loop-letter-preserved
loop-letter-preserved c =
    let g = c.args.g.now in
    let s = seats_of c.args.kernel.now in
    let p = c.args.parts.now in
    elim c.if-not-is_again.branch [
      | then-not-is_again+in_default+then-edges-gt1 w ↦
          let none = w.in_default.ensures.none in (
            none-more g s p c.args.place c.loop-letter.letter c.loop-letter.invariant.0 none,
            subst (λ v. AreSearched g s p v.items) (sym w.searched-is) (searched-more g s p c.loop-letter.searched.items c.loop-letter.letter c.args.place c.loop-letter.invariant.1 (omega (arith, c.loop-letter-test.true, c.letters-letter-end.ensures)) c.requires.place_in none),
          )
      | then-not-is_again+in_default+else-edges-gt1 w ↦
          (none-more g s p c.args.place c.loop-letter.letter c.loop-letter.invariant.0 w.in_default.ensures.none, subst (λ v. AreSearched g s p v.items) (sym w.searched-is) c.loop-letter.invariant.1)
      | else-not-is_again w ↦
          (none-more g s p c.args.place c.loop-letter.letter c.loop-letter.invariant.0 (c.is_again.ensures cc), subst (λ v. AreSearched g s p v.items) (sym w.searched-is) c.loop-letter.invariant.1)
    ]

pub is_again-requires-clause-earlier : goal.is_again-requires-clause-earlier
is_again-requires-clause-earlier c =
    let g = c.args.g.now in
    let s = seats_of c.args.kernel.now in
    let p = c.args.parts.now in
    let inside : c.loop-letter.letter < length c.loop-letter.searched.items = omega (arith, c.loop-letter-test.true, c.letters-letter-end.ensures, c.loop-letter.invariant.1.size) in
    let is : get_or c.loop-letter.searched.items c.loop-letter.letter None ≡ c.index.result.now =
    get_or_default c.loop-letter.searched.items c.loop-letter.letter None c.index.result.now inside ∙ sym c.index.ensures
    in
    subst (λ o. IfSome o (λ b. (b < length s.states) × NoneMeets g s p b c.loop-letter.letter)) is (searched-at g s p c.loop-letter.searched.items c.loop-letter.letter c.loop-letter.invariant.1)
