-- Laws of walks that keep only their first sets.
use Rattle.std.proofs.Common.{◌≡◌, ◌∙◌, ℕ, ◌<◌, ◌≤◌, List, [], Bool, length, get_or, take, Option, None, Some, IfSome, sym, ap, arith}
use Rattle.std.proofs.lemmas.List.{length-take, get_or-take}
use Rattle.rl_prio.specs.Automaton.{Automaton}
use Rattle.rl_sets.specs.Live.{holds, image}
use Rattle.rl_sets.specs.Walk.{Walk, set_at, IsMadeFor}
use Rattle.rl_trim.specs.declared.store.Reached.{Reached}
use Rattle.rl_trim.specs.Reached.{IsClosedTo, AreHolders, IsStored}
use Rattle.rl_trim.proofs.ClosingLaws.{stored-begun}

-- The walk `w` has the first `len` sets of the walk `v`.
module _ (a : Automaton) (v w : Walk) (len : ℕ) (made : IsMadeFor w a) (first : w.sets ≡ take len v.sets) where
  same : (k : ℕ) → k < len → set_at w k ≡ set_at v k
  same k lt = ap (λ (l : List (List ℕ)). get_or l k []) first ∙ get_or-take len v.sets k [] lt

  closed-short : (done count : ℕ) → count ≤ len → IsClosedTo a v done count → IsClosedTo a w done count
  closed-short done count le c = record {
    made = made;
    some = c.some;
    reached = c.reached;
    few = omega (arith, c.few, ap length first, length-take len v.sets);
    start = same 0 (omega (arith, c.some)) ∙ c.start;
    images = λ k letter lt small.
        let h = c.images k letter lt small in
        record {
          number = h.number;
          inside = h.inside;
          is = same h.number (omega (arith, h.inside)) ∙ h.is ∙ ap (λ (s : List ℕ). image a s letter) (sym (same k (omega (arith, c.reached))));
        };
  }

  holders-short : (count : ℕ) (table : List (List Bool)) → count ≤ len → AreHolders a v count table → AreHolders a w count table
  holders-short count table le h = record {
    high = h.high;
    wide = h.wide;
    noted = λ k q lt small there. h.noted k q lt small (ap (λ (l : List ℕ). holds l q) (sym (same k (omega arith))) ∙ there);
  }

  begun-short : 0 < len → IsClosedTo a v 0 (length v.sets) → IsClosedTo a w 0 (length w.sets)
  begun-short some c = stored-begun a w 0 1 (closed-short 0 1 (omega arith) (record {
    made = c.made;
    some = omega arith;
    reached = omega arith;
    few = omega (arith, c.some);
    start = c.start;
    images = λ k letter lt small. absurd (omega arith);
  }))

  -- What is known of a walk stays known of it if the sets reached from the start stay.
  pub stored-short : (o : Option Reached) → 0 < len → IfSome o (λ r. r.count ≤ len) → IsStored a v o → IsStored a w o
  stored-short None some le c = begun-short some c
  stored-short (Some r) some le h = record {
    closed = closed-short r.count r.count le h.closed;
    holders = holders-short r.count r.holders le h.holders;
  }
