-- The graph of the eight live pairs of `(a|a)*` as fullmatch is a graph of live pairs, numbered by first sight.
use Rattle.std.proofs.Common.{◌≡◌, ℕ, zero, suc, ◌<◌, ◌≤◌, ◌⊎◌, inl, inr, List, [], ◌∷◌, refl, arith}
use Rattle.rl_graph.specs.Paths.{Has}
use Rattle.rl_prio.specs.Automaton.{moves_at}
use Rattle.rl_sets.specs.Live.{image, joined, refuses, IsLive}
use Rattle.rl_pairs.specs.declared.pair.Pair.{Pair}
use Rattle.rl_pairs.specs.LivePairs.{first_pair, next_pairs}
use Rattle.rl_pairs.specs.PairGraph.{KeptLive, IsPairGraph, AreFirstSeen, seen_before, targets_of}
use Rattle.rl_pairs.proofs.ExactLaws.{live-free}
use Rattle.rl_pairs.proofs.WorkedPairs.{doubled, pair}

abbrev moves : ℕ → ℕ → List ℕ
moves zero zero = 1 ∷ (1 ∷ (1 ∷ []))
moves zero (suc zero) = 2 ∷ (3 ∷ (4 ∷ []))
moves zero (suc (suc zero)) = 1 ∷ (1 ∷ (5 ∷ []))
moves (suc (suc zero)) zero = 1 ∷ (1 ∷ (1 ∷ []))
moves (suc (suc zero)) (suc zero) = 2 ∷ (3 ∷ (4 ∷ []))
moves (suc (suc zero)) (suc (suc zero)) = 1 ∷ (1 ∷ (5 ∷ []))
moves (suc (suc (suc zero))) zero = 1 ∷ (1 ∷ (1 ∷ []))
moves (suc (suc (suc zero))) (suc zero) = 6 ∷ (7 ∷ (4 ∷ []))
moves (suc (suc (suc (suc (suc (suc zero)))))) zero = 1 ∷ (1 ∷ (1 ∷ []))
moves (suc (suc (suc (suc (suc (suc zero)))))) (suc zero) = 6 ∷ (7 ∷ (4 ∷ []))
moves (suc (suc (suc (suc (suc (suc (suc zero))))))) zero = 1 ∷ (1 ∷ (1 ∷ []))
moves (suc (suc (suc (suc (suc (suc (suc zero))))))) (suc zero) = 6 ∷ (7 ∷ (4 ∷ []))
moves i letter = []

abbrev numbered : ℕ → Pair
numbered zero = first_pair
numbered (suc zero) = pair 4 []
numbered (suc (suc zero)) = pair 1 []
numbered (suc (suc (suc zero))) = pair 2 (1 ∷ [])
numbered (suc (suc (suc (suc zero)))) = pair 4 (1 ∷ (2 ∷ []))
numbered (suc (suc (suc (suc (suc zero))))) = pair 3 []
numbered (suc (suc (suc (suc (suc (suc zero)))))) = pair 1 (1 ∷ (2 ∷ []))
numbered (suc (suc (suc (suc (suc (suc (suc zero))))))) = pair 2 (1 ∷ (2 ∷ []))
numbered i = first_pair

none_live : IsLive doubled []
unfolding doubled refuses
none_live = (2 ∷ [], inl (refl, refl), refl)

one_live : IsLive doubled (1 ∷ [])
unfolding doubled refuses moves_at
one_live = (0 ∷ (2 ∷ []), inr (omega arith, inl (refl, refl)), refl)

both_live : IsLive doubled (1 ∷ (2 ∷ []))
unfolding doubled refuses moves_at
both_live = (0 ∷ (2 ∷ []), inr (omega arith, inl (refl, refl)), refl)

accepting_dead : IsLive doubled (3 ∷ []) → ⊥
unfolding doubled
accepting_dead live = live-free doubled (3 ∷ []) live (inl refl)

kept : (i letter : ℕ) → i < 8 → letter ≤ 2 → KeptLive doubled numbered (next_pairs doubled (numbered i) letter) (moves i letter)
unfolding doubled image joined moves_at
kept zero zero lt le = inr (1, 1 ∷ (1 ∷ []), none_live, refl, refl, inr (1, 1 ∷ [], none_live, refl, refl, inr (1, [], none_live, refl, refl, refl)))
kept zero (suc zero) lt le = inr (2, 3 ∷ (4 ∷ []), none_live, refl, refl, inr (3, 4 ∷ [], one_live, refl, refl, inr (4, [], both_live, refl, refl, refl)))
kept zero (suc (suc zero)) lt le = inr (1, 1 ∷ (5 ∷ []), none_live, refl, refl, inr (1, 5 ∷ [], none_live, refl, refl, inr (5, [], none_live, refl, refl, refl)))
kept (suc zero) zero lt le = refl
kept (suc zero) (suc zero) lt le = refl
kept (suc zero) (suc (suc zero)) lt le = refl
kept (suc (suc zero)) zero lt le = inr (1, 1 ∷ (1 ∷ []), none_live, refl, refl, inr (1, 1 ∷ [], none_live, refl, refl, inr (1, [], none_live, refl, refl, refl)))
kept (suc (suc zero)) (suc zero) lt le = inr (2, 3 ∷ (4 ∷ []), none_live, refl, refl, inr (3, 4 ∷ [], one_live, refl, refl, inr (4, [], both_live, refl, refl, refl)))
kept (suc (suc zero)) (suc (suc zero)) lt le = inr (1, 1 ∷ (5 ∷ []), none_live, refl, refl, inr (1, 5 ∷ [], none_live, refl, refl, inr (5, [], none_live, refl, refl, refl)))
kept (suc (suc (suc zero))) zero lt le = inr (1, 1 ∷ (1 ∷ []), none_live, refl, refl, inr (1, 1 ∷ [], none_live, refl, refl, inr (1, [], none_live, refl, refl, refl)))
kept (suc (suc (suc zero))) (suc zero) lt le = inr (6, 7 ∷ (4 ∷ []), both_live, refl, refl, inr (7, 4 ∷ [], both_live, refl, refl, inr (4, [], both_live, refl, refl, refl)))
kept (suc (suc (suc zero))) (suc (suc zero)) lt le = inl (accepting_dead, inl (accepting_dead, inl (accepting_dead, refl)))
kept (suc (suc (suc (suc zero)))) zero lt le = refl
kept (suc (suc (suc (suc zero)))) (suc zero) lt le = refl
kept (suc (suc (suc (suc zero)))) (suc (suc zero)) lt le = refl
kept (suc (suc (suc (suc (suc zero))))) zero lt le = refl
kept (suc (suc (suc (suc (suc zero))))) (suc zero) lt le = refl
kept (suc (suc (suc (suc (suc zero))))) (suc (suc zero)) lt le = refl
kept (suc (suc (suc (suc (suc (suc zero)))))) zero lt le = inr (1, 1 ∷ (1 ∷ []), none_live, refl, refl, inr (1, 1 ∷ [], none_live, refl, refl, inr (1, [], none_live, refl, refl, refl)))
kept (suc (suc (suc (suc (suc (suc zero)))))) (suc zero) lt le = inr (6, 7 ∷ (4 ∷ []), both_live, refl, refl, inr (7, 4 ∷ [], both_live, refl, refl, inr (4, [], both_live, refl, refl, refl)))
kept (suc (suc (suc (suc (suc (suc zero)))))) (suc (suc zero)) lt le = inl (accepting_dead, inl (accepting_dead, inl (accepting_dead, refl)))
kept (suc (suc (suc (suc (suc (suc (suc zero))))))) zero lt le = inr (1, 1 ∷ (1 ∷ []), none_live, refl, refl, inr (1, 1 ∷ [], none_live, refl, refl, inr (1, [], none_live, refl, refl, refl)))
kept (suc (suc (suc (suc (suc (suc (suc zero))))))) (suc zero) lt le = inr (6, 7 ∷ (4 ∷ []), both_live, refl, refl, inr (7, 4 ∷ [], both_live, refl, refl, inr (4, [], both_live, refl, refl, refl)))
kept (suc (suc (suc (suc (suc (suc (suc zero))))))) (suc (suc zero)) lt le = inl (accepting_dead, inl (accepting_dead, inl (accepting_dead, refl)))
kept zero (suc (suc (suc letter))) lt le = absurd (omega arith)
kept (suc zero) (suc (suc (suc letter))) lt le = absurd (omega arith)
kept (suc (suc zero)) (suc (suc (suc letter))) lt le = absurd (omega arith)
kept (suc (suc (suc zero))) (suc (suc (suc letter))) lt le = absurd (omega arith)
kept (suc (suc (suc (suc zero)))) (suc (suc (suc letter))) lt le = absurd (omega arith)
kept (suc (suc (suc (suc (suc zero))))) (suc (suc (suc letter))) lt le = absurd (omega arith)
kept (suc (suc (suc (suc (suc (suc zero)))))) (suc (suc (suc letter))) lt le = absurd (omega arith)
kept (suc (suc (suc (suc (suc (suc (suc zero))))))) (suc (suc (suc letter))) lt le = absurd (omega arith)
kept (suc (suc (suc (suc (suc (suc (suc (suc i)))))))) letter lt le = absurd (omega arith)

first_sight : (seen_before doubled moves 8 ≡ 8) × AreFirstSeen 1 (targets_of doubled moves 0) × AreFirstSeen 6 (targets_of doubled moves 3)
unfolding doubled
first_sight = (refl, (omega arith, (omega arith, (omega arith, (omega arith, (omega arith, (omega arith, (omega arith, (omega arith, (omega arith, tt))))))))), (omega arith, (omega arith, (omega arith, (omega arith, (omega arith, (omega arith, tt)))))))

each_live : (i : ℕ) → i < 8 → IsLive doubled (numbered i).set
each_live zero lt = none_live
each_live (suc zero) lt = none_live
each_live (suc (suc zero)) lt = none_live
each_live (suc (suc (suc zero))) lt = one_live
each_live (suc (suc (suc (suc zero)))) lt = both_live
each_live (suc (suc (suc (suc (suc zero))))) lt = none_live
each_live (suc (suc (suc (suc (suc (suc zero)))))) lt = both_live
each_live (suc (suc (suc (suc (suc (suc (suc zero))))))) lt = both_live
each_live (suc (suc (suc (suc (suc (suc (suc (suc i)))))))) lt = absurd (omega arith)

within : (i letter k : ℕ) → Has k (moves i letter) → k < 8
within zero zero k (inl e) = omega arith
within zero zero k (inr (inl e)) = omega arith
within zero zero k (inr (inr (inl e))) = omega arith
within zero zero k (inr (inr (inr e))) = absurd e
within zero (suc zero) k (inl e) = omega arith
within zero (suc zero) k (inr (inl e)) = omega arith
within zero (suc zero) k (inr (inr (inl e))) = omega arith
within zero (suc zero) k (inr (inr (inr e))) = absurd e
within zero (suc (suc zero)) k (inl e) = omega arith
within zero (suc (suc zero)) k (inr (inl e)) = omega arith
within zero (suc (suc zero)) k (inr (inr (inl e))) = omega arith
within zero (suc (suc zero)) k (inr (inr (inr e))) = absurd e
within zero (suc (suc (suc letter))) k h = absurd h
within (suc zero) zero k h = absurd h
within (suc zero) (suc zero) k h = absurd h
within (suc zero) (suc (suc zero)) k h = absurd h
within (suc zero) (suc (suc (suc letter))) k h = absurd h
within (suc (suc zero)) zero k (inl e) = omega arith
within (suc (suc zero)) zero k (inr (inl e)) = omega arith
within (suc (suc zero)) zero k (inr (inr (inl e))) = omega arith
within (suc (suc zero)) zero k (inr (inr (inr e))) = absurd e
within (suc (suc zero)) (suc zero) k (inl e) = omega arith
within (suc (suc zero)) (suc zero) k (inr (inl e)) = omega arith
within (suc (suc zero)) (suc zero) k (inr (inr (inl e))) = omega arith
within (suc (suc zero)) (suc zero) k (inr (inr (inr e))) = absurd e
within (suc (suc zero)) (suc (suc zero)) k (inl e) = omega arith
within (suc (suc zero)) (suc (suc zero)) k (inr (inl e)) = omega arith
within (suc (suc zero)) (suc (suc zero)) k (inr (inr (inl e))) = omega arith
within (suc (suc zero)) (suc (suc zero)) k (inr (inr (inr e))) = absurd e
within (suc (suc zero)) (suc (suc (suc letter))) k h = absurd h
within (suc (suc (suc zero))) zero k (inl e) = omega arith
within (suc (suc (suc zero))) zero k (inr (inl e)) = omega arith
within (suc (suc (suc zero))) zero k (inr (inr (inl e))) = omega arith
within (suc (suc (suc zero))) zero k (inr (inr (inr e))) = absurd e
within (suc (suc (suc zero))) (suc zero) k (inl e) = omega arith
within (suc (suc (suc zero))) (suc zero) k (inr (inl e)) = omega arith
within (suc (suc (suc zero))) (suc zero) k (inr (inr (inl e))) = omega arith
within (suc (suc (suc zero))) (suc zero) k (inr (inr (inr e))) = absurd e
within (suc (suc (suc zero))) (suc (suc zero)) k h = absurd h
within (suc (suc (suc zero))) (suc (suc (suc letter))) k h = absurd h
within (suc (suc (suc (suc zero)))) zero k h = absurd h
within (suc (suc (suc (suc zero)))) (suc zero) k h = absurd h
within (suc (suc (suc (suc zero)))) (suc (suc zero)) k h = absurd h
within (suc (suc (suc (suc zero)))) (suc (suc (suc letter))) k h = absurd h
within (suc (suc (suc (suc (suc zero))))) zero k h = absurd h
within (suc (suc (suc (suc (suc zero))))) (suc zero) k h = absurd h
within (suc (suc (suc (suc (suc zero))))) (suc (suc zero)) k h = absurd h
within (suc (suc (suc (suc (suc zero))))) (suc (suc (suc letter))) k h = absurd h
within (suc (suc (suc (suc (suc (suc zero)))))) zero k (inl e) = omega arith
within (suc (suc (suc (suc (suc (suc zero)))))) zero k (inr (inl e)) = omega arith
within (suc (suc (suc (suc (suc (suc zero)))))) zero k (inr (inr (inl e))) = omega arith
within (suc (suc (suc (suc (suc (suc zero)))))) zero k (inr (inr (inr e))) = absurd e
within (suc (suc (suc (suc (suc (suc zero)))))) (suc zero) k (inl e) = omega arith
within (suc (suc (suc (suc (suc (suc zero)))))) (suc zero) k (inr (inl e)) = omega arith
within (suc (suc (suc (suc (suc (suc zero)))))) (suc zero) k (inr (inr (inl e))) = omega arith
within (suc (suc (suc (suc (suc (suc zero)))))) (suc zero) k (inr (inr (inr e))) = absurd e
within (suc (suc (suc (suc (suc (suc zero)))))) (suc (suc zero)) k h = absurd h
within (suc (suc (suc (suc (suc (suc zero)))))) (suc (suc (suc letter))) k h = absurd h
within (suc (suc (suc (suc (suc (suc (suc zero))))))) zero k (inl e) = omega arith
within (suc (suc (suc (suc (suc (suc (suc zero))))))) zero k (inr (inl e)) = omega arith
within (suc (suc (suc (suc (suc (suc (suc zero))))))) zero k (inr (inr (inl e))) = omega arith
within (suc (suc (suc (suc (suc (suc (suc zero))))))) zero k (inr (inr (inr e))) = absurd e
within (suc (suc (suc (suc (suc (suc (suc zero))))))) (suc zero) k (inl e) = omega arith
within (suc (suc (suc (suc (suc (suc (suc zero))))))) (suc zero) k (inr (inl e)) = omega arith
within (suc (suc (suc (suc (suc (suc (suc zero))))))) (suc zero) k (inr (inr (inl e))) = omega arith
within (suc (suc (suc (suc (suc (suc (suc zero))))))) (suc zero) k (inr (inr (inr e))) = absurd e
within (suc (suc (suc (suc (suc (suc (suc zero))))))) (suc (suc zero)) k h = absurd h
within (suc (suc (suc (suc (suc (suc (suc zero))))))) (suc (suc (suc letter))) k h = absurd h
within (suc (suc (suc (suc (suc (suc (suc (suc i)))))))) letter k h = absurd h

outside : (i letter : ℕ) → (8 ≤ i) ⊎ (2 < letter) → moves i letter ≡ []
outside zero zero (inl le) = absurd (omega arith)
outside zero zero (inr lt) = absurd (omega arith)
outside zero (suc zero) (inl le) = absurd (omega arith)
outside zero (suc zero) (inr lt) = absurd (omega arith)
outside zero (suc (suc zero)) (inl le) = absurd (omega arith)
outside zero (suc (suc zero)) (inr lt) = absurd (omega arith)
outside zero (suc (suc (suc letter))) h = refl
outside (suc zero) zero (inl le) = absurd (omega arith)
outside (suc zero) zero (inr lt) = absurd (omega arith)
outside (suc zero) (suc zero) (inl le) = absurd (omega arith)
outside (suc zero) (suc zero) (inr lt) = absurd (omega arith)
outside (suc zero) (suc (suc zero)) (inl le) = absurd (omega arith)
outside (suc zero) (suc (suc zero)) (inr lt) = absurd (omega arith)
outside (suc zero) (suc (suc (suc letter))) h = refl
outside (suc (suc zero)) zero (inl le) = absurd (omega arith)
outside (suc (suc zero)) zero (inr lt) = absurd (omega arith)
outside (suc (suc zero)) (suc zero) (inl le) = absurd (omega arith)
outside (suc (suc zero)) (suc zero) (inr lt) = absurd (omega arith)
outside (suc (suc zero)) (suc (suc zero)) (inl le) = absurd (omega arith)
outside (suc (suc zero)) (suc (suc zero)) (inr lt) = absurd (omega arith)
outside (suc (suc zero)) (suc (suc (suc letter))) h = refl
outside (suc (suc (suc zero))) zero (inl le) = absurd (omega arith)
outside (suc (suc (suc zero))) zero (inr lt) = absurd (omega arith)
outside (suc (suc (suc zero))) (suc zero) (inl le) = absurd (omega arith)
outside (suc (suc (suc zero))) (suc zero) (inr lt) = absurd (omega arith)
outside (suc (suc (suc zero))) (suc (suc zero)) (inl le) = absurd (omega arith)
outside (suc (suc (suc zero))) (suc (suc zero)) (inr lt) = absurd (omega arith)
outside (suc (suc (suc zero))) (suc (suc (suc letter))) h = refl
outside (suc (suc (suc (suc zero)))) zero (inl le) = absurd (omega arith)
outside (suc (suc (suc (suc zero)))) zero (inr lt) = absurd (omega arith)
outside (suc (suc (suc (suc zero)))) (suc zero) (inl le) = absurd (omega arith)
outside (suc (suc (suc (suc zero)))) (suc zero) (inr lt) = absurd (omega arith)
outside (suc (suc (suc (suc zero)))) (suc (suc zero)) (inl le) = absurd (omega arith)
outside (suc (suc (suc (suc zero)))) (suc (suc zero)) (inr lt) = absurd (omega arith)
outside (suc (suc (suc (suc zero)))) (suc (suc (suc letter))) h = refl
outside (suc (suc (suc (suc (suc zero))))) zero (inl le) = absurd (omega arith)
outside (suc (suc (suc (suc (suc zero))))) zero (inr lt) = absurd (omega arith)
outside (suc (suc (suc (suc (suc zero))))) (suc zero) (inl le) = absurd (omega arith)
outside (suc (suc (suc (suc (suc zero))))) (suc zero) (inr lt) = absurd (omega arith)
outside (suc (suc (suc (suc (suc zero))))) (suc (suc zero)) (inl le) = absurd (omega arith)
outside (suc (suc (suc (suc (suc zero))))) (suc (suc zero)) (inr lt) = absurd (omega arith)
outside (suc (suc (suc (suc (suc zero))))) (suc (suc (suc letter))) h = refl
outside (suc (suc (suc (suc (suc (suc zero)))))) zero (inl le) = absurd (omega arith)
outside (suc (suc (suc (suc (suc (suc zero)))))) zero (inr lt) = absurd (omega arith)
outside (suc (suc (suc (suc (suc (suc zero)))))) (suc zero) (inl le) = absurd (omega arith)
outside (suc (suc (suc (suc (suc (suc zero)))))) (suc zero) (inr lt) = absurd (omega arith)
outside (suc (suc (suc (suc (suc (suc zero)))))) (suc (suc zero)) (inl le) = absurd (omega arith)
outside (suc (suc (suc (suc (suc (suc zero)))))) (suc (suc zero)) (inr lt) = absurd (omega arith)
outside (suc (suc (suc (suc (suc (suc zero)))))) (suc (suc (suc letter))) h = refl
outside (suc (suc (suc (suc (suc (suc (suc zero))))))) zero (inl le) = absurd (omega arith)
outside (suc (suc (suc (suc (suc (suc (suc zero))))))) zero (inr lt) = absurd (omega arith)
outside (suc (suc (suc (suc (suc (suc (suc zero))))))) (suc zero) (inl le) = absurd (omega arith)
outside (suc (suc (suc (suc (suc (suc (suc zero))))))) (suc zero) (inr lt) = absurd (omega arith)
outside (suc (suc (suc (suc (suc (suc (suc zero))))))) (suc (suc zero)) (inl le) = absurd (omega arith)
outside (suc (suc (suc (suc (suc (suc (suc zero))))))) (suc (suc zero)) (inr lt) = absurd (omega arith)
outside (suc (suc (suc (suc (suc (suc (suc zero))))))) (suc (suc (suc letter))) h = refl
outside (suc (suc (suc (suc (suc (suc (suc (suc i)))))))) letter h = refl

pair_graph : IsPairGraph doubled moves numbered 8
unfolding doubled
pair_graph = record { some = omega arith; first = refl; live = each_live; targets = λ i letter k lt h. within i letter k h; moves = kept; empty = outside }
