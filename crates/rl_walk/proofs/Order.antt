-- Children that were sorted by their names.
use Rattle.std.proofs.Common.{◌≡◌, Bool, List, ap}
use Rattle.std.specs.Prelude.{IsPermutation, IsSortedBy}
use Rattle.std.specs.Cmp.{IsStrictWeakOrder}
use Rattle.std.specs.Cmp.Lexicographic.{slice_cmp}
use Rattle.std.specs.Fn.{Called, ComparesAs, Mut}
use Rattle.std.specs.Ordering.{nat_cmp, is_lt}
use Rattle.std.specs.declared.cmp.Ordering.{Ordering}
use Rattle.std.proofs.Common.{Bor}
use Rattle.std.proofs.lemmas.Cmp.{nat_list_cmp_total}
use Rattle.std.proofs.lemmas.Fn.{always_returns_same}
use Rattle.std.proofs.lemmas.List.MinMax.{ranks_by}
use Rattle.rl_source.specs.declared.nodes.Child.{Child}
use Rattle.rl_walk.specs.Children.{by_name, IsInOrder}

pub in_order-sorted : {F : Type 0} {g : Mut F (Bor Child × (Bor Child × Unit {0})) Ordering} {f : F} (children sorted : List Child)
    → IsPermutation children sorted
    → ((lt : Child → Child → Bool) → IsStrictWeakOrder lt → ComparesAs g lt f → IsSortedBy lt sorted)
    → ((a : Bor Child × (Bor Child × Unit {0})) (r : Ordering) (f' : F) → Called g f a r f' → (r ≡ slice_cmp nat_cmp a.0.now.name a.1.0.now.name) × (f' ≡ f))
    → IsInOrder children sorted
in_order-sorted {g = g} {f = f} children sorted same up h = record {
  same = same;
  rising = up (λ a b. is_lt (by_name a b)) (ranks_by nat_list_cmp_total (λ (c : Child). c.name))
      (always_returns_same g (λ a r. is_lt r ≡ is_lt (by_name a.0.now a.1.0.now)) f (λ a r f' k. (ap is_lt (h a r f' k).0, (h a r f' k).1)));
}
