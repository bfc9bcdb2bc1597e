-- A tree without its groups keeps what holds of each tree with groups.
use Rattle.std.proofs.Common.{◌≡◌, ◌≤◌, true, ap, ap₂, refl, subst, sym, arith}
use Rattle.std.proofs.lemmas.Bool.{and_from}
use Rattle.rl_ranges.specs.declared.universe.Universe.{Universe}
use Rattle.rl_syntax.specs.Tree as Plain
use Rattle.rl_syntax.specs.Tree.{IsOver}
use Rattle.rl_marks.specs.IsMarked.{IsMarked}
use Rattle.rl_marks.specs.Marked.{Marked, empty, one, guard, both, either, many, further, mark, is_numbered, nodes, plain}
use Rattle.rl_ask.specs.Ungrouped.{ungrouped}

same-plain : (t : Marked) → plain (ungrouped t) ≡ plain t
same-plain empty = refl
same-plain (one set) = refl
same-plain (guard g) = refl
same-plain (both e f) = ap₂ Plain.both (same-plain e) (same-plain f)
same-plain (either e f) = ap₂ Plain.either (same-plain e) (same-plain f)
same-plain (many e greedy) = ap (λ x. Plain.many x greedy) (same-plain e)
same-plain (further e f) = ap₂ Plain.both (same-plain e) (same-plain f)
same-plain (mark n e) = same-plain e

numbered : (t : Marked) → is_numbered (ungrouped t) ≡ true
numbered empty = refl
numbered (one set) = refl
numbered (guard g) = refl
numbered (both e f) = and_from _ _ (numbered e) (numbered f)
numbered (either e f) = and_from _ _ (numbered e) (numbered f)
numbered (many e greedy) = numbered e
numbered (further e f) = and_from _ _ (numbered e) (numbered f)
numbered (mark n e) = numbered e

smaller : (t : Marked) → nodes (ungrouped t) ≤ nodes t
smaller empty = omega arith
smaller (one set) = omega arith
smaller (guard g) = omega arith
smaller (both e f) = omega (arith, smaller e, smaller f)
smaller (either e f) = omega (arith, smaller e, smaller f)
smaller (many e greedy) = omega (arith, smaller e)
smaller (further e f) = omega (arith, smaller e, smaller f)
smaller (mark n e) = omega (arith, smaller e)

pub still-marked : (u : Universe) (t s : Marked) → s ≡ ungrouped t → IsMarked u t → IsMarked u s
still-marked u t s is h = subst (IsMarked u) (sym is) (record {
  over = subst (IsOver u) (sym (same-plain t)) h.over;
  numbered = numbered t;
  small = omega (arith, smaller t, h.small);
})
