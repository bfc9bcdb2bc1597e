-- A map, the steps left to do, the paths met and the marks of the calls determine a walk.
use Rattle.std.proofs.Common.{◌≡◌, ℕ, ◌+◌, false, List, [], ◌∷◌, ◌++◌, take, Some, refl, ap, subst, ◌∙◌, arith}
use Rattle.std.specs.Prelude.{IsSomeAnd}
use Rattle.rl_lists.specs.declared.limits.TheConstants.{MOST_BYTES}
use Rattle.rl_source.specs.Asked.{call_of}
use Rattle.rl_source.specs.Distinct.{is_double, has_double, Lists}
use Rattle.rl_source.specs.NodeMap.{children_at}
use Rattle.rl_source.specs.declared.nodes.Call.{Call}
use Rattle.rl_source.specs.declared.nodes.Query.TheVariants as query
use Rattle.rl_source.specs.declared.nodes.Child.{Child}
use Rattle.rl_source.specs.declared.nodes.Node.{Node}
use Rattle.rl_source.proofs.Listed.{IsSomeAnd-listed}
use Rattle.rl_walk.specs.declared.visits.Visit.{Visit}
use Rattle.rl_walk.specs.declared.visits.Visit.TheVariants.{Source}
use Rattle.rl_walk.specs.Children.{IsInOrder}
use Rattle.rl_walk.specs.Steps.{Step, step_for, steps_below}
use Rattle.rl_walk.specs.Visits.{IsWalk, done, unknown, known, not_plain, file_again, unread, source, folder_again, too_deep, unlisted, listed}
use Rattle.rl_walk.specs.OneWalk.{marks}
use Rattle.rl_walk.proofs.Same.{one_order}

abbrev Same : List Call → List Call → List Visit → List Visit → Type 0
Same c1 c2 v1 v2 = (c1 ≡ c2) × (v1 ≡ v2)

once-listed : (nodes : List Node) (path : List ℕ) (children : List Child) → is_double nodes ≡ false → children_at nodes path ≡ Some children → has_double (λ c. c.name) children ≡ false
once-listed nodes path children single at =
    let lists : Lists children children = subst (λ o. IsSomeAnd o (λ l. Lists l children)) at (IsSomeAnd-listed nodes path children children single at refl) in
    lists.once

more : (call : Call) (visit : Visit) (c1 c2 : List Call) (v1 v2 : List Visit) → Same c1 c2 v1 v2 → Same (call ∷ c1) (call ∷ c2) (visit ∷ v1) (visit ∷ v2)
more call visit c1 c2 v1 v2 s = (ap (λ l. call ∷ l) s.0, ap (λ l. visit ∷ l) s.1)

more-call : (call : Call) (c1 c2 : List Call) (v1 v2 : List Visit) → Same c1 c2 v1 v2 → Same (call ∷ c1) (call ∷ c2) v1 v2
more-call call c1 c2 v1 v2 s = (ap (λ l. call ∷ l) s.0, s.1)

more-visit : (visit : Visit) (c1 c2 : List Call) (v1 v2 : List Visit) → Same c1 c2 v1 v2 → Same c1 c2 (visit ∷ v1) (visit ∷ v2)
more-visit visit c1 c2 v1 v2 s = (s.0, ap (λ l. visit ∷ l) s.1)

pub determined : (nodes : List Node) → is_double nodes ≡ false → {steps : List Step} {met : List (List ℕ)} {c1 c2 : List Call} {v1 v2 : List Visit}
    → IsWalk nodes steps met c1 v1 → IsWalk nodes steps met c2 v2 → marks c1 ≡ marks c2 → Same c1 c2 v1 v2
determined n o done done e = (refl, refl)
determined n o (unknown w) (unknown x) e = more _ _ _ _ _ _ (determined n o w x cc)
determined n o (unknown w) (known k x) e = cc
determined n o (known k w) (unknown x) e = cc
determined n o (known {path} {rest} {met} {calls} {visits} {kind} k w) (known {path = path2} {rest = rest2} {met = met2} {calls = calls2} {visits = visits2} {kind = kind2} j x) e =
    let same : kind2 ≡ kind = cc in
    more-call _ _ _ _ _ (determined n o w (subst (λ f. IsWalk n (step_for f path ∷ rest) met calls2 visits2) same x) cc)
determined n o (not_plain w) (not_plain x) e = more-visit _ _ _ _ _ (determined n o w x e)
determined n o (file_again i w) (file_again j x) e = determined n o w x e
determined n o (file_again i w) (unread j x) e = cc
determined n o (file_again i w) (source j b x) e = cc
determined n o (unread i w) (file_again j x) e = cc
determined n o (unread i w) (unread j x) e = more _ _ _ _ _ _ (determined n o w x cc)
determined n o (unread i w) (source j b x) e = cc
determined n o (source i a w) (file_again j x) e = cc
determined n o (source i a w) (unread j x) e = cc
determined n o (source {path} {rest} {met} {calls} {visits} {content} i a w) (source {path = path2} {rest = rest2} {met = met2} {calls = calls2} {visits = visits2} {content = content2} j b x) e =
    let same : content ≡ content2 = cc in
    let r = more (call_of (query.Read (MOST_BYTES + 1)) path false) (Source path (take (MOST_BYTES + 1) content)) calls calls2 visits visits2 (determined n o w x cc) in
    (r.0, r.1 ∙ ap (λ c. Source path (take (MOST_BYTES + 1) c) ∷ visits2) same)
determined n o (folder_again i w) (folder_again j x) e = determined n o w x e
determined n o (folder_again i w) (too_deep j l x) e = cc
determined n o (folder_again i w) (unlisted j l x) e = cc
determined n o (folder_again i w) (listed j l a s x) e = cc
determined n o (too_deep i k w) (folder_again j x) e = cc
determined n o (too_deep i k w) (too_deep j l x) e = more-visit _ _ _ _ _ (determined n o w x e)
determined n o (too_deep i k w) (unlisted j l x) e = absurd (omega arith)
determined n o (too_deep i k w) (listed j l a s x) e = absurd (omega arith)
determined n o (unlisted i k w) (folder_again j x) e = cc
determined n o (unlisted i k w) (too_deep j l x) e = absurd (omega arith)
determined n o (unlisted i k w) (unlisted j l x) e = more _ _ _ _ _ _ (determined n o w x cc)
determined n o (unlisted i k w) (listed j l a s x) e = cc
determined n o (listed i k b t w) (folder_again j x) e = cc
determined n o (listed i k b t w) (too_deep j l x) e = absurd (omega arith)
determined n o (listed i k b t w) (unlisted j l x) e = cc
determined n o (listed {path} {level} {rest} {met} {calls} {visits} {children} {sorted} i k b t w) (listed {path = path2} {level = level2} {rest = rest2} {met = met2} {calls = calls2} {visits = visits2} {children = children2} {sorted = sorted2} j l a s x) e =
    let same : children2 ≡ children = cc in
    let order : sorted2 ≡ sorted = one_order children sorted2 sorted (once-listed n path children o b) (subst (λ c. IsInOrder c sorted2) same s) t in
    more-call _ _ _ _ _ (determined n o w (subst (λ c. IsWalk n (steps_below path level c ++ rest) (met ++ path ∷ []) calls2 visits2) order x) cc)
