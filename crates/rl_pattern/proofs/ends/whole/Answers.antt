-- If no group is open, the branches so far are those of the whole pattern.
use Rattle.std.proofs.Common.{◌≡◌, ℕ, List, [], ◌∷◌, length, map, reverse, Option, Some, refl, sym, ap, ◌∙◌, arith}
use Rattle.std.proofs.lemmas.Bool.{eqb-true}
use Rattle.std.specs.Prelude.{vec_len}
use Rattle.rl_pattern.specs.declared.state.Frame.{Frame}
use Rattle.rl_pattern.specs.Tree as t
use Rattle.rl_pattern.specs.internal.Machine as m
use Rattle.rl_pattern.specs.internal.Views.{branch_of, frame_of, base_of}
use Rattle.rl_pattern.proofs.ends.whole.Goals as goal

none_below : (fs : List Frame) → length fs ≡ 0 → map frame_of (reverse fs) ≡ []
none_below [] e = refl
none_below (f ∷ fs) e = absurd (omega (arith, e))

-- A whole pattern that is found.
abbrev whole_some : t.Whole → Option t.Whole
whole_some p = Some p

whole_found : (k j : ℕ) (b e : m.Base) (fronts : List t.Front) (body : t.SyntaxNode) → b.below ≡ [] → e ≡ m.next_branch b j (m.all_branches b k) → fronts ≡ e.fronts → body ≡ t.whole_body (t.span e.top.start k) e.top.branches → whole_some (record { fronts = fronts; place = t.span e.top.start k; body = body }) ≡ m.finish k b
whole_found k j b e fronts body none ended f g =
    ap (λ fs. whole_some (record { fronts = fs; place = t.span e.top.start k; body = body })) f
    ∙ ap (λ p. whole_some (record { fronts = e.fronts; place = t.span e.top.start k; body = p })) g
    ∙ ap (λ (x : m.Base). whole_some (record { fronts = x.fronts; place = t.span x.top.start k; body = t.whole_body (t.span x.top.start k) x.top.branches })) ended
    ∙ sym (ap (m.finish_below k b) none)

pub returns : goal.returns
returns c =
    let below = c.args.base.now.below in
    let now = c.end_branch.new.base in
    let zero : vec_len below ≡ 0 = eqb-true (vec_len below) 0 (sym c.is_empty.ensures ∙ c.if-not-is_empty.false) in
    let none : length below.items ≡ 0 = omega (arith, zero, below.ok) in
    whole_found c.args.k c.args.base.now.top.from (base_of c.args.base.now) (base_of now) c.replace-fronts.result _ (none_below below.items none) c.in_ok-end_branch.ensures c.replace-fronts.ensures.value
    (c.whole_body.ensures ∙ ap (λ bs. t.whole_body (t.span now.top.start c.args.k) (map branch_of bs)) c.replace-branches.ensures.value)
