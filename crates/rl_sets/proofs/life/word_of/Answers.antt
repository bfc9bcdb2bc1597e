use Rattle.std.proofs.Common.{◌≡◌, ◌++◌, ◌∷◌, [], get_or, slice_get, Some, ℕ, List, ap, sym, ◌∙◌, refl}
use Rattle.std.proofs.lemmas.List.{append_assoc}
use Rattle.std.proofs.lemmas.Option.{slice_get-get_or}
use Rattle.rl_sets.specs.declared.life.Route.{Route}
use Rattle.rl_sets.specs.declared.life.Route.TheVariants.{End, On}
use Rattle.rl_sets.proofs.RouteLemmas.{at-end, at-on, routed-within}
use Rattle.rl_sets.proofs.life.word_of.Goals as goal

pub loop-at-init : goal.loop-at-init
loop-at-init c = (c.requires, (λ word h. (word, h, ap (λ (l : List ℕ). l ++ word) (sym c.new-word.ensures))))

pub bounds : goal.bounds
bounds c = routed-within c.loop-at.invariant.0.1

pub bounds-routes-at : goal.bounds-routes-at
bounds-routes-at c = routed-within c.loop-at.invariant.0.1

is-end : (x : Route) → ((letter next : ℕ) → x ≡ On letter next → ⊥) → x ≡ End
is-end End other = refl
is-end (On letter next) other = absurd (other letter next refl)

pub loop-at-preserved : goal.loop-at-preserved
loop-at-preserved c =
    let e : slice_get c.args.routes.now c.loop-at.at ≡ Some (On c.in-On.letter c.in-On.next) = slice_get-get_or c.args.routes.now c.loop-at.at End (routed-within c.loop-at.invariant.0.1) ∙ ap Some c.in-On.is in
    let here = at-on c.in-On.letter c.in-On.next c.loop-at.invariant.0.1 e in (
      (here.rest, here.routed),
      (λ word h.
          let v = c.loop-at.invariant.1 word h in
          let w = at-on c.in-On.letter c.in-On.next v.1 e in (
            w.rest,
            w.routed,
            v.2
                ∙ ap (λ (l : List ℕ). c.loop-at.word ++ l) w.is
                ∙ sym (append_assoc c.loop-at.word (c.in-On.letter ∷ []) w.rest)
                ∙ ap (λ (l : List ℕ). l ++ w.rest) (sym c.in_ok-push.ensures.pushed),
          )),
    )

pub loop-at-smaller : goal.loop-at-smaller
loop-at-smaller c =
    let e : slice_get c.args.routes.now c.loop-at.at ≡ Some (On c.in-On.letter c.in-On.next) = slice_get-get_or c.args.routes.now c.loop-at.at End (routed-within c.loop-at.invariant.0.1) ∙ ap Some c.in-On.is in
    (at-on c.in-On.letter c.in-On.next c.loop-at.invariant.0.1 e).less

pub returns : goal.returns
returns c word h =
    let v = c.loop-at.invariant.1 word h in
    let lt = routed-within c.loop-at.invariant.0.1 in
    let ends : slice_get c.args.routes.now c.loop-at.at ≡ Some End = slice_get-get_or c.args.routes.now c.loop-at.at End lt ∙ ap Some (is-end (get_or c.args.routes.now c.loop-at.at End) c.in_default.not-On) in
    c.in_ok-push-2.ensures.pushed ∙ sym (v.2 ∙ ap (λ (l : List ℕ). c.loop-at.word ++ l) (at-end v.1 ends))
