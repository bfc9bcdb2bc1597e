use Rattle.std.proofs.Common.{◌≡◌, ◌++◌, ◌∙◌, ap, map, subst, sym}
use Rattle.std.specs.List.{All}
use Rattle.rl_ranges.specs.Codes.{has, IsInside}
use Rattle.rl_syntax.specs.PatTree.{pat_of}
use Rattle.rl_syntax.specs.Pattern.{body_of, universe_of}
use Rattle.rl_parts.specs.Sets.{sets_in}
use Rattle.rl_parts.proofs.Inside.{all_inside}
use Rattle.rl_parts.proofs.sets.letters_of.Goals as goal

pub of-requires : goal.of-requires
of-requires c =
    let p = c.args.pattern.now in
    let sets = c.add_sets.new.sets.items in
    let e : map has sets ≡ sets_in (body_of p) =
    subst (λ l. map has sets ≡ map has l ++ sets_in (pat_of c.body.result.now)) c.new-sets.ensures.items c.in_ok-add_sets.ensures ∙ ap sets_in c.body.ensures.same in
    subst (λ u. All (IsInside u) sets) (sym c.universe.ensures) (all_inside (universe_of p) (body_of p) sets c.body.ensures.judged.parts e)
