use Rattle.std.proofs.Common.{◌∙◌, ap, not, ◌&&◌, nat_lt}
use Rattle.rl_ranges.specs.Codes.{has}
use Rattle.rl_ranges.specs.Text.{code_count}
use Rattle.rl_pattern.specs.LeafCodes.{leaf_codes}
use Rattle.rl_pattern.specs.internal.LeafSets.{escaped_in, members_in}
use Rattle.rl_pattern.proofs.LeafLaws.{any_held, glyph_held, class_held, inverse_held, codes_same}
use Rattle.rl_pattern.proofs.leaf_set.leaf_set.Goals as goal

pub returns-in_ok-others-in-Any : goal.returns-in_ok-others-in-Any
returns-in_ok-others-in-Any c =
    codes_same c.complement.result (λ x. nat_lt x (code_count c.args.universe) && not (has c.in_ok-others-in-Any.others x)) (leaf_codes c.args.universe c.args.flags c.args.leaf.now)
    (λ x. any_held c.args.universe c.args.flags c.args.leaf.now x (has c.in_ok-others-in-Any.others x) c.in-Any.is (c.in_ok-others-in-Any.ensures.members x))
    c.complement.ensures.members

pub returns-in-Glyph : goal.returns-in-Glyph
returns-in-Glyph c =
    codes_same c.escaped_set.result (escaped_in c.args.universe c.args.flags c.in-Glyph.escaped) (leaf_codes c.args.universe c.args.flags c.args.leaf.now)
    (λ x. glyph_held c.args.universe c.args.flags c.args.leaf.now c.in-Glyph.escaped x c.in-Glyph.is)
    c.escaped_set.ensures.members

pub returns-then-inverse : goal.returns-then-inverse
returns-then-inverse c =
    codes_same c.complement-then-inverse.result (λ x. nat_lt x (code_count c.args.universe) && not (has c.in_ok-set-in-Members.set x)) (leaf_codes c.args.universe c.args.flags c.args.leaf.now)
    (λ x. inverse_held c.args.universe c.args.flags c.args.leaf.now c.in-Members.inverse c.in-Members.members x (has c.in_ok-set-in-Members.set x) c.in-Members.is c.if-inverse.true (c.in_ok-set-in-Members.ensures.members x ∙ ap (λ ms. members_in c.args.universe c.args.flags ms x) c.as_slice.ensures))
    c.complement-then-inverse.ensures.members

pub returns-else-inverse : goal.returns-else-inverse
returns-else-inverse c =
    λ x. c.in_ok-set-in-Members.ensures.members x ∙ ap (λ ms. members_in c.args.universe c.args.flags ms x) c.as_slice.ensures ∙ class_held c.args.universe c.args.flags c.args.leaf.now c.in-Members.inverse c.in-Members.members x c.in-Members.is c.if-inverse.false
