use Rattle.std.proofs.Common.{◌≡◌, ◌∙◌, ◌==◌, ℕ, Bool}
use Rattle.rl_ranges.specs.Codes.{has, is_between, IsInside}
use Rattle.rl_pattern.specs.LeafCodes.{within}
use Rattle.rl_pattern.specs.internal.LeafSets.{closing_in, kind_in, escaped_in}
use Rattle.rl_pattern.proofs.LeafLaws.{glyph_code, glyph_kind, same_within, between_one, answered, answered_both}
use Rattle.rl_pattern.proofs.leaf_set.escaped_set.Goals as goal

pub returns-in_ok-set-in-Code-clause-members : goal.returns-in_ok-set-in-Code-clause-members
returns-in_ok-set-in-Code-clause-members c =
    answered c.closed.result (λ s. (p : ℕ → Bool) → ((x : ℕ) → has c.in_ok-set-in-Code.set x ≡ within c.args.universe p x) → (x : ℕ) → has s x ≡ within c.args.universe (closing_in c.args.universe c.args.flags p) x) (λ s. (x : ℕ) → has s x ≡ escaped_in c.args.universe c.args.flags c.args.escaped x)
    (λ s h x. glyph_code c.args.universe c.args.flags c.args.escaped c.in-Code.code x (has s x) c.in-Code.is
    (h (λ y. y == c.in-Code.code) (λ d. c.in_ok-set-in-Code.ensures.members d ∙ same_within c.args.universe (is_between c.in-Code.code c.in-Code.code) (λ y. y == c.in-Code.code) (between_one c.in-Code.code) d) x))
    c.closed.ensures.members

pub returns-in-Kind-clause-members : goal.returns-in-Kind-clause-members
returns-in-Kind-clause-members c =
    answered_both c.kind_set.result (λ s. (x : ℕ) → has s x ≡ kind_in c.args.universe c.args.flags c.in-Kind.kind c.in-Kind.inverse x) (IsInside c.args.universe) (λ s. (x : ℕ) → has s x ≡ escaped_in c.args.universe c.args.flags c.args.escaped x)
    (λ s h inside x. glyph_kind c.args.universe c.args.flags c.args.escaped c.in-Kind.kind c.in-Kind.inverse x s c.in-Kind.is inside (h x))
    c.kind_set.ensures.members c.kind_set.ensures.inside
