-- Plain patterns, from which nothing can be removed. A suggestion has the text of a simpler pattern, and lists of spans: the
-- dropped branches, the quantifiers taken out (`merged`), and the branches whose trials exceeded the limit (`passed`).
use Rattle.std.specs.Prelude.{◌≡◌, [], None}
use Rattle.rl_syntax.specs.declared.verdict.Suggestion.{Suggestion}
use Rattle.rl_syntax.specs.PatTree.{PatTree}
use Rattle.rl_pattern.specs.Suggested.{branches_in, merged_in}

-- Holds if the body has no branches, and no quantifiers that the rules take out, such as the inner `*` in `(?:x*)*`.
pub record IsPlain (body : PatTree) : Type 0 where
  pub branches : branches_in body ≡ []
  pub quantifiers : merged_in body ≡ []

-- The suggestion that removes nothing: it has no text and lists no branches and no quantifiers.
abbrev pub empty_suggestion : Suggestion
empty_suggestion = record { text = None; dropped = []; merged = []; passed = [] }
