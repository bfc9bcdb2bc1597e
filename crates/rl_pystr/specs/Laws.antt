-- The law that a quoted text is read back. To quote a text is to write it as a literal. A universe is `Str`, whose texts are
-- lists of code points, or `Bytes`, whose texts are lists of bytes.
use Rattle.std.specs.Prelude.{◌≡◌, ℕ, ◌≤◌, List, [], ◌∷◌, length, Ok}
use Rattle.rl_ranges.specs.declared.universe.Universe.{Universe}
use Rattle.rl_ranges.specs.Text.{IsText}
use Rattle.rl_pylex.specs.declared.token_list.TokenKind.TheVariants as kind
use Rattle.rl_pylex.specs.declared.token_list.Token.{Token}
use Rattle.rl_pylex.specs.Source.{IsTokenList}
use Rattle.rl_pystr.specs.Runs.{value_of_run, has_bytes, universe_by}
use Rattle.rl_pystr.specs.Quoting.{is_bytes, quoted}

-- The literal token that is the whole text.
abbrev pub whole : List ℕ → Token
whole text = record { kind = kind.Literal; from = 0; upto = length text }

-- Holds if the text is a source with exactly one token, a literal that is the whole text, and this literal's value is `codes`
-- in the universe `u`. `places` has for each of the codes the byte index in the text of what gives it.
pub record IsReadBack (u : Universe) (codes text : List ℕ) : Type 0 where
  pub tokens : IsTokenList text (whole text ∷ [])
  pub places : List ℕ
  pub value : value_of_run text (whole text ∷ []) ≡ Ok (record { codes = codes; places = places })
  pub universe : universe_by (has_bytes text (whole text ∷ [])) ≡ u

-- Each text of a universe is the value of the literal that `quoted` writes for it, if that has at most 4,194,304 bytes, the
-- maximum length of a source.
abbrev pub IsQuotingReadBack : Type 0
IsQuotingReadBack =
    (universe : Universe) (codes : List ℕ) → IsText universe codes → length (quoted (is_bytes universe) codes) ≤ 4194304
    → IsReadBack universe codes (quoted (is_bytes universe) codes)
