-- Letter case. Under IGNORECASE two codes are case kin, that is, they match the same text. By ASCII, two codes are kin if they
-- are equal or are the two cases of one ASCII letter. By Unicode, they are kin if they have the same simple case folding or if
-- both are among `I`, `i`, U+0130 and U+0131. A set of codes is a list of ranges, and a range is a pair: its first code and
-- its last code.
use Rattle.std.specs.Prelude.{ℕ, ◌+◌, ◌↔◌, Bool, true, false, ◌&&◌, ◌||◌, ◌==◌, List, IsTrue}
use Rattle.rl_ranges.specs.Codes.{has, is_between}
use Rattle.unicode.specs.CaseFolding.{simple_fold}

-- Whether the code is `I`, `i`, U+0130 (capital letter with a dot) or U+0131 (small letter without a dot).
abbrev pub is_letter_i : ℕ → Bool
is_letter_i code = code == 73 || code == 105 || code == 304 || code == 305

-- Whether the two codes are case kin. The flag `true` selects the ASCII rule, `false` the Unicode rule.
unfoldable pub is_case_kin : Bool → ℕ → ℕ → Bool
is_case_kin true c d = c == d || (is_between 65 90 c && d == c + 32) || (is_between 65 90 d && c == d + 32)
is_case_kin false c d = simple_fold c == simple_fold d || (is_letter_i c && is_letter_i d)

-- Holds if the set `closed` holds exactly the codes that are case kin to some code of the set `ranges`. The flag `true`
-- selects the ASCII rule, `false` the Unicode rule.
abbrev pub IsCaseClosed : Bool → List (ℕ × ℕ) → List (ℕ × ℕ) → Type 0
IsCaseClosed ascii ranges closed = (c : ℕ) → IsTrue (has closed c) ↔ ((d : ℕ) × IsTrue (has ranges d) × IsTrue (is_case_kin ascii d c))
