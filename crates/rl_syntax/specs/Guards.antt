-- Guards. A guard tests a position in a text by the character before it and the character after it. Guards are the anchors, the
-- word boundaries and the lookarounds of one character of the manual of Python's `re`. A text is a list of codes. Positions in
-- it are counted from 0: position `i` is before the character with the index `i`, and the last position is the length of the
-- text.
use Rattle.std.specs.Prelude.{ℕ, zero, suc, Bool, true, false, not, if◌then◌else◌, ◌||◌, ◌==◌, List, [], ◌∷◌, Option, None, Some, is_none, slice_get}
use Rattle.std.proofs.Math.Bool.{beq}
use Rattle.rl_ranges.specs.Codes.{has}
use Rattle.rl_ranges.specs.declared.named.Named.TheVariants.{Word as WordClass}
use Rattle.rl_ranges.specs.Named.{is_named}
use Rattle.rl_syntax.specs.declared.anchors.Guard.{Guard}
use Rattle.rl_syntax.specs.declared.anchors.Guard.TheVariants.{Start, LineStart, LineEnd, TextEnd, Word, NotWord, Look}

-- Whether the code is a word character, which `\w` matches: by ASCII if `ascii` is true, otherwise by Unicode.
unfoldable pub is_word : Bool → ℕ → Bool
is_word ascii code = is_named WordClass ascii code

-- Whether the code is a line feed, 10.
abbrev pub is_line_feed : ℕ → Bool
is_line_feed code = code == 10

-- Whether there is a character (the option isn't `None`), and the set `set` holds its code.
unfoldable pub is_in : (ℕ → Bool) → Option ℕ → Bool
is_in set None = false
is_in set (Some code) = set code

-- Whether a lookaround of the set holds where it looks at this character. No set holds the missing character at an end of the
-- text (`None`), so that only a negated lookaround holds there.
unfoldable pub sees : Bool → (ℕ → Bool) → Option ℕ → Bool
sees false set seen = is_in set seen
sees true set seen = not (is_in set seen)

-- Whether the guard holds between the characters `before` and `next`. `before` is `None` at the start of the text, and `next`
-- is `None` at its end. In the empty text `\B` holds and `\b` doesn't.
unfoldable pub holds : Guard → Option ℕ → Option ℕ → Bool
holds Start before next = is_none before
holds LineStart before next = is_none before || is_in is_line_feed before
holds LineEnd before next = is_none next || is_in is_line_feed next
holds TextEnd before next = is_none next
holds (Word ascii) before next = not (beq (is_in (is_word ascii) before) (is_in (is_word ascii) next))
holds (NotWord ascii) before next = beq (is_in (is_word ascii) before) (is_in (is_word ascii) next)
holds (Look behind negated ranges) before next = sees negated (has ranges) (if behind then before else next)

-- The character before position `i` of the text, or `None` if `i` is 0 or greater than the length of the text.
abbrev pub code_before : List ℕ → ℕ → Option ℕ
code_before text zero = None
code_before text (suc i) = slice_get text i

-- Whether the guard holds at position `i` of the text, counted from 0. A position greater than the length of the text has no
-- character before or after it, just like the only position of the empty text, so the guard holds there if it holds in the
-- empty text.
abbrev pub holds_at : Guard → List ℕ → ℕ → Bool
holds_at g text i = holds g (code_before text i) (slice_get text i)

-- The sets that the guard uses. The guard treats two characters alike if each of these sets holds both or neither of them.
abbrev pub sets_named : Guard → List (ℕ → Bool)
sets_named Start = []
sets_named LineStart = is_line_feed ∷ []
sets_named LineEnd = is_line_feed ∷ []
sets_named TextEnd = []
sets_named (Word ascii) = is_word ascii ∷ []
sets_named (NotWord ascii) = is_word ascii ∷ []
sets_named (Look behind negated ranges) = has ranges ∷ []

-- Whether the guard is a lookaround.
abbrev pub is_look : Guard → Bool
is_look (Look behind negated ranges) = true
is_look _ = false
