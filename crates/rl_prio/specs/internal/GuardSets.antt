-- For the contracts of private functions: sets of guards, as a flag for each guard. Each side of a position in a text shows
-- whether there is a code, whether it is a line feed, whether it is a word character, and of which kind it is. What the two
-- sides show determines the guards that hold at the position. A guard is an anchor, a word boundary or a lookaround of one
-- character. Codes of one kind look alike to all guards of a tree, and `kinds` is the table of the tree's kinds. So a
-- lookaround says of which kinds the code that it looks at isn't, and whether there has to be one. A set of kinds is a number:
-- its bit `k` says whether the kind `k` is in the set.
use Rattle.std.specs.Prelude.{ℕ, ◌+◌, ◌*◌, ◌^◌, ◌-◌, Bool, true, false, not, ◌||◌, ◌&&◌, ◌==◌, List, [], ◌∷◌, Option, None, Some, if◌then◌else◌}
use Rattle.std.specs.Int.{w128, bit_not}
use Rattle.std.specs.Int.Bits.{bit_and, bit_or}
use Rattle.std.proofs.Math.Bool.{beq}
use Rattle.rl_ranges.specs.Codes.{has}
use Rattle.rl_ranges.specs.Letters.{LetterTable, letter_at}
use Rattle.rl_syntax.specs.declared.anchors.Guard.{Guard}
use Rattle.rl_syntax.specs.declared.anchors.Guard.TheVariants.{Start, LineStart, LineEnd, TextEnd, Word, NotWord, Look}
use Rattle.rl_syntax.specs.Guards.{is_word, sees}
use Rattle.rl_prio.specs.declared.build.guards.Guards.{Guards}
use Rattle.rl_prio.specs.declared.build.guards.Looks.{Looks}
use Rattle.rl_prio.specs.declared.build.guards.Shown.{Shown}

-- What no lookaround requires: nothing.
unfoldable pub no_looks : Looks
no_looks = record { some_before = false; some_next = false; not_before = 0; not_next = 0 }

-- Whether nothing is required.
unfoldable pub requires_none : Looks → Bool
requires_none a = not a.some_before && not a.some_next && (a.not_before == 0) && (a.not_next == 0)

-- The kinds that a lookaround of the set refuses, given the sample code of each kind, in order: those whose sample code it
-- doesn't hold at.
abbrev pub kinds_refused : Bool → (ℕ → Bool) → List ℕ → ℕ
kinds_refused negated set [] = 0
kinds_refused negated set (code ∷ kinds) = (if sees negated set (Some code) then 0 else 1) + 2 * kinds_refused negated set kinds

-- What a lookaround requires that refuses codes of these kinds: no such code where it looks and, unless it is negated, some
-- code. The first flag says whether it looks behind.
unfoldable pub one_look : Bool → Bool → ℕ → Looks
one_look true negated refused = record no_looks { some_before = not negated; not_before = refused }
one_look false negated refused = record no_looks { some_next = not negated; not_next = refused }

-- What both require together.
unfoldable pub looks_joined : Looks → Looks → Looks
looks_joined a b = record {
  some_before = a.some_before || b.some_before;
  some_next = a.some_next || b.some_next;
  not_before = bit_or a.not_before b.not_before;
  not_next = bit_or a.not_next b.not_next;
}

-- Whether every kind of the set `a` is in the set `b`.
abbrev pub within : ℕ → ℕ → Bool
within a b = bit_and a (bit_not w128 b) == 0

-- Whether all that `a` requires is part of `holding`.
unfoldable pub looks_met : Looks → Looks → Bool
looks_met a holding =
    (not a.some_before || holding.some_before) && (not a.some_next || holding.some_next) && within a.not_before holding.not_before && within a.not_next holding.not_next

-- All that the code before a position and the next code meet, given what they show.
unfoldable pub looks_holding : Shown → Shown → Looks
looks_holding before next = record {
  some_before = before.is_code;
  some_next = next.is_code;
  not_before = before.other_kinds;
  not_next = next.other_kinds;
}

-- The empty set of guards.
unfoldable pub no_guards : Guards
no_guards = record {
  start = false;
  line_start = false;
  line_end = false;
  text_end = false;
  word = false;
  ascii_word = false;
  not_word = false;
  not_ascii_word = false;
  looks = no_looks;
}

-- Whether the set is empty.
unfoldable pub has_none : Guards → Bool
has_none a =
    not a.start && not a.line_start && not a.line_end && not a.text_end && not a.word && not a.ascii_word && not a.not_word && not a.not_ascii_word
    && requires_none a.looks

-- The set that holds only this guard.
unfoldable pub only : LetterTable → Guard → Guards
only kinds Start = record no_guards { start = true }
only kinds LineStart = record no_guards { line_start = true }
only kinds LineEnd = record no_guards { line_end = true }
only kinds TextEnd = record no_guards { text_end = true }
only kinds (Word false) = record no_guards { word = true }
only kinds (Word true) = record no_guards { ascii_word = true }
only kinds (NotWord false) = record no_guards { not_word = true }
only kinds (NotWord true) = record no_guards { not_ascii_word = true }
only kinds (Look behind negated ranges) = record no_guards { looks = one_look behind negated (kinds_refused negated (has ranges) kinds.samples) }

-- The union of the two sets of guards.
unfoldable pub joined : Guards → Guards → Guards
joined a b = record {
  start = a.start || b.start;
  line_start = a.line_start || b.line_start;
  line_end = a.line_end || b.line_end;
  text_end = a.text_end || b.text_end;
  word = a.word || b.word;
  ascii_word = a.ascii_word || b.ascii_word;
  not_word = a.not_word || b.not_word;
  not_ascii_word = a.not_ascii_word || b.not_ascii_word;
  looks = looks_joined a.looks b.looks;
}

-- The guards of a list, as a set.
abbrev pub guard_set : LetterTable → List Guard → Guards
guard_set kinds [] = no_guards
guard_set kinds (g ∷ gs) = joined (only kinds g) (guard_set kinds gs)

-- Whether every guard of the set `a` that isn't a lookaround is in the set `holding`, which has the guards that hold at a
-- position.
unfoldable pub flags_met : Guards → Guards → Bool
flags_met a holding =
    (not a.start || holding.start) && (not a.line_start || holding.line_start) && (not a.line_end || holding.line_end) && (not a.text_end || holding.text_end)
    && (not a.word || holding.word) && (not a.ascii_word || holding.ascii_word) && (not a.not_word || holding.not_word) && (not a.not_ascii_word || holding.not_ascii_word)

-- Whether every guard of the set `a` is in the set `holding`, which has the guards that hold at a position.
unfoldable pub met : Guards → Guards → Bool
met a holding = flags_met a holding && looks_met a.looks holding.looks

-- What is shown by the absence of a code: no code, no line feed, no word character, and no kind.
unfoldable pub nothing_shown : Shown
nothing_shown = record { is_code = false; line_feed = false; word = false; ascii_word = false; other_kinds = 2 ^ 128 - 1 }

-- What a code shows.
unfoldable pub code_shown : LetterTable → ℕ → Shown
code_shown kinds code = record {
  is_code = true;
  line_feed = code == 10;
  word = is_word false code;
  ascii_word = is_word true code;
  other_kinds = bit_not w128 (2 ^ letter_at kinds code);
}

-- What a code shows, or what is shown by its absence.
abbrev pub shown : LetterTable → Option ℕ → Shown
shown kinds None = nothing_shown
shown kinds (Some code) = code_shown kinds code

-- The set of the guards that hold at a position, given what is shown before it and after it.
unfoldable pub holding : Shown → Shown → Guards
holding before next = record {
  start = not before.is_code;
  line_start = not before.is_code || before.line_feed;
  line_end = not next.is_code || next.line_feed;
  text_end = not next.is_code;
  word = not (beq before.word next.word);
  ascii_word = not (beq before.ascii_word next.ascii_word);
  not_word = beq before.word next.word;
  not_ascii_word = beq before.ascii_word next.ascii_word;
  looks = looks_holding before next;
}
