-- For private contracts: what the reader has returned for the codes up to a position. The machine is the reader as the logic
-- describes it: it takes one code at a time, and has a next state unless no pattern can continue with the code. In all
-- definitions, `call` has the flags of the call, `text` says whether the codes `w` are a `str`, and positions count from 0.
use Rattle.std.specs.Prelude.{◌≡◌, ℕ, suc, ◌<◌, Bool, true, false, not, ◌&&◌, ◌||◌, ◌==◌, List, length, Option, Some, None, Result, Ok, Err, slice_get, take}
use Rattle.rl_pattern.specs.declared.flags.Flags.{Flags}
use Rattle.rl_pattern.specs.declared.limits.TheConstants.{MOST_OPEN_GROUPS}
use Rattle.rl_pattern.specs.declared.tree.Whole.{Whole}
use Rattle.rl_pattern.specs.declared.read.ReadError.{ReadError}
use Rattle.rl_pattern.specs.declared.read.ReadError.TheVariants.{Syntax, TooDeep, OutOfMemory}
use Rattle.rl_pattern.specs.Tree as t
use Rattle.rl_pattern.specs.Codes.{code_of}
use Rattle.rl_pattern.specs.Grammar.{Spells}
use Rattle.rl_pattern.specs.Viable.{Begins, Viable, TooDeepAt}
use Rattle.rl_pattern.specs.internal.Views.{whole_of}
use Rattle.rl_pattern.specs.internal.Machine.{State, Lex, between, line, comment, in_braces, counted, at_slash, in_escape, in_head, set_open, in_class, behind_paren, run, start}
use Rattle.rl_pattern.specs.Answers.{Shallow}

-- Holds if the reader's result is right. It is the syntax tree that the codes spell; or the first position at which a group
-- opens while MOST_OPEN_GROUPS groups are open; or, if the codes spell no tree, the length of the longest prefix that can be
-- continued to a pattern. Running out of memory is always allowed.
abbrev pub Answered : Flags → Bool → List ℕ → Result Whole ReadError → Type 0
Answered call text w (Ok p) = Spells call text w (whole_of p) × Shallow call text w
Answered call text w (Err (Syntax n)) = Viable call text w n × ((p : t.Whole) → ¬ Spells call text w p) × Shallow call text w
Answered call text w (Err (TooDeep p)) = TooDeepAt call text w p × Begins call text (take (suc p) w) × ((q : ℕ) → q < p → ¬ TooDeepAt call text w q)
Answered call text w (Err OutOfMemory) = Unit {0}

-- Whether there is a code (not `None`) and it is `c`.
abbrev pub is_code : Option ℕ → ℕ → Bool
is_code None c = false
is_code (Some d) c = d == c

-- Whether the parenthesis at position `p` opens no group because `?#` or `?P=` follows it.
abbrev pub opens_none : List ℕ → ℕ → Bool
opens_none w p = is_code (slice_get w (suc p)) (code_of "?") && (is_code (slice_get w (suc (suc p))) (code_of "#") || (is_code (slice_get w (suc (suc p))) (code_of "P") && is_code (slice_get w (suc (suc (suc p)))) (code_of "=")))

-- Whether the machine has just read the parenthesis of a group's head, and nothing of the head after it.
abbrev pub at_paren : Lex → Bool
at_paren (in_head a h) = behind_paren h
at_paren between = false
at_paren line = false
at_paren comment = false
at_paren (in_braces a t) = false
at_paren (counted a p q n) = false
at_paren (at_slash a) = false
at_paren (in_escape a x) = false
at_paren (set_open a) = false
at_paren (in_class a v s) = false

-- Whether a group opens at position `p` while MOST_OPEN_GROUPS groups are open, given the machine's state after the
-- parenthesis.
abbrev pub is_too_deep : State → List ℕ → ℕ → Bool
is_too_deep s w p = at_paren s.lex && ((length s.base.below == MOST_OPEN_GROUPS) && not (opens_none w p))

-- Holds if the machine has read the first `i` codes and is in state `s`, and no group opens at a position before `i` while
-- MOST_OPEN_GROUPS groups are open.
pub record HasRead (call : Flags) (text : Bool) (w : List ℕ) (i : ℕ) (s : State) : Type 0 where
  pub runs : run text 0 (Some (start call)) (take i w) ≡ Some s
  pub shallow : (q : ℕ) → q < i → ¬ TooDeepAt call text w q

-- Holds if the program's answer to the code at position `i` agrees with the machine's next state `o`. The answer is `Ok` or
-- `TooDeep` if there is a next state: `TooDeep` if a group opens at `i` while MOST_OPEN_GROUPS groups are open, otherwise
-- `Ok`. It is `Syntax` if there is none. An error has the position `i`. `r` is the program's state afterwards. Running out of
-- memory is always allowed.
abbrev pub Went : List ℕ → ℕ → Option State → State → Result (Unit {0}) ReadError → Type 0
Went w i o r (Ok x) = (o ≡ Some r) × (is_too_deep r w i ≡ false)
Went w i o r (Err (Syntax n)) = (o ≡ None) × (n ≡ i)
Went w i o r (Err (TooDeep n)) = (o ≡ Some r) × (is_too_deep r w i ≡ true) × (n ≡ i)
Went w i o r (Err OutOfMemory) = Unit {0}

-- Holds if the program's answer at the end of the codes, of which there are `k`, agrees with the machine's answer `o`: it is
-- the whole pattern, or `Syntax` at `k` if there is none. Running out of memory is always allowed, and `TooDeep` never.
abbrev pub Ended : ℕ → Option t.Whole → Result Whole ReadError → Type 0
Ended k o (Ok p) = o ≡ Some (whole_of p)
Ended k o (Err (Syntax n)) = (o ≡ None) × (n ≡ k)
Ended k o (Err (TooDeep n)) = ⊥
Ended k o (Err OutOfMemory) = Unit {0}
