-- Prefixes that can be continued to a pattern, and groups that are nested too deep. A code is a character of the pattern as a
-- number. Codes spell a syntax tree by the grammar. Positions count codes from 0. A group is open from its parenthesis to its
-- `)`.
use Rattle.std.specs.Prelude.{◌≡◌, ℕ, suc, ◌<◌, ◌≤◌, Bool, true, List, ◌++◌, length, take, if◌then◌else◌}
use Rattle.rl_ranges.specs.Text.{IsText}
use Rattle.rl_ranges.specs.declared.universe.Universe.TheVariants.{Str, Bytes}
use Rattle.rl_pattern.specs.declared.flags.Flags.{Flags}
use Rattle.rl_pattern.specs.declared.limits.TheConstants.{MOST_OPEN_GROUPS}
use Rattle.rl_pattern.specs.Tree.{Kind, SyntaxNode, Branch, Front, Whole}
use Rattle.rl_pattern.specs.Codes.{inside, splits}
use Rattle.rl_pattern.specs.Grammar.{SpelledAt, Opening, Items, IsBranches, Fronts, outermost, Spells}

-- Holds if the codes `u` can be continued to a pattern: with some further codes of the universe, or none, they spell a syntax
-- tree. `text` says whether it is the universe of `str`. `call` has the flags of the call.
pub record Begins (call : Flags) (text : Bool) (u : List ℕ) : Type 0 where
  pub rest : List ℕ
  pub codes : IsText (if text then Str else Bytes) rest
  pub whole : Whole
  pub spelled : Spells call text (u ++ rest) whole

-- Holds if `n` is the length of the longest prefix of the codes `w` that can be continued to a pattern.
pub record Viable (call : Flags) (text : Bool) (w : List ℕ) (n : ℕ) : Type 0 where
  pub within : n ≤ length w
  pub begins : Begins call text (take n w)
  pub longest : (m : ℕ) → n < m → m ≤ length w → ¬ Begins call text (take m w)

-- In a pattern of the codes `w`, of `str` if `text` is `true` and of `bytes` otherwise.
module _ (text : Bool) (w : List ℕ) where
  -- `Part kd fl i j` holds if from position `i` up to `j` there are the branches of a body, of which the last one is still
  -- open at `j`. `kd` is the kind of the body's group, and `fl` has the flags in it.
  pub data Part (kd : Kind) (fl : Flags) : ℕ → ℕ → Type 0 where
    part_first : {i j : ℕ} {ps : List SyntaxNode} → Items text w fl i j ps → Part kd fl i j
    part_next : {i j k : ℕ} {bs : List Branch} {ps : List SyntaxNode} → IsBranches text w kd fl i j bs → SpelledAt text w j "|" → splits kd bs ≡ true → Items text w fl (suc j) k ps → Part kd fl i k

  -- `Open call kd fl k d` holds if `d` groups are open at position `k`, between items. The innermost open one is of the kind
  -- `kd`, with the flags `fl` inside. If `d` is 0, that is the outermost body.
  pub data Open (call : Flags) : Kind → Flags → ℕ → ℕ → Type 0 where
    none_open : {i k : ℕ} {fl : Flags} {gs : List Front} → Fronts text w call i fl gs → Part outermost fl i k → Open call outermost fl k 0
    one_open : {j k l d : ℕ} {kd outer : Kind} {fl : Flags} → Open call outer fl k d → Opening text w k j kd → Part kd (inside kd fl) j l → Open call kd (inside kd fl) l (suc d)

-- Holds if the code at position `p` is a `(` that doesn't begin `(?#` or `(?P=`, and MOST_OPEN_GROUPS groups are open before
-- it, according to the codes up to and including it.
pub record TooDeepAt (call : Flags) (text : Bool) (w : List ℕ) (p : ℕ) : Type 0 where
  pub opens : SpelledAt text w p "("
  pub no_comment : ¬ SpelledAt text w p "(?#"
  pub no_reference : ¬ SpelledAt text w p "(?P="
  pub deep : (kd : Kind) × (fl : Flags) × Open text (take (suc p) w) call kd fl p MOST_OPEN_GROUPS
