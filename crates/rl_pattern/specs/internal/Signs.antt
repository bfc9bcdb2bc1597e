-- For private contracts: the characters that belong to the classes of `Codes.antt`: those of a code between items, and those
-- of a code after `(?`.
use Rattle.std.specs.Prelude.{◌≡◌, ℕ, true, nat_le, if◌then◌else◌}
use Rattle.rl_pattern.specs.declared.lex.TokenClass.{TokenClass}
use Rattle.rl_pattern.specs.declared.lex.TokenClass.TheVariants.{Left as left, Right as right, Bar as bar, Brace as brace, Slash as slash, Dot as dot, Bracket as bracket, Times as times, Edge as edge, Blank as blank, Sharp as sharp, Plain as plain}
use Rattle.rl_pattern.specs.declared.lex.GroupPrefix.{GroupPrefix}
use Rattle.rl_pattern.specs.declared.lex.GroupPrefix.TheVariants.{Letter as letter, Colon as colon, Minus as minus, LetterP as letter_p, Sharps as sharps, Less as less, Greater as greater, Condition as condition, Looks as looks, NoHead as no_head}
use Rattle.rl_pattern.specs.Tree.{Escaped, code, too_large}
use Rattle.rl_pattern.specs.Codes.{code_of, on_letter}

-- Holds if the code is the single character that the class represents. For classes of several characters it always holds.
abbrev pub SignIs : TokenClass → ℕ → Type 0
SignIs left c = c ≡ code_of "("
SignIs right c = c ≡ code_of ")"
SignIs bar c = c ≡ code_of "|"
SignIs brace c = c ≡ code_of "{"
SignIs slash c = c ≡ code_of "\\"
SignIs dot c = c ≡ code_of "."
SignIs bracket c = c ≡ code_of "["
SignIs sharp c = c ≡ code_of "#"
SignIs (times n) c = Unit {0}
SignIs (edge m) c = Unit {0}
SignIs blank c = Unit {0}
SignIs plain c = Unit {0}

-- Holds if the code is a character that this class after `(?` represents. For `looks` and `no_head` it always holds.
abbrev pub HeadIs : GroupPrefix → ℕ → Type 0
HeadIs letter c = on_letter c ≡ true
HeadIs colon c = c ≡ code_of ":"
HeadIs minus c = c ≡ code_of "-"
HeadIs letter_p c = c ≡ code_of "P"
HeadIs sharps c = c ≡ code_of "#"
HeadIs less c = c ≡ code_of "<"
HeadIs greater c = c ≡ code_of ">"
HeadIs condition c = c ≡ code_of "("
HeadIs looks c = Unit {0}
HeadIs no_head c = Unit {0}

-- The number as a code, or `too_large` if it is greater than `greatest`.
abbrev pub code_up_to : ℕ → ℕ → Escaped
code_up_to greatest n = if nat_le n greatest then code n else too_large
