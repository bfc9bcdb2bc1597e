-- Beyond: what is told of a pattern that the profile refuses and the grammar of its question reads (`Grammars.antt`).
use Rattle.std.specs.Prelude.{◌≡◌, Bool, true, false, ◌||◌}
use Rattle.rl_syntax.specs.PatTree.{PatTree, PatTrees, BranchTrees, nothing, class, seq, choice, repeat, group, anchor, boundary, look, outside, no_items, item, no_branches, branch}
use Rattle.rl_syntax.specs.Pattern.{body_of}
use Rattle.rl_syntax.specs.declared.pattern.Pattern.{Pattern}
use Rattle.rl_asked.specs.Questions.{Asked, class as class_asked, ways, tree, compare, spans, found, suggest, cost, family_cost, version}
use Rattle.rl_asked.specs.Words.{Text}
use Rattle.rl_asked.specs.declared.question.Terms.{Terms}
use Rattle.rl_ask.specs.Grammars.{grammar_in, grammar_of_finds}
use Rattle.rl_ask.specs.Patterns.{IsReadAs, IsRefusedFor}
use Rattle.rl_ask.specs.declared.answer.Answer.{Answer}
use Rattle.rl_ask.specs.declared.answer.Answer.TheVariants as answer
use Rattle.rl_ask.specs.declared.answer.Fault.{Fault}
use Rattle.rl_ask.specs.declared.beyond.Beyond.{Beyond}
use Rattle.rl_ask.specs.declared.grammar.Grammar.{Grammar}
use Rattle.rl_ask.specs.declared.grammar.Grammar.TheVariants.{Profile}

-- Whether a part of a pattern is a lookaround or contains one.
abbrev mutual
  pub holds_look : PatTree → Bool
  holds_look (nothing s) = false
  holds_look (class s set) = false
  holds_look (seq s ps) = some_look ps
  holds_look (choice s bs) = branch_look bs
  holds_look (repeat s q least most greedy p) = holds_look p
  holds_look (group s captures p) = holds_look p
  holds_look (anchor s kind multiline) = false
  holds_look (boundary s negated ascii) = false
  holds_look (look s behind negated ranges) = true
  holds_look (outside s what) = false

  -- Whether some item is a lookaround or contains one.
  pub some_look : PatTrees → Bool
  some_look no_items = false
  some_look (item p ps) = holds_look p || some_look ps

  -- Whether the body of some branch is a lookaround or contains one.
  pub branch_look : BranchTrees → Bool
  branch_look no_branches = false
  branch_look (branch s p bs) = holds_look p || branch_look bs

-- The text is refused by the grammar.
abbrev pub IsRefusedBy : Grammar → Terms → Text → Type 0
IsRefusedBy grammar terms word = (f : Fault) × IsRefusedFor grammar terms word f

-- Nothing is told.
abbrev pub nothing_beyond : Beyond
nothing_beyond = record { lookaround = false; inner_anchor = false }

-- What at least one of two patterns has.
abbrev pub with_both : Beyond → Beyond → Beyond
with_both a b = record { lookaround = a.lookaround || b.lookaround; inner_anchor = a.inner_anchor || b.inner_anchor }

-- What is told of a text that is read as `p`: whether a part of it is a lookaround, and whether it has a `$` inside, so that
-- the grammar of finds refuses it.
pub record IsOf (terms : Terms) (word : Text) (p : Pattern) (told : Beyond) : Type 0 where
  pub lookaround : told.lookaround ≡ holds_look (body_of p)
  pub anchor : told.inner_anchor ≡ true → IsRefusedBy grammar_of_finds terms word
  pub no_anchor : told.inner_anchor ≡ false → (q : Pattern) × IsReadAs grammar_of_finds terms word q

-- What is told of a text: nothing if the profile reads it or the grammar refuses it.
pub data IsBeyond (grammar : Grammar) (terms : Terms) (word : Text) : Beyond → Type 0 where
  within : {p : Pattern} → IsReadAs Profile terms word p → IsBeyond grammar terms word nothing_beyond
  refused : IsRefusedBy grammar terms word → IsBeyond grammar terms word nothing_beyond
  beyond : {p : Pattern} {told : Beyond} → IsRefusedBy Profile terms word → IsReadAs grammar terms word p → IsOf terms word p told
      → IsBeyond grammar terms word told

-- What is told of two texts.
pub record AreBeyond (grammar : Grammar) (terms : Terms) (first second : Text) (told : Beyond) : Type 0 where
  pub of_first : Beyond
  pub of_second : Beyond
  pub first_is : IsBeyond grammar terms first of_first
  pub second_is : IsBeyond grammar terms second of_second
  pub is : told ≡ with_both of_first of_second

-- What is told of the patterns of a question. Nothing is of a question for parts or for a suggestion.
abbrev pub IsBeyondIn : Asked → Beyond → Type 0
IsBeyondIn (class_asked pattern terms mode pairs) told = IsBeyond (grammar_in mode) terms pattern told
IsBeyondIn (ways pattern terms mode pairs) told = IsBeyond (grammar_in mode) terms pattern told
IsBeyondIn (tree pattern terms) told = told ≡ nothing_beyond
IsBeyondIn (compare first second terms mode limit) told = AreBeyond (grammar_in mode) terms first second told
IsBeyondIn (spans first second terms how limit groups) told = AreBeyond grammar_of_finds terms first second told
IsBeyondIn (found pattern terms mode text from advance) told = IsBeyond grammar_of_finds terms pattern told
IsBeyondIn (suggest pattern terms pairs) told = told ≡ nothing_beyond
IsBeyondIn (cost pattern terms mode text) told = IsBeyond (grammar_in mode) terms pattern told
IsBeyondIn (family_cost pattern terms mode heads pumps k) told = IsBeyond (grammar_in mode) terms pattern told
IsBeyondIn version told = told ≡ nothing_beyond

-- What is told beside an answer to a question. Nothing is beside a refusal or an error.
abbrev pub IsTold : Asked → Answer → Beyond → Type 0
IsTold q (answer.Refused which f) told = told ≡ nothing_beyond
IsTold q answer.TextTooLong told = told ≡ nothing_beyond
IsTold q _ told = IsBeyondIn q told
