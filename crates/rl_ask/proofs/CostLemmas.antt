-- What is answered of a cost.
use Rattle.std.proofs.Common.{◌≡◌, ℕ, ◌≤◌, List, length, Result, Ok, Err, IfOk, sym, subst, arith}
use Rattle.rl_ranges.specs.Text.{code_count}
use Rattle.rl_ranges.specs.declared.letters.TheConstants.{MOST_LETTERS}
use Rattle.rl_ranges.specs.declared.universe.Universe.{Universe}
use Rattle.rl_syntax.specs.Tree.{Tree, size}
use Rattle.rl_syntax.specs.declared.limits.TheConstants.{MOST_MOVES, MOST_NODES}
use Rattle.rl_syntax.specs.declared.re.Ending.{Ending}
use Rattle.rl_syntax.specs.declared.re.Mode.{Mode}
use Rattle.rl_prio.specs.Automaton.{Automaton}
use Rattle.rl_prio.specs.Items.{longest}
use Rattle.rl_prio.specs.Letters.{letters}
use Rattle.rl_prio.specs.StandsFor.{StandsFor}
use Rattle.rl_machine.specs.Counts.{ShowsCost}
use Rattle.rl_machine.specs.declared.steps.Counted.{Counted}
use Rattle.rl_asked.specs.Words.{Text}
use Rattle.rl_asked.specs.declared.question.Terms.{Terms}
use Rattle.rl_ask.specs.Costs.{IsCost, IsCostOf, IsTreeCost, counted}
use Rattle.rl_ask.specs.Grammars.{grammar_in}
use Rattle.rl_ask.specs.Patterns.{ReadThen}
use Rattle.rl_ask.specs.Suggestions.{ExceedsFirst}
use Rattle.rl_ask.specs.declared.answer.Answer.{Answer}
use Rattle.rl_ask.specs.declared.answer.Answer.TheVariants as answer
use Rattle.rl_ask.specs.declared.answer.Limit.{Limit}
use Rattle.rl_ask.specs.declared.answer.Limit.TheVariants as limit
use Rattle.rl_ask.specs.declared.limits.TheConstants.{MOST_TEXT_CODES}

within : (u : Universe) (t : Tree) → size t ≤ MOST_NODES → length (letters t (code_count u)) ≤ MOST_LETTERS → longest t ≤ MOST_MOVES
    → (l : Limit) → ExceedsFirst u t l → ⊥
within u t nodes few short limit.Size h = omega (arith, h, nodes)
within u t nodes few short limit.Letters h = omega (arith, h.1, few)
within u t nodes few short limit.Moves h = omega (arith, h.2, short)
within u t nodes few short limit.Groups h = h

pub cost-so : {E : Type 0} (r : Result Answer E) (u : Universe) (t : Tree) (at : Ending) (w : List ℕ) (a : Automaton) → StandsFor a t at → size t ≤ MOST_NODES
    → (length (letters t (code_count u)) ≤ MOST_LETTERS) × (longest t ≤ MOST_MOVES)
    → IfOk r (λ x. (c : Counted) × (x ≡ answer.Cost c) × ((s : Tree) (e : Ending) → StandsFor a s e → ShowsCost c s e w)) → IfOk r (IsTreeCost u t at w)
cost-so (Ok x) u t at w a stands nodes small h = subst (IsTreeCost u t at w) (sym h.1) (within u t nodes small.0 small.1, h.2 t at stands)
cost-so (Err e) u t at w a stands nodes small h = tt

pub counted-so : {E : Type 0} (r : Result Answer E) (terms : Terms) (pattern : Text) (mode : Mode) (w v : List ℕ) → w ≡ v → length w ≤ MOST_TEXT_CODES
    → IfOk r (ReadThen (grammar_in mode) terms pattern (IsCost mode w)) → IfOk r (IsCostOf terms pattern mode v)
counted-so r terms pattern mode w v same few h = subst (λ x. IfOk r (IsCostOf terms pattern mode x)) same (by r h)
  where
    by : {E : Type 0} (s : Result Answer E) → IfOk s (ReadThen (grammar_in mode) terms pattern (IsCost mode w)) → IfOk s (IsCostOf terms pattern mode w)
    by (Ok found) h = counted few h
    by (Err e) h = tt
