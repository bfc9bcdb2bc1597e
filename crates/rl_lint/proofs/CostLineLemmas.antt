-- The line of `cost` if no limit is exceeded.
use Rattle.std.proofs.Common.{◌≡◌, ℕ, ◌≤◌, Bool, false, List, cond, length, nat_lt, ap, ◌∙◌, sym, arith}
use Rattle.std.proofs.lemmas.Grind.{common_steps}
use Rattle.rl_ranges.specs.Text.{code_count}
use Rattle.rl_ranges.specs.declared.universe.Universe.TheVariants.{Str}
use Rattle.rl_syntax.specs.Cost.{cost, matched}
use Rattle.rl_syntax.specs.Tree.{Tree, size}
use Rattle.rl_syntax.specs.declared.re.Ending.{Ending as MatchEnd}
use Rattle.rl_syntax.specs.declared.verdict.Limit.TheVariants as limit
use Rattle.rl_prio.specs.Items.{longest}
use Rattle.rl_prio.specs.Letters.{letters}
use Rattle.rl_report.specs.Names.{limit_number}
use Rattle.rl_report.specs.Names.{Text}
use Rattle.rl_lint.specs.CostEnding.{cost_line}
use Rattle.rl_lint.specs.Messages.{steps_line}

nat_lt-not : (m n : ℕ) → n ≤ m → nat_lt m n ≡ false
nat_lt-not m n h = grind (arith, common_steps)

third : (a b c : Bool) (w x y z : Text) → a ≡ false → b ≡ false → c ≡ false → z ≡ cond a w (cond b x (cond c y z))
third a b c w x y z e f g = sym (ap (λ d. cond d w (cond b x (cond c y z))) e ∙ ap (λ d. cond d x (cond c y z)) f ∙ ap (λ d. cond d y z) g)

pub cost_line-within : (t : Tree) (at : MatchEnd) (text : List ℕ) → size t ≤ limit_number 0 limit.Size → length (letters t (code_count Str)) ≤ limit_number 0 limit.Letters → longest t ≤ limit_number 0 limit.Moves
    → steps_line (cost t at text) (matched t at text) ≡ cost_line t at text
cost_line-within t at text small few short =
    third _ _ _ _ _ _ _ (nat_lt-not _ (size t) small) (nat_lt-not _ (length (letters t (code_count Str))) few) (nat_lt-not _ (longest t) short)
