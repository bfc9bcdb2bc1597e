use Rattle.std.proofs.Common.{◌≡◌, ℕ, ◌≤◌, Bool, List, length, map, sym, ap, subst, ◌∙◌, arith}
use Rattle.std.proofs.lemmas.Result.{IfOk-weaker, IfErr-weaker, on_ok_weaker}
use Rattle.rl_ranges.specs.Codes.{has}
use Rattle.rl_ranges.specs.Letters.{LetterTable, IsLetters}
use Rattle.rl_ranges.specs.Text.{code_count}
use Rattle.rl_ranges.specs.declared.letters.TheConstants.{MOST_LETTERS}
use Rattle.rl_prio.proofs.prio.Prio.build_over.Goals as goal

are-letters : (shared table : LetterTable) (sets : List (ℕ → Bool)) (n : ℕ) → shared ≡ table → IsLetters table sets n → IsLetters shared sets n
are-letters shared table sets n same are = subst (λ (l : LetterTable). IsLetters l sets n) (sym same) are

few-letters : (shared table : LetterTable) → shared ≡ table → length table.samples ≤ MOST_LETTERS → length shared.samples ≤ MOST_LETTERS
few-letters shared table same few = omega (arith, ap (λ (l : LetterTable). length l.samples) same, few)

pub over_letters-requires-clause-few : goal.over_letters-requires-clause-few
over_letters-requires-clause-few c = few-letters c.in_ok-letters.letters.value c.in_ok-table.table c.in_ok-letters.ensures c.in_ok-table.ensures.few

pub over_letters-requires-clause-finer : goal.over_letters-requires-clause-finer
over_letters-requires-clause-finer c = (map has c.args.sets.now.items, are-letters c.in_ok-letters.letters.value c.in_ok-table.table (map has c.args.sets.now.items) (code_count c.args.universe) c.in_ok-letters.ensures c.in_ok-table.ensures.ok, c.requires.finer)

pub returns-clause-ok : goal.returns-clause-ok
returns-clause-ok c =
    IfOk-weaker c.over_letters.result _ _ (λ a h. h (map has c.args.sets.now.items) (are-letters c.in_ok-letters.letters.value c.in_ok-table.table (map has c.args.sets.now.items) (code_count c.args.universe) c.in_ok-letters.ensures c.in_ok-table.ensures.ok) c.requires.finer) c.over_letters.ensures.ok

pub returns-clause-codes : goal.returns-clause-codes
returns-clause-codes c =
    IfOk-weaker c.over_letters.result _ _ (λ a h. ap (λ (l : LetterTable). l.codes) h ∙ (are-letters c.in_ok-letters.letters.value c.in_ok-table.table (map has c.args.sets.now.items) (code_count c.args.universe) c.in_ok-letters.ensures c.in_ok-table.ensures.ok).same_codes) c.over_letters.ensures.table

pub returns-clause-within : goal.returns-clause-within
returns-clause-within c =
    on_ok_weaker c.over_letters.result (λ h. (omega (arith, few-letters c.in_ok-letters.letters.value c.in_ok-table.table c.in_ok-letters.ensures c.in_ok-table.ensures.few, (are-letters c.in_ok-letters.letters.value c.in_ok-table.table (map has c.args.sets.now.items) (code_count c.args.universe) c.in_ok-letters.ensures c.in_ok-table.ensures.ok).same_count), h)) c.over_letters.ensures.short

pub returns-clause-moves : goal.returns-clause-moves
returns-clause-moves c =
    IfErr-weaker c.over_letters.result _ _ (λ e h is. (omega (arith, few-letters c.in_ok-letters.letters.value c.in_ok-table.table c.in_ok-letters.ensures c.in_ok-table.ensures.few, (are-letters c.in_ok-letters.letters.value c.in_ok-table.table (map has c.args.sets.now.items) (code_count c.args.universe) c.in_ok-letters.ensures c.in_ok-table.ensures.ok).same_count), h is)) c.over_letters.ensures.moves

pub returns-clause-letters : goal.returns-clause-letters
returns-clause-letters c =
    IfErr-weaker c.over_letters.result _ _ (λ e h is. absurd (h is)) c.over_letters.ensures.letters
