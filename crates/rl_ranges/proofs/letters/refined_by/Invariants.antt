use Rattle.std.proofs.Common.{length, take, ◌≡◌, ◌≤◌}
use Rattle.std.specs.Prelude.{All}
use Rattle.rl_ranges.specs.Numbering.{IsTable}
use Rattle.rl_ranges.specs.internal.Splitting.{RefinesLetters}
use Rattle.rl_ranges.specs.internal.Order.{is_taken, picked}
use Rattle.rl_ranges.specs.Text.{code_count}
use Rattle.rl_ranges.proofs.letters.refined_by.Given as goal

abbrev pub invariant-loop-place : goal.invariant-loop-place
invariant-loop-place l = record {
  table : IsTable (code_count l.universe) l.known.stretches.items l.known.least.items;
  told : RefinesLetters l.fn.first.stretches.items l.fn.first.least.items l.known.stretches.items l.known.least.items (picked (is_taken l.pass) (take l.place l.sets.items)) (code_count l.universe);
  slots : length l.taken ≡ 128;
  taken : All (λ count. count ≤ l.place) l.taken;
}
