-- The tables are looked up with each half of a byte, and decide its class, by computation.
use Rattle.std.proofs.Common.{ℕ, List, [], ◌∷◌, refl}
use Rattle.rl_pylex.specs.internal.Absence.{is_ordinary}
use Rattle.rl_pylex.proofs.ClassTables.{table_from}
use Rattle.rl_pylex.proofs.Lanes.{lows_read, highs_read, halves_tell}
use Rattle.rl_pylex.proofs.blocks.odd_kinds.Goals as goal

pub swizzle-low : goal.swizzle-low
swizzle-low c = lows_read c.args.block c.fits-block

pub swizzle-high : goal.swizzle-high
swizzle-high c = highs_read c.args.block c.fits-block

pub returns : goal.returns
unfolding table_from is_ordinary
returns c =
    let low : List ℕ = 35 ∷ 3 ∷ 7 ∷ 7 ∷ 7 ∷ 3 ∷ 3 ∷ 7 ∷ 3 ∷ 2 ∷ 2 ∷ 3 ∷ 18 ∷ 2 ∷ 3 ∷ 11 ∷ [] in
    let high : List ℕ = 1 ∷ 2 ∷ 4 ∷ 8 ∷ 0 ∷ 16 ∷ 32 ∷ 8 ∷ 0 ∷ 0 ∷ 0 ∷ 0 ∷ 0 ∷ 0 ∷ 0 ∷ 0 ∷ [] in
    halves_tell c.args.block c.fits-block low high is_ordinary refl
