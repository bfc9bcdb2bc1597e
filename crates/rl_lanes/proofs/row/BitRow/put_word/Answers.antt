use Rattle.std.proofs.Common.{◌≡◌, ℕ, ◌<◌, false, eqb, get_or, length, ap, sym, ◌∙◌, subst, arith}
use Rattle.std.specs.Int.{bit_at}
use Rattle.rl_lanes.specs.Packed.{truths, IsPacked}
use Rattle.rl_lanes.proofs.PackedLemmas.{IsRow, IsRow-length, IsPacked-word, truths-word, length-truths}
use Rattle.rl_lanes.proofs.StoredLemmas.{set_is}
use Rattle.rl_lanes.proofs.row.BitRow.put_word.Goals as goal

pub bounds-as_mut_slice-0 : goal.bounds-as_mut_slice-0
bounds-as_mut_slice-0 c =
    let row : IsRow c.self.inside.len c.self.inside.words.items c.args.self.now = record { packed = c.self.invariant; shows = c.self.view_is } in
    omega (arith, IsRow-length row, c.requires.some, c.self.invariant.enough, ap length c.as_mut_slice.ensures.value)

pub invariant_of-self : goal.invariant_of-self
invariant_of-self c =
    let same = set_is c.self.inside.words.items c.as_mut_slice.result.now 0 c.args.word c.as_mut_slice.ensures.value in
    subst (IsPacked c.self.inside.len) (sym same) (IsPacked-word c.args.word (record { packed = c.self.invariant; shows = c.self.view_is }) c.requires.some c.requires.few c.requires.clear)

pub returns-clause-values : goal.returns-clause-values
returns-clause-values c =
    let same = set_is c.self.inside.words.items c.as_mut_slice.result.now 0 c.args.word c.as_mut_slice.ensures.value in
    subst (λ ws. (i : ℕ) → i < 64 → get_or (truths c.self.inside.len ws) i false ≡ eqb (bit_at c.args.word i) 1) (sym same)
    (truths-word c.args.word (record { packed = c.self.invariant; shows = c.self.view_is }) c.requires.some c.requires.few c.requires.clear)

pub returns-clause-len : goal.returns-clause-len
returns-clause-len c =
    let row : IsRow c.self.inside.len c.self.inside.words.items c.args.self.now = record { packed = c.self.invariant; shows = c.self.view_is } in
    length-truths c.self.inside.len _ ∙ sym (IsRow-length row)
