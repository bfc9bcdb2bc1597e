use Rattle.std.proofs.Common.{◌||◌, ap, sym, ◌∙◌, length, refl, bit_or}
use Rattle.rl_lanes.specs.Rows.{list_or}
use Rattle.rl_lanes.specs.Packed.{truths}
use Rattle.rl_lanes.proofs.PackedLemmas.{IsRow, IsRow-words, JoinsBits-or, length-truths}
use Rattle.rl_lanes.proofs.StoredLemmas.{IsRow-stored}
use Rattle.rl_lanes.proofs.row.BitRow.add_words.Goals as goal

pub or_words-requires : goal.or_words-requires
or_words-requires c =
    let len = length c.args.self.now in
    let other : IsRow len c.args.added.now (truths len c.args.added.now) = record { packed = c.requires; shows = refl } in
    ap length c.as_mut_slice.ensures.value ∙ IsRow-words (record { packed = c.self.invariant; shows = c.self.view_is }) other (sym (length-truths len c.args.added.now))

pub invariant_of-self : goal.invariant_of-self
invariant_of-self c =
    let len = length c.args.self.now in
    let other : IsRow len c.args.added.now (truths len c.args.added.now) = record { packed = c.requires; shows = refl } in
    (IsRow-stored bit_or (λ x y. x || y) JoinsBits-or c.self.inside.len len c.self.inside.words.items _ _ c.args.added.now c.or_words.new.into c.args.self.now _
    (record { packed = c.self.invariant; shows = c.self.view_is }) other (sym (length-truths len c.args.added.now)) c.as_mut_slice.ensures.value refl (λ k. (c.type_inv.added k).fits) c.or_words.ensures).packed

pub returns : goal.returns
unfolding list_or
returns c =
    let len = length c.args.self.now in
    let other : IsRow len c.args.added.now (truths len c.args.added.now) = record { packed = c.requires; shows = refl } in
    (IsRow-stored bit_or (λ x y. x || y) JoinsBits-or c.self.inside.len len c.self.inside.words.items _ _ c.args.added.now c.or_words.new.into c.args.self.now _
    (record { packed = c.self.invariant; shows = c.self.view_is }) other (sym (length-truths len c.args.added.now)) c.as_mut_slice.ensures.value refl (λ k. (c.type_inv.added k).fits) c.or_words.ensures).shows
