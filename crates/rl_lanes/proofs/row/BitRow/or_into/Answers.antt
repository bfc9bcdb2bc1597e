use Rattle.std.proofs.Common.{◌||◌, ap, sym, ◌∙◌, length, bit_or, subst}
use Rattle.rl_lanes.specs.Rows.{list_or}
use Rattle.rl_lanes.specs.Packed.{words_of}
use Rattle.rl_lanes.proofs.PackedLemmas.{AreWords, IsRow-words, JoinsBits-or}
use Rattle.rl_lanes.proofs.CountLemmas.{IsRow-words_of, AreWords-words_of}
use Rattle.rl_lanes.proofs.RowLemmas.{length-list_or}
use Rattle.rl_lanes.proofs.StoredLemmas.{IsRow-stored}
use Rattle.rl_lanes.proofs.row.BitRow.or_into.Goals as goal

pub or_words-requires : goal.or_words-requires
or_words-requires c = ap length c.as_mut_slice.ensures.value ∙ IsRow-words (record { packed = c.self.invariant; shows = c.self.view_is }) (IsRow-words_of c.args.other.now) c.requires ∙ sym (ap length c.words.ensures)

pub invariant_of-self : goal.invariant_of-self
invariant_of-self c =
    (IsRow-stored bit_or (λ x y. x || y) JoinsBits-or c.self.inside.len (length c.args.other.now) c.self.inside.words.items _ _ (words_of c.args.other.now) c.or_words.new.into c.args.self.now c.args.other.now
    (record { packed = c.self.invariant; shows = c.self.view_is }) (IsRow-words_of c.args.other.now) c.requires c.as_mut_slice.ensures.value c.words.ensures (subst AreWords (sym c.words.ensures) (AreWords-words_of c.args.other.now)) c.or_words.ensures).packed

pub returns : goal.returns
unfolding list_or
returns c =
    let row = (IsRow-stored bit_or (λ x y. x || y) JoinsBits-or c.self.inside.len (length c.args.other.now) c.self.inside.words.items _ _ (words_of c.args.other.now) c.or_words.new.into c.args.self.now c.args.other.now
    (record { packed = c.self.invariant; shows = c.self.view_is }) (IsRow-words_of c.args.other.now) c.requires c.as_mut_slice.ensures.value c.words.ensures (subst AreWords (sym c.words.ensures) (AreWords-words_of c.args.other.now)) c.or_words.ensures) in
    record { union = row.shows; len = ap length row.shows ∙ length-list_or c.args.self.now c.args.other.now c.requires }
