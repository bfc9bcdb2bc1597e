use Rattle.std.proofs.Common.{◌&&◌, not, ap, sym, ◌∙◌, length, subst}
use Rattle.rl_lanes.specs.Rows.{list_and_not}
use Rattle.rl_lanes.specs.Packed.{words_of}
use Rattle.rl_lanes.specs.internal.Words.{and_not}
use Rattle.rl_lanes.proofs.PackedLemmas.{AreWords, IsRow-words, JoinsBits-and_not}
use Rattle.rl_lanes.proofs.CountLemmas.{IsRow-words_of, AreWords-words_of}
use Rattle.rl_lanes.proofs.RowLemmas.{length-list_and_not}
use Rattle.rl_lanes.proofs.StoredLemmas.{IsRow-stored}
use Rattle.rl_lanes.proofs.row.BitRow.subtract.Goals as goal

pub subtract_words-requires : goal.subtract_words-requires
subtract_words-requires c = ap length c.as_mut_slice.ensures.value ∙ IsRow-words (record { packed = c.self.invariant; shows = c.self.view_is }) (IsRow-words_of c.args.other.now) c.requires ∙ sym (ap length c.words.ensures)

pub invariant_of-self : goal.invariant_of-self
invariant_of-self c =
    (IsRow-stored and_not (λ x y. x && not y) JoinsBits-and_not c.self.inside.len (length c.args.other.now) c.self.inside.words.items _ _ (words_of c.args.other.now) c.subtract_words.new.from c.args.self.now c.args.other.now
    (record { packed = c.self.invariant; shows = c.self.view_is }) (IsRow-words_of c.args.other.now) c.requires c.as_mut_slice.ensures.value c.words.ensures (subst AreWords (sym c.words.ensures) (AreWords-words_of c.args.other.now)) c.subtract_words.ensures).packed

pub returns : goal.returns
unfolding list_and_not
returns c =
    let row = (IsRow-stored and_not (λ x y. x && not y) JoinsBits-and_not c.self.inside.len (length c.args.other.now) c.self.inside.words.items _ _ (words_of c.args.other.now) c.subtract_words.new.from c.args.self.now c.args.other.now
    (record { packed = c.self.invariant; shows = c.self.view_is }) (IsRow-words_of c.args.other.now) c.requires c.as_mut_slice.ensures.value c.words.ensures (subst AreWords (sym c.words.ensures) (AreWords-words_of c.args.other.now)) c.subtract_words.ensures) in
    record { difference = row.shows; len = ap length row.shows ∙ length-list_and_not c.args.self.now c.args.other.now c.requires }
