use Rattle.std.proofs.Common.{◌∙◌, [], ◌∷◌, ◌++◌, sym}
use Rattle.std.proofs.lemmas.List.{map-append}
use Rattle.rl_judge.specs.RightEntries.{mark_of}
use Rattle.rl_judge.proofs.places.mark_list.Goals as goal

pub loop-part-init : goal.loop-part-init
loop-part-init c = record { marks = c.new-marks.ensures; at = c.requires.at }

pub loop-part-preserved : goal.loop-part-preserved
loop-part-preserved c =
    let place = c.place_at-at.ensures.place in
    record {
      marks =
          c.in_ok-push.ensures.pushed ∙ (λ j. c.loop-part.invariant.marks j ++ (record { at = place j; text = c.in-Some.part.text }) ∷ [])
          ∙ sym (map-append (mark_of c.args.source.now) c.loop-part.yielded (c.in-Some.part ∷ []));
      at = c.place_at-at.ensures.at;
    }
