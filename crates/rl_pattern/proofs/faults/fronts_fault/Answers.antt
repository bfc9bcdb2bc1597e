-- One more flag group.
use Rattle.std.proofs.Common.{◌≡◌, ℕ, ◌+◌, ◌<◌, Bool, List, length, drop, Option, sym, ap, ◌∙◌}
use Rattle.std.proofs.lemmas.List.{at_drop_more}
use Rattle.std.specs.Prelude.{slice_index_or}
use Rattle.rl_pattern.specs.declared.flags.Flags.{Flags}
use Rattle.rl_pattern.specs.Tree.{Front}
use Rattle.rl_pattern.specs.Codes.{joined}
use Rattle.rl_pattern.specs.Found.{Fault, earlier, first_fault, front_own, front_faults}
use Rattle.rl_pattern.proofs.FirstFault.{best_of_more}
use Rattle.rl_pattern.proofs.faults.fronts_fault.Goals as goal

one_more : (text : Bool) (gs : List Front) (i : ℕ) (d : Front) (f g : Flags) (best next here total : Option Fault) → i < length gs → g ≡ joined f (slice_index_or gs i d).letters → next ≡ earlier best here → here ≡ first_fault (front_own text f (slice_index_or gs i d)) → earlier best (first_fault (front_faults text f (drop i gs))) ≡ total → earlier next (first_fault (front_faults text g (drop (i + 1) gs))) ≡ total
one_more text gs i d f g best next here total l j e h z =
    ap (λ u. earlier next (first_fault (front_faults text u (drop (i + 1) gs)))) j
    ∙ ap (λ b. earlier b (first_fault (front_faults text (joined f (slice_index_or gs i d).letters) (drop (i + 1) gs)))) (e ∙ ap (earlier best) h)
    ∙ best_of_more best (front_own text f (slice_index_or gs i d)) (front_faults text (joined f (slice_index_or gs i d).letters) (drop (i + 1) gs))
    ∙ ap (earlier best) (sym (at_drop_more (λ xs. first_fault (front_faults text f xs)) gs i d l))
    ∙ z

pub loop-front-preserved : goal.loop-front-preserved
loop-front-preserved c =
    one_more c.args.text c.args.fronts.now c.loop-front.front-index _ c.loop-front.flags c.joined-flags.result c.loop-front.best c.earlier-best.result c.front_fault.result _ c.loop-front-test.true c.joined-flags.ensures c.earlier-best.ensures c.front_fault.ensures c.loop-front.invariant
