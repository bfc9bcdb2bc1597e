-- One more member.
use Rattle.std.proofs.Common.{flat_map, ◌≡◌, ℕ, ◌+◌, ◌<◌, List, length, drop, Option, sym, ap, ◌∙◌}
use Rattle.std.proofs.lemmas.List.{at_drop_more}
use Rattle.std.specs.Prelude.{slice_index_or}
use Rattle.rl_pattern.specs.Tree.{Member}
use Rattle.rl_pattern.specs.Found.{Fault, earlier, first_fault, member_faults}
use Rattle.rl_pattern.proofs.FirstFault.{best_of_more}
use Rattle.rl_pattern.proofs.faults.members_fault.Goals as goal

one_more : (ms : List Member) (i : ℕ) (d : Member) (best next here total : Option Fault) → i < length ms → next ≡ earlier best here → here ≡ first_fault (member_faults (slice_index_or ms i d)) → earlier best (first_fault (flat_map member_faults (drop i ms))) ≡ total → earlier next (first_fault (flat_map member_faults (drop (i + 1) ms))) ≡ total
one_more ms i d best next here total l e f g =
    ap (λ b. earlier b (first_fault (flat_map member_faults (drop (i + 1) ms)))) (e ∙ ap (earlier best) f)
    ∙ best_of_more best (member_faults (slice_index_or ms i d)) (flat_map member_faults (drop (i + 1) ms))
    ∙ ap (earlier best) (sym (at_drop_more (λ xs. first_fault (flat_map member_faults xs)) ms i d l))
    ∙ g

pub loop-member-preserved : goal.loop-member-preserved
loop-member-preserved c =
    one_more c.args.members.now c.loop-member.member-index _ c.loop-member.best c.earlier-best.result c.member_fault.result _ c.loop-member-test.true c.earlier-best.ensures c.member_fault.ensures c.loop-member.invariant
