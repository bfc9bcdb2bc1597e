-- The faults of a node itself come before those of its body.
use Rattle.std.proofs.Common.{◌≡◌, ℕ, ◌+◌, ◌<◌, ◌==◌, Bool, false, List, [], ◌++◌, length, drop, map, Option, sym, ap, ◌∙◌, arith}
use Rattle.rl_pattern.specs.Tree as t
use Rattle.rl_pattern.specs.internal.Views.{node_of, branch_of}
use Rattle.rl_pattern.specs.Found.{Fault, earlier, first_fault, node_faults_in, nodes_faults_in, branches_faults_in, is_end, count_faults, kind_faults, reads_look}
use Rattle.rl_pattern.specs.Profile.{Profile, before_end, for_item}
use Rattle.rl_pattern.proofs.Looks.{ends_at}
use Rattle.rl_pattern.proofs.FirstFault.{own_first, best_of_more}
use Rattle.rl_pattern.proofs.Layers.{node_of-repeat, node_of-group, branch_of-fields}
use Rattle.rl_pattern.specs.declared.tree.SyntaxNode.{SyntaxNode}
use Rattle.rl_pattern.specs.declared.tree.Branch.{Branch}
use Rattle.std.proofs.lemmas.List.{at_drop_more}
use Rattle.std.specs.Prelude.{slice_index_or, if◌then◌else◌}
use Rattle.rl_pattern.proofs.faults.+node_fault.Goals as goal

branches_more : (r : Profile) (text : Bool) (bs : List Branch) (i : ℕ) (d : Branch) (best next here total : Option Fault) → i < length bs → next ≡ earlier best here → here ≡ first_fault (node_faults_in r text (branch_of (slice_index_or bs i d)).body) → earlier best (first_fault (branches_faults_in r text (t.branches (map branch_of (drop i bs))))) ≡ total → earlier next (first_fault (branches_faults_in r text (t.branches (map branch_of (drop (i + 1) bs))))) ≡ total
branches_more r text bs i d best next here total l e f g =
    ap (λ b. earlier b (first_fault (branches_faults_in r text (t.branches (map branch_of (drop (i + 1) bs)))))) (e ∙ ap (earlier best) f)
    ∙ best_of_more best (node_faults_in r text (branch_of (slice_index_or bs i d)).body) (branches_faults_in r text (t.branches (map branch_of (drop (i + 1) bs))))
    ∙ ap (earlier best) (sym (at_drop_more (λ xs. first_fault (branches_faults_in r text (t.branches (map branch_of xs)))) bs i d l))
    ∙ g

pub branches_fault-loop-branch-preserved : goal.branches_fault-loop-branch-preserved
branches_fault-loop-branch-preserved t c =
    branches_more c.args.profile c.args.text c.args.branches.now c.loop-branch.branch-index c.branch-item.result c.loop-branch.best c.earlier-best.result c.in_ok-next.next _ c.loop-branch-test.true c.earlier-best.ensures (c.in_ok-next.ensures ∙ ap (λ b. first_fault (node_faults_in c.args.profile c.args.text b.body)) (sym (branch_of-fields c.branch-item.result)) ∙ ap (λ b. first_fault (node_faults_in c.args.profile c.args.text (branch_of b).body)) c.branch-item.is) c.loop-branch.invariant

nodes_more : (r : Profile) (text : Bool) (ps : List SyntaxNode) (i : ℕ) (d : SyntaxNode) (own : Profile) (best next here total : Option Fault) → i < length ps → own ≡ for_item r (i + 1 == length ps) → next ≡ earlier best here → here ≡ first_fault (node_faults_in own text (node_of (slice_index_or ps i d)))
    → earlier best (first_fault (nodes_faults_in r text (t.nodes (map node_of (drop i ps))))) ≡ total → earlier next (first_fault (nodes_faults_in r text (t.nodes (map node_of (drop (i + 1) ps))))) ≡ total
nodes_more r text ps i d own best next here total l o e f g =
    let rest = t.nodes (map node_of (drop (i + 1) ps)) in
    let this = node_of (slice_index_or ps i d) in
    ap (λ b. earlier b (first_fault (nodes_faults_in r text rest))) (e ∙ ap (earlier best) (f ∙ ap (λ q. first_fault (node_faults_in q text this)) (o ∙ ap (for_item r) (sym (ends_at node_of ps (i + 1) (omega (arith, l)))))))
    ∙ best_of_more best (node_faults_in (for_item r (is_end rest)) text this) (nodes_faults_in r text rest)
    ∙ ap (earlier best) (sym (at_drop_more (λ xs. first_fault (nodes_faults_in r text (t.nodes (map node_of xs)))) ps i d l))
    ∙ g

pub nodes_fault-loop-place-preserved : goal.nodes_fault-loop-place-preserved
nodes_fault-loop-place-preserved t c =
    nodes_more c.args.profile c.args.text c.args.nodes.now c.loop-place.place c.index-nodes-place.result c.for_item-own.result c.loop-place.best c.earlier-best.result c.in_ok-next.next _ c.loop-place-test.true c.for_item-own.ensures c.earlier-best.ensures (c.in_ok-next.ensures ∙ ap (λ n. first_fault (node_faults_in c.for_item-own.result c.args.text (node_of n))) c.index-nodes-place.is) c.loop-place.invariant

pub node_fault-returns-in_ok-inside-in-Repeat : goal.node_fault-returns-in_ok-inside-in-Repeat
node_fault-returns-in_ok-inside-in-Repeat t c =
    let inside = before_end c.args.profile in
    own_first c.earlier.result c.count_fault-own.result c.in_ok-inside-in-Repeat.inside (count_faults c.in-Repeat.mark.from c.in-Repeat.count c.in-Repeat.greed) (node_faults_in inside c.args.text (node_of c.in-Repeat.body.value)) c.earlier.ensures c.count_fault-own.ensures
    (c.in_ok-inside-in-Repeat.ensures ∙ ap (λ r. first_fault (node_faults_in r c.args.text (node_of c.deref.result.now))) c.before_end.ensures ∙ ap (λ n. first_fault (node_faults_in inside c.args.text (node_of n))) c.deref.ensures)
    ∙ ap (λ n. first_fault (node_faults_in c.args.profile c.args.text n)) (sym (node_of-repeat c.in-Repeat.field-0 c.in-Repeat.mark c.in-Repeat.count c.in-Repeat.greed c.in-Repeat.body))
    ∙ ap (λ n. first_fault (node_faults_in c.args.profile c.args.text (node_of n))) (sym c.in-Repeat.is)

pub node_fault-returns-in_ok-inside-in-Group : goal.node_fault-returns-in_ok-inside-in-Group
node_fault-returns-in_ok-inside-in-Group t c =
    let r = c.args.profile in
    let g = c.in-Group in
    let all = kind_faults c.args.text g.span.from g.kind ++ node_faults_in r c.args.text (node_of g.body.value) in
    let unread : reads_look r c.args.text g.kind (node_of g.body.value) ≡ false = sym (c.in_ok-reads_look-in-Group.ensures ∙ ap (λ n. reads_look r c.args.text g.kind (node_of n)) c.deref-in-Group.ensures) ∙ c.if-branch.false in
    own_first c.earlier-else-branch.result c.kind_fault-own.result c.in_ok-inside-in-Group.inside (kind_faults c.args.text g.span.from g.kind) (node_faults_in r c.args.text (node_of g.body.value)) c.earlier-else-branch.ensures c.kind_fault-own.ensures
    (c.in_ok-inside-in-Group.ensures ∙ ap (λ n. first_fault (node_faults_in r c.args.text (node_of n))) c.deref-else-branch.ensures)
    ∙ sym (ap (λ b. first_fault (if b then [] else all)) unread)
    ∙ ap (λ n. first_fault (node_faults_in r c.args.text n)) (sym (node_of-group g.span g.kind g.body))
    ∙ ap (λ n. first_fault (node_faults_in r c.args.text (node_of n))) (sym g.is)
