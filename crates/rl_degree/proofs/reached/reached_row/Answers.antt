use Rattle.std.proofs.Common.{◌≡◌, ◌+◌, ◌<◌, ◌≤◌, ℕ, Bool, List, true, false, length, get_or, sym, ◌∙◌, ap, subst, arith, length-set, get_or-set_same}
use Rattle.std.proofs.lemmas.List.{get_or_read, length-replicate}
use Rattle.rl_graph.specs.Graph.{edges_of}
use Rattle.rl_graph.specs.Parts.{number_of}
use Rattle.rl_degree.specs.internal.Groups.{IsFirstFrom}
use Rattle.rl_degree.specs.internal.Reached.{HasTargets}
use Rattle.rl_degree.proofs.GroupLaws.{each-below}
use Rattle.rl_degree.proofs.reached.reached_row.Goals as goal

pub index-state-requires : goal.index-state-requires
index-state-requires c = omega (arith, c.requires.groups.firsts_size, c.args.groups.now.firsts.ok.0)

pub index-next-requires : goal.index-next-requires
index-next-requires c = omega (arith, c.requires.groups.nexts_size, c.args.groups.now.nexts.ok.0, c.states-count.ensures.number)

pub set-requires : goal.set-requires
set-requires c = omega (arith, ap length c.in_ok-row.ensures, length-replicate c.states-count.result false, c.states-count.ensures.number)

pub join_moves-requires-clause-wide : goal.join_moves-requires-clause-wide
join_moves-requires-clause-wide c k lt = c.requires.wide k lt ∙ sym c.loop-state.invariant.wide

pub loop-state-init : goal.loop-state-init
loop-state-init c =
    let p = c.args.components.now in
    let n = c.args.g.now.states in
    let k = c.args.component in
    let firsts = c.args.groups.now.firsts.items in
    let bits = c.in_ok-row.row in
    let long : length bits ≡ n = ap length c.in_ok-row.ensures ∙ (length-replicate c.states-count.result false ∙ c.states-count.ensures.number) in
    let e : c.index-state.result.now ≡ get_or firsts k 0 = get_or_read firsts k c.index-state.result.now (omega (arith, c.requires.groups.firsts_size)) c.index-state.ensures 0 in
    let first : IsFirstFrom p n k 0 c.index-state.result.now = subst (IsFirstFrom p n k 0) (sym e) (c.requires.groups.first k c.requires.component_in) in
    record {
      within = first.within;
      member = first.member;
      wide = ap length c.set.ensures ∙ (length-set bits k true ∙ long);
      own = ap (λ (r : List Bool). get_or r k false) c.set.ensures ∙ get_or-set_same bits k true false (omega (arith, long));
      joined = λ q h f. absurd (first.least q (omega arith) h f);
    }

pub loop-state-preserved : goal.loop-state-preserved
loop-state-preserved c =
    let g = c.args.g.now in
    let next = edges_of g in
    let n = g.states in
    let p = c.args.components.now in
    let rows = c.args.rows.now in
    let k = c.loop-state.state in
    let i = c.loop-state.invariant in
    let hk : k < n = omega (arith, c.states-count.ensures.number) in
    let same = i.member hk in
    let nexts = c.args.groups.now.nexts.items in
    let e : c.index-next.result.now ≡ get_or nexts k 0 = get_or_read nexts k c.index-next.result.now (omega (arith, c.requires.groups.nexts_size)) c.index-next.ensures 0 in
    let after : IsFirstFrom p n c.args.component (k + 1) c.index-next.result.now =
    subst (λ (z : ℕ). IsFirstFrom p n z (k + 1) c.index-next.result.now) same (subst (IsFirstFrom p n (number_of p k) (k + 1)) (sym e) (c.requires.groups.next k (omega arith) hk)) in
    let o = c.join_moves.ensures in
    let new = c.join_moves.new.row in
    record {
      within = after.within;
      member = after.member;
      wide = o.len ∙ i.wide;
      own = o.grows c.args.component i.own;
      joined = each-below (λ q. HasTargets next p rows q new) p n k c.args.component c.index-next.result.now after
          (λ q h f l m has lt x on. o.grows x (i.joined q h f l m has lt x on)) o.joined;
    }

pub returns : goal.returns
returns c =
    let i = c.loop-state.invariant in
    let all : c.args.g.now.states ≤ c.loop-state.state = omega (arith, c.states-count.ensures.number) in
    record { wide = i.wide; own = i.own; joined = λ q hq f. i.joined q (omega (arith, hq, all)) f }
