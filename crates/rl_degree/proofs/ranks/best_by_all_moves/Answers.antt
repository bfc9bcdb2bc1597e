use Rattle.std.proofs.Common.{◌≡◌, ◌+◌, ◌<◌, ◌≤◌, ℕ, get_or, refl, sym, ◌∙◌, subst, arith}
use Rattle.std.proofs.lemmas.List.{get_or_read}
use Rattle.rl_graph.specs.Graph.{edges_of}
use Rattle.rl_graph.specs.Parts.{number_of}
use Rattle.rl_degree.specs.internal.Groups.{IsFirstFrom}
use Rattle.rl_degree.specs.internal.Ranks.{no_best, AreBests, BeatsMoves}
use Rattle.rl_degree.proofs.RankLaws.{good-none, good-same, moves-raised}
use Rattle.rl_degree.proofs.GroupLaws.{each-below}
use Rattle.rl_degree.proofs.ranks.best_by_all_moves.Goals as goal

pub index-state-requires : goal.index-state-requires
index-state-requires c = omega (arith, c.requires.groups.firsts_size, c.args.groups.now.firsts.ok.0)

pub index-next-requires : goal.index-next-requires
index-next-requires c = omega (arith, c.requires.groups.nexts_size, c.args.groups.now.nexts.ok.0, c.states-count.ensures.number)

pub loop-state-init : goal.loop-state-init
loop-state-init c =
    let g = c.args.g.now in
    let p = c.args.components.now in
    let n = g.states in
    let k = c.args.component in
    let firsts = c.args.groups.now.firsts.items in
    let e : c.index-state.result.now ≡ get_or firsts k 0 = get_or_read firsts k c.index-state.result.now (omega (arith, c.requires.groups.firsts_size)) c.index-state.ensures 0 in
    let first : IsFirstFrom p n k 0 c.index-state.result.now = subst (IsFirstFrom p n k 0) (sym e) (c.requires.groups.first k c.requires.component_in) in
    record {
      within = first.within;
      member = first.member;
      good = λ q hq f. good-none (edges_of g) n p c.args.bests.now q no_best refl;
      moves = λ q h f. absurd (first.least q (omega arith) h f);
    }

pub best_by_moves-best-requires-clause-bests : goal.best_by_moves-best-requires-clause-bests
best_by_moves-best-requires-clause-bests c =
    let g = c.args.g.now in
    let same = c.loop-state.invariant.member (omega (arith, c.states-count.ensures.number)) in
    subst (λ (k : ℕ). AreBests (edges_of g) g.states c.args.components.now k c.args.bests.now) (sym same) c.requires.bests

pub best_by_moves-best-requires-clause-start : goal.best_by_moves-best-requires-clause-start
best_by_moves-best-requires-clause-start c =
    let i = c.loop-state.invariant in
    let below : c.loop-state.state < c.args.g.now.states = omega (arith, c.states-count.ensures.number) in
    i.good c.loop-state.state below (i.member below)

pub loop-state-preserved : goal.loop-state-preserved
loop-state-preserved c =
    let g = c.args.g.now in
    let next = edges_of g in
    let n = g.states in
    let p = c.args.components.now in
    let bests = c.args.bests.now in
    let k = c.loop-state.state in
    let i = c.loop-state.invariant in
    let hk : k < n = omega (arith, c.states-count.ensures.number) in
    let same = i.member hk in
    let nexts = c.args.groups.now.nexts.items in
    let e : c.index-next.result.now ≡ get_or nexts k 0 = get_or_read nexts k c.index-next.result.now (omega (arith, c.requires.groups.nexts_size)) c.index-next.ensures 0 in
    let after : IsFirstFrom p n c.args.component (k + 1) c.index-next.result.now =
    subst (λ (z : ℕ). IsFirstFrom p n z (k + 1) c.index-next.result.now) same (subst (IsFirstFrom p n (number_of p k) (k + 1)) (sym e) (c.requires.groups.next k (omega arith) hk)) in
    let r = c.best_by_moves-best.result in
    let o = c.best_by_moves-best.ensures in
    record {
      within = after.within;
      member = after.member;
      good = λ q hq f. good-same next n p bests q k r c.requires.parts hq hk (f ∙ sym same) o.good;
      moves = each-below (λ q. BeatsMoves next p bests q r.rank) p n k c.args.component c.index-next.result.now after
          (λ q h f. moves-raised next p bests q c.loop-state.best.rank r.rank (i.moves q h f) o.least)
          o.moves;
    }

pub returns-clause-good : goal.returns-clause-good
returns-clause-good c = c.loop-state.invariant.good

pub returns-clause-moves : goal.returns-clause-moves
returns-clause-moves c =
    let all : c.args.g.now.states ≤ c.loop-state.state = omega (arith, c.states-count.ensures.number) in
    λ q hq f. c.loop-state.invariant.moves q (omega (arith, hq, all)) f
