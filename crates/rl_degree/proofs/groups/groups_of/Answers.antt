use Rattle.std.proofs.Common.{ℕ, ◌≡◌, ◌+◌, ◌-◌, ◌<◌, List, get_or, set, replicate, sym, ◌∙◌, ap, subst, arith}
use Rattle.std.proofs.lemmas.List.{get_or_read}
use Rattle.rl_graph.specs.Parts.{number_of}
use Rattle.rl_degree.specs.internal.Groups.{AreGroupsFrom}
use Rattle.rl_degree.proofs.GroupLaws.{groups-none, groups-more}
use Rattle.rl_degree.proofs.groups.groups_of.Goals as goal

pub loop-state-init : goal.loop-state-init
loop-state-init c =
    let p = c.args.components.now in
    let n = c.args.count in
    let firsts : c.in_ok-firsts.firsts.items ≡ replicate n n = c.in_ok-firsts.ensures.items_if_clones_equal (λ y e. e) in
    let nexts : c.in_ok-nexts.nexts.items ≡ replicate n n = c.in_ok-nexts.ensures.items_if_clones_equal (λ y e. e) in
    record {
      within = omega arith;
      groups = subst (λ (z : List ℕ). AreGroupsFrom p n n z c.in_ok-nexts.nexts.items) (sym firsts) (subst (AreGroupsFrom p n n (replicate n n)) (sym nexts) (groups-none p n));
    }

pub loop-state-preserved : goal.loop-state-preserved
loop-state-preserved c =
    let p = c.args.components.now in
    let n = c.args.count in
    let k = c.loop-state.state - 1 in
    let firsts = c.loop-state.firsts.items in
    let nexts = c.loop-state.nexts.items in
    let i = c.loop-state.invariant in
    let behind : k + 1 ≡ c.loop-state.state = omega (arith, c.loop-state-test.true) in
    let hk : k < n = omega (arith, behind, i.within) in
    let hc = c.requires.below k hk in
    let own : c.of-component.result ≡ number_of p k = c.of-component.ensures in
    let first : c.index.result.now ≡ get_or firsts (number_of p k) 0 =
    get_or_read firsts c.of-component.result c.index.result.now (omega (arith, own, hc, i.groups.firsts_size)) c.index.ensures 0 ∙ ap (λ z. get_or firsts z 0) own in
    let more = groups-more p n k firsts nexts hk hc (subst (λ (z : ℕ). AreGroupsFrom p n z firsts nexts) (sym behind) i.groups) in
    record {
      within = omega (arith, hk);
      groups = subst (λ (z : ℕ). AreGroupsFrom p n k (set firsts z k) (set nexts k c.index.result.now)) (sym own)
          (subst (λ (z : ℕ). AreGroupsFrom p n k (set firsts (number_of p k) k) (set nexts k z)) (sym first) more);
    }
