-- The first fault of three lists.
use Rattle.std.proofs.Common.{[], ◌++◌, sym, ap, ◌∙◌}
use Rattle.rl_pattern.specs.Found.{Inner, first_fault, front_faults, name_faults, node_names, node_faults_in, inner}
use Rattle.rl_pattern.specs.Profile.{for_body}
use Rattle.rl_pattern.specs.internal.Views.{node_of, whole_of}
use Rattle.rl_pattern.proofs.FirstFault.{own_first}
use Rattle.rl_pattern.proofs.refused.judge.Goals as goal

pub returns-in-Some : goal.returns-in-Some
returns-in-Some c =
    let p = whole_of c.args.whole in
    let names = name_faults [] (node_names p.body) in
    let nodes = node_faults_in (for_body c.args.profile (inner p).trail) c.args.text (inner p).body in
    sym
    (own_first c.earlier-2.result c.fronts_fault-fronts.result c.earlier.result (front_faults c.args.text c.args.call p.fronts) (names ++ nodes) c.earlier-2.ensures
    (c.fronts_fault-fronts.ensures ∙ ap (λ gs. first_fault (front_faults c.args.text c.args.call gs)) c.as_slice.ensures)
    (own_first c.earlier.result c.in-Ok.names c.in-Ok-node_fault.nodes names nodes c.earlier.ensures c.in-Ok.ensures
    (c.in-Ok-node_fault.ensures ∙ ap (λ r. first_fault (node_faults_in r c.args.text (node_of c.in_ok-left.left.body))) c.for_body-inner.ensures ∙ ap (λ (i : Inner). first_fault (node_faults_in (for_body c.args.profile i.trail) c.args.text i.body)) c.in_ok-left.ensures)))
    ∙ c.in-Some.is

pub returns-in-None : goal.returns-in-None
returns-in-None c =
    let p = whole_of c.args.whole in
    let names = name_faults [] (node_names p.body) in
    let nodes = node_faults_in (for_body c.args.profile (inner p).trail) c.args.text (inner p).body in (
      sym
          (own_first c.earlier-2.result c.fronts_fault-fronts.result c.earlier.result (front_faults c.args.text c.args.call p.fronts) (names ++ nodes) c.earlier-2.ensures
          (c.fronts_fault-fronts.ensures ∙ ap (λ gs. first_fault (front_faults c.args.text c.args.call gs)) c.as_slice.ensures)
          (own_first c.earlier.result c.in-Ok.names c.in-Ok-node_fault.nodes names nodes c.earlier.ensures c.in-Ok.ensures
          (c.in-Ok-node_fault.ensures ∙ ap (λ r. first_fault (node_faults_in r c.args.text (node_of c.in_ok-left.left.body))) c.for_body-inner.ensures ∙ ap (λ (i : Inner). first_fault (node_faults_in (for_body c.args.profile i.trail) c.args.text i.body)) c.in_ok-left.ensures)))
          ∙ c.in-None.is,
      c.in_ok-left.ensures,
    )
