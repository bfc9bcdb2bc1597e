use Rattle.std.proofs.Common.{◌≡◌, ◌<◌, ◌∙◌, length, [], refl, sym, subst, arith}
use Rattle.rl_walk.specs.internal.Parts.{Does}
use Rattle.rl_walk.specs.Visits.{moment_of}
use Rattle.rl_walk.proofs.Doing.{Does-none, named-turn, walked-all}
use Rattle.rl_walk.proofs.walking.walk.Goals as goal

pub loop-path-init : goal.loop-path-init
loop-path-init g c =
    let now = moment_of g.T.Tree.told g.T.Tree.fault_count c.args.tree.now in
    let was = g.V.Visitor.has_received c.args.visitor.now in
    record {
      does = subst (λ m. Does [] now now [] m was was) (sym c.new-met.ensures) (Does-none now [] was);
      later = omega arith;
      config = refl;
    }

pub loop-path-preserved : goal.loop-path-preserved
loop-path-preserved g c =
    let within : c.loop-path.path-index < length c.args.paths.now = omega arith in
    record {
      does = named-turn c.args.paths.now c.loop-path.path-index _ within c.loop-path.invariant.does c.in_ok-take_named.ensures.does c.loop-path.invariant.later c.in_ok-take_named.ensures.later;
      later = omega (arith, c.loop-path.invariant.later, c.in_ok-take_named.ensures.later);
      config = c.in_ok-take_named.ensures.config ∙ c.loop-path.invariant.config;
    }

pub returns-clause-walked : goal.returns-clause-walked
returns-clause-walked g c =
    let all : c.loop-path.path-index ≡ length c.args.paths.now = omega arith in
    walked-all c.args.paths.now c.loop-path.path-index all c.loop-path.invariant.does
