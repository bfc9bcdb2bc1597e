use Rattle.std.proofs.Common.{List, ◌≡◌, ◌∙◌, length, ap, arith}
use Rattle.rl_graph.specs.declared.parts.Frame.{Frame}
use Rattle.rl_graph.specs.internal.Search.{search_state_of, opened, with_top, unseen}
use Rattle.rl_graph.proofs.Sums.{Has-last}
use Rattle.rl_graph.proofs.SearchLaws.{depth-in}
use Rattle.rl_graph.proofs.SearchEnds.{finished, finished-unseen, finished-frames}
use Rattle.rl_graph.proofs.ScanLaws.{next-opened, next-work}
use Rattle.rl_graph.proofs.parts.PartSearch.step.Goals as goal

pub finish-requires-clause-within : goal.finish-requires-clause-within
finish-requires-clause-within g c =
    let t = search_state_of c.advance.new.self in
    let f = c.advance.new.frame in
    omega (arith, depth-in (g.M.NextStates.next c.args.m.now) (g.M.NextStates.size c.args.m.now) (with_top t f) f c.advance.ensures.search (Has-last f t.frames))

pub returns-in_ok-open-in-Some-clause-search : goal.returns-in_ok-open-in-Some-clause-search
returns-in_ok-open-in-Some-clause-search g c =
    let t = search_state_of c.advance.new.self in
    let f = c.advance.new.frame in
    let w = c.in-Some.state in
    let e : search_state_of c.open.new.self ≡ opened (with_top t f) w =
    c.in_ok-open-in-Some.ensures ∙ ap (λ (z : List Frame). opened (record t { frames = z }) w) c.in_ok-push-in-Some.ensures.items in
    next-opened (g.M.NextStates.next c.args.m.now) (g.M.NextStates.size c.args.m.now) t (search_state_of c.open.new.self) f w c.advance.ensures.search c.in-Some.ensures.found e

pub returns-in_ok-open-in-Some-clause-work : goal.returns-in_ok-open-in-Some-clause-work
returns-in_ok-open-in-Some-clause-work g c =
    let t = search_state_of c.advance.new.self in
    let f = c.advance.new.frame in
    let w = c.in-Some.state in
    let e : search_state_of c.open.new.self ≡ opened (with_top t f) w =
    c.in_ok-open-in-Some.ensures ∙ ap (λ (z : List Frame). opened (record t { frames = z }) w) c.in_ok-push-in-Some.ensures.items in
    let k = c.advance.ensures.kept in
    omega (arith, next-work (g.M.NextStates.next c.args.m.now) (g.M.NextStates.size c.args.m.now) t (search_state_of c.open.new.self) f w c.advance.ensures.search c.in-Some.ensures.found e, ap unseen k.places, ap length k.frames)

pub returns-in-None-clause-search : goal.returns-in-None-clause-search
returns-in-None-clause-search g c =
    finished (g.M.NextStates.next c.args.m.now) (g.M.NextStates.size c.args.m.now) (search_state_of c.advance.new.self) (search_state_of c.finish.new.self) c.advance.new.frame c.advance.ensures.search c.in-None.ensures.end c.finish.ensures

pub returns-in-None-clause-work : goal.returns-in-None-clause-work
returns-in-None-clause-work g c =
    let t = search_state_of c.advance.new.self in
    let u = search_state_of c.finish.new.self in
    let d = c.advance.new.frame.depth in
    let k = c.advance.ensures.kept in
    omega (arith, finished-unseen d t u c.finish.ensures, ap length (finished-frames d t u c.finish.ensures), ap unseen k.places, ap length k.frames)
