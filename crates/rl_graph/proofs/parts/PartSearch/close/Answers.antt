use Rattle.std.proofs.Common.{ℕ, List, ◌≡◌, ◌+◌, ◌<◌, length, get_or, take, set, arith, ◌∙◌, ap, length-set}
use Rattle.std.proofs.lemmas.List.{get_or_read}
use Rattle.rl_graph.specs.declared.parts.SearchPlace.TheVariants.{Unseen, Done}
use Rattle.rl_graph.specs.internal.Search.{search_state_of}
use Rattle.rl_graph.proofs.StackLaws.{below-more, below-all, listed-in}
use Rattle.rl_graph.proofs.parts.PartSearch.close.Goals as goal

pub index_mut-requires : goal.index_mut-requires
index_mut-requires c =
    let s = search_state_of c.args.self.now in
    let i = c.loop-depth.invariant in
    let in_loop : c.loop-depth.depth < length c.loop-depth.self.open_states.items = omega (arith, ap length i.2) in
    let within : c.loop-depth.depth < length s.open_states = omega (arith, ap length i.2) in
    let e : c.index-state.result.now ≡ get_or s.open_states c.loop-depth.depth 0 =
    get_or_read c.loop-depth.self.open_states.items c.loop-depth.depth c.index-state.result.now in_loop c.index-state.ensures 0 ∙ ap (λ (z : List ℕ). get_or z c.loop-depth.depth 0) i.2 in
    omega (arith, e, i.0, listed-in s c.requires.listed c.loop-depth.depth within)

pub loop-depth-preserved : goal.loop-depth-preserved
loop-depth-preserved c =
    let s = search_state_of c.args.self.now in
    let i = c.loop-depth.invariant in
    let places = c.loop-depth.self.places.items in
    let in_loop : c.loop-depth.depth < length c.loop-depth.self.open_states.items = omega (arith, ap length i.2) in
    let within : c.loop-depth.depth < length s.open_states = omega (arith, ap length i.2) in
    let e : c.index-state.result.now ≡ get_or s.open_states c.loop-depth.depth 0 =
    get_or_read c.loop-depth.self.open_states.items c.loop-depth.depth c.index-state.result.now in_loop c.index-state.ensures 0 ∙ ap (λ (z : List ℕ). get_or z c.loop-depth.depth 0) i.2 in (
      length-set places c.index-state.result.now (Done s.parts) ∙ i.0,
      (λ q. ap (λ (x : ℕ). get_or (set places x (Done s.parts)) q Unseen) e
          ∙ below-more s c.requires.listed places c.args.from c.loop-depth.depth s.parts c.loop-depth.auto.depth within i.0 i.1 q),
      i.2,
      i.3,
      i.4,
      i.5,
    )

pub returns : goal.returns
returns c =
    let s = search_state_of c.args.self.now in
    let i = c.loop-depth.invariant in
    record {
      size = i.0;
      places = λ q. i.1 q ∙ below-all s c.requires.listed c.args.from c.loop-depth.depth s.parts (omega arith) q;
      open_states = c.truncate.ensures.items ∙ ap (take c.args.from) i.2;
      marks = i.3;
      frames = i.4;
      parts = ap (λ z. z + 1) i.5;
    }
