use Rattle.std.proofs.Common.{◌≡◌, ◌∙◌, ◌*◌, ◌<◌, ℕ, length, get_or, sym, subst, ap, arith}
use Rattle.rl_graph.specs.Graph.{Graph, edges_of}
use Rattle.rl_graph.proofs.Sums.{at-get_or}
use Rattle.rl_numbers.specs.Triples.{triple_moves, lift_of}
use Rattle.rl_numbers.proofs.TripleLaws.{some-states}
use Rattle.rl_numbers.proofs.AmongLaws.{among-step, among-lift, among-number, place-in}
use Rattle.rl_numbers.proofs.among.AmongNextStates.target.Goals as goal
use Rattle.rl_numbers.proofs.among.AmongNextStates.target.Goals.{then-number-count, else-number-count}

pub returns-clause-target : goal.returns-clause-target
returns-clause-target c =
    let g = c.args.self.now.level.now in
    let keys = c.args.self.now.keys.now.keys in
    let key = c.index-triple.result.now in
    let e : key ≡ get_or keys c.args.from 0 = sym (at-get_or keys c.args.from key 0 c.index-triple.ensures) in
    let k = among-number g keys c.args.from c.args.letter key c.args.number c.requires.state_in e c.requires.letter_in c.requires.number_in in
    c.place_of.ensures ∙ elim c.if-number-count.branch [
      | then-number-count w ↦
          let in_row : c.args.number < length (triple_moves (edges_of g) g.states key c.args.letter) = omega (arith, w.if-number-count.true, c.count.ensures) in
          among-step g keys c.args.from c.args.letter key c.args.number c.if-number-count.target c.requires.state_in e k.0 c.requires.letter_in in_row (cc (w.target-is, w.target-target.ensures.target))
      | else-number-count w ↦
          let at_end : c.args.number ≡ length (triple_moves (edges_of g) g.states key c.args.letter) = omega (arith, w.if-number-count.false, c.count.ensures, k.1) in
          let lifted : w.lift-target.result ≡ lift_of g.states key =
          w.lift-target.ensures ∙ ap (λ n. lift_of n key) (w.from.ensures ∙ (w.states.ensures.number ∙ ap (λ (h : Graph). h.states) w.graph.ensures.same)) in
          among-lift g keys c.args.from c.args.letter key c.args.number c.if-number-count.target c.requires.state_in e k.0 c.requires.letter_in at_end (cc (w.target-is, lifted))
    ]

pub count-requires-clause-state_in : goal.count-requires-clause-state_in
count-requires-clause-state_in c =
    let g = c.args.self.now.level.now in
    let keys = c.args.self.now.keys.now.keys in
    let key = c.index-triple.result.now in
    let e : key ≡ get_or keys c.args.from 0 = sym (at-get_or keys c.args.from key 0 c.index-triple.ensures) in
    let k = among-number g keys c.args.from c.args.letter key c.args.number c.requires.state_in e c.requires.letter_in c.requires.number_in in
    k.0

pub target-target-requires-clause-state_in : goal.target-target-requires-clause-state_in
target-target-requires-clause-state_in c =
    let g = c.args.self.now.level.now in
    let keys = c.args.self.now.keys.now.keys in
    let key = c.index-triple.result.now in
    let e : key ≡ get_or keys c.args.from 0 = sym (at-get_or keys c.args.from key 0 c.index-triple.ensures) in
    let k = among-number g keys c.args.from c.args.letter key c.args.number c.requires.state_in e c.requires.letter_in c.requires.number_in in
    k.0

pub target-target-requires-clause-number_in : goal.target-target-requires-clause-number_in
target-target-requires-clause-number_in c =
    let g = c.args.self.now.level.now in
    let in_row : c.args.number < length (triple_moves (edges_of g) g.states c.index-triple.result.now c.args.letter) = omega (arith, c.if-number-count.true, c.count.ensures) in
    in_row

pub lift-target-requires-clause-some : goal.lift-target-requires-clause-some
lift-target-requires-clause-some c =
    let g = c.args.self.now.level.now in
    let keys = c.args.self.now.keys.now.keys in
    let key = c.index-triple.result.now in
    let e : key ≡ get_or keys c.args.from 0 = sym (at-get_or keys c.args.from key 0 c.index-triple.ensures) in
    let k = among-number g keys c.args.from c.args.letter key c.args.number c.requires.state_in e c.requires.letter_in c.requires.number_in in
    let n : c.from.result ≡ g.states = c.from.ensures ∙ (c.states.ensures.number ∙ ap (λ (h : Graph). h.states) c.graph.ensures.same) in
    subst (λ (m : ℕ). 0 < m) (sym n) (some-states g.states key k.0)

pub lift-target-requires-clause-few : goal.lift-target-requires-clause-few
lift-target-requires-clause-few c =
    let g = c.args.self.now.level.now in
    let n : c.from.result ≡ g.states = c.from.ensures ∙ (c.states.ensures.number ∙ ap (λ (h : Graph). h.states) c.graph.ensures.same) in
    omega (arith, n, c.graph.ensures.few_states)

pub lift-target-requires-clause-inside : goal.lift-target-requires-clause-inside
lift-target-requires-clause-inside c =
    let g = c.args.self.now.level.now in
    let keys = c.args.self.now.keys.now.keys in
    let key = c.index-triple.result.now in
    let e : key ≡ get_or keys c.args.from 0 = sym (at-get_or keys c.args.from key 0 c.index-triple.ensures) in
    let k = among-number g keys c.args.from c.args.letter key c.args.number c.requires.state_in e c.requires.letter_in c.requires.number_in in
    let n : c.from.result ≡ g.states = c.from.ensures ∙ (c.states.ensures.number ∙ ap (λ (h : Graph). h.states) c.graph.ensures.same) in
    subst (λ (m : ℕ). key < m * m * m) (sym n) k.0

pub returns-clause-inside : goal.returns-clause-inside
returns-clause-inside c =
    let keys = c.args.self.now.keys.now.keys in
    subst (λ (x : ℕ). x < length keys) (sym c.place_of.ensures) (place-in keys c.args.from c.if-number-count.target c.requires.state_in)
