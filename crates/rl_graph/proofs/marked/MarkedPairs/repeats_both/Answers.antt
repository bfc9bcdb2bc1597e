use Rattle.std.proofs.Common.{◌≡◌, ℕ, ◌/◌, ◌%◌, ◌<◌, length, sym, subst, arith, ◌∙◌, mul_comm}
use Rattle.std.proofs.lemmas.Nat.{mul-add-lt, div_below, mod_below}
use Rattle.rl_graph.proofs.ProductLaws.{some-width}
use Rattle.rl_graph.proofs.marked.MarkedPairs.repeats_both.Goals as goal

pub nonzero_div-first : goal.nonzero_div-first
nonzero_div-first c =
    let n = c.args.self.now.graph.now.states in
    omega (arith, c.from-count.ensures, c.states.ensures.number, some-width n n c.args.from c.requires.pair_in)

pub nonzero_rem-second : goal.nonzero_rem-second
nonzero_rem-second c =
    let n = c.args.self.now.graph.now.states in
    omega (arith, c.from-count.ensures, c.states.ensures.number, some-width n n c.args.from c.requires.pair_in)

pub bounds-self-first : goal.bounds-self-first
bounds-self-first c =
    let m = c.args.self.now in
    let n = m.graph.now.states in
    let w = length m.letters.now in
    let x = c.args.from in
    let e : c.from-count.result ≡ n = c.from-count.ensures ∙ c.states.ensures.number in
    let p : x / c.from-count.result < n = subst (λ (z : ℕ). x / z < n) (sym e) (div_below x n n (some-width n n x c.requires.pair_in) c.requires.pair_in) in
    omega (arith, c.from.ensures, m.repeating.size, mul-add-lt (x / c.from-count.result) w c.args.letter n p c.requires.letter_in, mul_comm w n)

pub bounds-self-second : goal.bounds-self-second
bounds-self-second c =
    let m = c.args.self.now in
    let n = m.graph.now.states in
    let w = length m.letters.now in
    let x = c.args.from in
    let e : c.from-count.result ≡ n = c.from-count.ensures ∙ c.states.ensures.number in
    let q : x % c.from-count.result < n = subst (λ (z : ℕ). x % z < n) (sym e) (mod_below x n (some-width n n x c.requires.pair_in)) in
    omega (arith, c.from-2.ensures, m.repeating.size, mul-add-lt (x % c.from-count.result) w c.args.letter n q c.requires.letter_in, mul_comm w n)

pub returns : goal.returns
returns c =
    let e : c.from-count.result ≡ c.args.self.now.graph.now.states = c.from-count.ensures ∙ c.states.ensures.number in
    cc (e, c.from.ensures, c.from-2.ensures)
