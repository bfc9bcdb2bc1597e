use Rattle.std.proofs.Common.{◌≡◌, ℕ, ◌+◌, ◌-◌, ◌*◌, ◌/◌, ◌%◌, ◌<◌, ◌≤◌, [], length, get_or, map, eqb, eq-eqb, ne_eqb, sym, subst, ◌∙◌, ap, arith}
use Rattle.std.proofs.lemmas.Bool.{cond-true, cond-false}
use Rattle.std.proofs.lemmas.List.{length-map}
use Rattle.std.proofs.lemmas.Nat.{mod_below}
use Rattle.rl_graph.proofs.ProductLaws.{some-width}
use Rattle.rl_graph.proofs.HalfLaws.{half-of-row, row-in, row-moves}
use Rattle.rl_graph.specs.Graph.{edges_of}
use Rattle.rl_graph.specs.internal.Halves.{row_at}
use Rattle.rl_graph.proofs.halves.HalfStepsNextStates.count.Goals as goal

pub nonzero_div-first : goal.nonzero_div-first
nonzero_div-first c =
    let h = c.args.self.now in
    let n = h.graph.now.states in
    omega (arith, c.from-count.ensures, c.states.ensures.number, some-width (n + length h.rows.now.owners.items) n c.args.from c.requires.state_in)

pub nonzero_rem-from : goal.nonzero_rem-from
nonzero_rem-from c =
    let h = c.args.self.now in
    let n = h.graph.now.states in
    omega (arith, c.from-count.ensures, c.states.ensures.number, some-width (n + length h.rows.now.owners.items) n c.args.from c.requires.state_in)

pub index-requires : goal.index-requires
index-requires c =
    let h = c.args.self.now in
    let owners = h.rows.now.owners.items in
    let count = c.from-count.result in
    let e : count ≡ h.graph.now.states = c.from-count.ensures ∙ c.states.ensures.number in
    let high = subst (λ (k : ℕ). k ≤ c.args.from / k) e c.if-first-count.true in
    let there : c.args.from / count - count < length owners =
    subst (λ (k : ℕ). c.args.from / k - k < length owners) (sym e) (row-in h.graph.now.states (length owners) c.args.from c.requires.state_in high) in
    omega (arith, there, h.rows.now.owners.ok.0)

pub returns-then-letter-eq0 : goal.returns-then-letter-eq0
returns-then-letter-eq0 c =
    let h = c.args.self.now in
    let n = h.graph.now.states in
    let x = c.args.from in
    let owners = h.rows.now.owners.items in
    let place = c.index.result.now in
    let row = c.row.result.now in
    let e : c.from-count.result ≡ n = c.from-count.ensures ∙ c.states.ensures.number in
    let le = subst (λ (k : ℕ). k ≤ x / k) e c.if-first-count.true in
    let read = subst (λ (k : ℕ). place ≡ get_or owners (x / k - k) place) e c.index.ensures in
    let moves = row-moves h.graph.now h.marks.now h.rows.now.numbers.items owners x c.args.letter place row le c.requires.state_in read c.row.ensures.targets in
    sym (ap length (moves ∙ cond-true (eqb c.args.letter 0) (map (λ t. t * n + x % n) row) [] (eq-eqb c.args.letter 0 c.if-letter-eq0.true)) ∙ length-map row (λ t. t * n + x % n))

pub returns-else-letter-eq0 : goal.returns-else-letter-eq0
returns-else-letter-eq0 c =
    let h = c.args.self.now in
    let n = h.graph.now.states in
    let x = c.args.from in
    let owners = h.rows.now.owners.items in
    let e : c.from-count.result ≡ n = c.from-count.ensures ∙ c.states.ensures.number in
    let high : n ≤ x / n = subst (λ (k : ℕ). k ≤ x / k) e c.if-first-count.true in
    let row = row_at h.graph.now (get_or owners (x / n - n) 0) in
    let moves = half-of-row (edges_of h.graph.now) n h.marks.now (λ p l. get_or h.rows.now.numbers.items (p * h.graph.now.letters + l) 0) (λ r. row_at h.graph.now (get_or owners r 0)) x c.args.letter high in
    sym (ap length (moves ∙ cond-false (eqb c.args.letter 0) (map (λ t. t * n + x % n) row) [] (ne_eqb c.args.letter 0 c.if-letter-eq0.false)))

pub edges-requires-2-clause-from_in : goal.edges-requires-2-clause-from_in
edges-requires-2-clause-from_in c =
    let e : c.from-count.result ≡ c.args.self.now.graph.now.states = c.from-count.ensures ∙ c.states.ensures.number in
    omega (arith, e, mod_below c.args.from c.from-count.result (omega arith))
