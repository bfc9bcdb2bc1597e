use Rattle.std.proofs.Common.{◌≡◌, ℕ, ◌+◌, ◌-◌, ◌*◌, ◌/◌, ◌%◌, ◌<◌, ◌≤◌, length, get_or, sym, subst, ◌∙◌, ap, arith, mul_comm}
use Rattle.std.proofs.lemmas.Nat.{mul-lt, mul-add-lt, mod_below}
use Rattle.rl_graph.specs.Paths.{Has}
use Rattle.rl_graph.proofs.Sums.{Has-get_or}
use Rattle.rl_graph.proofs.ProductLaws.{some-width}
use Rattle.rl_graph.proofs.HalfLaws.{row-in, row-read, rows-in, back-in, pair-read}
use Rattle.rl_graph.proofs.halves.HalfStepsNextStates.target.Goals as goal

pub nonzero_div-first : goal.nonzero_div-first
nonzero_div-first c =
    let h = c.args.self.now in
    let n = h.graph.now.states in
    omega (arith, c.from-count.ensures, c.states.ensures.number, some-width (n + length h.rows.now.owners.items) n c.args.from c.requires.state_in)

pub nonzero_rem-second : goal.nonzero_rem-second
nonzero_rem-second c =
    let h = c.args.self.now in
    let n = h.graph.now.states in
    omega (arith, c.from-count.ensures, c.states.ensures.number, some-width (n + length h.rows.now.owners.items) n c.args.from c.requires.state_in)

pub index-requires : goal.index-requires
index-requires c =
    let h = c.args.self.now in
    let owners = h.rows.now.owners.items in
    let count = c.from-count.result in
    let e : count ≡ h.graph.now.states = c.from-count.ensures ∙ c.states.ensures.number in
    let high = subst (λ (k : ℕ). k ≤ c.args.from / k) e c.if-first-count.true in
    let there : c.args.from / count - count < length owners =
    subst (λ (k : ℕ). c.args.from / k - k < length owners) (sym e) (row-in h.graph.now.states (length owners) c.args.from c.requires.state_in high) in
    omega (arith, there, h.rows.now.owners.ok.0)

pub offset_bounds-row-number : goal.offset_bounds-row-number
offset_bounds-row-number c =
    let h = c.args.self.now in
    let owners = h.rows.now.owners.items in
    let count = c.from-count.result in
    let e : count ≡ h.graph.now.states = c.from-count.ensures ∙ c.states.ensures.number in
    let read = row-read h.graph.now h.marks.now h.rows.now.numbers.items owners c.args.from c.args.letter c.args.number count c.index.result.now c.row-row.result.now e c.if-first-count.true c.requires.state_in c.index.ensures c.row-row.ensures.targets c.requires.number_in in
    omega (arith, read.0)

pub bounds-row-number : goal.bounds-row-number
bounds-row-number c =
    let h = c.args.self.now in
    let owners = h.rows.now.owners.items in
    let count = c.from-count.result in
    let e : count ≡ h.graph.now.states = c.from-count.ensures ∙ c.states.ensures.number in
    let read = row-read h.graph.now h.marks.now h.rows.now.numbers.items owners c.args.from c.args.letter c.args.number count c.index.result.now c.row-row.result.now e c.if-first-count.true c.requires.state_in c.index.ensures c.row-row.ensures.targets c.requires.number_in in
    read.0

pub returns-then-first-count-clause-target : goal.returns-then-first-count-clause-target
returns-then-first-count-clause-target c =
    let h = c.args.self.now in
    let owners = h.rows.now.owners.items in
    let count = c.from-count.result in
    let e : count ≡ h.graph.now.states = c.from-count.ensures ∙ c.states.ensures.number in
    let read = row-read h.graph.now h.marks.now h.rows.now.numbers.items owners c.args.from c.args.letter c.args.number count c.index.result.now c.row-row.result.now e c.if-first-count.true c.requires.state_in c.index.ensures c.row-row.ensures.targets c.requires.number_in in
    ap (λ (t : ℕ). t * count + c.args.from % count) c.from.ensures ∙ read.1

pub returns-then-first-count-clause-inside : goal.returns-then-first-count-clause-inside
returns-then-first-count-clause-inside c =
    let h = c.args.self.now in
    let owners = h.rows.now.owners.items in
    let count = c.from-count.result in
    let e : count ≡ h.graph.now.states = c.from-count.ensures ∙ c.states.ensures.number in
    let read = row-read h.graph.now h.marks.now h.rows.now.numbers.items owners c.args.from c.args.letter c.args.number count c.index.result.now c.row-row.result.now e c.if-first-count.true c.requires.state_in c.index.ensures c.row-row.ensures.targets c.requires.number_in in
    let n = h.graph.now.states in
    let row = c.row-row.result.now in
    let x = c.args.from in
    let there = subst (Has (get_or row c.args.number 0)) c.row-row.ensures.targets (Has-get_or row c.args.number 0 read.0) in
    let lt = rows-in h.graph.now c.row-row.ensures.whole c.index.result.now (get_or row c.args.number 0) there in
    let inside = back-in n (length owners) (get_or row c.args.number 0) x lt in
    subst (λ (k : ℕ). c.from.result * k + x % k < (n + length owners) * n) (sym e)
    (subst (λ (t : ℕ). t * n + x % n < (n + length owners) * n) (sym c.from.ensures) inside)

pub index-row-requires : goal.index-row-requires
index-row-requires c =
    let h = c.args.self.now in
    let g = h.graph.now in
    let owners = h.rows.now.owners.items in
    let count = c.from-count.result in
    let width = c.from-2.result in
    let e : count ≡ g.states = c.from-count.ensures ∙ c.states.ensures.number in
    let f : width ≡ g.letters = c.from-2.ensures ∙ c.letters.ensures in
    let first = subst (λ (k : ℕ). c.args.from / k < k) e c.if-first-count.false in
    let place : c.args.from / count * width + c.from-3.result ≡ c.args.from / g.states * g.letters + c.args.letter = cc (e, f, c.from-3.ensures) in
    omega (arith, place, mul-add-lt (c.args.from / g.states) g.letters c.args.letter g.states first c.requires.letter_in, mul_comm g.letters g.states, h.numbered.numbered.size, h.rows.now.numbers.ok.0)

pub overflow_cast-second : goal.overflow_cast-second
overflow_cast-second c =
    let h = c.args.self.now in
    let e : c.from-count.result ≡ h.graph.now.states = c.from-count.ensures ∙ c.states.ensures.number in
    omega (arith, e, mod_below c.args.from c.from-count.result (omega arith), h.numbered.few)

pub edges-targets-requires-clause-from_in : goal.edges-targets-requires-clause-from_in
edges-targets-requires-clause-from_in c =
    let e : c.from-count.result ≡ c.args.self.now.graph.now.states = c.from-count.ensures ∙ c.states.ensures.number in
    omega (arith, e, mod_below c.args.from c.from-count.result (omega arith))

pub overflow_add-result-2 : goal.overflow_add-result-2
overflow_add-result-2 c =
    let h = c.args.self.now in
    let g = h.graph.now in
    let owners = h.rows.now.owners.items in
    let count = c.from-count.result in
    let width = c.from-2.result in
    let e : count ≡ g.states = c.from-count.ensures ∙ c.states.ensures.number in
    let f : width ≡ g.letters = c.from-2.ensures ∙ c.letters.ensures in
    let r = c.index-row.result.now in
    let at : r ≡ get_or h.rows.now.numbers.items (c.args.from / count * width + c.args.letter) r =
    subst (λ (l : ℕ). r ≡ get_or h.rows.now.numbers.items (c.args.from / count * width + l) r) c.from-3.ensures c.index-row.ensures in
    let move = pair-read g h.marks.now h.rows.now.numbers.items owners c.args.from c.args.letter c.args.number count width r c.edges-targets.result.now c.states.ensures.whole h.numbered.numbered e f c.if-first-count.false c.requires.letter_in c.requires.number_in at c.edges-targets.ensures.targets in
    omega (arith, move.row, h.numbered.few, e)

pub overflow_mul-result-2 : goal.overflow_mul-result-2
overflow_mul-result-2 c =
    let h = c.args.self.now in
    let g = h.graph.now in
    let owners = h.rows.now.owners.items in
    let count = c.from-count.result in
    let width = c.from-2.result in
    let e : count ≡ g.states = c.from-count.ensures ∙ c.states.ensures.number in
    let f : width ≡ g.letters = c.from-2.ensures ∙ c.letters.ensures in
    let r = c.index-row.result.now in
    let at : r ≡ get_or h.rows.now.numbers.items (c.args.from / count * width + c.args.letter) r =
    subst (λ (l : ℕ). r ≡ get_or h.rows.now.numbers.items (c.args.from / count * width + l) r) c.from-3.ensures c.index-row.ensures in
    let move = pair-read g h.marks.now h.rows.now.numbers.items owners c.args.from c.args.letter c.args.number count width r c.edges-targets.result.now c.states.ensures.whole h.numbered.numbered e f c.if-first-count.false c.requires.letter_in c.requires.number_in at c.edges-targets.ensures.targets in
    omega (arith, mul-lt (count + r) count 4294967296 4294967296 (omega (arith, move.row, h.numbered.few, e)) (omega (arith, h.numbered.few, e)))

pub offset_bounds-targets-number : goal.offset_bounds-targets-number
offset_bounds-targets-number c =
    let h = c.args.self.now in
    let g = h.graph.now in
    let owners = h.rows.now.owners.items in
    let count = c.from-count.result in
    let width = c.from-2.result in
    let e : count ≡ g.states = c.from-count.ensures ∙ c.states.ensures.number in
    let f : width ≡ g.letters = c.from-2.ensures ∙ c.letters.ensures in
    let r = c.index-row.result.now in
    let at : r ≡ get_or h.rows.now.numbers.items (c.args.from / count * width + c.args.letter) r =
    subst (λ (l : ℕ). r ≡ get_or h.rows.now.numbers.items (c.args.from / count * width + l) r) c.from-3.ensures c.index-row.ensures in
    let move = pair-read g h.marks.now h.rows.now.numbers.items owners c.args.from c.args.letter c.args.number count width r c.edges-targets.result.now c.states.ensures.whole h.numbered.numbered e f c.if-first-count.false c.requires.letter_in c.requires.number_in at c.edges-targets.ensures.targets in
    omega (arith, move.number)

pub bounds-targets-number : goal.bounds-targets-number
bounds-targets-number c =
    let h = c.args.self.now in
    let g = h.graph.now in
    let owners = h.rows.now.owners.items in
    let count = c.from-count.result in
    let width = c.from-2.result in
    let e : count ≡ g.states = c.from-count.ensures ∙ c.states.ensures.number in
    let f : width ≡ g.letters = c.from-2.ensures ∙ c.letters.ensures in
    let r = c.index-row.result.now in
    let at : r ≡ get_or h.rows.now.numbers.items (c.args.from / count * width + c.args.letter) r =
    subst (λ (l : ℕ). r ≡ get_or h.rows.now.numbers.items (c.args.from / count * width + l) r) c.from-3.ensures c.index-row.ensures in
    let move = pair-read g h.marks.now h.rows.now.numbers.items owners c.args.from c.args.letter c.args.number count width r c.edges-targets.result.now c.states.ensures.whole h.numbered.numbered e f c.if-first-count.false c.requires.letter_in c.requires.number_in at c.edges-targets.ensures.targets in
    move.number

pub overflow_add-result-3 : goal.overflow_add-result-3
overflow_add-result-3 c =
    let h = c.args.self.now in
    let g = h.graph.now in
    let owners = h.rows.now.owners.items in
    let count = c.from-count.result in
    let width = c.from-2.result in
    let e : count ≡ g.states = c.from-count.ensures ∙ c.states.ensures.number in
    let f : width ≡ g.letters = c.from-2.ensures ∙ c.letters.ensures in
    let r = c.index-row.result.now in
    let at : r ≡ get_or h.rows.now.numbers.items (c.args.from / count * width + c.args.letter) r =
    subst (λ (l : ℕ). r ≡ get_or h.rows.now.numbers.items (c.args.from / count * width + l) r) c.from-3.ensures c.index-row.ensures in
    let move = pair-read g h.marks.now h.rows.now.numbers.items owners c.args.from c.args.letter c.args.number count width r c.edges-targets.result.now c.states.ensures.whole h.numbered.numbered e f c.if-first-count.false c.requires.letter_in c.requires.number_in at c.edges-targets.ensures.targets in
    let small : c.from-4.result < count = subst (λ (z : ℕ). z < count) (sym c.from-4.ensures) move.small in
    omega (arith, mul-add-lt (count + r) count c.from-4.result 4294967296 (omega (arith, move.row, h.numbered.few, e)) small, h.numbered.few, e)

pub returns-clause-target : goal.returns-clause-target
returns-clause-target c =
    let h = c.args.self.now in
    let g = h.graph.now in
    let owners = h.rows.now.owners.items in
    let count = c.from-count.result in
    let width = c.from-2.result in
    let e : count ≡ g.states = c.from-count.ensures ∙ c.states.ensures.number in
    let f : width ≡ g.letters = c.from-2.ensures ∙ c.letters.ensures in
    let r = c.index-row.result.now in
    let at : r ≡ get_or h.rows.now.numbers.items (c.args.from / count * width + c.args.letter) r =
    subst (λ (l : ℕ). r ≡ get_or h.rows.now.numbers.items (c.args.from / count * width + l) r) c.from-3.ensures c.index-row.ensures in
    let move = pair-read g h.marks.now h.rows.now.numbers.items owners c.args.from c.args.letter c.args.number count width r c.edges-targets.result.now c.states.ensures.whole h.numbered.numbered e f c.if-first-count.false c.requires.letter_in c.requires.number_in at c.edges-targets.ensures.targets in
    ap (λ (u : ℕ). (count + r) * count + u) c.from-4.ensures ∙ move.target

pub returns-clause-inside : goal.returns-clause-inside
returns-clause-inside c =
    let h = c.args.self.now in
    let g = h.graph.now in
    let owners = h.rows.now.owners.items in
    let count = c.from-count.result in
    let width = c.from-2.result in
    let e : count ≡ g.states = c.from-count.ensures ∙ c.states.ensures.number in
    let f : width ≡ g.letters = c.from-2.ensures ∙ c.letters.ensures in
    let r = c.index-row.result.now in
    let at : r ≡ get_or h.rows.now.numbers.items (c.args.from / count * width + c.args.letter) r =
    subst (λ (l : ℕ). r ≡ get_or h.rows.now.numbers.items (c.args.from / count * width + l) r) c.from-3.ensures c.index-row.ensures in
    let move = pair-read g h.marks.now h.rows.now.numbers.items owners c.args.from c.args.letter c.args.number count width r c.edges-targets.result.now c.states.ensures.whole h.numbered.numbered e f c.if-first-count.false c.requires.letter_in c.requires.number_in at c.edges-targets.ensures.targets in
    subst (λ (u : ℕ). (count + r) * count + u < (g.states + length owners) * g.states) (sym c.from-4.ensures) move.inside
