use Rattle.std.proofs.Common.{◌+◌, ◌*◌, ◌/◌, ◌%◌, ◌<◌, Bool, cond, eq-eqb, refl, sym, ap, arith}
use Rattle.std.proofs.lemmas.Nat.{mul-add-lt}
use Rattle.rl_numbers.proofs.TripleLaws.{small-square, small-cube, first-below, last-below}
use Rattle.rl_numbers.proofs.GraphOfTriples.{unlifted}
use Rattle.rl_numbers.proofs.among.lift.Goals as goal

pub nonzero_div-first : goal.nonzero_div-first
nonzero_div-first c = omega (arith, c.requires.some)

pub nonzero_div-first-2 : goal.nonzero_div-first-2
nonzero_div-first-2 c = omega (arith, c.requires.some)

pub nonzero_div-middle : goal.nonzero_div-middle
nonzero_div-middle c = omega (arith, c.requires.some)

pub nonzero_rem-middle : goal.nonzero_rem-middle
nonzero_rem-middle c = omega (arith, c.requires.some)

pub nonzero_rem-last : goal.nonzero_rem-last
nonzero_rem-last c = omega (arith, c.requires.some)

pub overflow_mul-result : goal.overflow_mul-result
overflow_mul-result c =
    let n = c.args.count in
    let t = c.args.triple in
    let first : t / n / n < n = first-below n n t refl c.requires.inside in
    omega (arith, small-square (t / n / n) n (omega (arith, first, c.requires.few)) (omega (arith, c.requires.few)))

pub overflow_add-result : goal.overflow_add-result
overflow_add-result c =
    let n = c.args.count in
    let t = c.args.triple in
    let first : t / n / n < n = first-below n n t refl c.requires.inside in
    let both = mul-add-lt (t / n / n) n (t / n / n) n first first in
    let square = small-square n n (omega (arith, c.requires.few)) (omega (arith, c.requires.few)) in
    omega (arith, both, square)

pub overflow_mul-result-then-middle-last : goal.overflow_mul-result-then-middle-last
overflow_mul-result-then-middle-last c =
    let n = c.args.count in
    let t = c.args.triple in
    let first : t / n / n < n = first-below n n t refl c.requires.inside in
    let both = mul-add-lt (t / n / n) n (t / n / n) n first first in
    let square = small-square n n (omega (arith, c.requires.few)) (omega (arith, c.requires.few)) in
    omega (arith, small-cube (t / n / n * n + t / n / n) n (omega (arith, both, square)) (omega (arith, c.requires.few)))

pub overflow_add-result-then-middle-last : goal.overflow_add-result-then-middle-last
overflow_add-result-then-middle-last c =
    let n = c.args.count in
    let t = c.args.triple in
    let first : t / n / n < n = first-below n n t refl c.requires.inside in
    let both = mul-add-lt (t / n / n) n (t / n / n) n first first in
    let square = small-square n n (omega (arith, c.requires.few)) (omega (arith, c.requires.few)) in
    omega (arith, small-cube (t / n / n * n + t / n / n) n (omega (arith, both, square)) (omega (arith, c.requires.few)), last-below n n t refl c.requires.inside, c.requires.few)

pub returns-then-middle-last : goal.returns-then-middle-last
returns-then-middle-last c =
    let n = c.args.count in
    let t = c.args.triple in
    sym (ap (λ (d : Bool). cond d ((t / n / n * n + t / n / n) * n + t % n) t) (eq-eqb (t / n % n) (t % n) c.if-middle-last.true))

pub returns-else-middle-last : goal.returns-else-middle-last
returns-else-middle-last c = sym (unlifted c.args.count c.args.triple c.if-middle-last.false)
