use Rattle.std.proofs.Common.{◌≡◌, ◌*◌, ◌<◌, ℕ, subst, arith}
use Rattle.std.proofs.lemmas.Result.{IfOk-weaker}
use Rattle.rl_numbers.specs.internal.Diagonal.{doubles_in}
use Rattle.rl_numbers.specs.internal.ReachedDoubles.{AreReachedDoubles}
use Rattle.rl_numbers.proofs.TripleLaws.{small-square}
use Rattle.rl_numbers.proofs.numbering.doubles_by.Goals as goal

pub listed_doubles-requires-clause-inside : goal.listed_doubles-requires-clause-inside
listed_doubles-requires-clause-inside c = rw c.states-states.ensures.number c.in-Ok.ensures.inside

pub returns : goal.returns
returns c = IfOk-weaker c.listed_doubles.result (λ l. l ≡ doubles_in c.in_ok-parts.parts c.states-states.result c.in-Ok.keys.keys) (AreReachedDoubles c.args.g.now c.args.starts.now) (λ l same. record {
  keys = c.in-Ok.keys.keys;
  parts = c.in_ok-parts.parts;
  reach = c.in-Ok.ensures.reach;
  inside = c.in-Ok.ensures.inside;
  are_parts = c.in_ok-parts.ensures;
  same = subst (λ (n : ℕ). l ≡ doubles_in c.in_ok-parts.parts n c.in-Ok.keys.keys) c.states-states.ensures.number same;
}) c.listed_doubles.ensures

pub reached-requires : goal.reached-requires
reached-requires c = c.requires.starts

pub listed_doubles-requires-clause-few : goal.listed_doubles-requires-clause-few
listed_doubles-requires-clause-few c = omega (arith, c.requires.few_states, c.states-states.ensures.number)

pub listed_doubles-requires-clause-size : goal.listed_doubles-requires-clause-size
listed_doubles-requires-clause-size c = rw c.states-states.ensures.number c.in_ok-parts.ensures.size

pub listed_doubles-requires-clause-low : goal.listed_doubles-requires-clause-low
listed_doubles-requires-clause-low c = λ i lt.
    let n = c.args.g.now.states in
    let inside = subst (λ (k : ℕ). i < k * k) c.states-states.ensures.number lt in
    omega (arith, c.in_ok-parts.ensures.below i inside, small-square n n (omega (arith, c.requires.few_states)) (omega (arith, c.requires.few_states)))
