use Rattle.std.proofs.Common.{arith}
use Rattle.rl_lanes.proofs.NextLemmas.{first_word_found, first_word_empty, word_found, word_empty, no_word_left}
use Rattle.rl_lanes.proofs.row.next_bit.Goals as goal

pub returns-then-word-ne0-clause-found : goal.returns-then-word-ne0-clause-found
returns-then-word-ne0-clause-found c = first_word_found c.args.words.now c.args.i c.from_bit-word.result c.lowest.result (record { below = c.from_bit-word.ensures.below; kept = c.from_bit-word.ensures.kept }) c.lowest.ensures.bound c.lowest.ensures.set c.lowest.ensures.below

pub loop-at-init : goal.loop-at-init
loop-at-init c = first_word_empty c.args.words.now c.args.i c.from_bit-word.result (record { below = c.from_bit-word.ensures.below; kept = c.from_bit-word.ensures.kept }) c.if-word-ne0.false

pub returns-then-word-ne0-2-clause-found : goal.returns-then-word-ne0-2-clause-found
returns-then-word-ne0-2-clause-found c = word_found c.args.words.now c.args.i c.loop-at.at c.lowest-then-word-ne0-2.result (omega arith) c.loop-at.invariant c.lowest-then-word-ne0-2.ensures.bound c.lowest-then-word-ne0-2.ensures.set c.lowest-then-word-ne0-2.ensures.below

pub loop-at-preserved : goal.loop-at-preserved
loop-at-preserved c = word_empty c.args.words.now c.args.i c.loop-at.at c.loop-at.invariant c.if-word-ne0-2.false

pub returns-clause-none : goal.returns-clause-none
returns-clause-none c = no_word_left c.args.words.now c.args.i c.loop-at.at c.loop-at.invariant (omega arith)
