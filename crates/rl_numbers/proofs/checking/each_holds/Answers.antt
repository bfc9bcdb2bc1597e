use Rattle.std.proofs.Common.{◌<◌, ℕ, List, length, get_or, refl, sym, subst, arith, true≢false, below_more}
use Rattle.rl_graph.specs.Paths.{Has}
use Rattle.rl_graph.specs.Graph.{edges_of}
use Rattle.rl_graph.proofs.Sums.{each-has, Each-has, at-has, at-short, at-get_or, Has-get_or}
use Rattle.rl_numbers.specs.declared.triple.Triple.{Triple}
use Rattle.rl_numbers.specs.internal.NumberedFalls.{HoldsIn}
use Rattle.rl_numbers.specs.Numbered.{IsLevel}
use Rattle.rl_numbers.specs.Index.{number_in}
use Rattle.rl_numbers.proofs.RowLoops.{never-both}
use Rattle.rl_numbers.proofs.IndexLaws.{no_triple}
use Rattle.rl_numbers.proofs.checking.each_holds.Goals as goal

at-each : (P : Triple → Type 0) (l : List Triple) → ((i : ℕ) → i < length l → P (get_or l i no_triple)) → (t : Triple) → Has t l → P t
at-each P l h t i = let r = at-has t l i in subst P (at-get_or l r.0 t no_triple r.1) (h r.0 (at-short l r.0 t r.1))

pub steps_fall-requires-clause-ranks : goal.steps_fall-requires-clause-ranks
steps_fall-requires-clause-ranks c = c.requires.ranks

pub steps_fall-requires-clause-level : goal.steps_fall-requires-clause-level
steps_fall-requires-clause-level c =
    subst (λ (n : ℕ). IsLevel n (λ (x : ℕ). get_or c.args.ranks.now x 0) (get_or c.args.triples.now c.loop-triple.triple-index no_triple)) c.requires.ranks (c.is_level.ensures.0 c.if-not-is_level.false)

pub returns-then-not-is_level : goal.returns-then-not-is_level
returns-then-not-is_level c =
    let P = λ (t : Triple). HoldsIn (edges_of c.args.g.now) c.args.g.now.states (number_in c.args.index.now) (λ (x : ℕ). get_or c.args.ranks.now x 0) t in
    let t = get_or c.args.triples.now c.loop-triple.triple-index no_triple in (
      λ e. absurd (true≢false (sym e)),
      λ all. absurd (never-both c.is_level.result c.if-not-is_level.true (c.is_level.ensures.1 (subst (λ (n : ℕ). IsLevel n (λ (x : ℕ). get_or c.args.ranks.now x 0) t) (sym c.requires.ranks) (Each-has P t c.args.triples.now all (Has-get_or c.args.triples.now c.loop-triple.triple-index no_triple c.loop-triple-test.true)).0))),
    )

pub returns-then-not-steps_fall : goal.returns-then-not-steps_fall
returns-then-not-steps_fall c =
    let P = λ (t : Triple). HoldsIn (edges_of c.args.g.now) c.args.g.now.states (number_in c.args.index.now) (λ (x : ℕ). get_or c.args.ranks.now x 0) t in
    let t = get_or c.args.triples.now c.loop-triple.triple-index no_triple in (
      λ e. absurd (true≢false (sym e)),
      λ all. absurd (never-both c.steps_fall.result c.if-not-steps_fall.true (c.steps_fall.ensures.1 (Each-has P t c.args.triples.now all (Has-get_or c.args.triples.now c.loop-triple.triple-index no_triple c.loop-triple-test.true)).1)),
    )

pub returns-then-not-is_apart : goal.returns-then-not-is_apart
returns-then-not-is_apart c =
    let P = λ (t : Triple). HoldsIn (edges_of c.args.g.now) c.args.g.now.states (number_in c.args.index.now) (λ (x : ℕ). get_or c.args.ranks.now x 0) t in
    let t = get_or c.args.triples.now c.loop-triple.triple-index no_triple in (
      λ e. absurd (true≢false (sym e)),
      λ all. absurd (never-both c.is_apart.result c.if-not-is_apart.true (c.is_apart.ensures.1 (Each-has P t c.args.triples.now all (Has-get_or c.args.triples.now c.loop-triple.triple-index no_triple c.loop-triple-test.true)).2)),
    )

pub loop-triple-preserved : goal.loop-triple-preserved
loop-triple-preserved c =
    let rank = λ (x : ℕ). get_or c.args.ranks.now x 0 in
    let t = get_or c.args.triples.now c.loop-triple.triple-index no_triple in
    below_more (λ (i : ℕ). HoldsIn (edges_of c.args.g.now) c.args.g.now.states (number_in c.args.index.now) rank (get_or c.args.triples.now i no_triple)) c.loop-triple.triple-index c.loop-triple.invariant
    (subst (λ (n : ℕ). IsLevel n rank t) c.requires.ranks (c.is_level.ensures.0 c.if-not-is_level.false), c.steps_fall.ensures.0 c.if-not-steps_fall.false, c.is_apart.ensures.0 c.if-not-is_apart.false)

pub returns : goal.returns
returns c =
    let P = λ (t : Triple). HoldsIn (edges_of c.args.g.now) c.args.g.now.states (number_in c.args.index.now) (λ (x : ℕ). get_or c.args.ranks.now x 0) t in
    (λ e. each-has P c.args.triples.now (at-each P c.args.triples.now (λ i lt. c.loop-triple.invariant i (omega (arith, lt, c.loop-triple-test.false)))), λ e. refl)
