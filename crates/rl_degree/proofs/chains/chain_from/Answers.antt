use Rattle.std.proofs.Common.{ℕ, ◌≡◌, ◌∷◌, ◌++◌, [], List, All, length, sym, ap, subst, arith}
use Rattle.std.proofs.lemmas.List.{length_push, append-nil}
use Rattle.std.proofs.lemmas.List.Elements.{All-push}
use Rattle.rl_graph.specs.Graph.{edges_of}
use Rattle.rl_graph.specs.Parts.{number_of}
use Rattle.rl_graph.specs.Twins.{Link, ChainFrom}
use Rattle.rl_degree.specs.internal.Ranks.{best_at}
use Rattle.rl_degree.specs.Chains.{links_of, IsSplitIn}
use Rattle.rl_degree.specs.declared.chains.Split.{Split}
use Rattle.rl_degree.specs.declared.ranks.Best.{Best}
use Rattle.rl_degree.proofs.ChainLaws.{first-there, chain-more}
use Rattle.rl_degree.proofs.chains.chain_from.Goals as goal

pub unreachable-requires : goal.unreachable-requires
unreachable-requires c =
    let g = c.args.g.now in
    let t = c.args.table.now in
    let i = c.loop-best.invariant in
    let f = first-there (edges_of g) g.states t.components c.args.bests.now c.loop-best.state c.loop-best.best c.requires.bests c.requires.table.components i.state_in i.best c.loop-best-test.true in
    let none = rw c.in-None.is at c.in_ok-word.ensures.none in
    none f.split

pub loop-best-preserved : goal.loop-best-preserved
loop-best-preserved c =
    let g = c.args.g.now in
    let next = edges_of g in
    let t = c.args.table.now in
    let bests = c.args.bests.now in
    let i = c.loop-best.invariant in
    let b = c.loop-best.best in
    let links = c.loop-best.links in
    let f = first-there next g.states t.components bests c.loop-best.state b c.requires.bests c.requires.table.components i.state_in i.best c.loop-best-test.true in
    let w = rw c.in-Some.is at c.in_ok-word.ensures.found in
    let s : Split = record { from = b.from; to = b.to; word = c.in-Some.word } in
    let pushed : c.push.new.self ≡ links ++ s ∷ [] = c.in_ok-push-in-Some.ensures.pushed in
    let e : best_at bests c.of-in-Some.result ≡ best_at bests (number_of t.components b.to) = ap (best_at bests) c.of-in-Some.ensures in
    record {
      state_in = f.to_in;
      best = e;
      chain = subst (λ (l : List Split). (ms : List Link) → ChainFrom next b.to ms → ChainFrom next c.args.start (links_of l ++ ms)) (sym pushed) (chain-more next c.args.start c.loop-best.state links s i.chain f.reached w);
      long = omega (arith, i.long, f.rest, ap length pushed, length_push links s, ap (λ (z : Best). z.rank) e);
      states = subst (All (IsSplitIn g.states)) (sym pushed) (All-push (IsSplitIn g.states) links s i.states (record { from_in = f.from_in; to_in = f.to_in }));
    }

pub returns-clause-chain : goal.returns-clause-chain
returns-clause-chain c =
    subst (ChainFrom (edges_of c.args.g.now) c.args.start) (append-nil (links_of c.loop-best.links)) (c.loop-best.invariant.chain [] tt)

pub loop-best-init : goal.loop-best-init
loop-best-init c =
    let g = c.args.g.now in
    let none = c.new-links.ensures in
    let e : best_at c.args.bests.now c.of.result ≡ best_at c.args.bests.now (number_of c.args.table.now.components c.args.start) = ap (best_at c.args.bests.now) c.of.ensures in
    record {
      state_in = c.requires.start_in;
      best = e;
      chain = λ ms h. subst (λ (l : List Split). ChainFrom (edges_of g) c.args.start (links_of l ++ ms)) (sym none) h;
      long = omega (arith, ap length none, ap (λ (z : Best). z.rank) e);
      states = subst (All (IsSplitIn g.states)) (sym none) (λ k d lt. absurd (omega arith));
    }

pub split_word-requires-clause-from_in : goal.split_word-requires-clause-from_in
split_word-requires-clause-from_in c =
    let t = c.args.table.now in
    let i = c.loop-best.invariant in
    let f = first-there (edges_of c.args.g.now) c.args.g.now.states t.components c.args.bests.now c.loop-best.state c.loop-best.best c.requires.bests c.requires.table.components i.state_in i.best c.loop-best-test.true in
    f.from_in

pub split_word-requires-clause-to_in : goal.split_word-requires-clause-to_in
split_word-requires-clause-to_in c =
    let t = c.args.table.now in
    let i = c.loop-best.invariant in
    let f = first-there (edges_of c.args.g.now) c.args.g.now.states t.components c.args.bests.now c.loop-best.state c.loop-best.best c.requires.bests c.requires.table.components i.state_in i.best c.loop-best-test.true in
    f.to_in

pub loop-best-smaller : goal.loop-best-smaller
loop-best-smaller c =
    let t = c.args.table.now in
    let i = c.loop-best.invariant in
    let f = first-there (edges_of c.args.g.now) c.args.g.now.states t.components c.args.bests.now c.loop-best.state c.loop-best.best c.requires.bests c.requires.table.components i.state_in i.best c.loop-best-test.true in
    omega (arith, f.rest, ap (λ (k : ℕ). (best_at c.args.bests.now k).rank) c.of-in-Some.ensures)
