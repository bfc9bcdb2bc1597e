use Rattle.std.proofs.Common.{ℕ, ◌*◌, ◌<◌, All, refl, sym, subst, ap, ◌∙◌}
use Rattle.rl_graph.specs.Graph.{Graph}
use Rattle.rl_pairs.specs.internal.Finding.{found_of}
use Rattle.rl_pairs.proofs.pair_graph.built.Goals as goal

pub count-states-requires : goal.count-states-requires
count-states-requires c = c.requires.few

pub from_rows-graph-requires : goal.from_rows-graph-requires
from_rows-graph-requires c = record {
  size = c.requires.rows ∙ ap (λ (n : ℕ). n * c.args.letters) (sym c.count-states.ensures.count);
  targets = subst (λ (n : ℕ). All (All (λ k. k < n)) (found_of c.args.finder).rows) (sym c.count-states.ensures.count) c.requires.targets;
}

pub returns : goal.returns
returns c = record {
  graph = c.from_rows-graph.ensures ∙ ap (λ (n : ℕ). let g : Graph = record { states = n; letters = c.args.letters; rows = (found_of c.args.finder).rows } in g) c.count-states.ensures.count;
  pairs = c.in-Ok.ensures;
  leads = refl;
  rests = refl;
}
