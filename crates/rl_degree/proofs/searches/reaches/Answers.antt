use Rattle.std.proofs.Common.{◌≡◌, ◌<◌, ℕ, Bool, List, [], false, length, get_or, ◌∙◌, ap, ap₂, arith}
use Rattle.std.proofs.lemmas.List.{get_or_read}
use Rattle.rl_graph.specs.Parts.{number_of}
use Rattle.rl_degree.proofs.searches.reaches.Goals as goal

pub index-row-requires : goal.index-row-requires
index-row-requires c =
    omega (arith, c.of.ensures, c.requires.table.components.below c.args.from c.requires.from_in, c.requires.table.reached.size, c.args.table.now.reached.ok.0)

pub get-requires : goal.get-requires
get-requires c =
    let t = c.args.table.now in
    let k = number_of t.components c.args.from in
    let lt : c.of.result < length t.reached.items = omega (arith, c.of.ensures, c.requires.table.components.below c.args.from c.requires.from_in, c.requires.table.reached.size) in
    let e : c.index-row.result.now ≡ get_or t.reached.items c.of.result [] = get_or_read t.reached.items c.of.result c.index-row.result.now lt c.index-row.ensures [] in
    omega (arith, ap length e, ap (λ z. length (get_or t.reached.items z [])) c.of.ensures, c.requires.table.reached.wide k (c.requires.table.components.below c.args.from c.requires.from_in), c.of-2.ensures, c.requires.table.components.below c.args.to c.requires.to_in)

pub returns : goal.returns
returns c =
    let t = c.args.table.now in
    let lt : c.of.result < length t.reached.items = omega (arith, c.of.ensures, c.requires.table.components.below c.args.from c.requires.from_in, c.requires.table.reached.size) in
    let e : c.index-row.result.now ≡ get_or t.reached.items c.of.result [] = get_or_read t.reached.items c.of.result c.index-row.result.now lt c.index-row.ensures [] in
    let row : c.index-row.result.now ≡ get_or t.reached.items (number_of t.components c.args.from) [] = e ∙ ap (λ z. get_or t.reached.items z []) c.of.ensures in
    c.get.ensures ∙ ap₂ (λ (r : List Bool) (z : ℕ). get_or r z false) row c.of-2.ensures
