use Rattle.std.proofs.Common.{◌≡◌, ℕ, ◌*◌, length, sym, ap, ◌∙◌, arith}
use Rattle.std.proofs.lemmas.Result.{err_from_is_err_and}
use Rattle.rl_ranges.specs.Letters.{LetterTable}
use Rattle.rl_pairs.specs.internal.Finding.{found_of, width}
use Rattle.rl_pairs.proofs.WholeLaws.{answer, all-targets, all-sets, right-pairs, right-sets}
use Rattle.rl_pairs.proofs.pair_graph.pairs.Goals as goal

pub returns-in_err-walk-clause-too_many_pairs : goal.returns-in_err-walk-clause-too_many_pairs
returns-in_err-walk-clause-too_many_pairs c =
    let p = err_from_is_err_and c.from_residual.result c.from_residual.ensures.1 in
    rw (p.1, p.2) (right-pairs c.args.a.now c.args.max_pairs c.in_err-walk.field-0.0 (c.in_err-walk.ensures.errors c.args.max_pairs))

pub returns-in_err-walk-clause-too_many_sets : goal.returns-in_err-walk-clause-too_many_sets
returns-in_err-walk-clause-too_many_sets c =
    let p = err_from_is_err_and c.from_residual.result c.from_residual.ensures.1 in
    rw (p.1, p.2) (right-sets c.args.a.now c.args.max_pairs c.in_err-walk.field-0.0 (c.in_err-walk.ensures.errors c.args.max_pairs))

pub returns-in-Err-clause-too_many_pairs : goal.returns-in-Err-clause-too_many_pairs
returns-in-Err-clause-too_many_pairs c = right-pairs c.args.a.now c.args.max_pairs c.in-Err.error c.in-Err.ensures.errors

pub returns-in-Err-clause-too_many_sets : goal.returns-in-Err-clause-too_many_sets
returns-in-Err-clause-too_many_sets c = right-sets c.args.a.now c.args.max_pairs c.in-Err.error c.in-Err.ensures.errors

pub built-graph-requires : goal.built-graph-requires
built-graph-requires c =
    let a = c.args.a.now in
    let y = c.in-Ok.ensures.whole in
    let f = found_of c.in-Ok.finder in
    let wide : c.in-Some.letters ≡ width a = omega (arith, c.in-Some.ensures.1, c.count.ensures, ap (λ (t : LetterTable). length t.samples) c.letters.ensures) in
    record {
      few = y.found.few;
      sets = all-sets a c.find_all.new.walk f y.found;
      led = y.found.led;
      refused = y.found.refused;
      rows = y.moved.long ∙ ap (λ (n : ℕ). length f.keys * n) (sym wide);
      targets = all-targets (length f.keys) f.rows y.found.targets;
    }

pub returns-in_ok-graph-in-Ok : goal.returns-in_ok-graph-in-Ok
returns-in_ok-graph-in-Ok c =
    let a = c.args.a.now in
    let wide : c.in-Some.letters ≡ width a = omega (arith, c.in-Some.ensures.1, c.count.ensures, ap (λ (t : LetterTable). length t.samples) c.letters.ensures) in
    let r = answer a c.find_all.new.walk (found_of c.in-Ok.finder) c.in_ok-graph-in-Ok.field-0 c.in-Some.letters c.args.max_pairs wide c.in-Ok.ensures.whole c.in_ok-graph-in-Ok.ensures in
    record {
      graph = r.graph;
      numbered = r.numbered;
      few_pairs = r.few_pairs;
      few_sets = r.few_sets;
      letters = r.letters;
      leads = r.leads;
      rests = r.rests;
      refused = r.refused;
      lists = r.lists;
      too_many_pairs = tt;
      too_many_sets = tt;
    }
