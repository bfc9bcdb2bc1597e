use Rattle.std.proofs.Common.{refl}
use Rattle.rl_syntax.specs.Pattern.{pattern_ending, pattern_tree}
use Rattle.rl_compare.specs.declared.error.CompareError.TheVariants as error
use Rattle.rl_lint.proofs.CompareLemmas.{are-texts, names-passed, writes-regions}
use Rattle.rl_lint.proofs.compare.patterns_plan.Goals as goal

pub compared_plan-plan-requires : goal.compared_plan-plan-requires
compared_plan-plan-requires c =
    are-texts (pattern_tree c.args.first.now c.args.mode) (pattern_ending c.args.first.now c.args.mode)
    (pattern_tree c.args.second.now c.args.mode) (pattern_ending c.args.second.now c.args.mode) c.in-Ok.compared c.in-Ok.ensures.found

pub returns-in-Ok : goal.returns-in-Ok
returns-in-Ok c =
    writes-regions (pattern_tree c.args.first.now c.args.mode) (pattern_ending c.args.first.now c.args.mode)
    (pattern_tree c.args.second.now c.args.mode) (pattern_ending c.args.second.now c.args.mode)
    c.compared_plan-plan.result c.in-Ok.compared c.in-Ok.ensures.found c.compared_plan-plan.ensures

pub returns-in-Err-Size : goal.returns-in-Err-Size
returns-in-Err-Size c =
    names-passed (pattern_tree c.args.first.now c.args.mode) (pattern_ending c.args.first.now c.args.mode)
    (pattern_tree c.args.second.now c.args.mode) (pattern_ending c.args.second.now c.args.mode)
    c.limit_plan.result c.in-Err-Size.field-0 error.Size _ c.in-Err-Size.field-0-is c.in-Err-Size.ensures.passed refl c.limit_plan.ensures

pub returns-in-Err-Letters : goal.returns-in-Err-Letters
returns-in-Err-Letters c =
    names-passed (pattern_tree c.args.first.now c.args.mode) (pattern_ending c.args.first.now c.args.mode)
    (pattern_tree c.args.second.now c.args.mode) (pattern_ending c.args.second.now c.args.mode)
    c.limit_plan-in-Err-Letters.result c.in-Err-Letters.field-0 error.Letters _ c.in-Err-Letters.field-0-is c.in-Err-Letters.ensures.passed refl c.limit_plan-in-Err-Letters.ensures

pub returns-in-Err-Moves : goal.returns-in-Err-Moves
returns-in-Err-Moves c =
    names-passed (pattern_tree c.args.first.now c.args.mode) (pattern_ending c.args.first.now c.args.mode)
    (pattern_tree c.args.second.now c.args.mode) (pattern_ending c.args.second.now c.args.mode)
    c.limit_plan-in-Err-Moves.result c.in-Err-Moves.field-0 error.Moves _ c.in-Err-Moves.field-0-is c.in-Err-Moves.ensures.passed refl c.limit_plan-in-Err-Moves.ensures
