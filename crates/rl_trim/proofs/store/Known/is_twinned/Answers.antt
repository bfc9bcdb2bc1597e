use Rattle.std.proofs.Common.{◌∙◌, Bool, Some, Vec, Global, sym, ap}
use Rattle.std.specs.Option.{option_map}
use Rattle.std.specs.Cmp.{booleans_Decides}
use Rattle.std.proofs.lemmas.Slice.Eq.{slice_eq-Decides}
use Rattle.rl_trim.proofs.store.Known.is_twinned.Goals as goal

pub returns-in-Some : goal.returns-in-Some
returns-in-Some c =
    λ e. ap (option_map (λ (flags : Vec Bool Global). flags.items)) c.in-Some.is
    ∙ ap Some (sym c.as_slice.ensures.value ∙ (slice_eq-Decides booleans_Decides c.as_slice.result.now c.args.dropped.now c.eq.result c.eq.ensures).0 e)
