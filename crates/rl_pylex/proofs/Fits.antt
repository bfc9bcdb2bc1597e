-- What the rule of literals takes, given the size of a prefix and the size of the literal.
use Rattle.std.proofs.Common.{ℕ, List, Option}
use Rattle.std.specs.Option.{option_map_or}
use Rattle.rl_pylex.specs.declared.rules.Fit.{Fit}
use Rattle.rl_pylex.specs.declared.rules.Fit.TheVariants.{Passes, Takes, Breaks}
use Rattle.rl_pylex.specs.Literals.{size_after}

abbrev pub fit_of_size : Option ℕ → Fit
fit_of_size size = option_map_or Takes size Breaks

abbrev pub fit_after : Option ℕ → List ℕ → Fit
fit_after prefix text = option_map_or (λ n. fit_of_size (size_after n text)) prefix Passes
