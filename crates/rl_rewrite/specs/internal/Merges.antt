-- For the contracts of private functions: the surroundings of a part, by which the rules decide whether its quantifier is
-- taken out. They say whether the part is the body of a repeat, the content of a group that is the body of a repeat, or
-- anything else.
use Rattle.rl_pattern.specs.Suggested.{Around, elsewhere, under, inside}
use Rattle.rl_rewrite.specs.declared.merging.Place.{Place}
use Rattle.rl_rewrite.specs.declared.merging.Place.TheVariants.{Elsewhere, Under, Inside}

-- The surroundings of a part as the rules define them (`Around`), for the program's value for them (`Place`): anywhere else,
-- the body of a repeat, or the content of a group that is the body of a repeat.
abbrev pub around_of : Place → Around
around_of Elsewhere = elsewhere
around_of (Under outer) = under outer.least outer.most
around_of (Inside captures outer) = inside captures outer.least outer.most
