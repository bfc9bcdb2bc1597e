use Rattle.rl_pattern.proofs.Looks.{look_means, body_looks, dollar_agrees}
use Rattle.rl_pattern.proofs.laws.looks_mean_their_bodies.Goals as goal

pub returns-clause-guard : goal.returns-clause-guard
returns-clause-guard c = look_means

pub returns-clause-side : goal.returns-clause-side
returns-clause-side c = body_looks

pub returns-clause-line_feed : goal.returns-clause-line_feed
returns-clause-line_feed c = dollar_agrees
