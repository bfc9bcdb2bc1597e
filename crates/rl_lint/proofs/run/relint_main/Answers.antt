use Rattle.std.proofs.Common.{ap}
use Rattle.rl_lint.specs.internal.Plans.{ending_of, has_fault, is_refusal}
use Rattle.rl_lint.proofs.run.relint_main.Goals as goal

pub returns-in-Ok-Refuses-clause-refused : goal.returns-in-Ok-Refuses-clause-refused
returns-in-Ok-Refuses-clause-refused g c = λ two. c.in-Ok-Refuses.ensures.refused (ap (λ p. is_refusal (ending_of p)) c.in-Ok-Refuses.field-0-is)

pub returns-in-Ok-Refuses-clause-complete : goal.returns-in-Ok-Refuses-clause-complete
returns-in-Ok-Refuses-clause-complete g c = λ taken still kept.
    absurd (taken (c.in-Ok-Refuses.ensures.refused (ap (λ p. is_refusal (ending_of p)) c.in-Ok-Refuses.field-0-is)))

pub returns-in-Ok-Refuses-clause-trail : goal.returns-in-Ok-Refuses-clause-trail
returns-in-Ok-Refuses-clause-trail g c = c.in-Ok-Refuses.ensures.trail

pub returns-in-Ok-Unreadable-clause-read_fault : goal.returns-in-Ok-Unreadable-clause-read_fault
returns-in-Ok-Unreadable-clause-read_fault g c = λ three. c.in-Ok-Unreadable.ensures.cause (ap (λ p. has_fault (ending_of p)) c.in-Ok-Unreadable.field-0-is)

pub returns-in-Ok-Unreadable-clause-complete : goal.returns-in-Ok-Unreadable-clause-complete
returns-in-Ok-Unreadable-clause-complete g c = λ taken still kept.
    absurd (still (c.in-Ok-Unreadable.ensures.cause (ap (λ p. has_fault (ending_of p)) c.in-Ok-Unreadable.field-0-is)))

pub returns-in-Ok-Unreadable-clause-trail : goal.returns-in-Ok-Unreadable-clause-trail
returns-in-Ok-Unreadable-clause-trail g c = c.in-Ok-Unreadable.ensures.trail

pub returns-in-Ok-clause-trail : goal.returns-in-Ok-clause-trail
returns-in-Ok-clause-trail g c = c.in-Ok-Writes.ensures.trail

pub returns-in-Ok-Writes-clause-trail : goal.returns-in-Ok-Writes-clause-trail
returns-in-Ok-Writes-clause-trail g c = c.in-Ok-Writes.ensures.trail
