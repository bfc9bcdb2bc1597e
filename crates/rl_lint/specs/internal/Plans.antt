-- For private contracts: the ending that a plan leads to.
use Rattle.std.specs.Prelude.{Bool, true, false}
use Rattle.std.specs.String.{string_bytes}
use Rattle.rl_lint.specs.Endings.{Ending, refuses, unreadable, writes}
use Rattle.rl_report.specs.Names.{Text}
use Rattle.rl_lint.specs.declared.plan.Message.{Message}
use Rattle.rl_lint.specs.declared.plan.Message.TheVariants.{Fixed, Made}
use Rattle.rl_lint.specs.declared.plan.Plan.{Plan}
use Rattle.rl_lint.specs.declared.plan.Plan.TheVariants.{Refuses, Unreadable, Writes}

-- The text of a message, as its bytes.
abbrev pub message_text : Message → Text
message_text (Fixed text) = text.now
message_text (Made text) = string_bytes text

-- The ending that a plan of the program leads to: `refuses`, `unreadable` or `writes`, like the plan, with the same text and
-- flags.
abbrev pub ending_of : Plan → Ending
ending_of (Refuses message) = refuses (message_text message)
ending_of (Unreadable message) = unreadable (message_text message)
ending_of (Writes text finding failed) = writes text finding failed

-- Whether the run refuses what it was asked for: its ending is `refuses`.
abbrev pub is_refusal : Ending → Bool
is_refusal (refuses message) = true
is_refusal _ = false

-- Whether the run met a call of the tree that failed: its ending is `unreadable`, or `writes` with the flag for a failed call.
abbrev pub has_fault : Ending → Bool
has_fault (refuses message) = false
has_fault (unreadable message) = true
has_fault (writes text finding failed) = failed
