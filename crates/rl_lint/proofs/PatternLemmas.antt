-- The endings of actions that first parse a pattern argument.
use Rattle.std.proofs.Common.{◌≡◌, ◌∙◌, ℕ, List, Option, Some, Result, Ok, Err, IfOk, ap, sym}
use Rattle.rl_syntax.specs.Pattern.{pattern_ending, pattern_tree}
use Rattle.rl_syntax.specs.Tree.{Tree}
use Rattle.rl_syntax.specs.declared.pattern.Pattern.{Pattern}
use Rattle.rl_syntax.specs.declared.re.Ending.{Ending as MatchEnd}
use Rattle.rl_syntax.specs.declared.re.Mode.{Mode}
use Rattle.rl_walk.specs.Visits.{Moment}
use Rattle.rl_lint.specs.Endings.{Ending, refuses}
use Rattle.rl_lint.specs.internal.Plans.{ending_of, message_text}
use Rattle.rl_lint.specs.Patterns.{ParsesThen, pattern_parsed, pattern_refused}
use Rattle.rl_report.specs.Names.{Text}
use Rattle.rl_lint.specs.VerifyEnding.{IsVerifyEnding, TreeVerifies, verify_parsed, verify_refused}
use Rattle.rl_lint.specs.declared.pattern_argument.PatternArgument.TheVariants.{Refused, Parsed}
use Rattle.rl_lint.specs.declared.plan.Message.{Message}
use Rattle.rl_lint.specs.declared.plan.Plan.{Plan}
use Rattle.rl_lint.specs.internal.Parsed.{IsArgument}

-- The message that was built is the one that is asked for.
pub message-asked : {E : Type 0} (result : Result Message E) (asked : Option Text) (text : Text) → asked ≡ Some text → IfOk result (λ message. message_text message ≡ text)
    → IfOk result (λ message. asked ≡ Some (message_text message))
message-asked (Ok message) asked text is made = is ∙ ap Some (sym made)
message-asked (Err error) asked text is made = tt

module _ (pattern : List ℕ) (mode : Mode) (Next : Tree → MatchEnd → Ending → Type 0) where
  pub ends-refused : (message : Message) → IsArgument pattern (Refused message) → ParsesThen pattern mode Next (refuses (message_text message))
  ends-refused message read = pattern_refused read

  pub ends-parsed : {E : Type 0} (result : Result Plan E) (p : Pattern) → IsArgument pattern (Parsed p)
      → IfOk result (λ plan. Next (pattern_tree p mode) (pattern_ending p mode) (ending_of plan))
      → IfOk result (λ plan. ParsesThen pattern mode Next (ending_of plan))
  ends-parsed (Ok plan) p read next = pattern_parsed read.0 next
  ends-parsed (Err error) p read next = tt

module _ (max_pairs : ℕ) (mode : Mode) (pattern : List ℕ) (file : Text) (old new : Moment) where
  pub verifies-refused : (message : Message) → IsArgument pattern (Refused message) → new ≡ old
      → IsVerifyEnding max_pairs mode pattern file old new (refuses (message_text message))
  verifies-refused message read still = verify_refused read still

  pub verifies-parsed : {E : Type 0} (result : Result Plan E) (p : Pattern) → IsArgument pattern (Parsed p)
      → IfOk result (λ plan. TreeVerifies max_pairs file (pattern_tree p mode) (pattern_ending p mode) old new (ending_of plan))
      → IfOk result (λ plan. IsVerifyEnding max_pairs mode pattern file old new (ending_of plan))
  verifies-parsed (Ok plan) p read next = verify_parsed read.0 next
  verifies-parsed (Err error) p read next = tt

-- A plan that was made without the tree.
pub asked-nothing : {E : Type 0} (Ends : Ending → Type 0) (old new : Moment) (result : Result Plan E) → new ≡ old → IfOk result (λ plan. Ends (ending_of plan))
    → IfOk result (λ plan. (new ≡ old) × Ends (ending_of plan))
asked-nothing Ends old new (Ok plan) still ends = (still, ends)
asked-nothing Ends old new (Err error) still ends = tt
