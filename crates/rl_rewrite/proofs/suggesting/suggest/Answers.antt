-- The trials and the rule of quantifiers give the suggestion.
use Rattle.std.proofs.Common.{◌≡◌, ap, ◌∙◌}
use Rattle.rl_syntax.specs.Pattern.{body_of, universe_of}
use Rattle.rl_pattern.specs.Cut.{remaining}
use Rattle.rl_pattern.specs.Suggested.{among, no_span, merged_in, text_if}
use Rattle.rl_pattern.proofs.Undropped.{read_goes}
use Rattle.rl_rewrite.proofs.Joining.{right_suggestion, dropped_are_placed, passed_are_placed, merged_placed, text_is_text}
use Rattle.rl_rewrite.proofs.suggesting.suggest.Goals as goal

pub tries_of-requires-clause-before : goal.tries_of-requires-clause-before
tries_of-requires-clause-before c = read_goes c.args.flags (universe_of c.args.p.now) c.args.codes.now c.args.p.now c.requires.parsed

pub returns-clause-right : goal.returns-clause-right
returns-clause-right c =
    let body = body_of c.args.p.now in
    let dropped = c.in_ok-tries.tries.dropped in
    let quantifiers : c.in-Ok.merged ≡ merged_in (remaining (among dropped) no_span body) = c.in-Ok.ensures ∙ ap (λ d. merged_in (remaining (among d) no_span body)) c.as_slice.ensures in
    let spelled : c.in-Ok-spelled.text ≡ text_if body dropped c.in-Ok.merged c.args.codes.now = c.in-Ok-spelled.ensures ∙ ap (λ b. text_if b c.as_slice-2.result.now c.as_slice-3.result.now c.args.codes.now) c.body.ensures.same ∙ ap (λ d. text_if body d c.as_slice-3.result.now c.args.codes.now) c.as_slice-2.ensures ∙ ap (λ m. text_if body dropped m c.args.codes.now) c.as_slice-3.ensures in
    right_suggestion c.args.flags c.args.p.now c.args.codes.now c.args.limit c.requires.parsed dropped c.in-Ok.merged c.in_ok-tries.tries.passed c.in-Ok-spelled.text (read_goes c.args.flags (universe_of c.args.p.now) c.args.codes.now c.args.p.now c.requires.parsed) c.in_ok-tries.ensures.guarded c.in_ok-tries.ensures.tried quantifiers spelled

pub returns-clause-dropped_placed : goal.returns-clause-dropped_placed
returns-clause-dropped_placed c =
    let body = body_of c.args.p.now in
    let dropped = c.in_ok-tries.tries.dropped in
    let quantifiers : c.in-Ok.merged ≡ merged_in (remaining (among dropped) no_span body) = c.in-Ok.ensures ∙ ap (λ d. merged_in (remaining (among d) no_span body)) c.as_slice.ensures in
    let spelled : c.in-Ok-spelled.text ≡ text_if body dropped c.in-Ok.merged c.args.codes.now = c.in-Ok-spelled.ensures ∙ ap (λ b. text_if b c.as_slice-2.result.now c.as_slice-3.result.now c.args.codes.now) c.body.ensures.same ∙ ap (λ d. text_if body d c.as_slice-3.result.now c.args.codes.now) c.as_slice-2.ensures ∙ ap (λ m. text_if body dropped m c.args.codes.now) c.as_slice-3.ensures in
    dropped_are_placed c.args.flags c.args.p.now c.args.codes.now c.args.limit c.requires.parsed dropped c.in-Ok.merged c.in_ok-tries.tries.passed c.in-Ok-spelled.text (read_goes c.args.flags (universe_of c.args.p.now) c.args.codes.now c.args.p.now c.requires.parsed) c.in_ok-tries.ensures.guarded c.in_ok-tries.ensures.tried quantifiers spelled

pub returns-clause-merged_placed : goal.returns-clause-merged_placed
returns-clause-merged_placed c =
    let body = body_of c.args.p.now in
    let dropped = c.in_ok-tries.tries.dropped in
    let quantifiers : c.in-Ok.merged ≡ merged_in (remaining (among dropped) no_span body) = c.in-Ok.ensures ∙ ap (λ d. merged_in (remaining (among d) no_span body)) c.as_slice.ensures in
    let spelled : c.in-Ok-spelled.text ≡ text_if body dropped c.in-Ok.merged c.args.codes.now = c.in-Ok-spelled.ensures ∙ ap (λ b. text_if b c.as_slice-2.result.now c.as_slice-3.result.now c.args.codes.now) c.body.ensures.same ∙ ap (λ d. text_if body d c.as_slice-3.result.now c.args.codes.now) c.as_slice-2.ensures ∙ ap (λ m. text_if body dropped m c.args.codes.now) c.as_slice-3.ensures in
    merged_placed c.args.flags c.args.p.now c.args.codes.now c.args.limit c.requires.parsed dropped c.in-Ok.merged c.in_ok-tries.tries.passed c.in-Ok-spelled.text (read_goes c.args.flags (universe_of c.args.p.now) c.args.codes.now c.args.p.now c.requires.parsed) c.in_ok-tries.ensures.guarded c.in_ok-tries.ensures.tried quantifiers spelled

pub returns-clause-passed_placed : goal.returns-clause-passed_placed
returns-clause-passed_placed c =
    let body = body_of c.args.p.now in
    let dropped = c.in_ok-tries.tries.dropped in
    let quantifiers : c.in-Ok.merged ≡ merged_in (remaining (among dropped) no_span body) = c.in-Ok.ensures ∙ ap (λ d. merged_in (remaining (among d) no_span body)) c.as_slice.ensures in
    let spelled : c.in-Ok-spelled.text ≡ text_if body dropped c.in-Ok.merged c.args.codes.now = c.in-Ok-spelled.ensures ∙ ap (λ b. text_if b c.as_slice-2.result.now c.as_slice-3.result.now c.args.codes.now) c.body.ensures.same ∙ ap (λ d. text_if body d c.as_slice-3.result.now c.args.codes.now) c.as_slice-2.ensures ∙ ap (λ m. text_if body dropped m c.args.codes.now) c.as_slice-3.ensures in
    passed_are_placed c.args.flags c.args.p.now c.args.codes.now c.args.limit c.requires.parsed dropped c.in-Ok.merged c.in_ok-tries.tries.passed c.in-Ok-spelled.text (read_goes c.args.flags (universe_of c.args.p.now) c.args.codes.now c.args.p.now c.requires.parsed) c.in_ok-tries.ensures.guarded c.in_ok-tries.ensures.tried quantifiers spelled

pub returns-clause-texts : goal.returns-clause-texts
returns-clause-texts c =
    let body = body_of c.args.p.now in
    let dropped = c.in_ok-tries.tries.dropped in
    let quantifiers : c.in-Ok.merged ≡ merged_in (remaining (among dropped) no_span body) = c.in-Ok.ensures ∙ ap (λ d. merged_in (remaining (among d) no_span body)) c.as_slice.ensures in
    let spelled : c.in-Ok-spelled.text ≡ text_if body dropped c.in-Ok.merged c.args.codes.now = c.in-Ok-spelled.ensures ∙ ap (λ b. text_if b c.as_slice-2.result.now c.as_slice-3.result.now c.args.codes.now) c.body.ensures.same ∙ ap (λ d. text_if body d c.as_slice-3.result.now c.args.codes.now) c.as_slice-2.ensures ∙ ap (λ m. text_if body dropped m c.args.codes.now) c.as_slice-3.ensures in
    text_is_text c.args.flags c.args.p.now c.args.codes.now c.args.limit c.requires.parsed dropped c.in-Ok.merged c.in_ok-tries.tries.passed c.in-Ok-spelled.text (read_goes c.args.flags (universe_of c.args.p.now) c.args.codes.now c.args.p.now c.requires.parsed) c.in_ok-tries.ensures.guarded c.in_ok-tries.ensures.tried quantifiers spelled
