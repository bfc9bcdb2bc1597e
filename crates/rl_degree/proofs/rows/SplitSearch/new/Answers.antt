use Rattle.std.proofs.Common.{◌≡◌, ℕ, ◌<◌, Bool, List, [], ◌∷◌, true, length, replicate, get_or, set, sym, ap, ap₂, subst, ◌∙◌}
use Rattle.std.proofs.lemmas.List.{get_or_read, length-replicate}
use Rattle.rl_degree.specs.internal.Moves.{with_cell}
use Rattle.rl_degree.specs.internal.Rows.{SearchState, row_with}
use Rattle.rl_degree.specs.declared.rows.Step.{Step}
use Rattle.rl_degree.specs.declared.rows.Found.{Found}
use Rattle.rl_degree.proofs.rows.SplitSearch.new.Goals as goal

pub returns : goal.returns
returns c =
    let rows = c.in_ok-seen.seen.items in
    let place = c.args.place in
    let from = c.args.from in
    let small : place < length rows = subst (λ (n : ℕ). place < n) (sym (ap length c.in_ok-seen.ensures ∙ length-replicate c.args.pairs c.args.hopeless.now)) c.requires.place_in in
    let row : c.index_mut.result.now ≡ get_or rows place [] = get_or_read rows place c.index_mut.result.now small c.index_mut.ensures.value [] in
    let seen : set rows place c.set.new.self ≡ with_cell (replicate c.args.pairs c.args.hopeless.now) place from =
    ap (set rows place) (c.set.ensures ∙ ap (λ (r : List Bool). set r from true) row) ∙ ap (λ (l : List (List Bool)). with_cell l place from) c.in_ok-seen.ensures in
    let stand : List (List Bool) → List Step → List Found → SearchState = λ l t q. record { keeps = c.args.keeps; place = place; from = from; to = c.args.to; seen = l; steps = t; queue = q } in
    ap (λ (t : List Step). stand (set rows place c.set.new.self) t c.in_ok-queue.queue.items) c.new.ensures.items ∙ ap₂ (λ (l : List (List Bool)) (q : List Found). stand l [] q) seen (c.in_ok-queue.ensures ∙ ap (λ (n : ℕ). record { step = 0; place = place; middle = row_with n from } ∷ []) c.len.ensures)
