use Rattle.std.proofs.Common.{◌≡◌, ◌<◌, [], ◌∷◌, ◌++◌, ◌≤◌, length, get_or, take, map, ap, sym, ◌∙◌, arith}
use Rattle.std.proofs.lemmas.List.{length-map, get_or-map}
use Rattle.rl_sarif.specs.Keys.{key_in, key_of}
use Rattle.rl_sarif.specs.Known.{is_known}
use Rattle.rl_sarif.proofs.TallyLemmas.{left-next, known-left, next-unknown, next-known, all-unknown}
use Rattle.rl_sarif.proofs.positions.unknown_to.Goals as goal
use Rattle.rl_sarif.proofs.positions.unknown_to.Goals.{then-not-branch+in_ok-push, else-not-branch}

pub loop-position-init : goal.loop-position-init
loop-position-init c = record { rest = λ q. omega (arith, c.in_ok-add_all.ensures q); told = c.new-positions.ensures }

pub loop-position-preserved : goal.loop-position-preserved
loop-position-preserved c =
    let baseline = map key_in c.args.keys.now in
    let entries = c.args.entries.now in
    let keys = map key_of entries in
    let i = c.loop-position.position in
    let key = c.in_ok-key.key in
    let within : i < length keys = omega (arith, c.loop-position-test.true, length-map entries key_of) in
    let here : key_in key ≡ get_or keys i (key_in key) =
    c.in_ok-key.ensures ∙ ap key_of c.index-entries-position.is ∙ sym (get_or-map key_of entries i c.index-entries-position.result (key_in key) c.loop-position-test.true) in
    let known : c.in_ok-take.field-0 ≡ is_known baseline (take i keys) (key_in key) =
    c.in_ok-take.ensures.taken ∙ known-left c.loop-position.tally baseline keys i key c.loop-position.invariant.rest in
    record {
      rest = left-next c.loop-position.tally c.take.new.tally baseline keys i key within here c.loop-position.invariant.rest c.in_ok-take.ensures.rest;
      told = elim c.if-not-branch.branch [
        | then-not-branch+in_ok-push w ↦
            w.positions-is ∙ w.in_ok-push.ensures.pushed ∙ ap (λ ps. ps ++ i ∷ []) c.loop-position.invariant.told
            ∙ sym (next-unknown baseline keys i (key_in key) within here (sym known ∙ w.if-not-branch.true))
        | else-not-branch w ↦
            w.positions-is ∙ c.loop-position.invariant.told ∙ sym (next-known baseline keys i (key_in key) within here (sym known ∙ w.if-not-branch.false))
      ];
    }

pub returns : goal.returns
returns c =
    let baseline = map key_in c.args.keys.now in
    let keys = map key_of c.args.entries.now in
    let past : length keys ≤ c.loop-position.position = omega (arith, c.loop-position-test.false, length-map c.args.entries.now key_of) in
    c.loop-position.invariant.told ∙ all-unknown baseline keys c.loop-position.position past
