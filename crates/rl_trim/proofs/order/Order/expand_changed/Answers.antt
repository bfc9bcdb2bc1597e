use Rattle.std.proofs.Common.{◌≡◌, ◌∙◌, ◌+◌, ◌<◌, ◌-◌, ℕ, suc, length, get_or, false, sym, ap, subst, arith}
use Rattle.rl_ranges.specs.Letters.{LetterTable}
use Rattle.rl_prio.specs.Automaton.{letters_count}
use Rattle.rl_sets.specs.Walk.{Walk}
use Rattle.rl_trim.specs.internal.Trims.{trim_on}
use Rattle.rl_trim.specs.internal.Quick.{IsInside, pair_of}
use Rattle.rl_trim.specs.declared.key.Key.{Key}
use Rattle.rl_trim.specs.declared.order.Order.{Order}
use Rattle.rl_trim.proofs.PairLaws.{key-read}
use Rattle.rl_trim.proofs.ChangeLaws.{next-alike}
use Rattle.rl_trim.proofs.KeyOrder.{IsExpanding, following-start, following-more, following-skip, following-longer, following-done}
use Rattle.rl_trim.proofs.order.Order.expand_changed.Goals as goal
use Rattle.rl_trim.proofs.order.Order.expand_changed.Goals.{then-is_changed+in_ok-visit, else-is_changed}

pub changes_on-requires-clause-made : goal.changes_on-requires-clause-made
changes_on-requires-clause-made c = c.requires.keys.made

pub changes_on-requires-clause-inside : goal.changes_on-requires-clause-inside
changes_on-requires-clause-inside c =
    subst (IsInside c.args.walk.now) (key-read c.args.self.now.keys.keys c.args.place c.index-key.result.now c.index-key.ensures) (c.requires.keys.inside c.args.place c.requires.place_in)

pub loop-letter-init : goal.loop-letter-init
loop-letter-init c = record {
  following = following-start c.args.branch.now.automaton.now c.args.branch.now.keep.now c.args.walk.now c.args.self.now.keys.keys c.args.place c.requires.keys;
  arrived = c.requires.arrived;
}

pub visit-requires-clause-keys : goal.visit-requires-clause-keys
visit-requires-clause-keys c = c.loop-letter.invariant.following.are

pub visit-requires-clause-place_in : goal.visit-requires-clause-place_in
visit-requires-clause-place_in c =
    following-longer c.args.branch.now.automaton.now c.args.branch.now.keep.now c.args.walk.now c.loop-letter.walk c.args.self.now.keys.keys c.loop-letter.self.keys.keys c.args.place c.loop-letter.letter c.loop-letter.invariant.following c.requires.place_in

pub loop-letter-preserved : goal.loop-letter-preserved
loop-letter-preserved c =
    let a = c.args.branch.now.automaton.now in
    let keep = c.args.branch.now.keep.now in
    let v = c.args.walk.now in
    let keys = c.args.self.now.keys.keys in
    let place = c.args.place in
    let walk = c.loop-letter.walk in
    let letter = c.loop-letter.letter in
    let inv = c.loop-letter.invariant in
    elim c.if-is_changed.branch [
      | then-is_changed+in_ok-visit w ↦
          subst (λ (x : Walk). IsExpanding a keep v x keys c.if-is_changed.self.keys.keys c.if-is_changed.self.arrived place (letter + 1)) (sym w.walk-is)
          (subst (λ (o : Order). IsExpanding a keep v w.visit.new.walk keys o.keys.keys o.arrived place (letter + 1)) (sym w.self-is)
          (record {
            following =
                following-more a keep v walk keys c.loop-letter.self.keys.keys place letter inv.following c.requires.place_in
                w.visit.new.walk w.visit.new.self.keys.keys w.in_ok-visit.ensures.grown w.in_ok-visit.ensures.keys w.in_ok-visit.ensures.pairs;
            arrived = w.in_ok-visit.ensures.arrived;
          }))
      | else-is_changed w ↦
          let same = c.is_changed.ensures w.if-is_changed.false in
          let e : c.count-letter-end.result ≡ letters_count a = c.count-letter-end.ensures ∙ ap (λ (t : LetterTable). length t.samples) c.letters.ensures in
          let before : letter ≡ suc (letter - 1) = omega (arith, same.0) in
          let small : suc (letter - 1) < letters_count a = omega (arith, same.0, c.loop-letter-test.true, e) in
          let none : get_or c.in_ok-changed.changed (suc (letter - 1)) false ≡ false = ap (λ (k : ℕ). get_or c.in_ok-changed.changed k false) (sym before) ∙ same.1 in
          let key = key-read keys place c.index-key.result.now c.index-key.ensures in
          let next : trim_on a keep (pair_of v c.index-key.result.now) (letter - 1) ≡ trim_on a keep (pair_of v c.index-key.result.now) (suc (letter - 1)) =
          next-alike a keep c.in_ok-changed.changed (pair_of v c.index-key.result.now) (letter - 1) small none c.in_ok-changed.ensures.first c.in_ok-changed.ensures.second in
          let skip =
          following-skip a keep v walk keys c.loop-letter.self.keys.keys place letter inv.following c.requires.place_in (letter - 1) before
          (subst (λ (k : Key). trim_on a keep (pair_of v k) (letter - 1) ≡ trim_on a keep (pair_of v k) (suc (letter - 1))) (sym key) next) in
          subst (λ (x : Walk). IsExpanding a keep v x keys c.if-is_changed.self.keys.keys c.if-is_changed.self.arrived place (letter + 1)) (sym w.walk-is)
          (subst (λ (o : Order). IsExpanding a keep v walk keys o.keys.keys o.arrived place (letter + 1)) (sym w.self-is)
          (record { following = skip; arrived = inv.arrived }))
    ]

pub returns-clause-pairs : goal.returns-clause-pairs
returns-clause-pairs c =
    let a = c.args.branch.now.automaton.now in
    let e : c.count-letter-end.result ≡ letters_count a = c.count-letter-end.ensures ∙ ap (λ (t : LetterTable). length t.samples) c.letters.ensures in
    let all : c.loop-letter.letter ≡ letters_count a = omega (arith, c.loop-letter-test.false, c.loop-letter.auto, e) in
    following-done a c.args.branch.now.keep.now c.args.walk.now c.loop-letter.walk c.args.self.now.keys.keys c.loop-letter.self.keys.keys c.args.place c.loop-letter.letter c.loop-letter.invariant.following c.requires.place_in all
