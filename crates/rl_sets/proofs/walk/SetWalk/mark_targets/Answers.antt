use Rattle.std.proofs.Common.{◌≡◌, Bool, ℕ, List, slice_get, refl, sym, ap, ◌∙◌, subst}
use Rattle.rl_sets.specs.declared.walk.SetWalk.TheInside.{Inside}
use Rattle.rl_sets.specs.Rows.{marked, members_of}
use Rattle.rl_sets.specs.Split.{IsShaped}
use Rattle.rl_sets.specs.Walk.{Walk, AreFields, AreKept}
use Rattle.rl_sets.specs.internal.Moves.{targets_of, IsReached}
use Rattle.rl_sets.proofs.RowLemmas.{reached-by_moves}
use Rattle.rl_sets.proofs.WalkLemmas.{row_long, row_members, kept_moves, kept_targets_wide, kept_unsplit_wide, kept_reached, AreKept-none, AreKept-more}
use Rattle.rl_sets.proofs.walk.SetWalk.mark_targets.Goals as goal
use Rattle.rl_sets.proofs.walk.SetWalk.mark_targets.Goals.{then-len-eq-RECENT, else-len-eq-RECENT}

pub returns-in_default-clause-reached : goal.returns-in_default-clause-reached
returns-in_default-clause-reached c =
    let a = c.args.a.now in
    let w = c.self.inside in
    let row = c.index-members.result.now in
    let members = row_members a _ c.args.self.now w.rows.keys w.split w.recent.items row c.args.set c.self.view_is c.requires.made c.self.invariant c.index-members.ensures refl in
    subst (λ (x : List ℕ). IsReached a x c.args.letter c.mark_moves.new.row) members
    (reached-by_moves a c.args.letter (members_of row) c.mark_moves.new.row (c.mark_moves.ensures ∙ ap (λ (r : List Bool). marked r (targets_of a (members_of row) c.args.letter)) c.requires.bare))

-- ---- by kept moves
pub mark-requires-clause-targets_wide : goal.mark-requires-clause-targets_wide
mark-requires-clause-targets_wide c =
    let w = c.self.inside in
    let moves = kept_moves w.rows.keys c.index-members.result.now w.split c.in-Some.split w.recent.items c.deref-moves-items.result.now c.moves-item.result c.args.set c.loop-moves.moves-index c.self.invariant.recent c.in-Some.is c.deref-moves-items.ensures.value c.loop-moves-test.true c.moves-item.is c.if-moves-set.true c.index-members.ensures in
    kept_targets_wide c.args.a.now _ c.args.self.now w.rows.keys w.split w.recent.items c.index-members.result.now c.args.set c.self.view_is c.requires.made c.self.invariant c.index-members.ensures c.in-Some.split c.moves-item.result c.args.letter c.requires.letter_in c.in-Some.is moves

pub mark-requires-clause-unsplit_wide : goal.mark-requires-clause-unsplit_wide
mark-requires-clause-unsplit_wide c =
    let w = c.self.inside in
    let moves = kept_moves w.rows.keys c.index-members.result.now w.split c.in-Some.split w.recent.items c.deref-moves-items.result.now c.moves-item.result c.args.set c.loop-moves.moves-index c.self.invariant.recent c.in-Some.is c.deref-moves-items.ensures.value c.loop-moves-test.true c.moves-item.is c.if-moves-set.true c.index-members.ensures in
    kept_unsplit_wide c.args.a.now _ c.args.self.now w.rows.keys w.split w.recent.items c.index-members.result.now c.args.set c.self.view_is c.requires.made c.self.invariant c.index-members.ensures c.in-Some.split c.moves-item.result c.args.letter c.requires.letter_in c.in-Some.is moves

pub returns-then-moves-set-clause-reached : goal.returns-then-moves-set-clause-reached
returns-then-moves-set-clause-reached c =
    let w = c.self.inside in
    let moves = kept_moves w.rows.keys c.index-members.result.now w.split c.in-Some.split w.recent.items c.deref-moves-items.result.now c.moves-item.result c.args.set c.loop-moves.moves-index c.self.invariant.recent c.in-Some.is c.deref-moves-items.ensures.value c.loop-moves-test.true c.moves-item.is c.if-moves-set.true c.index-members.ensures in
    kept_reached c.args.a.now _ c.args.self.now w.rows.keys w.split w.recent.items c.index-members.result.now c.args.set c.self.view_is c.requires.made c.self.invariant c.index-members.ensures c.in-Some.split c.moves-item.result c.args.letter c.requires.letter_in c.in-Some.is moves refl c.mark.new.row c.mark.ensures

-- ---- by new moves
pub moves_of-requires : goal.moves_of-requires
moves_of-requires c =
    let w = c.self.inside in
    let long = row_long c.args.a.now _ c.args.self.now w.rows.keys w.split w.recent.items c.index-members.result.now c.args.set c.self.view_is c.requires.made c.self.invariant c.index-members.ensures in
    let is = c.requires.made.split c.in-Some.split (ap (λ (w : Walk). w.kept.split) (sym c.self.view_is) ∙ c.in-Some.is) in
    subst (λ (n : ℕ). IsShaped n c.in-Some.split) (sym long) is.shape

pub mark-requires-2-clause-targets_wide : goal.mark-requires-2-clause-targets_wide
mark-requires-2-clause-targets_wide c =
    let w = c.self.inside in
    kept_targets_wide c.args.a.now _ c.args.self.now w.rows.keys w.split w.recent.items c.index-members.result.now c.args.set c.self.view_is c.requires.made c.self.invariant c.index-members.ensures c.in-Some.split c.in_ok-moves.moves c.args.letter c.requires.letter_in c.in-Some.is c.in_ok-moves.ensures.moves

pub mark-requires-2-clause-unsplit_wide : goal.mark-requires-2-clause-unsplit_wide
mark-requires-2-clause-unsplit_wide c =
    let w = c.self.inside in
    kept_unsplit_wide c.args.a.now _ c.args.self.now w.rows.keys w.split w.recent.items c.index-members.result.now c.args.set c.self.view_is c.requires.made c.self.invariant c.index-members.ensures c.in-Some.split c.in_ok-moves.moves c.args.letter c.requires.letter_in c.in-Some.is c.in_ok-moves.ensures.moves

pub returns-clause-reached : goal.returns-clause-reached
returns-clause-reached c =
    let w = c.self.inside in
    kept_reached c.args.a.now _ c.args.self.now w.rows.keys w.split w.recent.items c.index-members.result.now c.args.set c.self.view_is c.requires.made c.self.invariant c.index-members.ensures c.in-Some.split c.in_ok-moves.moves c.args.letter c.requires.letter_in c.in-Some.is c.in_ok-moves.ensures.moves refl c.mark-2.new.row c.mark-2.ensures

pub invariant_of-self-2 : goal.invariant_of-self-2
invariant_of-self-2 c =
    let w = c.self.inside in
    let IsAlike = λ (x : Inside). AreFields x.states x.limit x.rows.keys x.split x.recent.items × (x.rows.keys ≡ w.rows.keys) × (x.split ≡ w.split) in
    let now = c.if-len-eq-RECENT.self-inside in
    let alike : IsAlike now = elim c.if-len-eq-RECENT.branch [
      | then-len-eq-RECENT t ↦ subst IsAlike (sym t.self-inside-is) (record { rows = c.self.invariant.rows; recent = AreKept-none w.rows.keys w.split _ t.clear.ensures.items }, refl, refl)
      | else-len-eq-RECENT t ↦ subst IsAlike (sym t.self-inside-is) (c.self.invariant, refl, refl)
    ] in
    record {
      rows = alike.0.rows;
      recent = subst (AreKept now.rows.keys now.split) (sym c.in_ok-push.ensures.items)
          (AreKept-more now.rows.keys c.index-members.result.now now.split c.in-Some.split now.recent.items c.in_ok-moves.moves c.args.set alike.0.recent (alike.2 ∙ c.in-Some.is) c.in_ok-moves.ensures.set (ap (λ (l : List (List Bool)). slice_get l c.args.set) alike.1 ∙ c.index-members.ensures) c.in_ok-moves.ensures.moves);
    }
