use Rattle.std.proofs.Common.{Bool, List, ◌≡◌, ◌+◌, ◌<◌, false, [], ◌∷◌, ◌++◌, length, ap, sym, ◌∙◌, subst, inl, inr, is_some, Contains, arith}
use Rattle.std.proofs.lemmas.List.{length-map, length_push, map_push}
use Rattle.std.proofs.lemmas.Option.{slice_get_within}
use Rattle.std.specs.List.{list_any}
use Rattle.rl_lanes.specs.Rows.{row_eq}
use Rattle.rl_sets.specs.Rows.{members_of}
use Rattle.rl_sets.specs.Walk.{Walk, IsFull, AreFields}
use Rattle.rl_sets.proofs.WalkLemmas.{sets_of, row_found, row_stored, room_left, inserted, set_absent, AreRows-push, AreKept-push}
use Rattle.rl_sets.proofs.walk.SetWalk.add.Goals as goal

pub returns-in-Some : goal.returns-in-Some
returns-in-Some c =
    let keys = c.self.inside.rows.keys in
    let size = length-map keys members_of in
    record {
      listed = record {
        stands = row_found keys c.args.row c.in-Some.number (sym c.in-Some.is ∙ c.get_index_of.ensures.index);
        grown = inl (ap (λ (w : Walk). w.sets) c.self.view_is);
      };
      inside = omega (arith, c.in-Some.ensures.within, size);
      longer = omega (arith, ap (λ (w : Walk). length w.sets) c.self.view_is);
      few = omega (arith, c.self.invariant.rows.few, size);
      limit = ap (λ (w : Walk). w.limit) c.self.view_is;
      kept = ap (λ (w : Walk). w.kept) c.self.view_is;
      full = tt;
      unchanged = tt;
    }

pub returns-then-len-self-clause-full : goal.returns-then-len-self-clause-full
returns-then-len-self-clause-full c _ =
    let keys = c.self.inside.rows.keys in
    let full : length (sets_of keys) ≡ c.self.inside.limit = length-map keys members_of ∙ sym c.len.ensures.len ∙ c.if-len-self.true in
    subst (λ (w : Walk). IsFull w.sets w.limit (members_of c.args.row)) c.self.view_is (record {
      absent = set_absent c.self.inside.states c.self.inside.limit keys c.args.row c.self.invariant.rows (c.requires ∙ ap (λ (w : Walk). w.kept.states) (sym c.self.view_is)) (sym c.get_index_of.ensures.found ∙ ap is_some c.in_default.is);
      full = full;
    })

pub invariant_of-self-2 : goal.invariant_of-self-2
invariant_of-self-2 c =
    let keys = c.self.inside.rows.keys in
    let none : list_any (row_eq c.args.row) keys ≡ false = sym c.get_index_of.ensures.found ∙ ap is_some c.in_default.is in
    let long : length c.args.row ≡ c.self.inside.states = c.requires ∙ ap (λ (w : Walk). w.kept.states) (sym c.self.view_is) in
    let room : length keys < c.self.inside.limit = room_left _ _ c.self.invariant.rows.few (λ e. c.if-len-self.false (c.len.ensures.len ∙ e)) in
    subst (λ (rows : List (List Bool)). AreFields c.self.inside.states c.self.inside.limit rows c.self.inside.split c.self.inside.recent.items) (sym (c.in_ok-number.ensures.keys ∙ inserted keys c.args.row none)) (record {
      rows = AreRows-push c.self.inside.states c.self.inside.limit keys c.args.row c.self.invariant.rows long none room;
      recent = AreKept-push keys c.args.row c.self.inside.split c.self.inside.recent.items c.self.invariant.recent;
    })

pub returns : goal.returns
returns c =
    let keys = c.self.inside.rows.keys in
    let none : list_any (row_eq c.args.row) keys ≡ false = sym c.get_index_of.ensures.found ∙ ap is_some c.in_default.is in
    let more : sets_of c.insert_full.new.self.keys ≡ sets_of keys ++ members_of c.args.row ∷ [] = ap sets_of (c.in_ok-number.ensures.keys ∙ inserted keys c.args.row none) ∙ map_push members_of keys c.args.row in
    let stands = row_stored c.insert_full.new.self.keys c.args.row c.in_ok-number.number c.in_ok-number.ensures.stored in
    let room : length keys < c.self.inside.limit = room_left _ _ c.self.invariant.rows.few (λ e. c.if-len-self.false (c.len.ensures.len ∙ e)) in
    let size : length (sets_of c.insert_full.new.self.keys) ≡ length keys + 1 = ap length more ∙ length_push (sets_of keys) (members_of c.args.row) ∙ ap (λ n. n + 1) (length-map keys members_of) in
    record {
      listed = record {
        stands = stands;
        grown = inr ((λ (h : Contains c.args.self.now.sets (members_of c.args.row)). set_absent c.self.inside.states c.self.inside.limit keys c.args.row c.self.invariant.rows (c.requires ∙ ap (λ (w : Walk). w.kept.states) (sym c.self.view_is)) none (subst (λ (w : Walk). Contains w.sets (members_of c.args.row)) (sym c.self.view_is) h)), more ∙ ap (λ (w : Walk). w.sets ++ members_of c.args.row ∷ []) c.self.view_is);
      };
      inside = slice_get_within (sets_of c.insert_full.new.self.keys) c.in_ok-number.number (members_of c.args.row) stands;
      longer = omega (arith, size, length-map keys members_of, ap (λ (w : Walk). length w.sets) c.self.view_is);
      few = omega (arith, size, room);
      limit = ap (λ (w : Walk). w.limit) c.self.view_is;
      kept = ap (λ (w : Walk). w.kept) c.self.view_is;
      full = tt;
      unchanged = tt;
    }
