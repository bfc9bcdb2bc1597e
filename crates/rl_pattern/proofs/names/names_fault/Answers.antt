-- One more name.
use Rattle.std.proofs.Common.{◌≡◌, ℕ, ◌+◌, ◌<◌, Bool, true, false, not, cond, ◌&&◌, ◌||◌, List, [], ◌∷◌, ◌++◌, length, take, drop, map, Option, refl, sym, ap, ◌∙◌, arith, nat_eq}
use Rattle.std.proofs.lemmas.Bool.Decides.{nat_tests}
use Rattle.std.proofs.lemmas.List.{at_drop_more, take_more, map-append}
use Rattle.std.proofs.lemmas.Map.Text.{is_eq-slice_cmp}
use Rattle.std.specs.Prelude.{slice_index_or}
use Rattle.std.specs.Ordering.{nat_cmp, is_eq}
use Rattle.std.specs.Cmp.Lexicographic.{slice_cmp}
use Rattle.std.specs.Str.{bytes_eq}
use Rattle.rl_pattern.specs.declared.names.Called.{Called}
use Rattle.rl_pattern.specs.internal.Judged.{called_of, is_among}
use Rattle.rl_pattern.specs.Found.{Fault, Called as Name, is_duplicate_name, earlier, first_fault, fault_if, name_faults}
use Rattle.rl_pattern.proofs.FirstFault.{best_of_more}
use Rattle.rl_pattern.proofs.names.names_fault.Goals as goal

names_more : (ns : List Called) (i : ℕ) (d : Called) → i < length ns → map called_of (take (i + 1) ns) ≡ map called_of (take i ns) ++ called_of (slice_index_or ns i d) ∷ []
names_more ns i d l = ap (map called_of) (take_more ns i d l) ∙ map-append called_of (take i ns) (slice_index_or ns i d ∷ [])

fault_more : (ns : List Called) (i : ℕ) (d : Called) (best next own total : Option Fault) (twice : Bool) → i < length ns → next ≡ earlier best own → own ≡ first_fault (fault_if twice (slice_index_or ns i d).place is_duplicate_name) → twice ≡ is_among (slice_index_or ns i d).name (map called_of (take i ns)) → earlier best (first_fault (name_faults (map called_of (take i ns)) (map called_of (drop i ns)))) ≡ total → earlier next (first_fault (name_faults (map called_of (take (i + 1) ns)) (map called_of (drop (i + 1) ns)))) ≡ total
fault_more ns i d best next own total twice l e f g h =
    let x = slice_index_or ns i d in
    let before = map called_of (take i ns) in
    let behind = map called_of (drop (i + 1) ns) in
    ap (λ us. earlier next (first_fault (name_faults us behind))) (names_more ns i d l)
    ∙ ap (λ b. earlier b (first_fault (name_faults (before ++ called_of x ∷ []) behind))) (e ∙ ap (earlier best) (f ∙ ap (λ b. first_fault (fault_if b x.place is_duplicate_name)) g))
    ∙ best_of_more best (fault_if (is_among x.name before) x.place is_duplicate_name) (name_faults (before ++ called_of x ∷ []) behind)
    ∙ ap (earlier best) (sym (at_drop_more (λ us. first_fault (name_faults before (map called_of us))) ns i d l))
    ∙ h

either : (a b : Bool) → cond a true b ≡ b || a
either true true = refl
either true false = refl
either false true = refl
either false false = refl

or_assoc : (a b c : Bool) → a || (b || c) ≡ (a || b) || c
or_assoc true b c = refl
or_assoc false b c = refl

or_false : (a : Bool) → a || false ≡ a
or_false true = refl
or_false false = refl

among_more : (n : List ℕ) (cs : List Name) (c : Name) → is_among n (cs ++ c ∷ []) ≡ is_among n cs || bytes_eq n c.name
among_more n [] c = or_false (bytes_eq n c.name)
among_more n (d ∷ cs) c = ap (λ b. bytes_eq n d.name || b) (among_more n cs c) ∙ or_assoc (bytes_eq n d.name) (is_among n cs) (bytes_eq n c.name)

code_turned : (c d : ℕ) → nat_eq c d ≡ nat_eq d c
code_turned c d = grind (arith, nat_tests)

name_turned : (cs ds : List ℕ) → bytes_eq cs ds ≡ bytes_eq ds cs
name_turned [] [] = refl
name_turned [] (d ∷ ds) = refl
name_turned (c ∷ cs) [] = refl
name_turned (c ∷ cs) (d ∷ ds) = ap (λ b. b && bytes_eq cs ds) (code_turned c d) ∙ ap (λ b. nat_eq d c && b) (name_turned cs ds)

stood_more : (ns : List Called) (i : ℕ) (d : Called) (key name : List ℕ) (old new : Bool) → i < length ns → key ≡ (slice_index_or ns i d).name → old ≡ is_among name (map called_of (take i ns)) → new ≡ cond (is_eq (slice_cmp nat_cmp key name)) true old → new ≡ is_among name (map called_of (take (i + 1) ns))
stood_more ns i d key name old new l k o e =
    let x = slice_index_or ns i d in
    let before = map called_of (take i ns) in
    e
    ∙ ap (λ b. cond b true old) (is_eq-slice_cmp key name ∙ name_turned key name ∙ ap (bytes_eq name) k)
    ∙ ap (cond (bytes_eq name x.name) true) o
    ∙ either (bytes_eq name x.name) (is_among name before)
    ∙ sym (ap (is_among name) (names_more ns i d l) ∙ among_more name before (called_of x))

not_not : (a b : Bool) → a ≡ not b → not a ≡ b
not_not a true e = ap not e
not_not a false e = ap not e

pub loop-called-preserved : goal.loop-called-preserved
loop-called-preserved c =
    let ns = c.args.names.now in
    let i = c.loop-called.called-index in
    let x = c.called-item.result in
    let is_new = c.in-Ok.is_new in
    record {
      fault = fault_more ns i x c.loop-called.best c.earlier-best.result c.fault_if.result _ (not is_new) c.loop-called-test.true c.earlier-best.ensures
          (c.fault_if.ensures ∙ ap (λ (u : Called). first_fault (fault_if (not is_new) u.place is_duplicate_name)) c.called-item.is)
          (not_not is_new _ c.in-Ok.ensures.added
          ∙ c.loop-called.invariant.stood c.as_slice.result
          ∙ ap (λ u. is_among u (map called_of (take i ns))) (c.as_slice.ensures ∙ ap (λ (u : Called). u.name) c.called-item.is))
          c.loop-called.invariant.fault;
      stood = λ name. stood_more ns i x c.as_slice.result.now name.now _ _ c.loop-called-test.true (c.as_slice.ensures ∙ ap (λ (u : Called). u.name) c.called-item.is)
          (c.loop-called.invariant.stood name)
          (c.in-Ok.ensures.updates.0 name);
    }
