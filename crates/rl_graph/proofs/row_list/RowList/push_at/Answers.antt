use Rattle.std.proofs.Common.{◌≡◌, ◌<◌, ◌≤◌, ◌-◌, ◌^◌, ℕ, List, [], ◌∷◌, ◌++◌, length, take, drop, get_or, set, sym, ap, ◌∙◌, subst, arith}
use Rattle.std.proofs.lemmas.List.{length_push}
use Rattle.rl_graph.specs.declared.row_list.Span.{Span}
use Rattle.rl_graph.specs.Spans.{rows_in, no_span}
use Rattle.rl_graph.specs.internal.GrownRows.{IsFilledRowAt}
use Rattle.rl_graph.proofs.SpanLaws.{at_err, IsSet, rows-length, rows-grown, within-grown, set-out, set-last, set-apart, set-begun, still, within-still, rows-set, within-set, rows-moved, within-moved}
use Rattle.rl_graph.proofs.row_list.RowList.push_at.Goals as goal

there : (numbers : List ℕ) (apart : List (List ℕ)) (spans : List Span) (rows : List (List ℕ)) (place : ℕ) → rows_in numbers apart spans ≡ rows → place < length rows → place < length spans
there numbers apart spans rows place e h = omega (arith, h, ap length e, rows-length numbers apart spans)

longer : (row : List ℕ) (number : ℕ) → length row < 4294967295 → length (row ++ number ∷ []) < 2 ^ 32
longer row number h = omega (arith, length_push row number)

pub index-span-requires : goal.index-span-requires
index-span-requires c =
    omega (arith, there c.self.inside.numbers.items c.self.inside.apart.items c.self.inside.spans.items c.args.self.now c.args.place c.self.view_is c.requires.place_in, c.self.inside.spans.ok.0)

pub index_mut-requires : goal.index_mut-requires
index_mut-requires c =
    omega (arith, there c.self.inside.numbers.items c.self.inside.apart.items c.self.inside.spans.items c.args.self.now c.args.place c.self.view_is c.requires.place_in, c.self.inside.spans.ok.0)

pub index_mut-requires-then-span : goal.index_mut-requires-then-span
index_mut-requires-then-span c =
    omega (arith, there c.self.inside.numbers.items c.self.inside.apart.items c.self.inside.spans.items c.args.self.now c.args.place c.self.view_is c.requires.place_in, c.self.inside.spans.ok.0)

pub index_mut-requires-2 : goal.index_mut-requires-2
index_mut-requires-2 c =
    omega (arith, there c.self.inside.numbers.items c.self.inside.apart.items c.self.inside.spans.items c.args.self.now c.args.place c.self.view_is c.requires.place_in, c.self.inside.spans.ok.0)

pub invariant_of-self : goal.invariant_of-self
invariant_of-self c =
    let s = c.self.inside in
    let numbers = s.numbers.items in
    let apart = s.apart.items in
    let spans = s.spans.items in
    let rows = c.args.self.now in
    let place = c.args.place in
    let number = c.args.number in
    let span = c.index-span.result.now in
    let row = get_or rows place [] ++ number ∷ [] in
    let h = there numbers apart spans rows place c.self.view_is c.requires.place_in in
    within-still numbers apart c.put_apart.new.apart.items spans place h c.self.invariant c.in_err-put_apart.ensures.unchanged

pub returns-in_err-put_apart-clause-unchanged : goal.returns-in_err-put_apart-clause-unchanged
returns-in_err-put_apart-clause-unchanged c =
    let s = c.self.inside in
    let numbers = s.numbers.items in
    let apart = s.apart.items in
    let spans = s.spans.items in
    let rows = c.args.self.now in
    let place = c.args.place in
    let number = c.args.number in
    let span = c.index-span.result.now in
    let row = get_or rows place [] ++ number ∷ [] in
    let h = there numbers apart spans rows place c.self.view_is c.requires.place_in in
    at_err c.from_residual.result (still numbers apart c.put_apart.new.apart.items spans place c.in_err-put_apart.ensures.unchanged ∙ c.self.view_is)

pub invariant_of-self-then-span-count : goal.invariant_of-self-then-span-count
invariant_of-self-then-span-count c =
    let s = c.self.inside in
    let numbers = s.numbers.items in
    let apart = s.apart.items in
    let spans = s.spans.items in
    let rows = c.args.self.now in
    let place = c.args.place in
    let number = c.args.number in
    let span = c.index-span.result.now in
    let row = get_or rows place [] ++ number ∷ [] in
    let h = there numbers apart spans rows place c.self.view_is c.requires.place_in in
    let moved = c.put_apart.new.apart.items in
    let cut = λ (l : List ℕ). take (span.end - span.start) (drop span.start l) in
    let t : IsSet numbers numbers apart moved spans place no_span row =
    set-out numbers apart moved spans rows place span (cut c.deref.result.now) number c.self.view_is c.self.invariant h c.index-span.ensures c.if-span.true (ap cut c.deref.ensures.value) c.in_ok-put_apart.ensures.put in
    within-set numbers numbers apart moved spans place no_span row h c.self.invariant t (longer (get_or rows place []) number c.requires.room)

pub returns-then-span-count-clause-pushed : goal.returns-then-span-count-clause-pushed
returns-then-span-count-clause-pushed c =
    let s = c.self.inside in
    let numbers = s.numbers.items in
    let apart = s.apart.items in
    let spans = s.spans.items in
    let rows = c.args.self.now in
    let place = c.args.place in
    let number = c.args.number in
    let span = c.index-span.result.now in
    let row = get_or rows place [] ++ number ∷ [] in
    let h = there numbers apart spans rows place c.self.view_is c.requires.place_in in
    let moved = c.put_apart.new.apart.items in
    let cut = λ (l : List ℕ). take (span.end - span.start) (drop span.start l) in
    let t : IsSet numbers numbers apart moved spans place no_span row =
    set-out numbers apart moved spans rows place span (cut c.deref.result.now) number c.self.view_is c.self.invariant h c.index-span.ensures c.if-span.true (ap cut c.deref.ensures.value) c.in_ok-put_apart.ensures.put in
    rows-set numbers numbers apart moved spans place no_span row h c.self.invariant t ∙ ap (λ (r : List (List ℕ)). set r place row) c.self.view_is

pub lengthened-requires : goal.lengthened-requires
lengthened-requires c =
    let s = c.self.inside in
    let numbers = s.numbers.items in
    let apart = s.apart.items in
    let spans = s.spans.items in
    let rows = c.args.self.now in
    let place = c.args.place in
    let number = c.args.number in
    let span = c.index-span.result.now in
    let row = get_or rows place [] ++ number ∷ [] in
    let h = there numbers apart spans rows place c.self.view_is c.requires.place_in in
    let a : span.end ≤ length numbers = subst (λ (x : Span). x.end ≤ length numbers) (sym c.index-span.ensures) (c.self.invariant.within place span h) in
    omega (arith, a, c.if-span.true)

pub invariant_of-self-in_err-longer : goal.invariant_of-self-in_err-longer
invariant_of-self-in_err-longer c =
    let s = c.self.inside in
    let numbers = s.numbers.items in
    let apart = s.apart.items in
    let spans = s.spans.items in
    let rows = c.args.self.now in
    let place = c.args.place in
    let number = c.args.number in
    let span = c.index-span.result.now in
    let row = get_or rows place [] ++ number ∷ [] in
    let h = there numbers apart spans rows place c.self.view_is c.requires.place_in in
    within-grown numbers c.lengthened.new.numbers.items apart spans c.self.invariant c.lengthened.ensures.grown

pub returns-in_err-longer-clause-unchanged : goal.returns-in_err-longer-clause-unchanged
returns-in_err-longer-clause-unchanged c =
    let s = c.self.inside in
    let numbers = s.numbers.items in
    let apart = s.apart.items in
    let spans = s.spans.items in
    let rows = c.args.self.now in
    let place = c.args.place in
    let number = c.args.number in
    let span = c.index-span.result.now in
    let row = get_or rows place [] ++ number ∷ [] in
    let h = there numbers apart spans rows place c.self.view_is c.requires.place_in in
    at_err c.from_residual-in_err-longer.result (rows-grown numbers c.lengthened.new.numbers.items apart spans c.self.invariant c.lengthened.ensures.grown ∙ c.self.view_is)

pub invariant_of-self-then-span : goal.invariant_of-self-then-span
invariant_of-self-then-span c =
    let s = c.self.inside in
    let numbers = s.numbers.items in
    let apart = s.apart.items in
    let spans = s.spans.items in
    let rows = c.args.self.now in
    let place = c.args.place in
    let number = c.args.number in
    let span = c.index-span.result.now in
    let row = get_or rows place [] ++ number ∷ [] in
    let h = there numbers apart spans rows place c.self.view_is c.requires.place_in in
    let new = c.lengthened.new.numbers.items in
    let t : IsSet numbers new apart apart spans place c.in_ok-longer.longer row =
    set-last numbers new apart spans rows place span c.in_ok-longer.longer number c.self.view_is c.self.invariant h c.index-span.ensures c.if-span.true
    (omega (arith, c.if-span-count.false, c.len-count.ensures, s.numbers.ok.0)) c.lengthened.ensures.grown c.in_ok-longer.ensures.row in
    within-set numbers new apart apart spans place c.in_ok-longer.longer row h c.self.invariant t (longer (get_or rows place []) number c.requires.room)

pub returns-then-span-clause-pushed : goal.returns-then-span-clause-pushed
returns-then-span-clause-pushed c =
    let s = c.self.inside in
    let numbers = s.numbers.items in
    let apart = s.apart.items in
    let spans = s.spans.items in
    let rows = c.args.self.now in
    let place = c.args.place in
    let number = c.args.number in
    let span = c.index-span.result.now in
    let row = get_or rows place [] ++ number ∷ [] in
    let h = there numbers apart spans rows place c.self.view_is c.requires.place_in in
    let new = c.lengthened.new.numbers.items in
    let t : IsSet numbers new apart apart spans place c.in_ok-longer.longer row =
    set-last numbers new apart spans rows place span c.in_ok-longer.longer number c.self.view_is c.self.invariant h c.index-span.ensures c.if-span.true
    (omega (arith, c.if-span-count.false, c.len-count.ensures, s.numbers.ok.0)) c.lengthened.ensures.grown c.in_ok-longer.ensures.row in
    rows-set numbers new apart apart spans place c.in_ok-longer.longer row h c.self.invariant t ∙ ap (λ (r : List (List ℕ)). set r place row) c.self.view_is

pub invariant_of-self-in_err-push_apart : goal.invariant_of-self-in_err-push_apart
invariant_of-self-in_err-push_apart c =
    let s = c.self.inside in
    let numbers = s.numbers.items in
    let apart = s.apart.items in
    let spans = s.spans.items in
    let rows = c.args.self.now in
    let place = c.args.place in
    let number = c.args.number in
    let span = c.index-span.result.now in
    let row = get_or rows place [] ++ number ∷ [] in
    let h = there numbers apart spans rows place c.self.view_is c.requires.place_in in
    within-still numbers apart c.push_apart.new.apart.items spans place h c.self.invariant c.in_err-push_apart.ensures.unchanged

pub returns-in_err-push_apart-clause-unchanged : goal.returns-in_err-push_apart-clause-unchanged
returns-in_err-push_apart-clause-unchanged c =
    let s = c.self.inside in
    let numbers = s.numbers.items in
    let apart = s.apart.items in
    let spans = s.spans.items in
    let rows = c.args.self.now in
    let place = c.args.place in
    let number = c.args.number in
    let span = c.index-span.result.now in
    let row = get_or rows place [] ++ number ∷ [] in
    let h = there numbers apart spans rows place c.self.view_is c.requires.place_in in
    at_err c.from_residual-in_err-push_apart.result (still numbers apart c.push_apart.new.apart.items spans place c.in_err-push_apart.ensures.unchanged ∙ c.self.view_is)

pub invariant_of-self-then-stands_apart : goal.invariant_of-self-then-stands_apart
invariant_of-self-then-stands_apart c =
    let s = c.self.inside in
    let numbers = s.numbers.items in
    let apart = s.apart.items in
    let spans = s.spans.items in
    let rows = c.args.self.now in
    let place = c.args.place in
    let number = c.args.number in
    let span = c.index-span.result.now in
    let row = get_or rows place [] ++ number ∷ [] in
    let h = there numbers apart spans rows place c.self.view_is c.requires.place_in in
    let moved = c.push_apart.new.apart.items in
    let t : IsSet numbers numbers apart moved spans place (get_or spans place no_span) row =
    set-apart numbers apart moved spans rows place span number c.self.view_is c.self.invariant h c.index-span.ensures c.if-span.false c.in_ok-push_apart.ensures.pushed in
    within-moved numbers apart moved spans place row h c.self.invariant t (longer (get_or rows place []) number c.requires.room)

pub returns-then-stands_apart-clause-pushed : goal.returns-then-stands_apart-clause-pushed
returns-then-stands_apart-clause-pushed c =
    let s = c.self.inside in
    let numbers = s.numbers.items in
    let apart = s.apart.items in
    let spans = s.spans.items in
    let rows = c.args.self.now in
    let place = c.args.place in
    let number = c.args.number in
    let span = c.index-span.result.now in
    let row = get_or rows place [] ++ number ∷ [] in
    let h = there numbers apart spans rows place c.self.view_is c.requires.place_in in
    let moved = c.push_apart.new.apart.items in
    let t : IsSet numbers numbers apart moved spans place (get_or spans place no_span) row =
    set-apart numbers apart moved spans rows place span number c.self.view_is c.self.invariant h c.index-span.ensures c.if-span.false c.in_ok-push_apart.ensures.pushed in
    rows-moved numbers apart moved spans place row h c.self.invariant t ∙ ap (λ (r : List (List ℕ)). set r place row) c.self.view_is

pub invariant_of-self-in_err-begun : goal.invariant_of-self-in_err-begun
invariant_of-self-in_err-begun c =
    let s = c.self.inside in
    let numbers = s.numbers.items in
    let apart = s.apart.items in
    let spans = s.spans.items in
    let rows = c.args.self.now in
    let place = c.args.place in
    let number = c.args.number in
    let span = c.index-span.result.now in
    let row = get_or rows place [] ++ number ∷ [] in
    let h = there numbers apart spans rows place c.self.view_is c.requires.place_in in
    within-grown numbers c.lengthened-2.new.numbers.items apart spans c.self.invariant c.lengthened-2.ensures.grown

pub returns-in_err-begun-clause-unchanged : goal.returns-in_err-begun-clause-unchanged
returns-in_err-begun-clause-unchanged c =
    let s = c.self.inside in
    let numbers = s.numbers.items in
    let apart = s.apart.items in
    let spans = s.spans.items in
    let rows = c.args.self.now in
    let place = c.args.place in
    let number = c.args.number in
    let span = c.index-span.result.now in
    let row = get_or rows place [] ++ number ∷ [] in
    let h = there numbers apart spans rows place c.self.view_is c.requires.place_in in
    at_err c.from_residual-in_err-begun.result (rows-grown numbers c.lengthened-2.new.numbers.items apart spans c.self.invariant c.lengthened-2.ensures.grown ∙ c.self.view_is)

pub invariant_of-self-2 : goal.invariant_of-self-2
invariant_of-self-2 c =
    let s = c.self.inside in
    let numbers = s.numbers.items in
    let apart = s.apart.items in
    let spans = s.spans.items in
    let rows = c.args.self.now in
    let place = c.args.place in
    let number = c.args.number in
    let span = c.index-span.result.now in
    let row = get_or rows place [] ++ number ∷ [] in
    let h = there numbers apart spans rows place c.self.view_is c.requires.place_in in
    let new = c.lengthened-2.new.numbers.items in
    let none : get_or apart place [] ≡ [] = ap (λ (l : List (List ℕ)). get_or l place []) (sym c.deref-2.ensures.value) ∙ c.stands_apart.ensures.none c.if-stands_apart.false in
    let end : c.len-count.result ≡ length numbers = omega (arith, c.len-count.ensures, s.numbers.ok.0) in
    let t : IsSet numbers new apart apart spans place c.in_ok-begun.begun row =
    set-begun numbers new apart spans rows place span c.in_ok-begun.begun number c.self.view_is c.self.invariant h c.index-span.ensures c.if-span.false none c.lengthened-2.ensures.grown
    (subst (λ n. IsFilledRowAt new (drop n numbers ++ number ∷ []) c.in_ok-begun.begun) end c.in_ok-begun.ensures.row) in
    within-set numbers new apart apart spans place c.in_ok-begun.begun row h c.self.invariant t (longer (get_or rows place []) number c.requires.room)

pub returns-clause-pushed : goal.returns-clause-pushed
returns-clause-pushed c =
    let s = c.self.inside in
    let numbers = s.numbers.items in
    let apart = s.apart.items in
    let spans = s.spans.items in
    let rows = c.args.self.now in
    let place = c.args.place in
    let number = c.args.number in
    let span = c.index-span.result.now in
    let row = get_or rows place [] ++ number ∷ [] in
    let h = there numbers apart spans rows place c.self.view_is c.requires.place_in in
    let new = c.lengthened-2.new.numbers.items in
    let none : get_or apart place [] ≡ [] = ap (λ (l : List (List ℕ)). get_or l place []) (sym c.deref-2.ensures.value) ∙ c.stands_apart.ensures.none c.if-stands_apart.false in
    let end : c.len-count.result ≡ length numbers = omega (arith, c.len-count.ensures, s.numbers.ok.0) in
    let t : IsSet numbers new apart apart spans place c.in_ok-begun.begun row =
    set-begun numbers new apart spans rows place span c.in_ok-begun.begun number c.self.view_is c.self.invariant h c.index-span.ensures c.if-span.false none c.lengthened-2.ensures.grown
    (subst (λ n. IsFilledRowAt new (drop n numbers ++ number ∷ []) c.in_ok-begun.begun) end c.in_ok-begun.ensures.row) in
    rows-set numbers new apart apart spans place c.in_ok-begun.begun row h c.self.invariant t ∙ ap (λ (r : List (List ℕ)). set r place row) c.self.view_is
