use Rattle.std.proofs.Common.{◌≡◌, List, ℕ, [], ◌∷◌, ◌++◌, get_or, length, ap, ◌∙◌, arith}
use Rattle.std.proofs.lemmas.List.{length_push}
use Rattle.rl_graph.proofs.SpanLaws.{pushed-none}
use Rattle.rl_graph.proofs.row_list.make_places.Goals as goal

pub loop-alloc-preserved : goal.loop-alloc-preserved
loop-alloc-preserved c =
    let e = c.in_ok-push.ensures.items in
    let n : c.new.result ≡ [] = c.new.ensures in
    record {
      same = λ k. ap (λ (l : List (List ℕ)). get_or l k []) (e ∙ ap (λ (x : List ℕ). c.loop-alloc.apart.items ++ x ∷ []) n) ∙ (pushed-none c.loop-alloc.apart.items k ∙ c.loop-alloc.invariant.same k);
      few = λ count h old. omega (arith, h, c.loop-alloc-test.true, c.len.ensures, c.loop-alloc.apart.ok.0, ap length e, length_push c.loop-alloc.apart.items c.new.result);
    }

pub returns-in_err-push-clause-same : goal.returns-in_err-push-clause-same
returns-in_err-push-clause-same c =
    let e = c.in_err-push.ensures.items in
    record {
      here = ap (λ (l : List (List ℕ)). get_or l c.args.place []) e ∙ c.loop-alloc.invariant.same c.args.place;
      elsewhere = λ k ne. ap (λ (l : List (List ℕ)). get_or l k []) e ∙ c.loop-alloc.invariant.same k;
      few = λ count h old. omega (arith, ap length e, c.loop-alloc.invariant.few count h old);
    }
