-- What a token list says about its tokens: their places, and the texts of literals.
use Rattle.std.proofs.Common.{◌≡◌, ℕ, zero, suc, ◌+◌, ◌-◌, ◌<◌, ◌≤◌, List, [], ◌∷◌, length, drop, ap, sym, ◌∙◌, arith, Some, None, Option, subst}
use Rattle.std.specs.Prelude.{filter_map, All, AllPairs}
use Rattle.std.proofs.lemmas.List.Kept.{AllPairs-cons}
use Rattle.rl_pylex.specs.declared.token_list.TokenKind.{TokenKind}
use Rattle.rl_pylex.specs.declared.token_list.Token.{Token}
use Rattle.rl_pylex.specs.declared.rules.Reading.{Reading}
use Rattle.rl_pylex.specs.declared.rules.Reading.TheVariants as reads
use Rattle.rl_pylex.specs.Rules.{reading, depth_after}
use Rattle.rl_pylex.specs.internal.Rows.{IsBoundedReading}
use Rattle.rl_pylex.specs.Source.{Piece, token_of, Cut, IsTokenList, IsReadAt, IsInOrder}
use Rattle.rl_pylex.proofs.Sizes.{reading-bounded}

All-nil : {X : Type 0} (P : X → Type 0) → All P []
All-nil P k d h = absurd (omega arith)

All-cons : {X : Type 0} (P : X → Type 0) (x : X) (xs : List X) → P x → All P xs → All P (x ∷ xs)
All-cons P x xs first others zero d h = first
All-cons P x xs first others (suc k) d h = others k d (omega arith)

AllPairs-nil : {X : Type 0} (R : X → X → Type 0) → AllPairs R []
AllPairs-nil R i j d h k = absurd (omega arith)

piece_some : (depth : ℕ) (text : List ℕ) (k : Option TokenKind) (n : ℕ) → reading depth text ≡ reads.Piece k n → 0 < n
piece_some depth text k n e =
    (subst (λ (r : Reading). IsBoundedReading r (length text)) e (reading-bounded depth text)).0

-- Places only increase.
Cut-grows : (s : List ℕ) (at depth : ℕ) (ps : List Piece) (end end_depth : ℕ) → Cut s at depth ps end end_depth → at ≤ end
Cut-grows s at depth [] end end_depth c = omega (arith, c.0)
Cut-grows s at depth (p ∷ ps) end end_depth c =
    omega (arith, Cut-grows s (at + p.size) (depth_after depth (drop at s)) ps end end_depth c.2)

-- The tokens of a cut from the place `at` on.
record Lie (s : List ℕ) (at : ℕ) (ts : List Token) : Type 0 where
  each : All (IsReadAt s) ts
  later : All (λ t. at ≤ t.from) ts
  ordered : AllPairs (λ a b. a.upto ≤ b.from) ts

Lie-from : (s : List ℕ) (at on : ℕ) (ts : List Token) → at ≤ on → Lie s on ts → Lie s at ts
Lie-from s at on ts h lie =
    record { each = lie.each; later = λ k d below. omega (arith, lie.later k d below); ordered = lie.ordered }

Lie-cons : (s : List ℕ) (at size : ℕ) (k : TokenKind) (ts : List Token)
    → IsReadAt s (record { kind = k; from = at; upto = at + size }) → Lie s (at + size) ts
    → Lie s at (record { kind = k; from = at; upto = at + size } ∷ ts)
Lie-cons s at size k ts here lie =
    let t : Token = record { kind = k; from = at; upto = at + size } in
    record {
      each = All-cons (IsReadAt s) t ts here lie.each;
      later = All-cons (λ x. at ≤ x.from) t ts (omega arith) (λ j d below. omega (arith, lie.later j d below));
      ordered = AllPairs-cons (λ a b. a.upto ≤ b.from) t ts lie.later lie.ordered;
    }

read_here : (s : List ℕ) (at depth size : ℕ) (k : TokenKind) → reading depth (drop at s) ≡ reads.Piece (Some k) size → at + size ≤ length s
    → IsReadAt s (record { kind = k; from = at; upto = at + size })
read_here s at depth size k e inside =
    let same : size ≡ at + size - at = omega arith in
    record {
      some = omega (arith, piece_some depth (drop at s) (Some k) size e);
      within = inside;
      depth = depth;
      read = e ∙ ap (reads.Piece (Some k)) same;
    }

Lie-piece : (s : List ℕ) (at depth from size : ℕ) (k : Option TokenKind) (ps : List Piece)
    → from ≡ at → reading depth (drop at s) ≡ reads.Piece k size → at + size ≤ length s → Lie s (at + size) (filter_map token_of ps)
    → Lie s at (filter_map token_of (record { kind = k; from = from; size = size } ∷ ps))
Lie-piece s at depth from size None ps same e inside lie = Lie-from s at (at + size) (filter_map token_of ps) (omega arith) lie
Lie-piece s at depth from size (Some k) ps same e inside lie =
    subst (λ (n : ℕ). Lie s at (record { kind = k; from = n; upto = n + size } ∷ filter_map token_of ps)) (sym same)
    (Lie-cons s at size k (filter_map token_of ps) (read_here s at depth size k e inside) lie)

Cut-lies : (s : List ℕ) (at depth : ℕ) (ps : List Piece) (end end_depth : ℕ) → Cut s at depth ps end end_depth → end ≤ length s → Lie s at (filter_map token_of ps)
Cut-lies s at depth [] end end_depth c inside =
    record { each = All-nil (IsReadAt s); later = All-nil (λ t. at ≤ t.from); ordered = AllPairs-nil (λ a b. a.upto ≤ b.from) }
Cut-lies s at depth (p ∷ ps) end end_depth c inside =
    let on = Cut-grows s (at + p.size) (depth_after depth (drop at s)) ps end end_depth c.2 in
    Lie-piece s at depth p.from p.size p.kind ps c.0 c.1 (omega arith)
    (Cut-lies s (at + p.size) (depth_after depth (drop at s)) ps end end_depth c.2 inside)

-- The tokens of a source are what is read at their places, and they are in order.
pub IsInOrder-tokens : (s : List ℕ) (ts : List Token) → IsTokenList s ts → IsInOrder s ts
IsInOrder-tokens s ts t =
    let r = t.reaches in
    let lie = Cut-lies s _ 0 r.pieces (length s) t.depth r.cut (omega arith) in
    subst (λ (xs : List Token). IsInOrder s xs) (sym r.are) (record { each = lie.each; ordered = lie.ordered })
