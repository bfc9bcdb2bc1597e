-- The cut of a source into pieces: one more piece at its end, and the fact that there is only one cut.
use Rattle.std.proofs.Common.{◌≡◌, ℕ, ◌+◌, ◌<◌, ◌≤◌, Bool, true, false, cond, List, [], ◌∷◌, ◌++◌, length, drop, refl, ap, sym, ◌∙◌, arith, Some, None, Option, subst}
use Rattle.std.proofs.Common.{add-zero, add_assoc}
use Rattle.std.specs.Prelude.{filter_map, option_to_list}
use Rattle.std.specs.List.{prefix_len}
use Rattle.std.proofs.lemmas.List.Elements.{filter_map-append}
use Rattle.std.proofs.lemmas.List.{length-drop, drop-drop, append-nil}
use Rattle.rl_pylex.specs.declared.token_list.TokenKind.{TokenKind}
use Rattle.rl_pylex.specs.declared.token_list.Token.{Token}
use Rattle.rl_pylex.specs.declared.rules.Reading.TheVariants as reads
use Rattle.rl_pylex.specs.Bytes.{text_start, is_blank}
use Rattle.rl_pylex.specs.Rules.{reading, depth_after}
use Rattle.rl_pylex.specs.Source.{Piece, token_of, Cut, Reaches}
use Rattle.rl_pylex.proofs.Firsts.{blank_read, depth_after_blank}

Cut-push : (s : List ℕ) (at depth : ℕ) (ps : List Piece) (end end_depth : ℕ) (kind : Option TokenKind) (n : ℕ)
    → Cut s at depth ps end end_depth → reading end_depth (drop end s) ≡ reads.Piece kind n
    → Cut s at depth (ps ++ record { kind = kind; from = end; size = n } ∷ []) (end + n) (depth_after end_depth (drop end s))
Cut-push s at depth [] end end_depth kind n cut found =
    let same_place : at ≡ end = cut.0 in
    let same_depth : depth ≡ end_depth = cut.1 in (
      sym same_place,
      ap (λ d. reading d (drop at s)) same_depth ∙ ap (λ k. reading end_depth (drop k s)) same_place ∙ found,
      (ap (λ k. k + n) same_place, ap (λ d. depth_after d (drop at s)) same_depth ∙ ap (λ k. depth_after end_depth (drop k s)) same_place),
    )
Cut-push s at depth (p ∷ ps) end end_depth kind n cut found =
    (cut.0, cut.1, Cut-push s (at + p.size) (depth_after depth (drop at s)) ps end end_depth kind n cut.2 found)

pub Reaches-start : (s : List ℕ) → Reaches s (text_start s) 0 []
Reaches-start s = record { pieces = []; cut = (refl, refl); are = refl }

filter_map-one : (p : Piece) → filter_map token_of (p ∷ []) ≡ option_to_list (token_of p)
filter_map-one p = as_list (token_of p)
  where
    as_list : (o : Option Token) → filter_map (λ (x : Option Token). x) (o ∷ []) ≡ option_to_list o
    as_list None = refl
    as_list (Some t) = refl

pub Reaches-push : (s : List ℕ) (at depth : ℕ) (ts more : List Token) (kind : Option TokenKind) (n : ℕ)
    → Reaches s at depth ts → reading depth (drop at s) ≡ reads.Piece kind n → more ≡ ts ++ option_to_list (token_of (record { kind = kind; from = at; size = n }))
    → Reaches s (at + n) (depth_after depth (drop at s)) more
Reaches-push s at depth ts more kind n r found e =
    let p : Piece = record { kind = kind; from = at; size = n } in
    record {
      pieces = r.pieces ++ p ∷ [];
      cut = Cut-push s (text_start s) 0 r.pieces at depth kind n r.cut found;
      are = e ∙ ap (λ xs. xs ++ option_to_list (token_of p)) r.are
          ∙ ap (λ ys. filter_map token_of r.pieces ++ ys) (sym (filter_map-one p))
          ∙ sym (filter_map-append token_of r.pieces (p ∷ []));
    }

pub Reaches-step : (s text : List ℕ) (at depth next : ℕ) (ts more : List Token) (kind : Option TokenKind) (n : ℕ)
    → Reaches s at depth ts → text ≡ drop at s → reads.Piece kind n ≡ reading depth text → next ≡ depth_after depth text
    → more ≡ ts ++ option_to_list (token_of (record { kind = kind; from = at; size = n })) → Reaches s (at + n) next more
Reaches-step s text at depth next ts more kind n r here found deeper e =
    subst (λ (d : ℕ). Reaches s (at + n) d more) (ap (depth_after depth) (sym here) ∙ sym deeper)
    (Reaches-push s at depth ts more kind n r (ap (reading depth) (sym here) ∙ sym found) e)

pub next_rest : (s xs : List ℕ) (x at : ℕ) → drop at s ≡ x ∷ xs → drop (at + 1) s ≡ xs
next_rest s xs x at e = sym (drop-drop 1 at s) ∙ ap (drop 1) e

-- Each blank of a run is a piece without a token.
blank_first : (s xs : List ℕ) (x at depth : ℕ) (ts : List Token) (b : Bool) → is_blank x ≡ b → drop at s ≡ x ∷ xs → Reaches s at depth ts
    → (Reaches s (at + 1) depth ts → Reaches s (at + 1 + prefix_len is_blank xs) depth ts)
    → Reaches s (at + cond b (1 + prefix_len is_blank xs) 0) depth ts
blank_first s xs x at depth ts false is e r later = subst (λ (n : ℕ). Reaches s n depth ts) (sym (add-zero at)) r
blank_first s xs x at depth ts true is e r later =
    let one : Reaches s (at + 1) depth ts =
    Reaches-step s (x ∷ xs) at depth depth ts ts None 1 r (sym e) (sym (blank_read depth x xs is)) (sym (depth_after_blank depth x xs is)) (sym (append-nil ts)) in
    subst (λ (n : ℕ). Reaches s n depth ts) (add_assoc at 1 (prefix_len is_blank xs)) (later one)

blanks-from : (s rest : List ℕ) (at depth : ℕ) (ts : List Token) → drop at s ≡ rest → Reaches s at depth ts → Reaches s (at + prefix_len is_blank rest) depth ts
blanks-from s [] at depth ts e r = subst (λ (n : ℕ). Reaches s n depth ts) (sym (add-zero at)) r
blanks-from s (x ∷ xs) at depth ts e r =
    blank_first s xs x at depth ts (is_blank x) refl e r (λ one. blanks-from s xs (at + 1) depth ts (next_rest s xs x at e) one)

pub Reaches-blanks : (s : List ℕ) (at depth : ℕ) (ts : List Token) → Reaches s at depth ts → Reaches s (at + prefix_len is_blank (drop at s)) depth ts
Reaches-blanks s at depth ts r = blanks-from s (drop at s) at depth ts refl r

pub ruleset pieces = (Reaches-start, Reaches-step)

-- What lies within the rest lies within the whole.
pub fits_in_rest : (s rest : List ℕ) (at n : ℕ) → rest ≡ drop at s → at < length s → n ≤ length rest → at + n ≤ length s
fits_in_rest s rest at n e inside h = omega (arith, ap length e, length-drop at s)
