-- There is only one cut of a source, up to its end or its first fault.
use Rattle.std.proofs.Common.{◌≡◌, ℕ, ◌+◌, List, [], ◌∷◌, length, drop, refl, ap, sym, ◌∙◌, arith, Some, None, Option, subst}
use Rattle.std.specs.Prelude.{filter_map, IsUtf8}
use Rattle.std.specs.Str.{IsValidUpTo}
use Rattle.std.proofs.Math.Seq.{drop-length}
use Rattle.std.proofs.lemmas.List.{take_all}
use Rattle.std.proofs.lemmas.Str.{utf8_valid_len-IsValidUpTo}
use Rattle.rl_pylex.specs.declared.token_list.TokenKind.{TokenKind}
use Rattle.rl_pylex.specs.declared.token_list.Token.{Token}
use Rattle.rl_pylex.specs.declared.fault.LexError.TheVariants as error
use Rattle.rl_pylex.specs.declared.rules.Reading.{Reading}
use Rattle.rl_pylex.specs.declared.rules.Reading.TheVariants as reads
use Rattle.rl_pylex.specs.Bytes.{text_start, line_end}
use Rattle.rl_pylex.specs.Coding.{wrong_coding}
use Rattle.rl_pylex.specs.Literals.{opens_after, prefix_size}
use Rattle.rl_pylex.specs.Rules.{blank, joined_line, new_line, comment, literal, name, number, operator, reading, depth_after}
use Rattle.rl_pylex.specs.Source.{Piece, token_of, Cut, Reaches, Meets, IsTokenList}
use Rattle.rl_pylex.specs.Laws.{HasOneTokenList, HasNoFaultBeside, HasOneFault}

-- Nothing is read at the end of a source.
nothing_at_end : (depth : ℕ) → reading depth [] ≡ reads.Stray
unfolding reading blank joined_line new_line comment literal prefix_size opens_after name number operator line_end
nothing_at_end depth = refl

-- The reading isn't a piece, so it is a fault.
abbrev IsStop : Reading → Type 0
IsStop (reads.Piece kind size) = ⊥
IsStop _ = Unit {0}

stops_at_end : (s : List ℕ) (depth : ℕ) → IsStop (reading depth (drop (length s) s))
stops_at_end s depth =
    subst (λ (r : Reading). IsStop r) (sym (ap (reading depth) (drop-length s) ∙ nothing_at_end depth)) tt

no_piece : (r : Reading) (kind : Option TokenKind) (n : ℕ) → IsStop r → r ≡ reads.Piece kind n → ⊥
no_piece r kind n stop e = subst (λ (x : Reading). IsStop x) e stop

-- Two cuts with the same pieces, end and depth.
record AreOne (ps qs : List Piece) (end depth end' depth' : ℕ) : Type 0 where
  pieces : ps ≡ qs
  ends : end ≡ end'
  depths : depth ≡ depth'

same_kind : (k l : Option TokenKind) (m n : ℕ) → reads.Piece k m ≡ reads.Piece l n → k ≡ l
same_kind k l m n e = cc

same_size : (k l : Option TokenKind) (m n : ℕ) → reads.Piece k m ≡ reads.Piece l n → m ≡ n
same_size k l m n e = cc

same_piece : (p q : Piece) → p.kind ≡ q.kind → p.from ≡ q.from → p.size ≡ q.size → p ≡ q
same_piece p q kinds froms sizes = λ i. record { kind = kinds i; from = froms i; size = sizes i }

Cut-one : (s : List ℕ) (at depth : ℕ) (ps qs : List Piece) (end end_depth end' end_depth' : ℕ)
    → Cut s at depth ps end end_depth → Cut s at depth qs end' end_depth'
    → IsStop (reading end_depth (drop end s)) → IsStop (reading end_depth' (drop end' s))
    → AreOne ps qs end end_depth end' end_depth'
Cut-one s at depth [] [] end end_depth end' end_depth' c d stop stop' =
    record { pieces = refl; ends = sym c.0 ∙ d.0; depths = sym c.1 ∙ d.1 }
Cut-one s at depth [] (q ∷ qs) end end_depth end' end_depth' c d stop stop' =
    absurd (no_piece (reading depth (drop at s)) q.kind q.size
    (subst (λ (r : Reading). IsStop r) (sym (ap (λ k. reading depth (drop k s)) c.0 ∙ ap (λ k. reading k (drop end s)) c.1)) stop) d.1)
Cut-one s at depth (p ∷ ps) [] end end_depth end' end_depth' c d stop stop' =
    absurd (no_piece (reading depth (drop at s)) p.kind p.size
    (subst (λ (r : Reading). IsStop r) (sym (ap (λ k. reading depth (drop k s)) d.0 ∙ ap (λ k. reading k (drop end' s)) d.1)) stop') c.1)
Cut-one s at depth (p ∷ ps) (q ∷ qs) end end_depth end' end_depth' c d stop stop' =
    let same = sym c.1 ∙ d.1 in
    let sizes : p.size ≡ q.size = same_size p.kind q.kind p.size q.size same in
    let kinds : p.kind ≡ q.kind = same_kind p.kind q.kind p.size q.size same in
    let others : AreOne ps qs end end_depth end' end_depth' =
    Cut-one s (at + p.size) (depth_after depth (drop at s)) ps qs end end_depth end' end_depth' c.2
    (subst (λ (n : ℕ). Cut s (at + n) (depth_after depth (drop at s)) qs end' end_depth') (sym sizes) d.2) stop stop' in
    record {
      pieces = ap (λ x. x ∷ ps) (same_piece p q kinds (c.0 ∙ sym d.0) sizes) ∙ ap (λ xs. q ∷ xs) others.pieces;
      ends = others.ends;
      depths = others.depths;
    }

Reaches-one : (s : List ℕ) (at depth at' depth' : ℕ) (ts us : List Token) (r : Reaches s at depth ts) (q : Reaches s at' depth' us)
    → IsStop (reading depth (drop at s)) → IsStop (reading depth' (drop at' s)) → AreOne r.pieces q.pieces at depth at' depth'
Reaches-one s at depth at' depth' ts us r q stop stop' =
    Cut-one s (text_start s) 0 r.pieces q.pieces at depth at' depth' r.cut q.cut stop stop'

pub one_list : HasOneTokenList
one_list s ts us t u =
    let same = Reaches-one s (length s) t.depth (length s) u.depth ts us t.reaches u.reaches (stops_at_end s t.depth) (stops_at_end s u.depth) in
    t.reaches.are ∙ ap (filter_map token_of) same.pieces ∙ sym u.reaches.are

stop_of : (r found : Reading) → r ≡ found → IsStop found → IsStop r
stop_of r found e stop = subst (λ (x : Reading). IsStop x) (sym e) stop

no_stop_beside : (s : List ℕ) (ts : List Token) (p : ℕ) (found : Reading) → IsTokenList s ts → Meets s p found → IsStop found → ⊥
no_stop_beside s ts p found t m stop =
    let same = Reaches-one s (length s) t.depth p m.depth ts m.before t.reaches m.reaches (stops_at_end s t.depth) (stop_of (reading m.depth (drop p s)) found m.found_there stop) in
    omega (arith, same.ends, m.within)

one_stop : (s : List ℕ) (p q : ℕ) (found met : Reading) → Meets s p found → Meets s q met → IsStop found → IsStop met → (p ≡ q) × (found ≡ met)
one_stop s p q found met m n stop stop' =
    let same = Reaches-one s p m.depth q n.depth m.before n.before m.reaches n.reaches (stop_of (reading m.depth (drop p s)) found m.found_there stop) (stop_of (reading n.depth (drop q s)) met n.found_there stop') in (
      same.ends,
      sym m.found_there ∙ ap (λ d. reading d (drop p s)) same.depths ∙ ap (λ k. reading n.depth (drop k s)) same.ends ∙ n.found_there,
    )

utf8_is_valid : (s : List ℕ) (n : ℕ) → IsUtf8 s → IsValidUpTo s n → ⊥
utf8_is_valid s n u v =
    v.longest (length s) v.short (subst (λ (xs : List ℕ). IsUtf8 xs) (sym (take_all (length s) s (omega arith))) u)

one_front : (s : List ℕ) (m n : ℕ) → IsValidUpTo s m → IsValidUpTo s n → m ≡ n
one_front s m n v w = sym (utf8_valid_len-IsValidUpTo s m v) ∙ utf8_valid_len-IsValidUpTo s n w

not_both : (o : Option ℕ) (q : ℕ) → o ≡ None → o ≡ Some q → ⊥
not_both o q none some = cc

one_place : (o : Option ℕ) (m n : ℕ) → o ≡ Some m → o ≡ Some n → m ≡ n
one_place o m n first second = cc

pub no_fault : HasNoFaultBeside
no_fault s ts error.FileTooLong t f = absurd (omega (arith, f, t.readable.short))
no_fault s ts (error.NotUtf8 n) t f = absurd (utf8_is_valid s n t.readable.utf8 f.1)
no_fault s ts (error.Coding p) t f = absurd (not_both (wrong_coding (drop (text_start s) s)) f.2.0 t.readable.coding f.2.1)
no_fault s ts (error.Unterminated p) t f = absurd (no_stop_beside s ts p reads.Unterminated t f.1 tt)
no_fault s ts (error.StrayCode p) t f = absurd (no_stop_beside s ts p reads.Stray t f.1 tt)
no_fault s ts error.OutOfMemory t f = refl

apart : reads.Unterminated ≡ reads.Stray → ⊥
apart e = cc

pub one_fault : HasOneFault
one_fault s error.FileTooLong error.FileTooLong f g e1 e2 = refl
one_fault s error.FileTooLong (error.NotUtf8 q) f g e1 e2 = absurd (omega (arith, f, g.0))
one_fault s error.FileTooLong (error.Coding q) f g e1 e2 = absurd (omega (arith, f, g.0))
one_fault s error.FileTooLong (error.Unterminated q) f g e1 e2 = absurd (omega (arith, f, g.0.short))
one_fault s error.FileTooLong (error.StrayCode q) f g e1 e2 = absurd (omega (arith, f, g.0.short))
one_fault s error.FileTooLong error.OutOfMemory f g e1 e2 = absurd (e2 refl)
one_fault s (error.NotUtf8 p) error.FileTooLong f g e1 e2 = absurd (omega (arith, g, f.0))
one_fault s (error.NotUtf8 p) (error.NotUtf8 q) f g e1 e2 = ap error.NotUtf8 (one_front s p q f.1 g.1)
one_fault s (error.NotUtf8 p) (error.Coding q) f g e1 e2 = absurd (utf8_is_valid s p g.1 f.1)
one_fault s (error.NotUtf8 p) (error.Unterminated q) f g e1 e2 = absurd (utf8_is_valid s p g.0.utf8 f.1)
one_fault s (error.NotUtf8 p) (error.StrayCode q) f g e1 e2 = absurd (utf8_is_valid s p g.0.utf8 f.1)
one_fault s (error.NotUtf8 p) error.OutOfMemory f g e1 e2 = absurd (e2 refl)
one_fault s (error.Coding p) error.FileTooLong f g e1 e2 = absurd (omega (arith, g, f.0))
one_fault s (error.Coding p) (error.NotUtf8 q) f g e1 e2 = absurd (utf8_is_valid s q f.1 g.1)
one_fault s (error.Coding p) (error.Coding q) f g e1 e2 = ap error.Coding (f.2.2 ∙ ap (λ n. text_start s + n) (one_place (wrong_coding (drop (text_start s) s)) f.2.0 g.2.0 f.2.1 g.2.1) ∙ sym g.2.2)
one_fault s (error.Coding p) (error.Unterminated q) f g e1 e2 = absurd (not_both (wrong_coding (drop (text_start s) s)) f.2.0 g.0.coding f.2.1)
one_fault s (error.Coding p) (error.StrayCode q) f g e1 e2 = absurd (not_both (wrong_coding (drop (text_start s) s)) f.2.0 g.0.coding f.2.1)
one_fault s (error.Coding p) error.OutOfMemory f g e1 e2 = absurd (e2 refl)
one_fault s (error.Unterminated p) error.FileTooLong f g e1 e2 = absurd (omega (arith, g, f.0.short))
one_fault s (error.Unterminated p) (error.NotUtf8 q) f g e1 e2 = absurd (utf8_is_valid s q f.0.utf8 g.1)
one_fault s (error.Unterminated p) (error.Coding q) f g e1 e2 = absurd (not_both (wrong_coding (drop (text_start s) s)) g.2.0 f.0.coding g.2.1)
one_fault s (error.Unterminated p) (error.Unterminated q) f g e1 e2 = ap error.Unterminated (one_stop s p q reads.Unterminated reads.Unterminated f.1 g.1 tt tt).0
one_fault s (error.Unterminated p) (error.StrayCode q) f g e1 e2 = absurd (apart (one_stop s p q reads.Unterminated reads.Stray f.1 g.1 tt tt).1)
one_fault s (error.Unterminated p) error.OutOfMemory f g e1 e2 = absurd (e2 refl)
one_fault s (error.StrayCode p) error.FileTooLong f g e1 e2 = absurd (omega (arith, g, f.0.short))
one_fault s (error.StrayCode p) (error.NotUtf8 q) f g e1 e2 = absurd (utf8_is_valid s q f.0.utf8 g.1)
one_fault s (error.StrayCode p) (error.Coding q) f g e1 e2 = absurd (not_both (wrong_coding (drop (text_start s) s)) g.2.0 f.0.coding g.2.1)
one_fault s (error.StrayCode p) (error.Unterminated q) f g e1 e2 = absurd (apart (sym (one_stop s p q reads.Stray reads.Unterminated f.1 g.1 tt tt).1))
one_fault s (error.StrayCode p) (error.StrayCode q) f g e1 e2 = ap error.StrayCode (one_stop s p q reads.Stray reads.Stray f.1 g.1 tt tt).0
one_fault s (error.StrayCode p) error.OutOfMemory f g e1 e2 = absurd (e2 refl)
one_fault s error.OutOfMemory error.FileTooLong f g e1 e2 = absurd (e1 refl)
one_fault s error.OutOfMemory (error.NotUtf8 q) f g e1 e2 = absurd (e1 refl)
one_fault s error.OutOfMemory (error.Coding q) f g e1 e2 = absurd (e1 refl)
one_fault s error.OutOfMemory (error.Unterminated q) f g e1 e2 = absurd (e1 refl)
one_fault s error.OutOfMemory (error.StrayCode q) f g e1 e2 = absurd (e1 refl)
one_fault s error.OutOfMemory error.OutOfMemory f g e1 e2 = absurd (e1 refl)
