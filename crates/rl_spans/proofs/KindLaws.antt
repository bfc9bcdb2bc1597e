-- Codes of which guards see the same are of one kind.
use Rattle.std.proofs.Common.{◌≡◌, ℕ, Bool, true, false, ◌&&◌, List, [], ◌∷◌, ◌++◌, Option, None, Some, refl, sym, ap, ap₂, subst, ◌∙◌}
use Rattle.std.proofs.Math.Bool.{beq}
use Rattle.std.proofs.lemmas.Bool.{and_parts}
use Rattle.rl_ranges.specs.Letters.{alike}
use Rattle.rl_ranges.proofs.LetterLemmas.{alike-append}
use Rattle.rl_syntax.specs.declared.anchors.Guard.{Guard}
use Rattle.rl_syntax.specs.declared.anchors.Guard.TheVariants.{Start, LineStart, LineEnd, TextEnd, Word, NotWord, Look}
use Rattle.rl_syntax.specs.Guards.{is_in, is_line_feed, is_word, sets_named}
use Rattle.rl_syntax.specs.Tree.{Tree, empty, one, guard, both, either, many, guard_sets}
use Rattle.rl_marks.specs.Marked.{plain}
use Rattle.rl_marks.specs.Hits.{Matcher}
use Rattle.rl_marks.specs.internal.PairLetters.{guards_of_both, SameKind}
use Rattle.rl_spans.specs.declared.shown.Shown.{Shown}
use Rattle.rl_spans.specs.internal.Looks.{set_looked_for, look_sets, looks_of_both}
use Rattle.rl_spans.specs.internal.Shown.{IsShown}

beq-itself : (a : Bool) → beq a a ≡ true
beq-itself true = refl
beq-itself false = refl

beq-same : (a b : Bool) → a ≡ b → beq a b ≡ true
beq-same a b e = subst (λ x. beq a x ≡ true) e (beq-itself a)

module _ (c d : ℕ) (line_feed : is_line_feed c ≡ is_line_feed d) (word : (ascii : Bool) → is_word ascii c ≡ is_word ascii d) where
  one-alike : (s : ℕ → Bool) → s c ≡ s d → alike (s ∷ []) c d ≡ true
  one-alike s e = ap (λ b. b && true) (beq-same (s c) (s d) e)

  -- Codes that the set of a lookaround doesn't tell apart are alike to it.
  named-alike : (g : Guard) → alike (set_looked_for g) c d ≡ true → alike (sets_named g) c d ≡ true
  named-alike Start k = refl
  named-alike LineStart k = one-alike is_line_feed line_feed
  named-alike LineEnd k = one-alike is_line_feed line_feed
  named-alike TextEnd k = refl
  named-alike (Word ascii) k = one-alike (is_word ascii) (word ascii)
  named-alike (NotWord ascii) k = one-alike (is_word ascii) (word ascii)
  named-alike (Look behind negated ranges) k = k

  parts-alike : (l m : List (ℕ → Bool)) → alike (l ++ m) c d ≡ true → (alike l c d ≡ true) × (alike m c d ≡ true)
  parts-alike l m k = and_parts (alike l c d) (alike m c d) (sym (alike-append l m c d) ∙ k)

  append-alike : (l m : List (ℕ → Bool)) → alike l c d ≡ true → alike m c d ≡ true → alike (l ++ m) c d ≡ true
  append-alike l m p q = alike-append l m c d ∙ ap₂ (λ a b. a && b) p q

  guards-alike : (t : Tree) → alike (look_sets t) c d ≡ true → alike (guard_sets t) c d ≡ true
  guards-alike empty k = refl
  guards-alike (one s) k = refl
  guards-alike (guard g) k = named-alike g k
  guards-alike (both e f) k =
      let each = parts-alike (look_sets e) (look_sets f) k in
      append-alike (guard_sets e) (guard_sets f) (guards-alike e each.0) (guards-alike f each.1)
  guards-alike (either e f) k =
      let each = parts-alike (look_sets e) (look_sets f) k in
      append-alike (guard_sets e) (guard_sets f) (guards-alike e each.0) (guards-alike f each.1)
  guards-alike (many e greedy) k = guards-alike e k

  both-alike : (s t : Matcher) → alike (looks_of_both s t) c d ≡ true → alike (guards_of_both s t) c d ≡ true
  both-alike s t k =
      let each = parts-alike (look_sets (plain s.tree)) (look_sets (plain t.tree)) k in
      append-alike (guard_sets (plain s.tree)) (guard_sets (plain t.tree)) (guards-alike (plain s.tree) each.0) (guards-alike (plain t.tree) each.1)

-- What is shown of a code, and of a code or none that guards see alike.
pub same-kind : (c : ℕ) (o : Option ℕ) (x y : Shown) → IsShown x → IsShown y → x.code ≡ Some c → y.code ≡ o
    → x.line_feed ≡ y.line_feed → x.word ≡ y.word → x.ascii_word ≡ y.ascii_word → (looks : List (ℕ → Bool)) → SameKind looks x.code y.code
    → (s t : Matcher) → looks ≡ looks_of_both s t → SameKind (guards_of_both s t) (Some c) o
unfolding is_in
same-kind c None x y p q e f line_feed word ascii looks kind s t same = absurd (subst (SameKind looks (Some c)) f (subst (λ k. SameKind looks k y.code) e kind))
same-kind c (Some d) x y p q e f line_feed word ascii looks kind s t same =
    both-alike c d
    (sym (p.line_feed ∙ ap (is_in is_line_feed) e) ∙ line_feed ∙ q.line_feed ∙ ap (is_in is_line_feed) f)
    (λ flag. elim flag as (λ a. is_word a c ≡ is_word a d) [
      | true ↦ sym (p.ascii_word ∙ ap (is_in (is_word true)) e) ∙ ascii ∙ q.ascii_word ∙ ap (is_in (is_word true)) f
      | false ↦ sym (p.word ∙ ap (is_in (is_word false)) e) ∙ word ∙ q.word ∙ ap (is_in (is_word false)) f
    ])
    s t (subst (λ l. alike l c d ≡ true) same (subst (SameKind looks (Some c)) f (subst (λ k. SameKind looks k y.code) e kind)))
