-- Relations of two trees and flags of places, which hold of greater trees where they hold of their parts.
use Rattle.std.proofs.Common.{◌≡◌, ℕ, zero, suc, ◌+◌, ◌-◌, Bool, true, false, List, [], ◌∷◌, ◌++◌, replicate, Option, None, Some, sym, ap, ◌∙◌, subst, append_assoc, arith}
use Rattle.std.proofs.lemmas.List.{append-nil}
use Rattle.rl_syntax.specs.Lowering.{in_turn, one_of, option_of, options, times}
use Rattle.rl_syntax.specs.Tree.{Tree, empty, both, either, many}
use Rattle.rl_rewrite.specs.internal.Keeping.{copies, repeated}

repeated_sum : (n m : ℕ) (k : List Bool) → repeated (n + m) k ≡ repeated n k ++ repeated m k
repeated_sum zero m k = let e : zero + m ≡ m = omega arith in ap (λ i. repeated i k) e
repeated_sum (suc n) m k =
    let e : suc n + m ≡ suc (n + m) = omega arith in
    ap (λ i. repeated i k) e ∙ ap (λ l. k ++ l) (repeated_sum n m k) ∙ sym (append_assoc k (repeated n k) (repeated m k))

pub once_more : (n : ℕ) (k : List Bool) → repeated (n + 1) k ≡ repeated n k ++ k
once_more n k = repeated_sum n 1 k ∙ ap (λ l. repeated n k ++ l) (append-nil k)

pub record IsOfParts (R : List Bool → Tree → Tree → Type 0) : Type 0 where
  pub of_nothing : R [] empty empty
  pub of_both : (k m : List Bool) (a b e f : Tree) → R k a b → R m e f → R (k ++ m) (both a e) (both b f)
  pub of_either : (k m : List Bool) (a b e f : Tree) → R k a b → R m e f → R (k ++ m) (either a e) (either b f)
  pub of_many : (k : List Bool) (a b : Tree) (g : Bool) → R k a b → R k (many a g) (many b g)

module _ (R : List Bool → Tree → Tree → Type 0) (is : IsOfParts R) where
  -- Lists of trees, one beside the other.
  pub data Each : List Bool → List Tree → List Tree → Type 0 where
    no_each : Each [] [] []
    one_each : {k m : List Bool} {s t : Tree} {ss ts : List Tree} → R k s t → Each m ss ts → Each (k ++ m) (s ∷ ss) (t ∷ ts)

  pub each_turn : {k : List Bool} {ss ts : List Tree} → Each k ss ts → R k (in_turn ss) (in_turn ts)
  each_turn no_each = is.of_nothing
  each_turn (one_each {k = k} {s = s} {t = t} h no_each) = subst (λ l. R l s t) (sym (append-nil k)) h
  each_turn (one_each {k = k} {s = s} {t = t} h (one_each {k = l} {m = m} {s = u} {t = v} {ss = us} {ts = vs} j js)) = is.of_both k (l ++ m) s t (in_turn (u ∷ us)) (in_turn (v ∷ vs)) h (each_turn (one_each j js))

  pub each_one : {k : List Bool} {ss ts : List Tree} → Each k ss ts → R k (one_of ss) (one_of ts)
  each_one no_each = is.of_nothing
  each_one (one_each {k = k} {s = s} {t = t} h no_each) = subst (λ l. R l s t) (sym (append-nil k)) h
  each_one (one_each {k = k} {s = s} {t = t} h (one_each {k = l} {m = m} {s = u} {t = v} {ss = us} {ts = vs} j js)) = is.of_either k (l ++ m) s t (one_of (u ∷ us)) (one_of (v ∷ vs)) h (each_one (one_each j js))

  each_join : {k m : List Bool} {ss ts us vs : List Tree} → Each k ss ts → Each m us vs → Each (k ++ m) (ss ++ us) (ts ++ vs)
  each_join no_each j = j
  each_join {m = m} {us = us} {vs = vs} (one_each {k = k} {m = n} {s = s} {t = t} {ss = ss} {ts = ts} h hs) j = subst (λ l. Each l (s ∷ ss ++ us) (t ∷ ts ++ vs)) (sym (append_assoc k n m)) (one_each h (each_join hs j))

  alone : (k : List Bool) (s t : Tree) → R k s t → Each k (s ∷ []) (t ∷ [])
  alone k s t h = subst (λ l. Each l (s ∷ []) (t ∷ [])) (append-nil k) (one_each h no_each)

  each_copies : (n : ℕ) (k : List Bool) (s t : Tree) → R k s t → Each (repeated n k) (replicate n s) (replicate n t)
  each_copies zero k s t h = no_each
  each_copies (suc n) k s t h = one_each h (each_copies n k s t h)

  of_option : (g : Bool) (k : List Bool) (s t : Tree) → R k s t → R k (option_of g s) (option_of g t)
  of_option true k s t h = subst (λ l. R l (either s empty) (either t empty)) (append-nil k) (is.of_either k [] s t empty empty h is.of_nothing)
  of_option false k s t h = is.of_either [] k empty empty s t is.of_nothing h

  each_options : (g : Bool) (n : ℕ) (k : List Bool) (s t : Tree) → R k s t → Each (repeated n k) (options g s n) (options g t n)
  each_options g zero k s t h = no_each
  each_options g (suc n) k s t h =
      let a = in_turn (s ∷ options g s n) in
      let b = in_turn (t ∷ options g t n) in
      alone (k ++ repeated n k) (option_of g a) (option_of g b) (of_option g (k ++ repeated n k) a b (each_turn (one_each h (each_options g n k s t h))))

  pub of_times : (least : ℕ) (most : Option ℕ) (g : Bool) (k : List Bool) (s t : Tree) → R k s t → R (repeated (copies least most) k) (times least most g s) (times least most g t)
  of_times least None g k s t h =
      subst (λ l. R l (times least None g s) (times least None g t)) (sym (repeated_sum least 1 k))
      (each_turn (each_join (each_copies least k s t h) (one_each (is.of_many k s t g h) no_each)))
  of_times least (Some most) g k s t h =
      subst (λ l. R l (times least (Some most) g s) (times least (Some most) g t)) (sym (repeated_sum least (most - least) k))
      (each_turn (each_join (each_copies least k s t h) (each_options g (most - least) k s t h)))
