-- Codes from which branches and quantifiers were removed are read as the pattern without them.
use Rattle.std.proofs.Common.{◌≡◌, ◌⊎◌, ℕ, suc, ◌≤◌, Bool, true, false, if◌then◌else◌, List, [], ◌∷◌, length, None, Result, Ok, Err, refl, sym, ap, ◌∙◌, subst, arith}
use Rattle.std.proofs.lemmas.Option.{none-some}
use mathlib.Core.Logic.{inl, inr}
use Rattle.rl_ranges.specs.declared.universe.Universe.{Universe}
use Rattle.rl_syntax.specs.declared.pattern.Pattern.{Pattern}
use Rattle.rl_syntax.specs.Lowering.{lowered}
use Rattle.rl_syntax.specs.IsPattern.{IsPattern}
use Rattle.rl_pattern.specs.declared.flags.Flags.{Flags}
use Rattle.rl_pattern.specs.declared.parsing.PatError.{PatError}
use Rattle.rl_pattern.specs.declared.parsing.PatError.TheVariants as error
use Rattle.rl_pattern.specs.Tree.{Span, Whole}
use Rattle.rl_pattern.specs.Grammar.{Spells}
use Rattle.rl_pattern.specs.Found.{refused, inner}
use Rattle.rl_pattern.specs.Shape.{is_text, shape}
use Rattle.rl_pattern.specs.Answers.{Shallow}
use Rattle.rl_pattern.specs.Parsed.{IsSpelled, IsParsed}
use Rattle.rl_pattern.specs.Thinned.{kept_from}
use Rattle.rl_pattern.specs.Cut.{remaining}
use Rattle.rl_pattern.specs.Reread.{IsRemaining}
use Rattle.rl_pattern.proofs.Reading.{one_is_spelled}
use Rattle.rl_pattern.proofs.InnerBare.{inner_pattern}
use Rattle.rl_pattern.proofs.Bodies.{pattern_from, body_of-from, others-from}
use Rattle.rl_pattern.proofs.OuterAnchors.{left_allowed}
use Rattle.rl_pattern.proofs.Linking.{Good}
use Rattle.rl_pattern.proofs.Seams.{Clean}
use Rattle.rl_pattern.proofs.Cutting.{stays, Cuts, Free, cut_spells}
use Rattle.rl_pattern.proofs.Prefixes.{shallow_tree, tree_shallow}

shorter : (kept : ℕ → Bool) (k : ℕ) (w : List ℕ) → length (kept_from kept k w) ≤ length w
shorter kept k [] = omega arith
shorter kept k (c ∷ w) = go (kept k) (shorter kept (suc k) w)
  where
    go : (b : Bool) → length (kept_from kept (suc k) w) ≤ length w → length (if b then c ∷ kept_from kept (suc k) w else kept_from kept (suc k) w) ≤ suc (length w)
    go true h = omega (arith, h)
    go false h = omega (arith, h)

module _ (u : Universe) (flags : Flags) (drop out : Span → Bool) (w : List ℕ) (found : Pattern) (whole : Whole) (sp : IsSpelled flags u w found whole) (gd : Good u drop out whole.body) (cl : Clean u drop out whole.body) (free : Free u drop out flags w whole) where
  abbrev the_codes : List ℕ
  the_codes = kept_from (stays u drop out whole.body) 0 w

  cuts : Cuts u drop out flags w whole
  cuts = cut_spells u drop out flags w whole sp.read.spelled gd cl free

  abbrev what : Whole
  what = cuts.what

  is_shallow : Shallow flags (is_text u) the_codes
  is_shallow = tree_shallow flags (is_text u) the_codes cuts.what cuts.is_spelled (λ h. shallow_tree flags (is_text u) w sp.read.shallow whole sp.read.spelled (cuts.leaves.nested 101 h))

  is_allowed : refused flags (is_text u) cuts.what ≡ None
  is_allowed = left_allowed u drop out flags cuts.places whole cuts.what cuts.fronts cuts.leaves cuts.anchors sp.allowed

  same_whole : (q : Whole) → Spells flags (is_text u) the_codes q → q ≡ cuts.what
  same_whole q h = one_is_spelled flags (is_text u) the_codes q cuts.what h cuts.is_spelled

  is_left : (new : Pattern) → IsSpelled flags u the_codes new cuts.what → IsRemaining drop out found new
  is_left new h =
      record {
        tree = ap lowered h.pattern.body ∙ cuts.anchors.same ∙ sym (ap (λ p. lowered (remaining drop out p)) sp.pattern.body);
        leading = h.pattern.leading ∙ cuts.anchors.leading ∙ sym sp.pattern.leading;
        trailing = h.pattern.trailing ∙ cuts.anchors.trail ∙ sym sp.pattern.trailing;
        universe = h.pattern.universe ∙ sym sp.pattern.universe;
      }

  is_short : length the_codes ≤ 10000
  is_short = omega (arith, shorter (stays u drop out whole.body) 0 w, sp.read.asked.short)

  is_body : IsPattern u (shape u (inner cuts.what).body)
  is_body = inner_pattern u flags the_codes cuts.what cuts.is_spelled is_allowed

  -- The pattern that the remaining codes spell.
  the_new : Pattern
  the_new = pattern_from u (shape u (inner cuts.what).body) (inner cuts.what).leading (inner cuts.what).trail is_body

  new_spelled : IsSpelled flags u the_codes the_new cuts.what
  unfolding the_new
  new_spelled =
      let others = others-from u (shape u (inner cuts.what).body) (inner cuts.what).leading (inner cuts.what).trail is_body in
      record {
        read = record { asked = record { short = is_short; allowed = sp.read.asked.allowed }; spelled = cuts.is_spelled; shallow = is_shallow };
        allowed = is_allowed;
        pattern = record { body = body_of-from u (shape u (inner cuts.what).body) (inner cuts.what).leading (inner cuts.what).trail is_body; leading = others.0; trailing = others.1; universe = others.2 };
      }

  -- There is a pattern that the remaining codes are read as.
  pub cut_found : (new : Pattern) × IsParsed flags u the_codes (Ok new) × IsRemaining drop out found new
  cut_found = (the_new, (cuts.what, new_spelled), is_left the_new new_spelled)

  -- Whatever the result of parsing the remaining codes is.
  pub cut_reads : (r : Result Pattern PatError) → IsParsed flags u the_codes r → (r ≡ Err error.OutOfMemory) ⊎ ((new : Pattern) × (r ≡ Ok new) × IsRemaining drop out found new)
  cut_reads (Ok new) (q, h) = inr (new, refl, is_left new (subst (λ z. IsSpelled flags u the_codes new z) (same_whole q h.read.spelled) h))
  cut_reads (Err error.TooLong) h = absurd (omega (arith, h, shorter (stays u drop out whole.body) 0 w, sp.read.asked.short))
  cut_reads (Err (error.Outside p f)) (inl h) = absurd (none-some f (sym sp.read.asked.allowed ∙ h.refused))
  cut_reads (Err (error.Outside p f)) (inr (q, h)) = absurd (none-some _ (sym is_allowed ∙ ap (refused flags (is_text u)) (sym (same_whole q h.read.spelled)) ∙ h.first))
  cut_reads (Err (error.TooDeep p)) h = absurd (is_shallow p h.deep)
  cut_reads (Err (error.Syntax n)) h = absurd (h.none cuts.what cuts.is_spelled)
  cut_reads (Err error.OutOfMemory) h = inl refl
