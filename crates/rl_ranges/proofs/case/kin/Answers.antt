use Rattle.std.proofs.Common.{Global, Vec, ap, ap₂, false, subst, sym, ℕ, ◌||◌, ◌∙◌, ◌≡◌}
use Rattle.std.proofs.lemmas.List.Sorted.{IsNonDecreasingBy-from_sort}
use Rattle.std.proofs.lemmas.Result.{IfOk-weaker}
use Rattle.std.specs.List.Sorted.{IsNonDecreasing}
use Rattle.rl_ranges.proofs.CaseLemmas.{KeysRise-ASCII_PAIRS, KeysRise-fold_pairs, is_among-IsPermutation, is_among-nil}
use Rattle.rl_ranges.specs.Codes.{has}
use Rattle.rl_ranges.specs.internal.Images.{KeysRise, has_kin, in_image, is_among}
use Rattle.rl_ranges.specs.declared.tables.TheConstants.{ASCII_PAIRS, I_PAIRS}
use Rattle.rl_ranges.proofs.case.kin.Goals.{else-ascii+in_ok-add_image-2+in_ok-add_image-3, then-ascii+in_ok-add_image}
use Rattle.rl_ranges.proofs.case.kin.Goals as goal

pub add_image-requires-clause-rising : goal.add_image-requires-clause-rising
add_image-requires-clause-rising c = KeysRise-ASCII_PAIRS

pub add_image-requires-else-ascii-clause-rising : goal.add_image-requires-else-ascii-clause-rising
add_image-requires-else-ascii-clause-rising c = subst KeysRise (sym c.fold_pairs.ensures.table) KeysRise-fold_pairs

pub ranges_of-requires : goal.ranges_of-requires
ranges_of-requires c = subst IsNonDecreasing (sym c.deref.ensures.value) (IsNonDecreasingBy-from_sort (λ x. x) _ c.sort_unstable.ensures.sorted)

pub returns-clause-members : goal.returns-clause-members
returns-clause-members c =
    let ranges = c.args.ranges.now in
    let none : (x : ℕ) → is_among c.new-codes.result.items x ≡ false = λ x. ap (λ l. is_among l x) c.new-codes.ensures.items ∙ is_among-nil x in
    let among : (x : ℕ) → is_among c.if-ascii.codes.items x ≡ has_kin c.args.ascii ranges x = λ x. elim c.if-ascii.branch [
      | then-ascii+in_ok-add_image w ↦
          ap (λ (v : Vec ℕ Global). is_among v.items x) w.codes-is ∙ w.in_ok-add_image.ensures x
          ∙ ap (λ b. b || in_image ASCII_PAIRS ranges x) (none x) ∙ ap (λ a. has_kin a ranges x) (sym w.if-ascii.true)
      | else-ascii+in_ok-add_image-2+in_ok-add_image-3 w ↦
          ap (λ (v : Vec ℕ Global). is_among v.items x) w.codes-is ∙ w.in_ok-add_image-3.ensures x
          ∙ ap (λ b. b || in_image I_PAIRS ranges x) (w.in_ok-add_image-2.ensures x ∙ ap₂ (λ b l. b || in_image l ranges x) (none x) w.fold_pairs.ensures.table)
          ∙ ap (λ a. has_kin a ranges x) (sym w.if-ascii.false)
    ] in
    IfOk-weaker c.ranges_of.result (λ (v : Vec (ℕ × ℕ) Global). (x : ℕ) → has v.items x ≡ is_among c.deref.result.now x) (λ (v : Vec (ℕ × ℕ) Global). (x : ℕ) → has v.items x ≡ has_kin c.args.ascii ranges x)
    (λ v h x. h x ∙ ap (λ l. is_among l x) c.deref.ensures.value ∙ is_among-IsPermutation _ _ x c.sort_unstable.ensures.permutation ∙ among x) c.ranges_of.ensures.members
