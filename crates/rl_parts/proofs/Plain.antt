-- The reply has no floating-point number.
use Rattle.std.proofs.Common.{◌≡◌, ℕ, suc, ◌+◌, Bool, true, false, cond, List, Option, Some, None, refl}
use Rattle.std.proofs.lemmas.Bool.{or_from}
use Rattle.std.specs.Char.{encode_utf8}
use lib.Utf8.{scalar}
use Rattle.serde_json.specs.Data.{null, string}
use Rattle.serde_json.specs.View.{items_of}
use Rattle.serde_json.specs.Written.{has_float, items_have_float}
use Rattle.rl_json.proofs.NoFloats as json
use Rattle.rl_ranges.specs.Codes.{has}
use Rattle.rl_syntax.specs.declared.pattern.Pattern.{Pattern}
use Rattle.rl_syntax.specs.Pattern.{body_of}
use Rattle.rl_syntax.specs.PatTree.{PatTree, PatTrees, BranchTrees, nothing, class, seq, choice, repeat, group, anchor, boundary, look, outside, no_items, item, no_branches, branch}
use Rattle.rl_marks.specs.Marking.{groups_in}
use Rattle.rl_parts.specs.Members.{whole, number_data}
use Rattle.rl_parts.specs.Nodes.{letters_from, node_data, items_data, branches_data}
use Rattle.rl_parts.specs.Reply.{letter_data, tree_data}

number-plain : (number : Option ℕ) → has_float (number_data number) ≡ false
number-plain None = refl
number-plain (Some n) = refl

sample-plain : (b : Bool) (sample : ℕ) → has_float (cond b (string (encode_utf8 sample)) null) ≡ false
sample-plain true sample = refl
sample-plain false sample = refl

letter-plain : (sample : ℕ) → has_float (letter_data sample) ≡ false
letter-plain sample = or_from _ _ (sample-plain (scalar sample) sample) refl

mutual
  node-plain : (samples : List ℕ) (p : PatTree) (n : ℕ) → has_float (node_data samples p n) ≡ false
  node-plain samples (nothing span) n = refl
  node-plain samples (class span set) n = or_from _ _ (json.items-plain whole (letters_from 0 set samples) (λ k. refl)) refl
  node-plain samples (seq span ps) n = or_from _ _ (items-plain samples ps n) refl
  node-plain samples (choice span bs) n = or_from _ _ (branches-plain samples bs n) refl
  node-plain samples (repeat span mark least most greedy p) n = or_from _ _ (node-plain samples p n) (or_from _ _ (number-plain most) refl)
  node-plain samples (group span true p) n = or_from _ _ (node-plain samples p (suc n)) refl
  node-plain samples (group span false p) n = or_from _ _ (node-plain samples p n) refl
  node-plain samples (anchor span kind multiline) n = refl
  node-plain samples (boundary span negated ascii) n = refl
  node-plain samples (look span behind negated ranges) n = or_from _ _ (json.items-plain whole (letters_from 0 (has ranges) samples) (λ k. refl)) refl
  node-plain samples (outside span what) n = refl

  items-plain : (samples : List ℕ) (ps : PatTrees) (n : ℕ) → items_have_float (items_of (items_data samples ps n)) ≡ false
  items-plain samples no_items n = refl
  items-plain samples (item p ps) n = or_from _ _ (node-plain samples p n) (items-plain samples ps (n + groups_in p))

  branches-plain : (samples : List ℕ) (bs : BranchTrees) (n : ℕ) → items_have_float (items_of (branches_data samples bs n)) ≡ false
  branches-plain samples no_branches n = refl
  branches-plain samples (branch span p bs) n = or_from _ _ (node-plain samples p n) (branches-plain samples bs (n + groups_in p))

-- The reply for a pattern has none.
pub reply-plain : (samples : List ℕ) (p : Pattern) → has_float (tree_data samples p) ≡ false
reply-plain samples p =
    or_from _ _ (json.items-plain letter_data samples letter-plain) (or_from _ _ (node-plain samples (body_of p) 1) refl)
