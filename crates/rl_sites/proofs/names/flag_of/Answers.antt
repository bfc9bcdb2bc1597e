use Rattle.std.proofs.Common.{◌≡◌, ◌∙◌, ℕ, Bool, true, false, cond, List, refl, sym, bytes_eq, rules, tests}
use Rattle.std.specs.Prelude.{◌||◌, find}
use Rattle.std.specs.Map.{lookup}
use Rattle.std.proofs.lemmas.Iterator.{YieldsList-from_slice}
use Rattle.std.proofs.lemmas.Iterator.Adapters.{option_map_id}
use Rattle.std.proofs.lemmas.Iterator.Consumers.{YieldsList-from_copied}
use Rattle.std.proofs.lemmas.Iterator.Search.{find_from_yields_List}
use Rattle.rl_sites.specs.Names.{flag_names}
use Rattle.rl_sites.specs.internal.Meanings.{flags, flag_of, is_word_of}
use Rattle.rl_sites.proofs.names.flag_of.Goals as goal

either : {X : Type 0} (a b : Bool) (x y : X) → cond (a || b) x y ≡ cond a x (cond b x y)
either true b x y = refl
either false b x y = refl

-- The flag that has the word as one of its names is the flag beside the word in the table.
flag_found : (word : List ℕ) → find (is_word_of word) flags ≡ lookup (bytes_eq word) flag_names
flag_found word = simp either refl

pub returns : goal.returns
unfolding flag_of
returns c =
    sym (option_map_id c.find.result)
    ∙ find_from_yields_List (is_word_of c.args.word.now) _ _ c.find.result c.find.ensures.ran (YieldsList-from_copied (YieldsList-from_slice flags cc)) (λ x b q k. search (rules, tests))
    ∙ flag_found c.args.word.now
