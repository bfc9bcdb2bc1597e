-- A folder of a map lists each name once.
use Rattle.std.proofs.Common.{◌≡◌, ℕ, Bool, true, false, ◌||◌, cond, List, [], ◌∷◌, Option, Some, None, refl, sym, subst}
use Rattle.std.specs.Prelude.{option_map, option_and_then, find, bytes_eq, IsSomeAnd}
use Rattle.std.specs.List.{list_any}
use Rattle.std.proofs.lemmas.List.Sorted.{IsPermutation-refl}
use Rattle.rl_source.specs.declared.nodes.Child.{Child}
use Rattle.rl_source.specs.declared.nodes.Held.{Held}
use Rattle.rl_source.specs.declared.nodes.Held.TheVariants as held
use Rattle.rl_source.specs.declared.nodes.Node.{Node}
use Rattle.rl_source.specs.NodeMap.{found_at, children_of, children_at}
use Rattle.rl_source.specs.Distinct.{has_double, names_twice, is_double, Lists}

or_parts : (a b : Bool) → (a || b) ≡ false → (a ≡ false) × (b ≡ false)
or_parts true b e = cc
or_parts false b e = (refl, e)

found_first : (b : Bool) (n : Node) (rest : Option Node) (h : Held) → names_twice n.held ≡ false
    → (option_map (λ m. m.held) rest ≡ Some h → names_twice h ≡ false)
    → option_map (λ m. m.held) (cond b (Some n) rest) ≡ Some h → names_twice h ≡ false
found_first true n rest h once other e = cc
found_first false n rest h once other e = other e

found_once : (nodes : List Node) (path : List ℕ) (h : Held) → list_any (λ n. names_twice n.held) nodes ≡ false
    → found_at nodes path ≡ Some h → names_twice h ≡ false
found_once [] path h none e = cc
found_once (n ∷ ns) path h none e =
    let parts = or_parts (names_twice n.held) (list_any (λ m. names_twice m.held) ns) none in
    found_first (bytes_eq n.path path) n (find (λ m. bytes_eq m.path path) ns) h parts.0 (found_once ns path h parts.1) e

folder_once : (nodes : List Node) (path : List ℕ) (o : Option Held) (children : List Child) → list_any (λ n. names_twice n.held) nodes ≡ false
    → found_at nodes path ≡ o → option_and_then children_of o ≡ Some children → has_double (λ c. c.name) children ≡ false
folder_once nodes path None children none at e = cc
folder_once nodes path (Some (held.File content)) children none at e = cc
folder_once nodes path (Some (held.Folder listed)) children none at e =
    let once = found_once nodes path (held.Folder listed) none at in cc
folder_once nodes path (Some held.Other) children none at e = cc

-- A copy of a folder's children in the map lists them.
Lists-copy : (nodes : List Node) (path : List ℕ) (children found : List Child) → is_double nodes ≡ false
    → children_at nodes path ≡ Some children → found ≡ children → Lists children found
Lists-copy nodes path children found single at e =
    let parts = or_parts (has_double (λ n. n.path) nodes) (list_any (λ n. names_twice n.held) nodes) single in
    subst (λ l. Lists children l) (sym e) (record {
      same = IsPermutation-refl children;
      once = folder_once nodes path (found_at nodes path) children parts.1 refl at;
    })

pub IsSomeAnd-listed : (nodes : List Node) (path : List ℕ) (children found : List Child) → is_double nodes ≡ false
    → children_at nodes path ≡ Some children → found ≡ children → IsSomeAnd (children_at nodes path) (λ l. Lists l found)
IsSomeAnd-listed nodes path children found single at e =
    subst (λ o. IsSomeAnd o (λ l. Lists l found)) (sym at) (Lists-copy nodes path children found single at e)
