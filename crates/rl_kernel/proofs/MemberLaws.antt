-- What it means that a number is a member.
use Rattle.std.proofs.Common.{◌≡◌, ℕ, ◌<◌, true, List, length, get_or, ltb, eqb, lt-ltb, eqb-true, eq-eqb}
use Rattle.std.proofs.lemmas.Bool.{ltb-true, and_parts, and_from}
use Rattle.rl_kernel.specs.Members.{is_member}

pub member-there : (members places : List ℕ) (x : ℕ) → is_member members places x ≡ true → (get_or places x 0 < length members) × (get_or members (get_or places x 0) 0 ≡ x)
member-there members places x h =
    let a = and_parts (ltb (get_or places x 0) (length members)) (eqb (get_or members (get_or places x 0) 0) x) h in
    (ltb-true (get_or places x 0) (length members) a.0, eqb-true (get_or members (get_or places x 0) 0) x a.1)

pub there-member : (members places : List ℕ) (x : ℕ) → get_or places x 0 < length members → get_or members (get_or places x 0) 0 ≡ x → is_member members places x ≡ true
there-member members places x h e =
    and_from (ltb (get_or places x 0) (length members)) (eqb (get_or members (get_or places x 0) 0) x)
    (lt-ltb (get_or places x 0) (length members) h) (eq-eqb (get_or members (get_or places x 0) 0) x e)
