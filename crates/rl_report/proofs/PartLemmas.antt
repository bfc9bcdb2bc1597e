-- What holds for a part of an entry, if the entry has it.
use Rattle.std.proofs.Common.{◌≡◌, Option, None, Some, option_map, sym, subst}
use Rattle.std.specs.Prelude.{IfSome}

-- What holds for the part also holds for the reference to it.
pub if_referred : {X Y : Type 0} (f : X → Y) (P : Y → Type 0) (o : Option X) (part : Option Y) → option_map f o ≡ part → IfSome part P → IfSome o (λ x. P (f x))
if_referred f P None part e h = tt
if_referred f P (Some x) part e h = subst (λ p. IfSome p P) (sym e) h
