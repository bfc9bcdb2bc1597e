-- A table that says for each byte whether it belongs to a class.
use Rattle.std.proofs.Common.{◌≡◌, ℕ, zero, suc, ◌+◌, ◌<◌, Bool, false, List, [], ◌∷◌, get_or, ap, sym, ◌∙◌, arith}

-- The class at n numbers from i on.
unfoldable pub table_from : (ℕ → Bool) → ℕ → ℕ → List Bool
table_from p i zero = []
table_from p i (suc n) = p i ∷ table_from p (i + 1) n

table_at : (p : ℕ → Bool) (i n k : ℕ) (d : Bool) → k < n → get_or (table_from p i n) k d ≡ p (i + k)
unfolding table_from
table_at p i zero k d h = absurd (omega arith)
table_at p i (suc n) zero d h = let same : i ≡ i + 0 = omega arith in ap p same
table_at p i (suc n) (suc k) d h =
    let same : i + 1 + k ≡ i + suc k = omega arith in table_at p (i + 1) n k d (omega arith) ∙ ap p same

-- The class of a byte, looked up in the table.
pub read_table : (p : ℕ → Bool) (table : List Bool) (c : ℕ) (d : Bool) → table ≡ table_from p 0 256 → c < 256 → get_or table c d ≡ p c
read_table p table c d same h =
    let at : 0 + c ≡ c = omega arith in ap (λ (t : List Bool). get_or t c d) same ∙ table_at p 0 256 c d h ∙ ap p at

-- The class of a byte, if two classes have the same table.
pub read_each : (p q : ℕ → Bool) (c : ℕ) → table_from p 0 256 ≡ table_from q 0 256 → c < 256 → p c ≡ q c
read_each p q c same h =
    let at : 0 + c ≡ c = omega arith in
    ap p (sym at) ∙ sym (table_at p 0 256 c false h) ∙ ap (λ (t : List Bool). get_or t c false) same ∙ table_at q 0 256 c false h ∙ ap q at
