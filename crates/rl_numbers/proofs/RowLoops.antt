-- Loops over a row that end at the first member without a property.
use Rattle.std.proofs.Common.{◌≡◌, ◌∙◌, ℕ, ◌<◌, ◌↔◌, Bool, true, false, IsTrue, List, All, length, get_or, refl, sym, subst, arith, true≢false}
use Rattle.rl_graph.specs.Paths.{Has}
use Rattle.rl_graph.specs.Graph.{Graph, edges_of, IsWhole}
use Rattle.rl_graph.proofs.Sums.{at-has, at-short, at-get_or, Has-get_or}

-- What holds at each place holds of each member.
pub each-member : (P : ℕ → Type 0) (row : List ℕ) → ((i : ℕ) → i < length row → P (get_or row i 0)) → (z : ℕ) → Has z row → P z
each-member P row h z i = let r = at-has z row i in subst P (at-get_or row r.0 z 0 r.1) (h r.0 (at-short row r.0 z r.1))

-- All members passed.
pub passed-all : (P : ℕ → Type 0) (row : List ℕ) → ((i : ℕ) → i < length row → P (get_or row i 0)) → IsTrue true ↔ ((z : ℕ) → Has z row → P z)
passed-all P row h = (λ _. each-member P row h, λ _. refl)

-- One did not.
pub failed-one : (P : ℕ → Type 0) (row : List ℕ) (i : ℕ) → i < length row → (P (get_or row i 0) → ⊥) → IsTrue false ↔ ((z : ℕ) → Has z row → P z)
failed-one P row i lt fails = (λ e. absurd (true≢false (sym e)), λ all. absurd (fails (all (get_or row i 0) (Has-get_or row i 0 lt))))

pub never-both : (b : Bool) → b ≡ false → b ≡ true → ⊥
never-both b e d = true≢false (sym d ∙ e)

-- The members of a row of targets are in range.
pub row-in : (g : Graph) (q l count : ℕ) (row : List ℕ) → IsWhole g → row ≡ edges_of g q l → count ≡ g.states → All (λ m. m < count) row
row-in g q l count row whole same size k d lt =
    let small = whole.targets q l (get_or row k d) (subst (λ (r : List ℕ). Has (get_or row k d) r) same (Has-get_or row k d lt)) in
    omega (arith, small, size)
