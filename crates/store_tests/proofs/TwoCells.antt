-- Proofs: two cells are taken, the first is linked to the second, and they change links.
use Rattle.std.proofs.Common.{◌≡◌, ℕ, Some, arith}
use Rattle.std.proofs.lemmas.Bool.Decides.{nat_tests}
use Rattle.store.specs.Meanings.{Meaning, Taken, Written}
use Rattle.walk.specs.Ways.{Swapped}

-- p and q are the cells as they were taken, a and b as they are offered to the calls
pub after_swap_lem : {m₀ m₁ m₂ m₃ m₄ : Meaning} {p q a b : ℕ} → p ≡ a → q ≡ b → Taken m₀ p m₁ → Taken m₁ q m₂ → Written m₂ a b m₃ → Swapped m₃ a b m₄ → (m₄.heap a ≡ Some 0) × (m₄.heap b ≡ Some b)
after_swap_lem {m₀} {m₁} {m₂} {m₃} {m₄} {p} {q} {a} {b} is-a is_b one two link swap = (grind (arith, nat_tests), grind (arith, nat_tests))
