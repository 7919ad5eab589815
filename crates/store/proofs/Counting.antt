-- Proofs: how many cells of a heap are live.
use Rattle.std.proofs.Common.{◌≡◌, ℕ, zero, suc, ◌<◌, ◌≤◌, true, false, is_some, refl, arith}
use Rattle.std.proofs.lemmas.Bool.Decides.{nat_tests}
use Rattle.heap.specs.Heaps.{Heap}
use Rattle.store.specs.Meanings.{live_below}

pub live_most : (h : Heap) (n : ℕ) → live_below h n ≤ n
live_most h zero = omega arith
live_most h (suc n) = let before = live_most h n in grind (arith, nat_tests)

-- all addresses from 1 to n are live
pub all_live : (h : Heap) (n : ℕ) → ((k : ℕ) → 1 ≤ k → k ≤ n → is_some (h k) ≡ true) → live_below h n ≡ n
all_live h zero live = refl
all_live h (suc n) live =
    let here = live (suc n) (omega arith) (omega arith) in
    let before = all_live h n (λ k lo hi. live k lo (omega arith)) in
    grind (arith, nat_tests)

-- an address from 1 to n is dead
pub one_dead : (h : Heap) (n a : ℕ) → 1 ≤ a → a ≤ n → is_some (h a) ≡ false → live_below h n < n
one_dead h zero a lo hi dead = omega arith
one_dead h (suc n) a lo hi dead =
    let most = live_most h n in
    let before : a ≤ n → live_below h n < n = λ le. one_dead h n a lo le dead in
    grind (arith, nat_tests)
