-- Proofs: what a walk along the links passes.
use Rattle.std.proofs.Common.{◌≡◌, ℕ, zero, suc, false, is_some, Some, None, Option, refl, arith}
use Rattle.heap.specs.Heaps.{Heap}
use Rattle.walk.specs.Ways.{steps}

-- one step from a live cell
pub steps-more : (h : Heap) (k j a l : ℕ) → k ≡ suc j → h a ≡ Some l → steps h k a ≡ suc (steps h j l)
steps-more h k j a l e p = rw (e, steps, p)

-- none from any other
pub steps-dead : (h : Heap) (k a : ℕ) → is_some (h a) ≡ false → steps h k a ≡ 0
steps-dead h zero a e = refl
steps-dead h (suc k) a e = by_cell (h a) refl e
  where
    by_cell : (o : Option ℕ) → h a ≡ o → is_some o ≡ false → steps h (suc k) a ≡ 0
    by_cell None q _ = rw (steps, q)
    by_cell (Some l) q f = let z : ◌≡◌ {A = ℕ} 0 1 = cc in omega arith
