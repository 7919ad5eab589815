-- Model: a segment by the list of its addresses, and a heap without some addresses. Assumes nothing.
use Rattle.std.specs.Prelude.{◌≡◌, ℕ, ◌≢◌, List, [], ◌∷◌, Some}
use Rattle.heap.specs.Heaps.{Heap, without}

abbrev pub minus : Heap → List ℕ → Heap
minus h [] = h
minus h (x ∷ xs) = minus (without h x) xs

-- from e along the links up to f, over these addresses
pub data Run : Heap → ℕ → ℕ → List ℕ → Type 0 where
  stop : {h : Heap} {f : ℕ} → Run h f f []
  step : {h : Heap} {e z f : ℕ} {xs : List ℕ} → e ≢ 0 → e ≢ f → h e ≡ Some z → Run (without h e) z f xs → Run h e f (e ∷ xs)
