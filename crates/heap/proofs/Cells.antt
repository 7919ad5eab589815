-- Proofs: a live cell is taken from a heap, or laid beside it, as one part of it.
use Rattle.std.proofs.Common.{◌≡◌, ℕ, ◌≢◌, Some, None, arith}
use Rattle.heap.specs.Heaps.{Heap, Split, IsCell, put, without}
use Rattle.std.proofs.lemmas.Bool.Decides.{nat_tests}

-- the heap that has the one cell e
abbrev pub only : ℕ → ℕ → Heap
only e f = put (λ _. None) e f

pub only_is_cell : (e f : ℕ) → e ≢ 0 → IsCell e f (only e f)
only_is_cell e f p = record { some_address = p; links = grind (arith, nat_tests); alone = λ a q. grind (arith, nat_tests) }

pub split_taken : (h : Heap) (e f : ℕ) → h e ≡ Some f → Split h (only e f) (without h e)
split_taken h e f p a = grind (arith, nat_tests)

pub split_laid : (h : Heap) (e f : ℕ) → h e ≡ None → Split (put h e f) (only e f) h
split_laid h e f p a = grind (arith, nat_tests)
