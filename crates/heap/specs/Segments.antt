-- Meaning: what holds of every list segment. Assumes nothing.
use Rattle.std.specs.Prelude.{◌≡◌, ℕ, ◌≢◌, ◌⊎◌, None}
use Rattle.heap.specs.Heaps.{Heap, Empty, Split, IsCell, IsLseg}

-- the end of a segment is none of its cells
abbrev pub EndIsNoCell : Type 0
EndIsNoCell = (h : Heap) (e f : ℕ) → IsLseg h e f → h f ≡ None

-- nil is none of its cells
abbrev pub NilIsNoCell : Type 0
NilIsNoCell = (h : Heap) (e f : ℕ) → IsLseg h e f → h 0 ≡ None

-- the cell e, and beside it a segment from its link to f
abbrev pub Starts : Heap → ℕ → ℕ → Type 0
Starts h e f = (k : Heap) × (l : Heap) × (z : ℕ) × Split h k l × IsCell e z k × IsLseg l z f

-- a segment is empty where it ends where it starts, and otherwise a cell and a segment, and nothing else is one
abbrev pub Unfolds : Type 0
Unfolds = (h : Heap) (e f : ℕ) → (IsLseg h e f → ((e ≡ f) × Empty h) ⊎ ((e ≢ f) × Starts h e f)) × (((e ≡ f) × Empty h) ⊎ ((e ≢ f) × Starts h e f) → IsLseg h e f)
