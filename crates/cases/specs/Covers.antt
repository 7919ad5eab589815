-- Model: the closing test over the edges of a case. Assumes nothing.
use Rattle.std.specs.Prelude.{◌≡◌, ℕ, ◌<◌, Bool, true, false, ◌⊎◌, List, Some, None, Option, slice_index_or}
use Rattle.pieces.specs.declared.shapes.Edge.{Edge}
use Rattle.pieces.specs.declared.shapes.Edge.TheVariants.{Dead, Cell, Segment}

abbrev pub edges_of : List Edge → ℕ → Edge
edges_of es i = slice_index_or es i Dead

-- the edges of the first m nodes lead to such nodes
abbrev pub Inside : ℕ → (ℕ → Edge) → Type 0
Inside m edge = (i t : ℕ) → i < m → (edge i ≡ Cell t) ⊎ (edge i ≡ Segment t) → t < m

-- the answer, with the edges that are left, is that of a walk
abbrev pub Walked : Bool → (ℕ → Edge) → Option (ℕ → Edge) → Type 0
Walked r left None = r ≡ false
Walked r left (Some edge) = (r ≡ true) × (left ≡ edge)
