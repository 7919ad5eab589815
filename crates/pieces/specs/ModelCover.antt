-- Model: the test of a shape against a list of atoms, by walking along its edges. Assumes nothing.
use Rattle.std.specs.Prelude.{◌≡◌, ℕ, zero, suc, Bool, true, false, cond, not, ◌&&◌, ◌≢◌, List, [], ◌∷◌, Some, None, Option, ◌==◌}
use Rattle.heap.specs.Heaps.{Heap, Empty, without}
use Rattle.heap.specs.declared.atoms.Atom.{Atom}
use Rattle.heap.specs.declared.atoms.Atom.TheVariants.{Eq, Neq, Next, Lseg}
use Rattle.pieces.specs.ModelRuns.{Run, minus}
use Rattle.pieces.specs.declared.shapes.Edge.{Edge}
use Rattle.pieces.specs.declared.shapes.Edge.TheVariants.{Dead, Cell, Segment}
use Rattle.pieces.specs.Pieces.{put}

-- a list holds, by taking one part after another away
abbrev pub Takes : (ℕ → ℕ) → List Atom → Heap → Type 0
Takes env [] h = Empty h
Takes env (Eq x y ∷ r) h = (env x ≡ env y) × Takes env r h
Takes env (Neq x y ∷ r) h = (env x ≢ env y) × Takes env r h
Takes env (Next x y ∷ r) h = (env x ≢ 0) × (h (env x) ≡ Some (env y)) × Takes env r (without h (env x))
Takes env (Lseg x y ∷ r) h = (xs : List ℕ) × Run h (env x) (env y) xs × Takes env r (minus h xs)

abbrev pub is_dead : Edge → Bool
is_dead Dead = true
is_dead (Cell t) = false
is_dead (Segment t) = false

abbrev pub all_dead : ℕ → (ℕ → Edge) → Bool
all_dead zero edge = true
all_dead (suc m) edge = is_dead (edge m) && all_dead m edge

-- from the node i along the edges to j: the edges that are left
abbrev pub walk : ℕ → (ℕ → Edge) → ℕ → ℕ → Option (ℕ → Edge)
walk zero edge i j = cond (i == j) (Some edge) None
walk (suc n) edge i j = cond (i == j) (Some edge) (elim (edge i) [ Dead ↦ None | Cell t ↦ walk n (put edge i Dead) t j | Segment t ↦ walk n (put edge i Dead) t j ])

abbrev pub if_cell : Edge → ℕ → Bool
if_cell Dead j = false
if_cell (Cell t) j = t == j
if_cell (Segment t) j = false

abbrev pub covered : ℕ → (ℕ → ℕ) → List Atom → (ℕ → Edge) → Bool
covered m name [] edge = all_dead m edge
covered m name (Eq x y ∷ r) edge = name x == name y && covered m name r edge
covered m name (Neq x y ∷ r) edge = not (name x == name y) && covered m name r edge
covered m name (Next x y ∷ r) edge = if_cell (edge (name x)) (name y) && covered m name r (put edge (name x) Dead)
covered m name (Lseg x y ∷ r) edge = elim (walk m edge (name x) (name y)) [ None ↦ false | Some left ↦ covered m name r left ]
