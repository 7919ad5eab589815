-- Model: shapes, which are symbolic heaps with everything decided. Assumes nothing.
use Rattle.std.specs.Prelude.{◌≡◌, ℕ, suc, ◌<◌, true, ◌≢◌, ◌⊎◌, List, [], ◌∷◌, Some, None}
use Rattle.heap.specs.Heaps.{Heap}
use Rattle.pieces.specs.ModelRuns.{Run}
use Rattle.pieces.specs.Pieces.{put, mem}
use Rattle.pieces.specs.declared.shapes.Edge.{Edge}
use Rattle.pieces.specs.declared.shapes.Edge.TheVariants.{Dead, Cell, Segment}

-- the nodes below m, each with its edge
pub record Sound (m : ℕ) (edge : ℕ → Edge) (name : ℕ → ℕ) : Type 0 where
  pub some_node : 0 < m
  pub nil_dead : edge 0 ≡ Dead
  pub cells_in : (i t : ℕ) → i < m → edge i ≡ Cell t → t < m
  pub segs_in : (i t : ℕ) → i < m → edge i ≡ Segment t → (t < m) × (i ≢ t)
  pub names_in : (n : ℕ) → name n < m

-- h is what the edges say, at the values val: own tells the node of each live address, run the addresses of each node
pub record Model (m : ℕ) (edge : ℕ → Edge) (val : ℕ → ℕ) (h : Heap) : Type 0 where
  pub own : ℕ → ℕ
  pub run : ℕ → List ℕ
  pub nil : val 0 ≡ 0
  pub inj : (i j : ℕ) → i < m → j < m → val i ≡ val j → i ≡ j
  pub dead : (i : ℕ) → i < m → edge i ≡ Dead → (h (val i) ≡ None) × (run i ≡ [])
  pub cell : (i t : ℕ) → i < m → edge i ≡ Cell t → (h (val i) ≡ Some (val t)) × (run i ≡ val i ∷ [])
  pub seg : (i t : ℕ) → i < m → edge i ≡ Segment t → (val i ≢ val t) × Run h (val i) (val t) (run i)
  pub mine : (i a : ℕ) → i < m → mem a (run i) ≡ true → own a ≡ i
  pub all : (a : ℕ) → (h a ≡ None) ⊎ ((own a < m) × (mem a (run (own a)) ≡ true))

pub record Shape : Type 0 where
  pub size : ℕ
  pub name : ℕ → ℕ
  pub edge : ℕ → Edge

-- the shape s is right about the values env of the names and the heap h
pub record Fits (s : Shape) (env : ℕ → ℕ) (h : Heap) : Type 0 where
  pub val : ℕ → ℕ
  pub model : Model s.size s.edge val h
  pub named : (n : ℕ) → env n ≡ val (s.name n)

abbrev pub SoundShape : Shape → Type 0
SoundShape s = Sound s.size s.edge s.name

-- the edge of the node i is e
abbrev pub set_edge : Shape → ℕ → Edge → Shape
set_edge s i e = record { size = s.size; name = s.name; edge = put s.edge i e }

-- the name x is at the node i
abbrev pub set_name : Shape → ℕ → ℕ → Shape
set_name s x i = record { size = s.size; name = put s.name x i; edge = s.edge }

-- one more node, with the edge e
abbrev pub add_node : Shape → Edge → Shape
add_node s e = record { size = suc s.size; name = s.name; edge = put s.edge s.size e }

-- the two cases of a segment from i to t: one cell, or a cell and a segment from a fresh node
abbrev pub short : Shape → ℕ → ℕ → Shape
short s i t = set_edge s i (Cell t)

abbrev pub long : Shape → ℕ → ℕ → Shape
long s i t = add_node (set_edge s i (Cell s.size)) (Segment t)

-- the name x becomes a fresh cell, with the link nil: at a dead node, or at a node of its own
abbrev pub fresh_at : Shape → ℕ → ℕ → Shape
fresh_at s x i = set_name (set_edge s i (Cell 0)) x i

abbrev pub new_apart : Shape → ℕ → Shape
new_apart s x = set_name (add_node s (Cell 0)) x s.size

-- what the machine does at such a step
pub record Allocates (x : ℕ) (env : ℕ → ℕ) (h : Heap) (env' : ℕ → ℕ) (h' : Heap) : Type 0 where
  pub place : ℕ
  pub off_nil : place ≢ 0
  pub vacant : h place ≡ None
  pub env_is : env' ≡ put env x place
  pub heap_is : h' ≡ put h place (Some 0)

-- each segment has two cells, and its second is at no node
abbrev pub Two : (m : ℕ) (edge : ℕ → Edge) (val : ℕ → ℕ) (h : Heap) → Type 0
Two m edge val h = (i t : ℕ) → i < m → edge i ≡ Segment t → (z : ℕ) × (h (val i) ≡ Some z) × (h z ≡ Some (val t)) × ((k : ℕ) → k < m → val k ≢ z)
