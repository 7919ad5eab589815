-- Model: how a list of atoms becomes shapes: the names are placed, then the atoms are added. Assumes nothing.
use Rattle.std.specs.Prelude.{ℕ, Bool, false, cond, not, ◌||◌, List, [], ◌∷◌, ◌==◌}
use Rattle.std.specs.List.{list_any}
use Rattle.heap.specs.declared.atoms.Atom.{Atom}
use Rattle.heap.specs.declared.atoms.Atom.TheVariants.{Eq, Neq, Next, Lseg}
use Rattle.pieces.specs.declared.shapes.Edge.TheVariants.{Dead, Cell}
use Rattle.pieces.specs.Pieces.{mem}
use Rattle.pieces.specs.ModelChoices.{gather}
use Rattle.pieces.specs.ModelShapes.{Shape, set_edge, set_name, add_node}
use Rattle.pieces.specs.ModelCover.{is_dead}

-- nil alone
abbrev pub bare : Shape
bare = record { size = 1; name = λ n. 0; edge = λ i. Dead }

-- where the name c can be: at a node of its own, or at one that is there
abbrev pub place : ℕ → Shape → List Shape
place c s = set_name (add_node s Dead) c s.size ∷ gather s.size (λ k. set_name s c k ∷ [])

-- one atom more; of segments only the empty one
abbrev pub add : Atom → Shape → List Shape
add (Eq x y) s = cond (s.name x == s.name y) (s ∷ []) []
add (Neq x y) s = cond (s.name x == s.name y) [] (s ∷ [])
add (Next x y) s = cond (s.name x == 0) [] (cond (is_dead (s.edge (s.name x))) (set_edge s (s.name x) (Cell (s.name y)) ∷ []) [])
add (Lseg x y) s = cond (s.name x == s.name y) (s ∷ []) []

-- an Eq or Neq whose names are both placed, none of them among cs, and which is false
abbrev pub clashes : List ℕ → Shape → Atom → Bool
clashes cs s (Eq x y) = not (mem x cs || (mem y cs || s.name x == s.name y))
clashes cs s (Neq x y) = not (mem x cs || (mem y cs || not (s.name x == s.name y)))
clashes cs s (Next x y) = false
clashes cs s (Lseg x y) = false

abbrev pub clash : List ℕ → Shape → List Atom → Bool
clash cs s l = list_any (clashes cs s) l
