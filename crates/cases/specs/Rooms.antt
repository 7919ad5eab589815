-- Model: room on the pile, and what a function from nodes or cases to cases gives. Assumes nothing.
use Rattle.std.specs.Prelude.{◌≡◌, ℕ, suc, ◌+◌, ◌<◌, ◌≤◌, List, Option, length}
use Rattle.heap.specs.declared.atoms.Atom.{Atom}
use Rattle.heap.specs.declared.piles.Pile.{Pile}
use Rattle.heap.specs.Piles.{capacity, entries}
use Rattle.pieces.specs.ModelChoices.{gather}
use Rattle.pieces.specs.ModelShapes.{Shape}
use Rattle.pieces.specs.ModelStages.{Item}
use Rattle.cases.specs.declared.cases.Case.{Case}
use Rattle.cases.specs.Items.{shape_of, items_of}

-- the pile has slots free for as many cases as these
abbrev pub HasRoom : List Item → Pile Case → Type 0
HasRoom new p = length new + length (entries p) ≤ capacity p

-- at each node below m the case, or none, is what f says
abbrev pub Gives : (ℕ → Option Case → Type 0) → ℕ → List ℕ → List Atom → (ℕ → List Item) → Type 0
Gives post m names atoms f = (j : ℕ) (r : Option Case) → j < m → post j r → items_of names atoms r ≡ f j

-- the pile has slots free for the cases of the nodes below m
pub record RoomFor (post : ℕ → Option Case → Type 0) (m : ℕ) (p : Pile Case) : Type 0 where
  pub names : List ℕ
  pub atoms : List Atom
  pub items : ℕ → List Item
  pub gives : Gives post m names atoms items
  pub room : HasRoom (gather m items) p

-- whatever `post` lets come of a case is what f says of its shape, at the next row
abbrev pub Acts : (Case → Case → Type 0) → (Shape → Shape) → Type 0
Acts post f = (k k' : Case) → post k k' → (shape_of k' ≡ f (shape_of k)) × (k'.row ≡ suc k.row) × (k'.stage ≡ k.stage)
