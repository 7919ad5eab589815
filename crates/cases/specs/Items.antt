-- Model: what a case in memory says. Assumes nothing.
use Rattle.std.specs.Prelude.{◌≡◌, ℕ, ◌<◌, ◌≤◌, Bool, true, false, List, [], ◌∷◌, ◌++◌, Some, None, Option, map, length, drop, slice_index, slice_index_or}
use Rattle.heap.specs.declared.atoms.Atom.{Atom}
use Rattle.pieces.specs.declared.shapes.Edge.TheVariants.{Dead}
use Rattle.pieces.specs.ModelBounds.{AtomSmall}
use Rattle.pieces.specs.ModelShapes.{Shape, SoundShape}
use Rattle.pieces.specs.ModelStages.{Item, placing, adding, linking, running, Proper}
use Rattle.pieces.specs.ModelStages as model
use Rattle.cases.specs.declared.cases.Case.{Case}
use Rattle.cases.specs.declared.steps.Step.{Step}
use Rattle.cases.specs.Steps.{weighs}
use Rattle.cases.specs.declared.cases.Stage.{Stage}
use Rattle.cases.specs.declared.cases.Stage.TheVariants.{Placing, Adding, Linking, Running}

abbrev pub shape_of : Case → Shape
shape_of k = record { size = k.nodes; name = λ n. slice_index k.names n; edge = λ i. slice_index_or k.edges i Dead }

abbrev pub row_of : Case → ℕ
row_of k = k.row

abbrev pub nodes_of : Case → ℕ
nodes_of k = k.nodes

abbrev pub stage_of : Case → Stage
stage_of k = k.stage

abbrev pub is_running : Stage → Bool
is_running (Placing k) = false
is_running (Adding k) = false
is_running (Linking i j k) = false
is_running Running = true

-- over the names and the atoms of the opening
abbrev pub stage_in : List ℕ → List Atom → Stage → model.Stage
stage_in names atoms (Placing k) = placing (drop k names) atoms
stage_in names atoms (Adding k) = adding (drop k atoms)
stage_in names atoms (Linking i j k) = linking i j (drop k atoms)
stage_in names atoms Running = running

abbrev pub item_in : List ℕ → List Atom → Case → Item
item_in names atoms k = record { stage = stage_in names atoms k.stage; row = k.row; shape = shape_of k }

abbrev pub items_in : List ℕ → List Atom → List Case → List Item
items_in names atoms l = map (item_in names atoms) l

-- what a case says, if there is one
abbrev pub items_of : List ℕ → List Atom → Option Case → List Item
items_of names atoms None = []
items_of names atoms (Some k) = item_in names atoms k ∷ []

-- a case whose rows are done
pub record Ready (k : Case) : Type 0 where
  pub sound : SoundShape (shape_of k)
  pub low : k.row ≤ 41
  pub stage : k.stage ≡ Running

-- the pile q is p with these items on it, over the names and atoms of the opening
abbrev pub LaidAs : List ℕ → List Atom → List Item → List Case → List Case → Type 0
LaidAs names atoms new p q = items_in names atoms q ≡ new ++ items_in names atoms p

-- the same, whatever the opening is
abbrev pub LaidOn : List Item → List Case → List Case → Type 0
LaidOn new p q = (names : List ℕ) (atoms : List Atom) → LaidAs names atoms new p q

-- the names of a list of atoms are names
abbrev pub SmallAtoms : List Atom → Type 0
SmallAtoms l = (i : ℕ) (d : Atom) → i < length l → AtomSmall (slice_index_or l i d)

-- at most eight names, all of them names
pub record SmallNames (l : List ℕ) : Type 0 where
  pub few : length l ≤ 8
  pub names : (i d : ℕ) → i < length l → slice_index_or l i d < 9

-- a case that can be worked on
pub record Workable (names : List ℕ) (atoms : List Atom) (k : Case) : Type 0 where
  pub proper : Proper (stage_in names atoms k.stage) (shape_of k)
  pub low : k.row ≤ 41

-- it has room for a node more, where its row or the next name wants one
abbrev pub Grows : List ℕ → Step → Stage → ℕ → Type 0
Grows names step (Placing k) n = k < length names → n < 17
Grows names step (Adding k) n = Unit {0}
Grows names step (Linking i j k) n = Unit {0}
Grows names step Running n = weighs step ≡ true → n < 17
