-- Model: cases, which are shapes at a row: the cases behind a case, and the rows that fail at one. Assumes nothing.
use Rattle.std.specs.Prelude.{◌≡◌, ℕ, suc, Bool, true, false, cond, not, ◌||◌, List, [], ◌∷◌, ◌++◌, Some, None, Option, ◌==◌, nat_lt}
use Rattle.std.specs.List.{flat_map}
use Rattle.heap.specs.declared.atoms.Atom.{Atom}
use Rattle.sheet.specs.Routines.{Command, assign, load, store, new, free, jump, branch, cut, call, done}
use Rattle.sheet.specs.Flow.{row_at, closes}
use Rattle.pieces.specs.declared.shapes.Edge.{Edge}
use Rattle.pieces.specs.declared.shapes.Edge.TheVariants.{Dead, Cell, Segment}
use Rattle.pieces.specs.Pieces.{State, Runs, Contract, touched, closing}
use Rattle.pieces.specs.ModelChoices.{gather}
use Rattle.pieces.specs.ModelShapes.{Shape, Fits, set_edge, set_name, short, long, fresh_at, new_apart}
use Rattle.pieces.specs.ModelCover.{is_dead, covered}

pub record Case : Type 0 where
  pub row : ℕ
  pub shape : Shape

-- the shapes with a cell at the node i: a segment is one cell, or a cell and a segment
abbrev pub cells_by : Edge → Shape → ℕ → List Shape
cells_by Dead s i = []
cells_by (Cell t) s i = s ∷ []
cells_by (Segment t) s i = short s i t ∷ long s i t ∷ []

abbrev pub cells : Shape → ℕ → List Shape
cells s i = cells_by (s.edge i) s i

abbrev pub aim : Edge → ℕ
aim Dead = 0
aim (Cell t) = t
aim (Segment t) = t

abbrev pub at : ℕ → Shape → List Case
at r s = record { row = r; shape = s } ∷ []

-- the cases behind a case
abbrev pub nexts : Command → ℕ → Shape → List Case
nexts (assign x e) r s = at (suc r) (set_name s x (s.name e))
nexts (load x y) r s = flat_map (λ u. at (suc r) (set_name u x (aim (u.edge (u.name y))))) (cells s (s.name y))
nexts (store x e) r s = flat_map (λ u. at (suc r) (set_edge u (u.name x) (Cell (u.name e)))) (cells s (s.name x))
nexts (new x) r s = at (suc r) (new_apart s x) ++ gather s.size (λ j. cond (j == 0 || not (is_dead (s.edge j))) [] (at (suc r) (fresh_at s x j)))
nexts (free x) r s = flat_map (λ u. at (suc r) (set_edge u (u.name x) Dead)) (cells s (s.name x))
nexts (jump t) r s = at t s
nexts (branch e f t) r s = cond (s.name e == s.name f) (at t s) (at (suc r) s)
nexts (cut l) r s = []
nexts (call x q y z i j l) r s = []
nexts done r s = []

-- the row touches a dead node
abbrev pub dead_at : Option ℕ → Shape → Bool
dead_at None s = false
dead_at (Some x) s = is_dead (s.edge (s.name x))

abbrev pub misses : Command → Shape → Bool
misses w s = dead_at (touched w) s

-- the row closes, and its list is not covered
abbrev pub uncovered : Option (List Atom) → Shape → Bool
uncovered None s = false
uncovered (Some l) s = not (covered s.size s.name l s.edge)

abbrev pub breaks : (ℕ → Contract) → List Atom → Command → Shape → Bool
breaks callee after w s = uncovered (closing callee after w) s

-- the row of a case, if the test says so
abbrev pub hit : (Command → Shape → Bool) → List Command → Case → List ℕ
hit test rows c = cond (test (row_at rows c.row) c.shape) (c.row ∷ []) []

abbrev pub onward : List Command → Case → List Case
onward rows c = nexts (row_at rows c.row) c.row c.shape

-- every jump goes to a later row or to a row that closes
abbrev pub goes_well : List Command → ℕ → Command → Bool
goes_well rows n (assign x e) = true
goes_well rows n (load x y) = true
goes_well rows n (store x e) = true
goes_well rows n (new x) = true
goes_well rows n (free x) = true
goes_well rows n (jump t) = nat_lt n t || closes (row_at rows t)
goes_well rows n (branch e f t) = nat_lt n t || closes (row_at rows t)
goes_well rows n (cut l) = true
goes_well rows n (call x q y z i j l) = true
goes_well rows n done = true

abbrev pub Forward : List Command → Type 0
Forward rows = (n : ℕ) → goes_well rows n (row_at rows n) ≡ true

-- a state of the case
abbrev pub Of : Case → State → Type 0
Of c s = (s.row ≡ c.row) × Fits c.shape s.env s.heap

-- some state of the case comes to the state g
abbrev pub Leads : List Command → State → Case → Type 0
Leads rows g c = (s : State) × Of c s × Runs rows g s
