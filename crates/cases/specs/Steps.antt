-- Model: rows as the search does them. Assumes nothing.
use Rattle.std.specs.Prelude.{ℕ, suc, ◌<◌, ◌≤◌, Bool, true, false, cond, not, ◌||◌, List, [], ◌++◌, ◌==◌}
use Rattle.std.specs.List.{flat_map}
use Rattle.sheet.specs.Routines.{Command, assign, load, store, new, free, jump, branch, cut, call, done}
use Rattle.pieces.specs.declared.shapes.Edge.TheVariants.{Dead, Cell}
use Rattle.pieces.specs.ModelChoices.{gather}
use Rattle.pieces.specs.ModelShapes.{Shape, set_edge, set_name, fresh_at, new_apart}
use Rattle.pieces.specs.ModelCover.{is_dead}
use Rattle.pieces.specs.ModelCases.{cells, aim}
use Rattle.pieces.specs.ModelStages.{Item, item, running}
use Rattle.cases.specs.declared.steps.Step.{Step}
use Rattle.cases.specs.declared.steps.Step.TheVariants.{Set, Load, Store, New, Free, Jump, Branch, Close}

abbrev pub step_of : Command → Step
step_of (assign x e) = Set x e
step_of (load x y) = Load x y
step_of (store x e) = Store x e
step_of (new x) = New x
step_of (free x) = Free x
step_of (jump t) = Jump t
step_of (branch e f t) = Branch e f t
step_of (cut l) = Close
step_of (call x q y z s t l) = Close
step_of done = Close

-- what a row that touches makes of a shape with a cell at its node: its link is read, is set, or the cell is freed
abbrev pub loaded : ℕ → ℕ → Shape → Shape
loaded x y u = set_name u x (aim (u.edge (u.name y)))

abbrev pub stored : ℕ → ℕ → Shape → Shape
stored x e u = set_edge u (u.name x) (Cell (u.name e))

abbrev pub freed : ℕ → Shape → Shape
freed x u = set_edge u (u.name x) Dead

-- an item at a row
abbrev pub runs_at : ℕ → Shape → List Item
runs_at r s = item running r s

abbrev pub touching : (Shape → Shape) → ℕ → List Shape → List Item
touching f r us = flat_map (λ u. runs_at (suc r) (f u)) us

-- a new cell at the node j, if it is dead and not nil
abbrev pub new_at : ℕ → ℕ → Shape → ℕ → List Item
new_at x r s j = cond (j == 0 || not (is_dead (s.edge j))) [] (runs_at (suc r) (fresh_at s x j))

-- the items behind an item at a row
abbrev pub nexts_by : Step → ℕ → Shape → List Item
nexts_by (Set x e) r s = runs_at (suc r) (set_name s x (s.name e))
nexts_by (Load x y) r s = touching (loaded x y) r (cells s (s.name y))
nexts_by (Store x e) r s = touching (stored x e) r (cells s (s.name x))
nexts_by (New x) r s = runs_at (suc r) (new_apart s x) ++ gather s.size (new_at x r s)
nexts_by (Free x) r s = touching (freed x) r (cells s (s.name x))
nexts_by (Jump t) r s = runs_at t s
nexts_by (Branch e f t) r s = cond (s.name e == s.name f) (runs_at t s) (runs_at (suc r) s)
nexts_by Close r s = []

-- the row touches a dead node
abbrev pub misses_by : Step → Shape → Bool
misses_by (Set x e) s = false
misses_by (Load x y) s = is_dead (s.edge (s.name y))
misses_by (Store x e) s = is_dead (s.edge (s.name x))
misses_by (New x) s = false
misses_by (Free x) s = is_dead (s.edge (s.name x))
misses_by (Jump t) s = false
misses_by (Branch e f t) s = false
misses_by Close s = false

-- the names of a step are names, and its rows are rows
abbrev pub SmallStep : Step → Type 0
SmallStep (Set x e) = (x < 9) × (e < 9)
SmallStep (Load x y) = (x < 9) × (y < 9)
SmallStep (Store x e) = (x < 9) × (e < 9)
SmallStep (New x) = x < 9
SmallStep (Free x) = x < 9
SmallStep (Jump t) = t ≤ 41
SmallStep (Branch e f t) = (e < 9) × (f < 9) × (t ≤ 41)
SmallStep Close = Unit {0}

-- the step may add a node
abbrev pub weighs : Step → Bool
weighs (Set x e) = false
weighs (Load x y) = true
weighs (Store x e) = true
weighs (New x) = true
weighs (Free x) = true
weighs (Jump t) = false
weighs (Branch e f t) = false
weighs Close = false
