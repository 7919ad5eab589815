-- Model: the items behind an item while a piece opens, by indexes into its names and atoms. Assumes nothing.
use Rattle.std.specs.Prelude.{ℕ, ◌+◌, cond, not, ◌||◌, List, [], ◌++◌, drop, ◌==◌, slice_index}
use Rattle.heap.specs.declared.atoms.Atom.{Atom}
use Rattle.heap.specs.declared.atoms.Atom.TheVariants.{Eq, Neq, Next, Lseg}
use Rattle.pieces.specs.declared.shapes.Edge.TheVariants.{Dead, Cell, Segment}
use Rattle.pieces.specs.ModelChoices.{gather}
use Rattle.pieces.specs.ModelShapes.{Shape, set_edge, set_name, add_node}
use Rattle.pieces.specs.ModelCover.{is_dead}
use Rattle.pieces.specs.ModelStages.{Stage, Item, item, placing, adding, linking, running, placed, laid, afters}
use Rattle.cases.specs.declared.steps.Step.{Step}
use Rattle.cases.specs.Steps.{nexts_by}

-- the name of index k at the node j
abbrev pub placed_at : List ℕ → List Atom → ℕ → ℕ → Shape → ℕ → List Item
placed_at names atoms k r s j = placed (drop (k + 1) names) atoms r (set_name s (slice_index names k) j)

-- the name of index k at a node of its own, or at any that is there
abbrev pub placings : List ℕ → List Atom → ℕ → ℕ → Shape → List Item
placings names atoms k r s = placed (drop (k + 1) names) atoms r (set_name (add_node s Dead) (slice_index names k) s.size) ++ gather s.size (placed_at names atoms k r s)

-- one atom added, l being those behind it
abbrev pub addings : Atom → List Atom → ℕ → Shape → List Item
addings (Eq x y) l r s = cond (s.name x == s.name y) (item (adding l) r s) []
addings (Neq x y) l r s = cond (s.name x == s.name y) [] (item (adding l) r s)
addings (Next x y) l r s = cond (s.name x == 0 || not (is_dead (s.edge (s.name x)))) [] (item (adding l) r (set_edge s (s.name x) (Cell (s.name y))))
addings (Lseg x y) l r s = cond (s.name x == s.name y) (item (adding l) r s) (item (linking (s.name x) (s.name y) l) r s)

-- a segment from the node i straight to j, or over a node
abbrev pub linkings : ℕ → ℕ → List Atom → ℕ → Shape → List Item
linkings i j l r s = cond (i == 0 || not (is_dead (s.edge i))) [] (item (adding l) r (set_edge s i (Segment j)) ++ gather s.size (laid s i j l r))

-- the items behind an item, the row being done by a step
abbrev pub afters_by : Step → Stage → ℕ → Shape → List Item
afters_by step (placing cs l) r s = afters [] (placing cs l) r s
afters_by step (adding l) r s = afters [] (adding l) r s
afters_by step (linking i j l) r s = afters [] (linking i j l) r s
afters_by step running r s = nexts_by step r s
