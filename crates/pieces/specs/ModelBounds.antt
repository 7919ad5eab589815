-- Model: how many places the pile needs, and that it is worked off. Assumes nothing.
use Rattle.std.specs.Prelude.{◌≡◌, ℕ, zero, suc, ◌+◌, ◌-◌, ◌<◌, ◌≤◌, cond, not, ◌||◌, List, [], ◌∷◌, length, Some, ◌==◌, slice_index, slice_index_or}
use Rattle.std.specs.List.{AllByRecursion}
use Rattle.pieces.specs.declared.shapes.Edge.{Edge}
use Rattle.pieces.specs.ModelShapes.{Shape}
use Rattle.pieces.specs.ModelCover.{is_dead}
use Rattle.sheet.specs.Routines.{Command, assign, load, store, new, free, jump, branch, cut, call, done, Routine, list_of}
use Rattle.pieces.specs.Pieces.{Contract, Opening, opening}
use Rattle.sheet.specs.Flow.{row_at, closes}
use Rattle.sheet.specs.Reading.{weights}
use Rattle.heap.specs.declared.atoms.Atom.{Atom}
use Rattle.heap.specs.declared.atoms.Atom.TheVariants.{Eq, Neq, Next, Lseg}
use Rattle.pieces.specs.ModelCases.{Case, Forward}
use Rattle.pieces.specs.ModelStages.{Stage, placing, adding, linking, running, Item, afters, Proper}

-- the dead nodes below m but nil
abbrev pub spare : ℕ → (ℕ → Edge) → ℕ
spare zero edge = 0
spare (suc m) edge = cond (m == 0 || not (is_dead (edge m))) (spare m edge) (suc (spare m edge))

abbrev pub tri : ℕ → ℕ
tri zero = 0
tri (suc n) = n + tri n

abbrev pub for_names : ℕ → ℕ → ℕ
for_names zero m = 0
for_names (suc p) m = m + for_names p (suc m)

abbrev pub for_rows : ℕ → ℕ → ℕ
for_rows zero d = 1
for_rows (suc w) d = suc d + for_rows w (suc d)

-- W tells the weight from a row on
abbrev pub WeighsAt : (ℕ → ℕ) → ℕ → Command → Type 0
WeighsAt W r (assign x e) = W (suc r) ≤ W r
WeighsAt W r (load x y) = W (suc r) < W r
WeighsAt W r (store x e) = W (suc r) < W r
WeighsAt W r (new x) = W (suc r) < W r
WeighsAt W r (free x) = W (suc r) < W r
WeighsAt W r (jump t) = W t ≤ W r
WeighsAt W r (branch e f t) = (W t ≤ W r) × (W (suc r) ≤ W r)
WeighsAt W r (cut l) = Unit {0}
WeighsAt W r (call x q y z i j l) = Unit {0}
WeighsAt W r done = Unit {0}

abbrev pub room : (ℕ → ℕ) → Stage → ℕ → Shape → ℕ
room W (placing cs l) r s = for_names (length cs) s.size + (tri (s.size + length cs) + for_rows (W r) (s.size + length cs))
room W (adding l) r s = tri (spare s.size s.edge) + for_rows (W r) (spare s.size s.edge)
room W (linking i j l) r s = tri (spare s.size s.edge) + for_rows (W r) (spare s.size s.edge)
room W running r s = for_rows (W r) (spare s.size s.edge)

-- the items behind an item, put on the pile in its place, need no more room
abbrev pub RoomHolds : Type 0
RoomHolds = (rows : List Command) (W : ℕ → ℕ) → ((r : ℕ) → WeighsAt W r (row_at rows r)) → (t : Stage) (r : ℕ) (s : Shape) → Proper t s
    → AllByRecursion (λ a. length (afters rows t r s) + room W a.stage a.row a.shape ≤ suc (room W t r s)) (afters rows t r s)

-- how many rows can still be ended from a case on
abbrev pub depth : List Command → Case → ℕ
depth rows c = cond (closes (row_at rows c.row)) 0 (suc (length rows) - c.row)

-- how far an item is from the end
abbrev pub deep : List Command → Stage → ℕ → Shape → ℕ
deep rows (placing cs l) r s = suc (length cs + (length l + length l) + (s.size + length cs)) + suc (suc (length rows))
deep rows (adding l) r s = (length l + length l) + spare s.size s.edge + suc (suc (length rows))
deep rows (linking i j l) r s = suc (length l + length l) + spare s.size s.edge + suc (suc (length rows))
deep rows running r s = depth rows (record { row = r; shape = s })

-- the pile is worked off
abbrev pub DepthFalls : Type 0
DepthFalls = (rows : List Command) → Forward rows → (t : Stage) (r : ℕ) (s : Shape) → Proper t s → AllByRecursion (λ a. deep rows a.stage a.row a.shape < deep rows t r s) (afters rows t r s)

-- the names of a row are names, its targets are rows
abbrev pub Small : ℕ → Command → Type 0
Small n (assign x e) = (x < 9) × (e < 9)
Small n (load x y) = (x < 9) × (y < 9)
Small n (store x e) = (x < 9) × (e < 9)
Small n (new x) = x < 9
Small n (free x) = x < 9
Small n (jump t) = (1 ≤ t) × (t ≤ n)
Small n (branch e f t) = (e < 9) × (f < 9) × (1 ≤ t) × (t ≤ n)
Small n (cut l) = Unit {0}
Small n (call x q y z s t l) = (q < 16) × (x < 9) × (y < 9) × (z < 9) × (s < 9) × (t < 9)
Small n done = Unit {0}

-- the weight from row r on
abbrev pub weight_from : List Command → ℕ → ℕ
weight_from rows r = cond (r == 0) 41 (slice_index (weights 1 rows) (r - 1))

-- a shape has at most 17 nodes: nil, one for each name, one for each row that weighs
abbrev pub Narrow : (ℕ → ℕ) → Stage → ℕ → Shape → Type 0
Narrow W (placing cs l) r s = s.size + (length cs + W r) ≤ 17
Narrow W (adding l) r s = s.size + W r ≤ 17
Narrow W (linking i j l) r s = s.size + W r ≤ 17
Narrow W running r s = s.size + W r ≤ 17

-- the two names of an atom
abbrev pub left_name : Atom → ℕ
left_name (Eq x y) = x
left_name (Neq x y) = x
left_name (Next x y) = x
left_name (Lseg x y) = x

abbrev pub right_name : Atom → ℕ
right_name (Eq x y) = y
right_name (Neq x y) = y
right_name (Next x y) = y
right_name (Lseg x y) = y

-- the names of an atom are names
abbrev pub AtomSmall : Atom → Type 0
AtomSmall a = (left_name a < 9) × (right_name a < 9)

-- an item that can be worked on
pub record Ready (W : ℕ → ℕ) (it : Item) : Type 0 where
  pub proper : Proper it.stage it.shape
  pub narrow : Narrow W it.stage it.row it.shape
  pub low : it.row ≤ 41

-- every item of the pile is ready, and has room for all that comes of it in the places above those below it
abbrev pub Stacked : (ℕ → ℕ) → ℕ → List Item → Type 0
Stacked W cap [] = Unit {0}
Stacked W cap (it ∷ rest) = Ready W it × (length rest + room W it.stage it.row it.shape ≤ cap) × Stacked W cap rest

-- what the search relies on of a well-formed routine
pub record Formed (R : Routine) : Type 0 where
  pub few_rows : length R.rows ≤ 40
  pub few_variables : R.variables ≤ 6
  pub few_arguments : R.arguments ≤ 6
  pub few_ghosts : R.ghosts ≤ 2
  pub forward : Forward R.rows
  pub weighs : (r : ℕ) → WeighsAt (weight_from R.rows) r (row_at R.rows r)
  pub small : (r : ℕ) → Small (length R.rows) (row_at R.rows r)
  pub light : (callee : ℕ → Contract) (p : ℕ) (o : Opening) → opening callee R p ≡ Some o → weight_from R.rows o.row ≤ 8
  pub low : (callee : ℕ → Contract) (p : ℕ) (o : Opening) → opening callee R p ≡ Some o → o.row ≤ 41
  pub row_few : (i : ℕ) → length (list_of (slice_index_or R.rows i done)) ≤ 8
  pub row_atoms : (i k : ℕ) (d : Atom) → k < length (list_of (slice_index_or R.rows i done)) → AtomSmall (slice_index_or (list_of (slice_index_or R.rows i done)) k d)
  pub before_few : length R.before ≤ 8
  pub before_atoms : (k : ℕ) (d : Atom) → k < length R.before → AtomSmall (slice_index_or R.before k d)
  pub after_few : length R.after ≤ 8
  pub after_atoms : (k : ℕ) (d : Atom) → k < length R.after → AtomSmall (slice_index_or R.after k d)
