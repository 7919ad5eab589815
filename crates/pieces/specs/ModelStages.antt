-- Model: the items on the pile: how far the opening of a piece is done, and the case. Assumes nothing.
use Rattle.std.specs.Prelude.{◌≡◌, ℕ, ◌<◌, Bool, true, false, cond, not, ◌||◌, ◌≢◌, List, [], ◌∷◌, None, ◌==◌}
use Rattle.std.specs.List.{flat_map}
use Rattle.heap.specs.Heaps.{Heap, Split}
use Rattle.heap.specs.Lists.{Holds}
use Rattle.heap.specs.declared.atoms.Atom.{Atom}
use Rattle.heap.specs.declared.atoms.Atom.TheVariants.{Eq, Neq, Next, Lseg}
use Rattle.sheet.specs.Routines.{Command}
use Rattle.pieces.specs.declared.shapes.Edge.TheVariants.{Dead, Segment}
use Rattle.pieces.specs.Pieces.{mem, Opening, State, Runs}
use Rattle.pieces.specs.ModelRuns.{Run, minus}
use Rattle.pieces.specs.ModelChoices.{gather, SomeOf}
use Rattle.pieces.specs.ModelShapes.{Shape, SoundShape, Fits, set_edge}
use Rattle.pieces.specs.ModelCover.{is_dead}
use Rattle.pieces.specs.ModelOpening.{place, add, bare, clash}
use Rattle.pieces.specs.ModelCases.{onward, hit}

-- names are still to be placed, atoms to be added, a segment is on its way from node to node, or rows are done
pub data Stage : Type 0 where
  placing : List ℕ → List Atom → Stage
  adding : List Atom → Stage
  linking : ℕ → ℕ → List Atom → Stage
  running : Stage

pub record Item : Type 0 where
  pub stage : Stage
  pub row : ℕ
  pub shape : Shape

abbrev pub item : Stage → ℕ → Shape → List Item
item t r s = record { stage = t; row = r; shape = s } ∷ []

-- a shape with one name more placed, unless an atom of the list is false already
abbrev pub placed : List ℕ → List Atom → ℕ → Shape → List Item
placed cs l r u = cond (clash cs u l) [] (item (placing cs l) r u)

-- a segment goes on from i over the node k
abbrev pub laid : Shape → ℕ → ℕ → List Atom → ℕ → ℕ → List Item
laid s i j l r k = cond (k == i || (k == j || (k == 0 || not (is_dead (s.edge k))))) [] (item (linking k j l) r (set_edge s i (Segment k)))

-- the items behind an item
abbrev pub afters : List Command → Stage → ℕ → Shape → List Item
afters rows (placing [] l) r s = item (adding l) r s
afters rows (placing (c ∷ cs) l) r s = flat_map (placed cs l r) (place c s)
afters rows (adding []) r s = item running r s
afters rows (adding (Eq x y ∷ l)) r s = flat_map (λ u. item (adding l) r u) (add (Eq x y) s)
afters rows (adding (Neq x y ∷ l)) r s = flat_map (λ u. item (adding l) r u) (add (Neq x y) s)
afters rows (adding (Next x y ∷ l)) r s = flat_map (λ u. item (adding l) r u) (add (Next x y) s)
afters rows (adding (Lseg x y ∷ l)) r s = cond (s.name x == s.name y) (item (adding l) r s) (item (linking (s.name x) (s.name y) l) r s)
afters rows (linking i j l) r s = cond (i == 0 || not (is_dead (s.edge i))) [] (record { stage = adding l; row = r; shape = set_edge s i (Segment j) } ∷ gather s.size (laid s i j l r))
afters rows running r s = flat_map (λ c. item running c.row c.shape) (onward rows (record { row = r; shape = s }))

abbrev pub cleared : List ℕ → (ℕ → ℕ) → ℕ → ℕ
cleared cs env n = cond (mem n cs) 0 (env n)

abbrev pub nothing_live : Heap
nothing_live a = None

-- what an item says of a state
abbrev pub Says : Stage → Shape → (ℕ → ℕ) → Heap → Type 0
Says (placing cs l) s env h = Fits s (cleared cs env) nothing_live × Holds env l h
Says (adding l) s env h = (g : Heap) × (k : Heap) × Split h g k × Fits s env g × Holds env l k
Says (linking i j l) s env h = (g : Heap) × (k : Heap) × Split h g k × Holds env l k × (xs : List ℕ) × (F : Fits s env (minus g xs)) × Run g (F.val i) (F.val j) xs
Says running s env h = Fits s env h

abbrev pub Apart : List ℕ → Type 0
Apart [] = Unit {0}
Apart (c ∷ cs) = (mem c cs ≡ false) × Apart cs

-- an item that can come up
abbrev pub Proper : Stage → Shape → Type 0
Proper (placing cs l) s = SoundShape s × ((i : ℕ) → s.edge i ≡ Dead) × ((n : ℕ) → mem n cs ≡ true → s.name n ≡ 0) × Apart cs
Proper (adding l) s = SoundShape s
Proper (linking i j l) s = SoundShape s × (i < s.size) × (j < s.size) × (i ≢ j)
Proper running s = SoundShape s

abbrev pub Kept : Item → Type 0
Kept it = Proper it.stage it.shape

abbrev pub opened : Opening → Item
opened o = record { stage = placing o.names o.list; row = o.row; shape = bare }

abbrev pub Saying : (ℕ → ℕ) → Heap → Item → Type 0
Saying env h it = Says it.stage it.shape env h

-- before the rows, an item says what those behind it say
abbrev pub StagesExactly : Type 0
StagesExactly = (rows : List Command) (t : Stage) (r : ℕ) (s : Shape) (env : ℕ → ℕ) (h : Heap) → t ≢ running → Proper t s
    → (Says t s env h → SomeOf (Saying env h) (afters rows t r s)) × (SomeOf (Saying env h) (afters rows t r s) → Says t s env h)

-- the rows that fail at an item
abbrev pub item_hits : (Command → Shape → Bool) → List Command → Stage → ℕ → Shape → List ℕ
item_hits test rows (placing cs l) r s = []
item_hits test rows (adding l) r s = []
item_hits test rows (linking i j l) r s = []
item_hits test rows running r s = hit test rows (record { row = r; shape = s })

abbrev pub nexts_of : List Command → Item → List Item
nexts_of rows it = afters rows it.stage it.row it.shape

abbrev pub hits_of : (Command → Shape → Bool) → List Command → Item → List ℕ
hits_of test rows it = item_hits test rows it.stage it.row it.shape

-- some state of the item comes to the state g
abbrev pub Reaches : List Command → State → Item → Type 0
Reaches rows g it = (s : State) × (s.row ≡ it.row) × Saying s.env s.heap it × Runs rows g s
