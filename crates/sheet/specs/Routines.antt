-- Meaning: a routine, whatever its layout in memory: its rows, its lists of atoms and its sizes. Assumes nothing.
use Rattle.std.specs.Prelude.{ℕ, ◌+◌, List, [], ◌∷◌, length}
use Rattle.heap.specs.declared.atoms.Atom.{Atom}

-- what a row does; names are numbers, rows count from 1
pub data Command : Type 0 where
  assign : (into from : ℕ) → Command
  load : (into cell : ℕ) → Command
  store : (cell link : ℕ) → Command
  new : (into : ℕ) → Command
  free : (cell : ℕ) → Command
  jump : (to : ℕ) → Command
  branch : (left right to : ℕ) → Command
  cut : (list : List Atom) → Command
  call : (into routine first second first_ghost second_ghost : ℕ) (frame : List Atom) → Command
  done : Command

pub record Routine : Type 0 where
  pub own : ℕ
  pub variables : ℕ
  pub arguments : ℕ
  pub ghosts : ℕ
  pub before : List Atom
  pub after : List Atom
  pub rows : List Command

-- the list that stands behind a row
abbrev pub list_of : Command → List Atom
list_of (assign x e) = []
list_of (load x y) = []
list_of (store x e) = []
list_of (new x) = []
list_of (free x) = []
list_of (jump r) = []
list_of (branch e f r) = []
list_of (cut l) = l
list_of (call x q y z s t l) = l
list_of done = []

abbrev pub atoms_behind : List Command → ℕ
atoms_behind [] = 0
atoms_behind (c ∷ cs) = length (list_of c) + atoms_behind cs

-- how many atoms a routine has in all
abbrev pub total : Routine → ℕ
total R = length R.before + length R.after + atoms_behind R.rows
