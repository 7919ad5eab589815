-- Meaning: what a well-formed routine is: its sizes, what its columns hold, where its rows lead, how much its pieces weigh. Assumes nothing.
use Rattle.std.specs.Prelude.{◌≡◌, ℕ, ◌≤◌, true, List, length}
use Rattle.std.specs.List.{AllByRecursion}
use Rattle.heap.specs.declared.atoms.Atom.{Atom}
use Rattle.sheet.specs.declared.kinds.Scope.{Scope}
use Rattle.sheet.specs.Kinds.{classes_of, fits}
use Rattle.sheet.specs.Routines.{Command, assign, load, store, new, free, jump, branch, cut, call, done, Routine, list_of, total}
use Rattle.sheet.specs.Written.{atom_kind, atom_columns, command_kind, command_columns}
use Rattle.sheet.specs.Flow.{InPlace, Heavy}

-- the variables 1 to `named`, but for `except`, may be named
abbrev pub scope_of : Routine → ℕ → ℕ → Scope
scope_of R named except = record { variables = R.variables; ghosts = R.ghosts; rows = length R.rows; named = named; except = except }

-- at most eight atoms, over names that may stand there
pub record ListFormed (s : Scope) (l : List Atom) : Type 0 where
  pub few : length l ≤ 8
  pub names : AllByRecursion (λ a. fits s (classes_of (atom_kind a)) (atom_columns a) ≡ true) l

-- the variable that the list of a row may not name: the result of a call; 0 for none
abbrev pub excepted : Command → ℕ
excepted (assign x e) = 0
excepted (load x y) = 0
excepted (store x e) = 0
excepted (new x) = 0
excepted (free x) = 0
excepted (jump r) = 0
excepted (branch e f r) = 0
excepted (cut l) = 0
excepted (call x q y z s t l) = x
excepted done = 0

-- the columns of a row hold what the table of kinds allows; the ghosts of a call may not be its result
pub record RowFormed (R : Routine) (c : Command) : Type 0 where
  pub columns : fits (scope_of R R.variables (command_columns c).first) (classes_of (command_kind c)) (command_columns c) ≡ true
  pub list : ListFormed (scope_of R R.variables (excepted c)) (list_of c)

pub record WellFormed (R : Routine) : Type 0 where
  pub own_number : R.own ≤ 15
  pub some_variable : 1 ≤ R.variables
  pub few_variables : R.variables ≤ 6
  pub few_arguments : R.arguments ≤ 2
  pub arguments_within : R.arguments ≤ R.variables
  pub few_ghosts : R.ghosts ≤ 2
  pub some_row : 1 ≤ length R.rows
  pub few_rows : length R.rows ≤ 40
  -- the before list names arguments, the after list variable 1
  pub before_list : ListFormed (scope_of R R.arguments 0) R.before
  pub after_list : ListFormed (scope_of R 1 0) R.after
  pub row_columns : AllByRecursion (RowFormed R) R.rows
  pub few_atoms : total R ≤ 80
  pub in_place : InPlace R.rows
  pub light : (p : ℕ) → Heavy R.rows p → ⊥
