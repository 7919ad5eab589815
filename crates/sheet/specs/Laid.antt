-- Meaning: how a routine lies in a sheet: behind the last atom of a list stands one fixed value. Assumes nothing.
use Rattle.std.specs.Prelude.{ℕ, ◌-◌, List, ◌++◌, map, length, take, replicate}
use Rattle.heap.specs.declared.atoms.Atom.{Atom}
use Rattle.heap.specs.declared.atoms.Atom.TheVariants.{Eq}
use Rattle.sheet.specs.declared.rows.AtomList.{AtomList}
use Rattle.sheet.specs.declared.rows.Row.{Row}
use Rattle.sheet.specs.declared.rows.Row.TheVariants.{Set, Load, Store, New, Free, Jump, Branch, Cut, Call, Done}
use Rattle.sheet.specs.declared.sheets.Body.{Body}
use Rattle.sheet.specs.Routines.{Command, assign, load, store, new, free, jump, branch, cut, call, done, Routine}

-- a list filled up to n
abbrev pub filled : {A : Type 0} → ℕ → A → List A → List A
filled n x xs = xs ++ replicate (n - length xs) x

abbrev pub laid_list : List Atom → AtomList
laid_list l = record { atoms = filled 8 (Eq 0 0) l; count = length l }

abbrev pub laid_row : Command → Row
laid_row (assign x e) = Set x e
laid_row (load x y) = Load x y
laid_row (store x e) = Store x e
laid_row (new x) = New x
laid_row (free x) = Free x
laid_row (jump r) = Jump r
laid_row (branch e f r) = Branch e f r
laid_row (cut l) = Cut (laid_list l)
laid_row (call x q y z s t l) = Call x q y z s t (laid_list l)
laid_row done = Done

abbrev pub laid : Routine → Body
laid R = record {
  head = record { own = R.own; variables = R.variables; arguments = R.arguments; ghosts = R.ghosts };
  before = laid_list R.before;
  after = laid_list R.after;
  rows = record { items = map laid_row R.rows };
}

-- and back: what lies in a sheet
abbrev pub list_in : AtomList → List Atom
list_in l = take l.count l.atoms

abbrev pub command_in : Row → Command
command_in (Set x e) = assign x e
command_in (Load x y) = load x y
command_in (Store x e) = store x e
command_in (New x) = new x
command_in (Free x) = free x
command_in (Jump r) = jump r
command_in (Branch e f r) = branch e f r
command_in (Cut l) = cut (list_in l)
command_in (Call x q y z s t l) = call x q y z s t (list_in l)
command_in Done = done

abbrev pub routine_in : Body → Routine
routine_in b = record {
  own = b.head.own;
  variables = b.head.variables;
  arguments = b.head.arguments;
  ghosts = b.head.ghosts;
  before = list_in b.before;
  after = list_in b.after;
  rows = map command_in b.rows.items;
}
