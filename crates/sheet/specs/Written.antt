-- Meaning: the lines of a routine's sheet, and its text. Assumes nothing.
use Rattle.std.specs.Prelude.{ℕ, List, ◌∷◌, ◌++◌, map, length}
use Rattle.std.specs.List.{flat_map}
use Rattle.heap.specs.declared.atoms.Atom.{Atom}
use Rattle.heap.specs.declared.atoms.Atom.TheVariants.{Eq, Neq, Next, Lseg}
use Rattle.layout.specs.declared.lines.Six.{Six}
use Rattle.layout.specs.declared.lines.Numbers.{Numbers}
use Rattle.layout.specs.Lines.{written}
use Rattle.sheet.specs.declared.kinds.Kind.{Kind}
use Rattle.sheet.specs.declared.kinds.Kind.TheVariants.{Head, Before, After, Equal, Unequal, Cell, Segment, Set, Load, Store, New, Free, Jump, Branch, Cut, Call, Done}
use Rattle.sheet.specs.Kinds.{code_of}
use Rattle.sheet.specs.Routines.{Command, assign, load, store, new, free, jump, branch, cut, call, done, Routine, list_of}

abbrev pub six : ℕ → ℕ → ℕ → ℕ → ℕ → ℕ → Six ℕ
six a b c d e f = record { first = a; second = b; third = c; fourth = d; fifth = e; sixth = f }

-- a line of a kind
abbrev pub line_as : Kind → Six ℕ → Numbers
line_as k v = record { kind = code_of k; operands = v }

abbrev pub atom_kind : Atom → Kind
atom_kind (Eq e f) = Equal
atom_kind (Neq e f) = Unequal
atom_kind (Next e f) = Cell
atom_kind (Lseg e f) = Segment

abbrev pub atom_columns : Atom → Six ℕ
atom_columns (Eq e f) = six e f 0 0 0 0
atom_columns (Neq e f) = six e f 0 0 0 0
atom_columns (Next e f) = six e f 0 0 0 0
atom_columns (Lseg e f) = six e f 0 0 0 0

abbrev pub atom_line : Atom → Numbers
atom_line a = line_as (atom_kind a) (atom_columns a)

abbrev pub command_kind : Command → Kind
command_kind (assign x e) = Set
command_kind (load x y) = Load
command_kind (store x e) = Store
command_kind (new x) = New
command_kind (free x) = Free
command_kind (jump r) = Jump
command_kind (branch e f r) = Branch
command_kind (cut l) = Cut
command_kind (call x q y z s t l) = Call
command_kind done = Done

abbrev pub command_columns : Command → Six ℕ
command_columns (assign x e) = six x e 0 0 0 0
command_columns (load x y) = six x y 0 0 0 0
command_columns (store x e) = six x e 0 0 0 0
command_columns (new x) = six x 0 0 0 0 0
command_columns (free x) = six x 0 0 0 0 0
command_columns (jump r) = six r 0 0 0 0 0
command_columns (branch e f r) = six e f r 0 0 0
command_columns (cut l) = six 0 0 0 0 0 0
command_columns (call x q y z s t l) = six x q y z s t
command_columns done = six 0 0 0 0 0 0

-- a row's line, and behind it those of its list
abbrev pub command_lines : Command → List Numbers
command_lines c = line_as (command_kind c) (command_columns c) ∷ map atom_line (list_of c)

abbrev pub head_columns : Routine → ℕ → Six ℕ
head_columns R n = six R.own R.variables R.arguments R.ghosts n 0

abbrev pub head_line : Routine → ℕ → Numbers
head_line R n = line_as Head (head_columns R n)

abbrev pub list_line : Kind → Numbers
list_line k = line_as k (six 0 0 0 0 0 0)

-- the head, the before list, the after list, the rows
abbrev pub lines_for : Routine → List Numbers
lines_for R =
    head_line R (length R.rows) ∷ list_line Before ∷ (map atom_line R.before
    ++ (list_line After ∷ (map atom_line R.after ++ flat_map command_lines R.rows)))

unfoldable pub text_of : Routine → List ℕ
text_of R = flat_map written (lines_for R)
