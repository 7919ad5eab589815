-- Meaning: how a text is read: line by line, each line judged by what the lines ahead of it say, then row by row. Assumes nothing.
use Rattle.std.specs.Prelude.{ℕ, suc, ◌+◌, ◌-◌, min, max, Bool, true, false, cond, ◌&&◌, ◌||◌, List, [], ◌∷◌, ◌++◌, length, Some, None, Ok, Err, Option, Result, ◌==◌, nat_le, nat_lt, slice_index}
use Rattle.heap.specs.declared.atoms.Atom.{Atom}
use Rattle.heap.specs.declared.atoms.Atom.TheVariants.{Eq, Neq, Next, Lseg}
use Rattle.heap.specs.declared.faults.Problem.{Problem}
use Rattle.heap.specs.declared.faults.Problem.TheVariants.{NotDue, Operand, AtomCount}
use Rattle.heap.specs.Faults.{Report, plain, number}
use Rattle.layout.specs.declared.lines.Six.{Six}
use Rattle.layout.specs.declared.lines.Numbers.{Numbers}
use Rattle.layout.specs.Texts.{lines_of}
use Rattle.sheet.specs.declared.kinds.Kind.{Kind}
use Rattle.sheet.specs.declared.kinds.Kind.TheVariants.{Head, Before, After, Equal, Unequal, Cell, Segment, Set, Load, Store, New, Free, Jump, Branch, Cut, Call, Done}
use Rattle.sheet.specs.declared.kinds.Role.{Role}
use Rattle.sheet.specs.declared.kinds.Role.TheVariants as role
use Rattle.sheet.specs.declared.kinds.Entry.{Entry}
use Rattle.sheet.specs.declared.kinds.Scope.{Scope}
use Rattle.sheet.specs.declared.drafts.Stage.{Stage}
use Rattle.sheet.specs.declared.drafts.Stage.TheVariants.{Start, Headed, BeforeList, Rows}
use Rattle.sheet.specs.declared.drafts.Open.{Open}
use Rattle.sheet.specs.Kinds.{table, entry_for, fits}
use Rattle.sheet.specs.Routines.{Command, assign, load, store, new, free, jump, branch, cut, call, done, Routine, total}
use Rattle.sheet.specs.Flow.{opens, misplaced}

-- what the lines so far say: the stage, the rows that the head promises, and the routine as far as it is known
pub record Progress : Type 0 where
  pub stage : Stage
  pub promised : ℕ
  pub routine : Routine

abbrev pub nothing : Routine
nothing = record { own = 0; variables = 0; arguments = 0; ghosts = 0; before = []; after = []; rows = [] }

abbrev pub start : Progress
start = record { stage = Start; promised = 0; routine = nothing }

abbrev pub last_of : List Command → Option Command
last_of [] = None
last_of (c ∷ []) = Some c
last_of (c ∷ d ∷ cs) = last_of (d ∷ cs)

abbrev pub open_as : ℕ → ℕ → List Atom → Option Open
open_as named except l = Some (record { named = named; except = except; count = length l })

-- the list of a row among v variables: a cut may name them all, a frame all but the call's result
abbrev pub open_behind : ℕ → Command → Option Open
open_behind v (assign x e) = None
open_behind v (load x y) = None
open_behind v (store x e) = None
open_behind v (new x) = None
open_behind v (free x) = None
open_behind v (jump r) = None
open_behind v (branch e f r) = None
open_behind v (cut l) = open_as v 0 l
open_behind v (call x q y z s t l) = open_as v x l
open_behind v done = None

-- ahead of the first row, the after list, which may name variable 1
abbrev pub open_last : Routine → Option Command → Option Open
open_last R None = open_as 1 0 R.after
open_last R (Some c) = open_behind R.variables c

-- the list that an atom line would belong to
abbrev pub open_at : Stage → Routine → Option Open
open_at Start R = None
open_at Headed R = None
open_at BeforeList R = open_as R.arguments 0 R.before
open_at Rows R = open_last R (last_of R.rows)

abbrev pub open_in : Progress → Option Open
open_in p = open_at p.stage p.routine

abbrev pub is_open : Option Open → Bool
is_open None = false
is_open (Some o) = true

abbrev pub at_start : Stage → Bool
at_start Start = true
at_start Headed = false
at_start BeforeList = false
at_start Rows = false

abbrev pub at_headed : Stage → Bool
at_headed Start = false
at_headed Headed = true
at_headed BeforeList = false
at_headed Rows = false

abbrev pub at_before : Stage → Bool
at_before Start = false
at_before Headed = false
at_before BeforeList = true
at_before Rows = false

abbrev pub at_rows : Stage → Bool
at_rows Start = false
at_rows Headed = false
at_rows BeforeList = false
at_rows Rows = true

-- which lines are due
abbrev pub due : Progress → Role → Bool
due p role.Head = at_start p.stage
due p role.Before = at_headed p.stage
due p role.After = at_before p.stage
due p role.Atom = is_open (open_in p)
due p role.Row = at_rows p.stage && nat_lt (length p.routine.rows) p.promised

abbrev pub scope_in : Progress → ℕ → ℕ → Scope
scope_in p named except = record { variables = p.routine.variables; ghosts = p.routine.ghosts; rows = p.promised; named = named; except = except }

abbrev pub scope_open : Progress → Option Open → Scope
scope_open p None = scope_in p 0 0
scope_open p (Some o) = scope_in p o.named o.except

-- the head's own number of variables bounds its arguments
abbrev pub head_scope : ℕ → Scope
head_scope v = record { variables = min v 6; ghosts = 0; rows = 0; named = 0; except = 0 }

-- what the columns of a line may hold; the ghosts of a call may not be its result
abbrev pub scope_for : Progress → Role → Six ℕ → Scope
scope_for p role.Head v = head_scope v.second
scope_for p role.Before v = scope_in p 0 0
scope_for p role.After v = scope_in p 0 0
scope_for p role.Atom v = scope_open p (open_in p)
scope_for p role.Row v = scope_in p p.routine.variables v.first

abbrev pub full : Option Open → Bool
full None = false
full (Some o) = nat_le 8 o.count

-- an atom too many for its list, or for the sheet
abbrev pub overfull : Progress → Role → Bool
overfull p role.Head = false
overfull p role.Before = false
overfull p role.After = false
overfull p role.Atom = full (open_in p) || nat_le 80 (total p.routine)
overfull p role.Row = false

-- the first that is wrong with a line of a known kind: not due, an operand, the number of atoms
abbrev pub wrong : Progress → Entry → Six ℕ → Option Problem
wrong p e v =
    cond (due p e.role)
    (cond (fits (scope_for p e.role v) e.classes v)
    (cond (overfull p e.role) (Some AtomCount) None)
    (Some Operand))
    (Some NotDue)

abbrev pub atom_for : Kind → Six ℕ → Atom
atom_for Head v = Eq v.first v.second
atom_for Before v = Eq v.first v.second
atom_for After v = Eq v.first v.second
atom_for Equal v = Eq v.first v.second
atom_for Unequal v = Neq v.first v.second
atom_for Cell v = Next v.first v.second
atom_for Segment v = Lseg v.first v.second
atom_for Set v = Eq v.first v.second
atom_for Load v = Eq v.first v.second
atom_for Store v = Eq v.first v.second
atom_for New v = Eq v.first v.second
atom_for Free v = Eq v.first v.second
atom_for Jump v = Eq v.first v.second
atom_for Branch v = Eq v.first v.second
atom_for Cut v = Eq v.first v.second
atom_for Call v = Eq v.first v.second
atom_for Done v = Eq v.first v.second

abbrev pub command_for : Kind → Six ℕ → Command
command_for Head v = done
command_for Before v = done
command_for After v = done
command_for Equal v = done
command_for Unequal v = done
command_for Cell v = done
command_for Segment v = done
command_for Set v = assign v.first v.second
command_for Load v = load v.first v.second
command_for Store v = store v.first v.second
command_for New v = new v.first
command_for Free v = free v.first
command_for Jump v = jump v.first
command_for Branch v = branch v.first v.second v.third
command_for Cut v = cut []
command_for Call v = call v.first v.second v.third v.fourth v.fifth v.sixth []
command_for Done v = done

-- one atom more in the list of a row
abbrev pub with_atom : Atom → Command → Command
with_atom a (assign x e) = assign x e
with_atom a (load x y) = load x y
with_atom a (store x e) = store x e
with_atom a (new x) = new x
with_atom a (free x) = free x
with_atom a (jump r) = jump r
with_atom a (branch e f r) = branch e f r
with_atom a (cut l) = cut (l ++ a ∷ [])
with_atom a (call x q y z s t l) = call x q y z s t (l ++ a ∷ [])
with_atom a done = done

abbrev pub at_last : (Command → Command) → List Command → List Command
at_last f [] = []
at_last f (c ∷ []) = f c ∷ []
at_last f (c ∷ d ∷ cs) = c ∷ at_last f (d ∷ cs)

abbrev pub with_rows : Routine → List Command → Routine
with_rows R rows = record { own = R.own; variables = R.variables; arguments = R.arguments; ghosts = R.ghosts; before = R.before; after = R.after; rows = rows }

abbrev pub with_before : Routine → List Atom → Routine
with_before R l = record { own = R.own; variables = R.variables; arguments = R.arguments; ghosts = R.ghosts; before = l; after = R.after; rows = R.rows }

abbrev pub with_after : Routine → List Atom → Routine
with_after R l = record { own = R.own; variables = R.variables; arguments = R.arguments; ghosts = R.ghosts; before = R.before; after = l; rows = R.rows }

abbrev pub with_head : Routine → Six ℕ → Routine
with_head R v = record { own = v.first; variables = v.second; arguments = v.third; ghosts = v.fourth; before = R.before; after = R.after; rows = R.rows }

abbrev pub atom_in_rows : Routine → Atom → List Command → Routine
atom_in_rows R a [] = with_after R (R.after ++ a ∷ [])
atom_in_rows R a (c ∷ cs) = with_rows R (at_last (with_atom a) (c ∷ cs))

abbrev pub atom_into : Stage → Routine → Atom → Routine
atom_into Start R a = R
atom_into Headed R a = R
atom_into BeforeList R a = with_before R (R.before ++ a ∷ [])
atom_into Rows R a = atom_in_rows R a R.rows

abbrev pub moved : Progress → Stage → Routine → Progress
moved p s R = record { stage = s; promised = p.promised; routine = R }

-- what a line adds
abbrev pub next_by : Role → Progress → Kind → Six ℕ → Progress
next_by role.Head p k v = record { stage = Headed; promised = v.fifth; routine = with_head p.routine v }
next_by role.Before p k v = moved p BeforeList p.routine
next_by role.After p k v = moved p Rows p.routine
next_by role.Atom p k v = moved p p.stage (atom_into p.stage p.routine (atom_for k v))
next_by role.Row p k v = moved p p.stage (with_rows p.routine (p.routine.rows ++ command_for k v ∷ []))

abbrev pub or_wrong : Option Problem → Progress → Result Progress Problem
or_wrong None p = Ok p
or_wrong (Some w) p = Err w

abbrev pub line_by : Progress → Option Entry → Six ℕ → Result Progress Problem
line_by p None v = Err NotDue
line_by p (Some e) v = or_wrong (wrong p e v) (next_by e.role p e.kind v)

-- one line more, or what is wrong with it
abbrev pub line_more : Progress → Numbers → Result Progress Problem
line_more p l = line_by p (entry_for l.kind table) l.operands

abbrev pub onward : {A B E : Type 0} → Result A E → (A → Result B E) → Result B E
onward (Ok x) f = f x
onward (Err e) f = Err e

abbrev pub at_place : {A : Type 0} → ℕ → Result A Problem → Result A Report
at_place k (Ok x) = Ok x
at_place k (Err w) = Err (plain (number w) k)

-- all lines, the first of them having the number k
abbrev pub all_lines : Progress → ℕ → List Numbers → Result Progress Report
all_lines p k [] = Ok p
all_lines p k (l ∷ ls) = onward (at_place k (line_more p l)) (λ q. all_lines q (suc k) ls)

-- as many rows as promised
abbrev pub complete : Progress → Bool
complete p = at_rows p.stage && length p.routine.rows == p.promised

-- the lowest row from i on, of n more, that is misplaced
abbrev pub first_misplaced : List Command → ℕ → List Command → Option ℕ
first_misplaced rows i [] = None
first_misplaced rows i (c ∷ cs) = cond (misplaced rows i) (Some i) (first_misplaced rows (suc i) cs)

-- the most weight on any way from row i on, where ws has it for the rows behind i
abbrev pub ahead : ℕ → List ℕ → ℕ → ℕ
ahead i ws r = cond (nat_lt i r) (slice_index ws (r - suc i)) 0

abbrev pub weighs : Command → ℕ → List ℕ → ℕ
weighs (assign x e) i ws = slice_index ws 0
weighs (load x y) i ws = 1 + slice_index ws 0
weighs (store x e) i ws = 1 + slice_index ws 0
weighs (new x) i ws = 1 + slice_index ws 0
weighs (free x) i ws = 1 + slice_index ws 0
weighs (jump r) i ws = ahead i ws r
weighs (branch e f r) i ws = max (slice_index ws 0) (ahead i ws r)
weighs (cut l) i ws = 0
weighs (call x q y z s t l) i ws = 0
weighs done i ws = 0

-- by one pass from the last row back
abbrev pub weights : ℕ → List Command → List ℕ
weights i [] = []
weights i (c ∷ cs) = weighs c i (weights (suc i) cs) ∷ weights (suc i) cs

-- the lowest row from i on behind which a piece opens that weighs more than 8
abbrev pub first_heavy : ℕ → List Command → Option ℕ
first_heavy i [] = None
first_heavy i (c ∷ cs) = cond (opens c && nat_lt 8 (slice_index (weights (suc i) cs) 0)) (Some i) (first_heavy (suc i) cs)

abbrev pub heavy_piece : List Command → Option ℕ
heavy_piece rows = cond (nat_lt 8 (slice_index (weights 1 rows) 0)) (Some 0) (first_heavy 1 rows)

abbrev pub refused_at : ℕ → Option ℕ → Result Routine Report → Result Routine Report
refused_at n (Some r) other = Err (plain n r)
refused_at n None other = other

-- what is tested row by row
abbrev pub rows_tested : Routine → Result Routine Report
rows_tested R = refused_at 114 (first_misplaced R.rows 1 R.rows) (refused_at 115 (heavy_piece R.rows) (Ok R))

-- behind the last of k lines
abbrev pub finished : ℕ → Progress → Result Routine Report
finished k p = cond (complete p) (rows_tested p.routine) (Err (plain 111 (suc k)))

unfoldable pub reading : List ℕ → Result Routine Report
reading t = onward (lines_of t) (λ ls. onward (all_lines start 1 ls) (λ p. finished (length ls) p))
