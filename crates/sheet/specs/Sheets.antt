-- Meaning: the sheet that is new, and what reading answers and leaves. Assumes nothing.
use Rattle.std.specs.Prelude.{[], ◌∷◌, Ok, Err, Result}
use Rattle.heap.specs.declared.faults.Fault.{Fault}
use Rattle.heap.specs.Faults.{Report, report}
use Rattle.sheet.specs.declared.sheets.Head.{Head}
use Rattle.sheet.specs.Routines.{Routine, done}

-- routine 0 with one variable, no arguments or ghosts, empty lists and the single row 30
abbrev pub new_routine : Routine
new_routine = record { own = 0; variables = 1; arguments = 0; ghosts = 0; before = []; after = []; rows = done ∷ [] }

abbrev pub head_of : Routine → Head
head_of R = record { own = R.own; variables = R.variables; arguments = R.arguments; ghosts = R.ghosts }

-- what a call says: that it is done, or the five numbers of its fault
abbrev pub said : {A : Type 0} → Result A Fault → Result A Report
said (Ok x) = Ok x
said (Err f) = Err (report f)

abbrev pub answered : Result Routine Report → Result (Unit {0}) Report
answered (Ok R) = Ok tt
answered (Err e) = Err e

-- the sheet is filled whole, or stays as it was
abbrev pub filled_by : Routine → Result Routine Report → Routine
filled_by old (Ok R) = R
filled_by old (Err e) = old
