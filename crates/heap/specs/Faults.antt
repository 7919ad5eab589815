-- Meaning: the number of each problem, and what a fault says. Assumes nothing.
use Rattle.std.specs.Prelude.{ℕ, List, ◌++◌, codes}
use Rattle.std.specs.Fmt.{decimal}
use Rattle.heap.specs.declared.faults.Problem.{Problem}
use Rattle.heap.specs.declared.faults.Problem.TheVariants.{TextLength, Layout, NotDue, Operand, AtomCount, Target, Weight, OwnNumber, ShelfFull, Callee, Contract, DeadCell, FalseList, NotLive, LinkRange, NoCell, ListLength, NoPosition, NoFrame, BadValue, BeforeList, Budget, LentMemory}
use Rattle.heap.specs.declared.faults.Fault.{Fault}

abbrev pub number : Problem → ℕ
number TextLength = 101
number Layout = 102
number NotDue = 111
number Operand = 112
number AtomCount = 113
number Target = 114
number Weight = 115
number OwnNumber = 121
number ShelfFull = 122
number Callee = 123
number Contract = 124
number DeadCell = 131
number FalseList = 132
number NotLive = 141
number LinkRange = 142
number NoCell = 143
number ListLength = 144
number NoPosition = 151
number NoFrame = 152
number BadValue = 153
number BeforeList = 154
number Budget = 155
number LentMemory = 156

-- the five numbers of a fault; those that do not apply are 0
pub record Report : Type 0 where
  pub number : ℕ
  pub place : ℕ
  pub kind : ℕ
  pub routine : ℕ
  pub row : ℕ

abbrev pub report : Fault → Report
report f = record { number = number f.problem; place = f.place; kind = f.kind; routine = f.routine; row = f.row }

-- a number and a place, and nothing else
abbrev pub plain : ℕ → ℕ → Report
plain n p = record { number = n; place = p; kind = 0; routine = 0; row = 0 }

-- a number, a place and the kind of a store, and nothing else
abbrev pub made_by : ℕ → ℕ → ℕ → Report
made_by k n p = record { number = n; place = p; kind = k; routine = 0; row = 0 }

-- how a refusal is shown to a person: its number, its place and the kind of the store
abbrev pub refused_text : Report → List ℕ
refused_text r = codes "refused: " ++ (decimal r.number ++ (codes " at " ++ (decimal r.place ++ (codes ", kind " ++ decimal r.kind))))
