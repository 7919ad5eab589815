-- Meaning: thirteen worked sheets: the text of each, the routine that it is, and the verdict on it alone on a shelf. Assumes nothing.
use Rattle.std.specs.Prelude.{◌≡◌, ℕ, List, [], ◌∷◌, Ok, Err}
use Rattle.std.specs.List.{AllByRecursion}
use Rattle.heap.specs.declared.atoms.Atom.{Atom}
use Rattle.heap.specs.declared.atoms.Atom.TheVariants.{Eq, Neq, Next, Lseg}
use Rattle.sheet.specs.Routines.{Command, assign, load, store, new, free, jump, branch, cut, done, Routine}
use Rattle.sheet.specs.Reading.{reading}
use Rattle.pieces.specs.declared.verdicts.Flaw.TheVariants.{DeadCell, FalseList}
use Rattle.pieces.specs.Flaws.{Verdict}
use Rattle.pieces.specs.Pieces.{Judged}
use Rattle.worked.specs.Callees.{alone}
use Rattle.worked.specs.Texts.{bytes_of, text_1, text_2, text_3, text_4, text_5, text_6, text_7, text_8, text_9, text_10, text_11, text_12, text_13}

-- three variables, of which one is the argument; the list that it begins is given
abbrev pub over_list : List Command → List Atom → Routine
over_list rows after = record { own = 0; variables = 3; arguments = 1; ghosts = 0; before = Lseg 1 0 ∷ []; after = after; rows = rows }

-- both lists that the reversal keeps: what is still to be turned, and what is turned
abbrev pub both_lists : Command
both_lists = cut (Lseg 1 0 ∷ Lseg 2 0 ∷ [])

abbrev pub reversing : List Command
reversing = both_lists ∷ branch 1 0 8 ∷ load 3 1 ∷ store 1 2 ∷ assign 2 1 ∷ assign 1 3 ∷ jump 1 ∷ assign 1 2 ∷ done ∷ []

-- two variables and two ghosts; the variables 1 to `arguments` are given
abbrev pub with_ghosts : ℕ → List Atom → List Command → List Atom → Routine
with_ghosts arguments before rows after = record { own = 0; variables = 2; arguments = arguments; ghosts = 2; before = before; after = after; rows = rows }

-- the reversal of a list
abbrev pub routine_1 : Routine
routine_1 = over_list reversing (Lseg 1 0 ∷ [])

-- rows 3 and 4 exchanged: the link is lost before it is read
abbrev pub routine_2 : Routine
routine_2 = over_list (both_lists ∷ branch 1 0 8 ∷ store 1 2 ∷ load 3 1 ∷ assign 2 1 ∷ assign 1 3 ∷ jump 1 ∷ assign 1 2 ∷ done ∷ []) (Lseg 1 0 ∷ [])

-- no test in row 2: variable 1 may be nil
abbrev pub routine_3 : Routine
routine_3 = over_list (both_lists ∷ assign 3 3 ∷ load 3 1 ∷ store 1 2 ∷ assign 2 1 ∷ assign 1 3 ∷ jump 1 ∷ assign 1 2 ∷ done ∷ []) (Lseg 1 0 ∷ [])

-- the list may be empty
abbrev pub routine_4 : Routine
routine_4 = over_list reversing (Lseg 1 0 ∷ Neq 1 0 ∷ [])

-- two segments are one, since nil is no cell
abbrev pub routine_5 : Routine
routine_5 = with_ghosts 1 (Lseg 1 7 ∷ Lseg 7 0 ∷ []) (done ∷ []) (Lseg 1 0 ∷ [])

-- 8 may be a cell between 1 and 7
abbrev pub routine_6 : Routine
routine_6 = with_ghosts 1 (Lseg 1 7 ∷ Lseg 7 8 ∷ []) (done ∷ []) (Lseg 1 8 ∷ [])

-- 8 is not cell 1
abbrev pub routine_7 : Routine
routine_7 = with_ghosts 1 (Neq 1 8 ∷ Next 1 7 ∷ Lseg 7 8 ∷ []) (done ∷ []) (Lseg 1 8 ∷ [])

-- 8 may be cell 1
abbrev pub routine_8 : Routine
routine_8 = with_ghosts 1 (Next 1 7 ∷ Lseg 7 8 ∷ []) (done ∷ []) (Lseg 1 8 ∷ [])

-- no state has cell 1 twice
abbrev pub routine_9 : Routine
routine_9 = with_ghosts 1 (Next 1 7 ∷ Next 1 8 ∷ []) (done ∷ []) (Neq 1 1 ∷ [])

-- one of the two segments has cell 1
abbrev pub routine_10 : Routine
routine_10 = with_ghosts 1 (Neq 7 8 ∷ Lseg 1 7 ∷ Lseg 1 8 ∷ []) (load 2 1 ∷ done ∷ []) (Lseg 1 7 ∷ Lseg 1 8 ∷ [])

-- both segments may be empty
abbrev pub routine_11 : Routine
routine_11 = with_ghosts 1 (Lseg 1 7 ∷ Lseg 1 8 ∷ []) (load 2 1 ∷ done ∷ []) (Lseg 1 7 ∷ Lseg 1 8 ∷ [])

-- 2 is a cell of its own, so of neither segment
abbrev pub routine_12 : Routine
routine_12 = with_ghosts 2 (Eq 2 8 ∷ Lseg 1 7 ∷ Lseg 7 2 ∷ Next 2 0 ∷ []) (free 2 ∷ done ∷ []) (Lseg 1 8 ∷ [])

-- the new cell may be the freed one
abbrev pub routine_13 : Routine
routine_13 = with_ghosts 1 (Eq 1 7 ∷ Next 1 0 ∷ []) (free 1 ∷ new 1 ∷ done ∷ []) (Neq 1 7 ∷ Next 1 0 ∷ [])

-- a sheet by its lines, what it says, and what is said of it
pub record Sheet : Type 0 where
  pub lines : List (List ℕ)
  pub routine : Routine
  pub verdict : Verdict

abbrev pub sheet : List (List ℕ) → Routine → Verdict → Sheet
sheet lines routine verdict = record { lines = lines; routine = routine; verdict = verdict }

abbrev pub sheets : List Sheet
sheets =
    sheet text_1 routine_1 (Ok tt) ∷
    sheet text_2 routine_2 (Err (FalseList 1)) ∷
    sheet text_3 routine_3 (Err (DeadCell 3)) ∷
    sheet text_4 routine_4 (Err (FalseList 9)) ∷
    sheet text_5 routine_5 (Ok tt) ∷
    sheet text_6 routine_6 (Err (FalseList 1)) ∷
    sheet text_7 routine_7 (Ok tt) ∷
    sheet text_8 routine_8 (Err (FalseList 1)) ∷
    sheet text_9 routine_9 (Ok tt) ∷
    sheet text_10 routine_10 (Ok tt) ∷
    sheet text_11 routine_11 (Err (DeadCell 1)) ∷
    sheet text_12 routine_12 (Ok tt) ∷
    sheet text_13 routine_13 (Err (FalseList 3)) ∷ []

-- the text reads as the routine, the verdict is the one given, and there is no other
abbrev pub AsSaid : Sheet → Type 0
AsSaid s =
    (reading (bytes_of s.lines) ≡ Ok s.routine)
    × Judged (alone s.routine) s.routine s.verdict
    × ((v : Verdict) → Judged (alone s.routine) s.routine v → v ≡ s.verdict)

abbrev pub WorkedSheets : Type 0
WorkedSheets = AllByRecursion AsSaid sheets
