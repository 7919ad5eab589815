-- Model: what the code's loops over lines and rows have found out, and the room that they need. Assumes nothing.
use Rattle.std.specs.Prelude.{◌≡◌, ℕ, suc, ◌+◌, ◌-◌, ◌<◌, ◌≤◌, max, cond, false, List, map, length, drop, Option, Result, Some, None, Ok, Err, nat_lt, slice_index}
use Rattle.heap.specs.declared.faults.Problem.{Problem}
use Rattle.layout.specs.declared.lines.Numbers.{Numbers}
use Rattle.layout.specs.declared.lines.Six.{Six}
use Rattle.sheet.specs.declared.kinds.Role.{Role}
use Rattle.sheet.specs.declared.kinds.Role.TheVariants as role
use Rattle.sheet.specs.declared.sheets.Body.{Body}
use Rattle.sheet.specs.declared.drafts.Draft.{Draft}
use Rattle.sheet.specs.Routines.{Command, assign, load, store, new, free, jump, branch, cut, call, done, total}
use Rattle.sheet.specs.Reading.{Progress, start, all_lines, open_in, full}
use Rattle.sheet.specs.Laid.{command_in, routine_in}

abbrev pub rows_in : Body → List Command
rows_in b = map command_in b.rows.items

-- what a draft says
abbrev pub progress_in : Draft → Progress
progress_in d = record { stage = d.stage; promised = d.promised; routine = routine_in d.body }

-- there is room for what a line of the role adds
abbrev pub RoomFor : Progress → Role → Six ℕ → Type 0
RoomFor p role.Head v = v.fifth ≤ 40
RoomFor p role.Before v = Unit {0}
RoomFor p role.After v = Unit {0}
RoomFor p role.Atom v = (full (open_in p) ≡ false) × (total p.routine < 80)
RoomFor p role.Row v = length p.routine.rows < 40

abbrev pub checked_by : Option Problem → Six ℕ → Result (Six ℕ) Problem
checked_by None v = Ok v
checked_by (Some w) v = Err w

-- a draft after k lines: the lines behind them decide
abbrev pub Reached : Draft → ℕ → List Numbers → Type 0
Reached d k ls = all_lines (progress_in d) (suc k) (drop k ls) ≡ all_lines start 1 ls

-- the weight from row i on, by entries for all rows: row r has entry r - 1
abbrev pub ahead_in : ℕ → List ℕ → ℕ → ℕ
ahead_in i ws r = cond (nat_lt i r) (slice_index ws (r - 1)) 0

abbrev pub weighs_in : Command → ℕ → List ℕ → ℕ
weighs_in (assign x e) i ws = slice_index ws i
weighs_in (load x y) i ws = 1 + slice_index ws i
weighs_in (store x e) i ws = 1 + slice_index ws i
weighs_in (new x) i ws = 1 + slice_index ws i
weighs_in (free x) i ws = 1 + slice_index ws i
weighs_in (jump r) i ws = ahead_in i ws r
weighs_in (branch e f r) i ws = max (slice_index ws i) (ahead_in i ws r)
weighs_in (cut l) i ws = 0
weighs_in (call x q y z s t l) i ws = 0
weighs_in done i ws = 0
