-- The rows behind the ones passed decide.
use Rattle.std.proofs.Common.{◌≡◌, ◌+◌, drop}
use Rattle.sheet.specs.Reading.{first_misplaced}
use Rattle.sheet.specs.ModelReading.{rows_in}
use Rattle.sheet.proofs.sheets.Body.first_misplaced.Given as goal

abbrev pub invariant-loop-i : goal.invariant-loop-i
invariant-loop-i l = first_misplaced (rows_in l.self) (l.i + 1) (drop l.i (rows_in l.self)) ≡ first_misplaced (rows_in l.self) 1 (rows_in l.self)
