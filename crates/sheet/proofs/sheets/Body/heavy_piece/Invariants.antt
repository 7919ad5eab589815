-- The rows behind the ones passed decide.
use Rattle.std.proofs.Common.{◌≡◌, ◌+◌, drop}
use Rattle.sheet.specs.Reading.{first_heavy}
use Rattle.sheet.specs.ModelReading.{rows_in}
use Rattle.sheet.proofs.sheets.Body.heavy_piece.Given as goal

abbrev pub invariant-loop-i : goal.invariant-loop-i
invariant-loop-i l = first_heavy (l.i + 1) (drop l.i (rows_in l.self)) ≡ first_heavy 1 (rows_in l.self)
