-- The rows from i on are passed.
use Rattle.std.proofs.Common.{◌≡◌, length}
use Rattle.sheet.specs.ModelReading.{rows_in}
use Rattle.sheet.proofs.WeightsPass.{Passed}
use Rattle.sheet.proofs.sheets.Body.weights.Given as goal

abbrev pub invariant-loop-i : goal.invariant-loop-i
invariant-loop-i l = (length l.found ≡ 41) × Passed l.found l.i (rows_in l.self)
