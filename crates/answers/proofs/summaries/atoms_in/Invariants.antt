-- The rows behind the ones passed make up the rest of the sum.
use Rattle.std.proofs.Common.{◌≡◌, ◌+◌, ◌*◌, ◌≤◌, drop}
use Rattle.answers.specs.Summaries.{count_rows}
use Rattle.answers.proofs.summaries.atoms_in.Given as goal

abbrev pub invariant-loop-row : goal.invariant-loop-row
invariant-loop-row l = (l.sum ≤ 255 * l.row-index) × (l.sum + count_rows (drop l.row-index l.rows) ≡ count_rows l.rows)
