-- Meaning: what a verdict is, and the number and the row of each flaw. Assumes nothing.
use Rattle.std.specs.Prelude.{ℕ, Result}
use Rattle.pieces.specs.declared.verdicts.Flaw.{Flaw}
use Rattle.pieces.specs.declared.verdicts.Flaw.TheVariants.{DeadCell, FalseList}

-- every piece is right, or why not
abbrev pub Verdict : Type 0
Verdict = Result (Unit {0}) Flaw

abbrev pub flaw_number : Flaw → ℕ
flaw_number (DeadCell r) = 131
flaw_number (FalseList r) = 132

abbrev pub flaw_row : Flaw → ℕ
flaw_row (DeadCell r) = r
flaw_row (FalseList r) = r
