-- The draft holds what the lines so far say.
use Rattle.sheet.specs.ModelReading.{Reached}
use Rattle.sheet.proofs.reading.drafted.Given as goal

abbrev pub invariant-loop-k : goal.invariant-loop-k
invariant-loop-k l = Reached l.draft l.k l.lines
