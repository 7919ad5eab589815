-- The count is that of the links so far.
use Rattle.std.proofs.Common.{◌≡◌, ◌≤◌, take}
use Rattle.bench.proofs.WordsChange.{links}
use Rattle.bench.proofs.benches.Bench.count.Given as goal

abbrev pub invariant-loop-word : goal.invariant-loop-word
invariant-loop-word l = (l.n ≤ l.word-index) × (l.n ≡ links (take l.word-index l.word-items))
