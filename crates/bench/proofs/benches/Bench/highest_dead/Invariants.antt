-- All cells above the one that is looked at are live.
use Rattle.bench.specs.Words.{LiveAbove}
use Rattle.bench.proofs.benches.Bench.highest_dead.Given as goal

abbrev pub invariant-loop-place : goal.invariant-loop-place
invariant-loop-place l = LiveAbove l.self.words.now l.place
