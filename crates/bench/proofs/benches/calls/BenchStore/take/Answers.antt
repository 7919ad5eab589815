-- The highest dead cell is taken; without one, all cells are live.
use Rattle.std.proofs.Common.{◌+◌, length, refl, arith, rules}
use Rattle.bench.proofs.WordsChange.{all_held, dead_cell, meant-put}
use Rattle.bench.proofs.benches.calls.BenchStore.take.Goals as goal
use Rattle.bench.specs.Words.{cells, size}
use Rattle.store.proofs.Counting.{one_dead}

pub returns-in_default-clause-answer : goal.returns-in_default-clause-answer
returns-in_default-clause-answer c = let full = all_held c.args.self.now.words.now c.in_default.ensures in search rules

pub returns-clause-answer : goal.returns-clause-answer
returns-clause-answer c =
    let ws = c.args.self.now.words.now in
    let i = c.in-Some.place in
    let found = c.in-Some.ensures in
    let dead = dead_cell ws (i + 1) found.dead in
    let room = one_dead (cells ws) (size (length ws)) (i + 1) found.low found.high dead in
    let after = meant-put ws i (i + 1) 0 refl (omega arith) (omega arith) in
    search rules
