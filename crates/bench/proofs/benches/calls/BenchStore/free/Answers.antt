-- The word of the cell says that it is dead.
use Rattle.std.proofs.Common.{rules}
use Rattle.bench.proofs.WordsChange.{held_live, meant-without}
use Rattle.bench.proofs.benches.calls.BenchStore.free.Goals as goal

pub returns-clause-answer : goal.returns-clause-answer
returns-clause-answer c =
    let ws = c.args.self.now.words.now in
    let here = c.in_ok-place.ensures in
    let live = held_live ws c.args.address here.0 in
    let after = meant-without ws c.in_ok-place.place c.args.address here.1 here.0 in
    search rules
