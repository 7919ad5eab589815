-- There are no more live cells than words.
use Rattle.std.proofs.Common.{length, rules}
use Rattle.bench.proofs.benches.calls.BenchStore.left.Goals as goal
use Rattle.bench.specs.Words.{cells, size}
use Rattle.store.proofs.Counting.{live_most}

pub overflow_sub-result : goal.overflow_sub-result
overflow_sub-result c =
    let ws = c.args.self.now.words.now in
    let most = live_most (cells ws) (size (length ws)) in
    search rules
