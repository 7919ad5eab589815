-- What is counted and what the walk passes from here are what it passes from the start.
use Rattle.std.proofs.Common.{◌≡◌, ◌+◌, ◌-◌}
use Rattle.store.specs.Meanings.{Keeps}
use Rattle.walk.specs.Ways.{steps}
use Rattle.walk.proofs.follow.Given as goal

abbrev pub invariant-loop-count : goal.invariant-loop-count
invariant-loop-count g l =
    let store = g.S.Store in
    let heap = (store.meaning l.initial.store).heap in
    (store.meaning l.store ≡ store.meaning l.initial.store)
    × Keeps store.kinds store.home l.initial.store l.store
    × (steps heap l.most l.from ≡ l.count + steps heap (l.most - l.count) l.at)
