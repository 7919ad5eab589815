-- The count and what is left to count make all.
use Rattle.std.proofs.Common.{◌≡◌, ◌+◌, ◌≤◌, drop}
use Rattle.ledger.specs.Records.{used}
use Rattle.ledger.proofs.ledgers.Ledger.count.Given as goal

abbrev pub invariant-loop-record : goal.invariant-loop-record
invariant-loop-record l = (l.n ≤ l.record-index) × (l.n + used (drop l.record-index l.record-items) ≡ used l.record-items)
