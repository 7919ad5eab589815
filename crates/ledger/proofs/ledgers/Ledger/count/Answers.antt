-- One record more is counted, and in the end all are.
use Rattle.std.proofs.Common.{ap, ◌∙◌, arith}
use Rattle.std.proofs.lemmas.Bool.Decides.{nat_tests}
use Rattle.ledger.proofs.Usable.{count_all, count_more}
use Rattle.ledger.proofs.ledgers.Ledger.count.Goals as goal
use Rattle.ledger.specs.Counts.{live_usable, used_most}
use Rattle.ledger.specs.Records.{usable, used}
use Rattle.store.proofs.Lists.{length-usable}

pub loop-record-preserved : goal.loop-record-preserved
loop-record-preserved c =
    let more = count_more c.usable-record-items.result.now c.loop-record.record-index c.loop-record.n c.loop-record-test.true c.loop-record.invariant.1 in
    (grind (arith, nat_tests), grind (arith, nat_tests))

pub returns : goal.returns
returns c =
    let rs = c.args.self.now.records.now in
    let items = c.usable-record-items.result.now in
    let used = count_all items c.loop-record.record-index c.loop-record.n c.loop-record-test.false c.loop-record.invariant.1 ∙ ap used c.usable-record-items.ensures in
    let live = live_usable rs c.args.self.now.kept in
    record { used = used; live = omega arith; most = omega (arith, used_most (usable rs), length-usable 512 rs) }
