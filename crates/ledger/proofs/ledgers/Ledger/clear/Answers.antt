-- The record is that of no cell.
use Rattle.std.proofs.Common.{get_or, refl}
use Rattle.ledger.proofs.Usable.{kept_without, meant-without}
use Rattle.ledger.proofs.ledgers.Ledger.clear.Goals as goal
use Rattle.ledger.specs.Records.{unused}

pub invariant_of-self-clause-kept : goal.invariant_of-self-clause-kept
invariant_of-self-clause-kept c = kept_without c.args.self.now.records.now c.args.i 0 c.args.self.now.kept c.requires

pub returns-clause-after : goal.returns-clause-after
returns-clause-after c =
    let rs = c.args.self.now.records.now in
    meant-without rs c.args.i (get_or rs c.args.i unused).address c.args.self.now.kept c.requires refl
