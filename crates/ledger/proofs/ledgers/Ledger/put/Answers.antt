-- The record becomes that of the cell.
use Rattle.ledger.proofs.Usable.{from_vacant, kept_put, meant-put}
use Rattle.ledger.proofs.ledgers.Ledger.put.Goals as goal

pub invariant_of-self-clause-kept : goal.invariant_of-self-clause-kept
invariant_of-self-clause-kept c =
    let rs = c.args.self.now.records.now in
    let ok = from_vacant rs c.args.i c.args.address c.requires.within c.requires.vacant in
    kept_put rs c.args.i c.args.address c.args.self.now.kept c.requires.within c.args.link c.requires.low c.requires.high c.requires.link ok

pub returns-clause-after : goal.returns-clause-after
returns-clause-after c =
    let rs = c.args.self.now.records.now in
    let ok = from_vacant rs c.args.i c.args.address c.requires.within c.requires.vacant in
    meant-put rs c.args.i c.args.address c.args.self.now.kept c.requires.within c.args.link c.requires.low ok
