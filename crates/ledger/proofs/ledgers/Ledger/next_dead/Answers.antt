-- Not all addresses are live.
use Rattle.ledger.proofs.Usable.{dead_found}
use Rattle.ledger.proofs.ledgers.Ledger.next_dead.Goals as goal

pub unwrap-requires : goal.unwrap-requires
unwrap-requires c = dead_found c.args.self.now.records.now c.args.self.now.kept c.dead_from-in-None.result c.dead_from-in-None.ensures
