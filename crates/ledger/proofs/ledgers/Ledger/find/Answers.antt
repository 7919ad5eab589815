-- The search is for the first record with the address.
use Rattle.std.proofs.Common.{eqb, rules, tests}
use Rattle.std.proofs.lemmas.Iterator.{YieldsList-from_slice}
use Rattle.std.proofs.lemmas.Iterator.Search.{position_from_yields_List}
use Rattle.ledger.proofs.Usable.{found, mirrors}
use Rattle.ledger.proofs.ledgers.Ledger.find.Goals as goal
use Rattle.ledger.specs.Records.{usable}

pub returns-clause-found : goal.returns-clause-found
returns-clause-found c =
    let rs = c.args.self.now.records.now in
    let first = position_from_yields_List (λ r. eqb c.args.address r.address) _ _ c.position.result c.position.ensures.ran (YieldsList-from_slice (usable rs) cc) (λ x b q k. search (rules, tests)) in
    rw first (found rs c.args.address c.args.self.now.kept)

pub returns-clause-mirrors : goal.returns-clause-mirrors
returns-clause-mirrors c = mirrors c.args.self.now.records.now c.args.self.now.kept
