-- The search is for the first address that is not live.
use Rattle.std.proofs.Common.{◌≡◌, true, false, is_some, rules, tests}
use Rattle.std.proofs.lemmas.Iterator.{first_from_Range}
use Rattle.ledger.proofs.Usable.{first_dead}
use Rattle.ledger.proofs.ledgers.Ledger.dead_from.Goals as goal
use Rattle.ledger.specs.Records.{cells, usable}

pub returns : goal.returns
returns c =
    let rs = c.args.self.now.records.now in
    first_dead rs c.args.from c.find.result (first_from_Range _ _ _ _ (λ a. is_some (cells (usable rs) a) ≡ false) (λ a. is_some (cells (usable rs) a) ≡ true) c.find.ensures.ran (λ x q k. search (rules, tests)) (λ x q k. search (rules, tests)))
