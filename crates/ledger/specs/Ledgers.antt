-- Meaning: what a ledger keeps in every call. Assumes nothing.
use Rattle.std.specs.Prelude.{ℕ}
use Rattle.ledger.specs.Records.{ledger_kinds}
use Rattle.ledger.specs.declared.ledgers.Ledger.{Ledger}
use Rattle.store.specs.Meanings.{Kinds}

abbrev pub kinds_of : Ledger → Kinds
kinds_of l = ledger_kinds

-- the ghost name of the list that the records stand in
abbrev pub lender_of : Ledger → ℕ
lender_of l = l.records.ghost_name
