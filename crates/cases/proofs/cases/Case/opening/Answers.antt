-- The blank case has nil alone.
use Rattle.cases.proofs.Bare.{empty_bare}
use Rattle.cases.proofs.cases.Case.opening.Goals as goal

pub returns-clause-shape : goal.returns-clause-shape
returns-clause-shape c = let e = c.blank-first.ensures in empty_bare c.blank-first.result e.names e.edges e.nodes
