-- The theorem, as it is proved in Verdicts.
use Rattle.worked.proofs.Verdicts.{worked_sheets_lem}
use Rattle.worked.proofs.worked_sheets.Goals as goal

pub returns : goal.returns
returns c = record { count = c.how_many.ensures; verdicts = worked_sheets_lem }
