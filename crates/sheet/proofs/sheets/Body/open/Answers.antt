-- The list behind the last row.
use Rattle.std.proofs.Common.{◌-◌, length, sym, ap, ◌∙◌}
use Rattle.std.specs.List.{slice_get}
use Rattle.sheet.specs.Laid.{routine_in}
use Rattle.sheet.specs.Reading.{open_last}
use Rattle.sheet.proofs.LastRows.{last_given}
use Rattle.sheet.proofs.sheets.Body.open.Goals as goal

pub returns-in-Some : goal.returns-in-Some
returns-in-Some c =
    let b = c.args.self.now in
    let e = ap (λ xs. slice_get xs (length xs - 1)) (sym c.as_slice.ensures.value) ∙ sym c.in-Some.ensures.value in
    c.open.ensures ∙ sym (ap (open_last (routine_in b)) (last_given b.rows.items c.in-Some.row.now e))
