-- Each way out of reading is the definition's.
use Rattle.std.proofs.Common.{Ok, sym, ap, ◌∙◌}
use Rattle.std.proofs.lemmas.Result.{err_from_is_err_and}
use Rattle.sheet.specs.ModelReading.{progress_in}
use Rattle.sheet.proofs.ReadWhole.{refused_lines, refused_line, decided}
use Rattle.sheet.proofs.reading.read_body.Goals as goal

pub returns-in_err-scanned : goal.returns-in_err-scanned
returns-in_err-scanned c =
    let p = err_from_is_err_and c.from_residual.result c.from_residual.ensures.1 in
    rw (p.1, p.2) (refused_lines c.args.text.now _ c.in_err-scanned.ensures.defined)

pub returns-in_err-draft : goal.returns-in_err-draft
returns-in_err-draft c =
    let p = err_from_is_err_and c.from_residual-in_err-draft.result c.from_residual-in_err-draft.ensures.1 in
    let ls = c.lines-lines.result.now in
    let h = c.in_ok-scanned.ensures.defined ∙ sym (ap Ok c.lines-lines.ensures.lines) in
    rw (p.1, p.2) (refused_line c.args.text.now ls _ h c.in_err-draft.ensures)

pub returns-in_err-finish : goal.returns-in_err-finish
returns-in_err-finish c =
    let p = err_from_is_err_and c.from_residual-in_err-finish.result c.from_residual-in_err-finish.ensures.1 in
    let ls = c.lines-lines.result.now in
    let h = c.in_ok-scanned.ensures.defined ∙ sym (ap Ok c.lines-lines.ensures.lines) in
    rw (p.1, p.2) (decided c.args.text.now ls (progress_in c.in_ok-draft.draft) h c.in_ok-draft.ensures ∙ c.in_err-finish.ensures)

pub returns : goal.returns
returns c =
    let ls = c.lines-lines.result.now in
    let h = c.in_ok-scanned.ensures.defined ∙ sym (ap Ok c.lines-lines.ensures.lines) in
    (decided c.args.text.now ls (progress_in c.in_ok-draft.draft) h c.in_ok-draft.ensures ∙ c.in_ok-finish.ensures, c.in_ok-draft.draft.whole)
