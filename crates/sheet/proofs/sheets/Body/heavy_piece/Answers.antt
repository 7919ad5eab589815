-- The start, then row by row.
use Rattle.std.proofs.Common.{◌+◌, ◌&&◌, ltb, get_or, length, sym, ap, ◌∙◌, arith}
use Rattle.std.proofs.lemmas.List.{at_drop_all}
use Rattle.sheet.specs.Routines.{done}
use Rattle.sheet.specs.Flow.{opens}
use Rattle.sheet.specs.Reading.{first_heavy}
use Rattle.sheet.specs.ModelReading.{rows_in}
use Rattle.sheet.proofs.RowsIn.{length-rows, row_now}
use Rattle.sheet.proofs.WeightsPass.{heavy_here, heavy_later, start_light}
use Rattle.sheet.proofs.sheets.Body.heavy_piece.Goals as goal

pub returns-then-is_heavy : goal.returns-then-is_heavy
returns-then-is_heavy c =
    let b = c.args.self.now in
    let n = length-rows b in
    let l = ap (λ xs. length xs) c.as_slice-row-items.ensures.value in
    let t = c.loop-i-test.true in
    let i = c.loop-i.i in
    let w = c.weights-found.ensures.entries in
    let r = row_now b i _ _ c.as_slice-row-items.ensures.value c.loop-i-test.true in
    sym (start_light (rows_in b) (let z = w 0 in omega arith)
    ∙ (sym c.loop-i.invariant
    ∙ heavy_here (rows_in b) i c.is_heavy.result (omega arith)
    (c.is_heavy.ensures ∙ (ap (λ x. opens x && ltb 8 (get_or c.weights-found.result (i + 1) 0)) r ∙ ap (λ x. opens (get_or (rows_in b) i done) && ltb 8 x) (w (i + 1))))
    c.if-is_heavy.true))

pub loop-i-preserved : goal.loop-i-preserved
loop-i-preserved c =
    let b = c.args.self.now in
    let n = length-rows b in
    let l = ap (λ xs. length xs) c.as_slice-row-items.ensures.value in
    let t = c.loop-i-test.true in
    let i = c.loop-i.i in
    let w = c.weights-found.ensures.entries in
    let r = row_now b i _ _ c.as_slice-row-items.ensures.value c.loop-i-test.true in
    sym (heavy_later (rows_in b) i c.is_heavy.result (omega arith)
    (c.is_heavy.ensures ∙ (ap (λ x. opens x && ltb 8 (get_or c.weights-found.result (i + 1) 0)) r ∙ ap (λ x. opens (get_or (rows_in b) i done) && ltb 8 x) (w (i + 1))))
    c.if-is_heavy.false)
    ∙ c.loop-i.invariant

pub returns : goal.returns
returns c =
    let b = c.args.self.now in
    let n = length-rows b in
    let l = ap (λ xs. length xs) c.as_slice-row-items.ensures.value in
    let t = c.loop-i-test.false in
    let i = c.loop-i.i in
    let w = c.weights-found.ensures.entries in
    sym (start_light (rows_in b) (let z = w 0 in omega arith)
    ∙ (sym c.loop-i.invariant ∙ at_drop_all (first_heavy (i + 1)) (rows_in b) i (omega arith)))
