-- Row by row, back to the first.
use Rattle.std.proofs.Common.{◌≡◌, suc, ◌+◌, ◌-◌, length, replicate, sym, refl, ap, ◌∙◌, subst, arith, length-set}
use Rattle.sheet.specs.Laid.{command_in}
use Rattle.sheet.specs.Flow.{Most}
use Rattle.sheet.specs.ModelReading.{rows_in}
use Rattle.sheet.proofs.RowsIn.{length-rows, row_now}
use Rattle.sheet.proofs.WeightsExact.{most_exact}
use Rattle.sheet.proofs.WeightsPass.{Passed, passed_none, passed_more, passed_small, passed_all, zeros}
use Rattle.sheet.proofs.sheets.Body.weights.Goals as goal

pub loop-i-init : goal.loop-i-init
loop-i-init c =
    let n = length-rows c.args.self.now in
    let l = ap (λ xs. length xs) c.as_slice-rows.ensures.value in
    (refl, passed_none (replicate 41 0) (length c.as_slice-rows.result.now) (rows_in c.args.self.now) (omega arith) (zeros 41))

pub weight_of-requires : goal.weight_of-requires
weight_of-requires c =
    let b = c.args.self.now in
    let n = length-rows b in
    let l = ap (λ xs. length xs) c.as_slice-rows.ensures.value in
    let f = c.as_slice-rows.ensures.fits in
    let t = c.loop-i-test.true in
    let i = c.loop-i.i in
    let e : i ≡ i - 1 + 1 = omega arith in
    passed_small c.loop-i.found (i - 1 + 1) 40 (rows_in b) (omega arith) (subst (λ m. Passed c.loop-i.found m (rows_in b)) e c.loop-i.invariant.1)

pub loop-i-preserved : goal.loop-i-preserved
loop-i-preserved c =
    let b = c.args.self.now in
    let n = length-rows b in
    let v = c.as_slice-rows.ensures.value in
    let w = ap (λ xs. length xs) v in
    let f = c.as_slice-rows.ensures.fits in
    let t = c.loop-i-test.true in
    let i = c.loop-i.i in
    let k = c.loop-i.auto.i in
    let l = c.loop-i.invariant.0 in
    let e : i ≡ i - 1 + 1 = omega arith in (
      length-set c.loop-i.found (i - 1) c.weight_of.result ∙ l,
      passed_more c.loop-i.found (i - 1) c.weight_of.result (rows_in b) (command_in _) (omega arith) (omega arith)
          (row_now b (i - 1) c.as_slice-rows.result.now _ v (omega arith)) c.weight_of.ensures
          (subst (λ m. Passed c.loop-i.found m (rows_in b)) e c.loop-i.invariant.1),
    )

pub returns : goal.returns
returns c =
    let z : c.loop-i.i ≡ 0 = omega arith in
    let rows = rows_in c.args.self.now in
    let e = passed_all c.loop-i.found c.loop-i.i rows z c.loop-i.invariant.1 in
    record { size = c.loop-i.invariant.0; entries = e; most = λ p k. subst (Most rows (suc k)) (sym (e k)) (most_exact rows p k) }
