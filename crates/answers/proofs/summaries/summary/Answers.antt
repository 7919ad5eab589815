-- Item by item.
use Rattle.std.proofs.Common.{◌≡◌, ◌+◌, codes, ap, arith}
use Rattle.answers.proofs.Summing.{by_number, summed}
use Rattle.answers.proofs.summaries.summary.Goals as goal

pub returns : goal.returns
returns c =
    let b = c.before-2.result.now in
    let a = c.after.result.now in
    let n : c.from.result + c.from-2.result + c.atoms_in.result ≡ b.count + a.count + c.atoms_in.result = (let x = c.from.ensures in let y = c.from-2.ensures in omega arith) in
    summed c.args.sheet.now c.head-head.result b a c.rows-rows.result.now (b.count + a.count + c.atoms_in.result)
    c.head-head.ensures.head c.before-2.ensures.before c.after.ensures.after c.rows-rows.ensures.rows
    (ap (λ x. b.count + a.count + x) c.atoms_in.ensures.count)
    c.empty-line.ensures.text (by_number _ (codes "routine") c.add_item.ensures.text c.from-3.ensures) (by_number _ (codes " variables") c.add_item-2.ensures.text c.from-4.ensures)
    (by_number _ (codes " arguments") c.add_item-3.ensures.text c.from-5.ensures) (by_number _ (codes " ghosts") c.add_item-4.ensures.text c.from-6.ensures)
    c.add_item-5.ensures.text (by_number _ (codes " atoms") c.add_item-6.ensures.text n) c.add.ensures.text
