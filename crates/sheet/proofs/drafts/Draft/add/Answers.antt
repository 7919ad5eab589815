-- A row of a line has no atom yet.
use Rattle.std.proofs.Common.{◌≡◌, map, ap, sym, subst, arith}
use Rattle.sheet.specs.Routines.{atoms_behind}
use Rattle.sheet.specs.Reading.{command_for}
use Rattle.sheet.specs.Laid.{command_in, laid_row}
use Rattle.sheet.proofs.AtomCounts.{row_counts}
use Rattle.sheet.proofs.LaidBack.{body_lies, row_lies, rows_more}
use Rattle.sheet.proofs.drafts.Draft.add.Goals as goal

pub invariant_of-self-in-Row : goal.invariant_of-self-in-Row
invariant_of-self-in-Row c =
    let d = c.args.self.now in
    let is = c.push.ensures.items in
    let e = ap (λ xs. atoms_behind (map command_in xs)) is in
    let r = row_lies c.row_for.result (command_for c.args.kind c.args.columns.now) c.row_for.ensures in
    let n = row_counts d.body.rows.items c.row_for.result c.args.kind c.args.columns.now r.0 in
    let a = d.counted in
    let w = d.whole in
    record {
      counted = omega arith;
      few = d.few;
      whole = body_lies _ (ap (λ x. x.before) w) (ap (λ x. x.after) w) (subst (λ xs. xs ≡ map laid_row (map command_in xs)) (sym is) (rows_more d.body.rows.items c.row_for.result (ap (λ x. x.rows.items) w) r.1));
    }
