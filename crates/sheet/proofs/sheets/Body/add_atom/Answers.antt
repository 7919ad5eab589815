-- The last row is taken out, gets the atom, and is put back.
use Rattle.std.proofs.Common.{◌≡◌, map, sym, ap, subst, arith}
use Rattle.sheet.specs.Laid.{laid_row, command_in, routine_in}
use Rattle.sheet.specs.Reading.{with_atom}
use Rattle.sheet.proofs.AtomCounts.{last_short, atom_in_last, one_more}
use Rattle.sheet.proofs.LaidBack.{body_lies, row_lies, rows_less, rows_more}
use Rattle.sheet.proofs.sheets.Body.add_atom.Goals as goal

pub push-requires : goal.push-requires
push-requires c =
    let b = c.args.self.now in
    let was = c.in-Some.ensures.items in
    let w = ap (λ x. x.rows.items) c.requires.whole in
    record {
      lies = (rows_less c.pop.new.self.items c.in-Some.row (subst (λ xs. xs ≡ map laid_row (map command_in xs)) was w)).1;
      room = last_short (routine_in b) b.rows.items c.pop.new.self.items c.in-Some.row was c.requires.room;
    }

pub push-requires-in-Some : goal.push-requires-in-Some
push-requires-in-Some c =
    let l = c.in-Some.ensures.len in
    let f = c.if-prove.false in
    let v = c.len.ensures.value in
    (omega arith, omega arith)

pub returns-in-Some : goal.returns-in-Some
returns-in-Some c =
    let b = c.args.self.now in
    let R = routine_in b in
    let was = c.in-Some.ensures.items in
    let is = c.push-in-Some.ensures.items in
    let front = c.pop.new.self.items in
    let now = c.push-in-Some.new.self.items in
    let w = ap (λ x. x.rows.items) c.requires.whole in
    let s = row_lies c.push.new.self (with_atom c.args.atom (command_in c.in-Some.row)) c.push.ensures in
    let f = (rows_less front c.in-Some.row (subst (λ xs. xs ≡ map laid_row (map command_in xs)) was w)).0 in
    let n = one_more R b.rows.items front now c.in-Some.row c.push.new.self c.args.atom was is s.0 c.requires.open in
    record {
      whole = body_lies _ (ap (λ x. x.before) c.requires.whole) (ap (λ x. x.after) c.requires.whole) (subst (λ xs. xs ≡ map laid_row (map command_in xs)) (sym is) (rows_more front c.push.new.self f s.1));
      routine = atom_in_last R b.rows.items front now c.in-Some.row c.push.new.self c.args.atom was is s.0;
      count = omega arith;
    }
