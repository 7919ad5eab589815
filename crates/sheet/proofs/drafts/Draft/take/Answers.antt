-- A line is refused as the definition says, or finds room and is taken.
use Rattle.std.proofs.Common.{Ok, subst, sym, refl, ap, ◌∙◌}
use Rattle.std.proofs.lemmas.Result.{err_from_is_err_and}
use Rattle.sheet.specs.ModelReading.{RoomFor, progress_in}
use Rattle.sheet.proofs.KindsKnown.{known}
use Rattle.sheet.proofs.LinesTaken.{promise, right}
use Rattle.sheet.proofs.Rooms.{nothing_found, room_for, taken_wrong, taken_right}
use Rattle.sheet.proofs.drafts.Draft.take.Goals as goal

pub returns-in_err-columns : goal.returns-in_err-columns
returns-in_err-columns c =
    let r = err_from_is_err_and c.from_residual-in_err-columns.result c.from_residual-in_err-columns.ensures.1 in
    let f = sym c.in_ok-entry.ensures.ok_part ∙ c.entry_for.ensures in
    rw (r.1, r.2) (taken_wrong (progress_in c.args.self.now) c.args.line.now c.in_ok-entry.entry _ f c.in_err-columns.ensures, refl)

pub add-requires : goal.add-requires
add-requires c =
    let p = progress_in c.args.self.now in
    let e = c.in_ok-entry.entry in
    let v = c.args.line.now.operands in
    let f = sym c.in_ok-entry.ensures.ok_part ∙ c.entry_for.ensures in
    let n = nothing_found p e v c.in_ok-columns.columns (sym c.in_ok-columns.ensures) in
    let r = right p e v n.0 in
    record {
      due = r.is_due;
      room = subst (RoomFor p e.role) n.1 (room_for p e.role v r.is_due r.not_over c.args.self.now.few (promise p c.args.line.now.kind e v (known c.args.line.now.kind e (sym f)) r));
    }

pub returns : goal.returns
returns c =
    let f = sym c.in_ok-entry.ensures.ok_part ∙ c.entry_for.ensures in
    taken_right (progress_in c.args.self.now) c.args.line.now c.in_ok-entry.entry c.in_ok-columns.columns f c.in_ok-columns.ensures ∙ ap Ok (sym c.add.ensures)
