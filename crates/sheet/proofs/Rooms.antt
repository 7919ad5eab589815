-- A line with nothing wrong finds room, and is taken.
use Rattle.std.proofs.Common.{◌≡◌, ℕ, ◌≤◌, Bool, true, false, ltb, leb, length, Some, None, Ok, Err, Option, sym, refl, ap, ◌∙◌, arith}
use Rattle.std.proofs.lemmas.Bool.{and_parts, or_parts, ltb-true, leb-false}
use Rattle.heap.specs.declared.faults.Problem.{Problem}
use Rattle.layout.specs.declared.lines.Six.{Six}
use Rattle.sheet.specs.declared.kinds.Role.{Role}
use Rattle.sheet.specs.declared.kinds.Role.TheVariants as role
use Rattle.sheet.specs.declared.kinds.Entry.{Entry}
use Rattle.layout.specs.declared.lines.Numbers.{Numbers}
use Rattle.sheet.specs.Kinds.{table, entry_for}
use Rattle.sheet.specs.Routines.{total}
use Rattle.sheet.specs.Reading.{Progress, at_rows, due, full, line_by, line_more, next_by, open_in, or_wrong, overfull, wrong}
use Rattle.sheet.specs.ModelReading.{RoomFor, checked_by}
use Rattle.sheet.proofs.Checks.{tests}

-- all three tests were passed
pub passed : (due fit over : Bool) → tests due fit over ≡ None → (due ≡ true) × (fit ≡ true) × (over ≡ false)
passed true true false e = (refl, refl, refl)
passed true true true e = let z : ◌≡◌ {A = ℕ} 0 1 = cc in absurd (omega arith)
passed true false over e = let z : ◌≡◌ {A = ℕ} 0 1 = cc in absurd (omega arith)
passed false fit over e = let z : ◌≡◌ {A = ℕ} 0 1 = cc in absurd (omega arith)

pub room_for : (p : Progress) (r : Role) (v : Six ℕ) → due p r ≡ true → overfull p r ≡ false → p.promised ≤ 40 → (r ≡ role.Head → v.fifth ≤ 40) → RoomFor p r v
room_for p role.Head v u o h f = f refl
room_for p role.Before v u o h f = tt
room_for p role.After v u o h f = tt
room_for p role.Atom v u o h f =
    let q = or_parts (full (open_in p)) (leb 80 (total p.routine)) o in
    (q.0, leb-false 80 (total p.routine) q.1)
room_for p role.Row v u o h f =
    let q = and_parts (at_rows p.stage) (ltb (length p.routine.rows) p.promised) u in
    let l = ltb-true (length p.routine.rows) p.promised q.1 in
    omega arith

checked_none : (o : Option Problem) (v w : Six ℕ) → checked_by o v ≡ Ok w → (o ≡ None) × (v ≡ w)
checked_none None v w e = (refl, cc)
checked_none (Some x) v w e = let z : ◌≡◌ {A = ℕ} 0 1 = cc in absurd (omega arith)

pub nothing_found : (p : Progress) (e : Entry) (v w : Six ℕ) → checked_by (wrong p e v) v ≡ Ok w → (wrong p e v ≡ None) × (v ≡ w)
nothing_found p e v w c = checked_none (wrong p e v) v w c

refused_as : (o : Option Problem) (v : Six ℕ) (w : Problem) (q : Progress) → Err w ≡ checked_by o v → or_wrong o q ≡ Err w
refused_as None v w q e = let z : ◌≡◌ {A = ℕ} 0 1 = cc in absurd (omega arith)
refused_as (Some x) v w q e = cc

-- what becomes of a line of a known kind
pub taken_wrong : (p : Progress) (l : Numbers) (e : Entry) (w : Problem) → Some e ≡ entry_for l.kind table → Err w ≡ checked_by (wrong p e l.operands) l.operands → line_more p l ≡ Err w
taken_wrong p l e w f c =
    ap (λ o. line_by p o l.operands) (sym f) ∙ refused_as (wrong p e l.operands) l.operands w (next_by e.role p e.kind l.operands) c

pub taken_right : (p : Progress) (l : Numbers) (e : Entry) (v : Six ℕ) → Some e ≡ entry_for l.kind table → Ok v ≡ checked_by (wrong p e l.operands) l.operands → line_more p l ≡ Ok (next_by e.role p e.kind v)
taken_right p l e v f c =
    let n = nothing_found p e l.operands v (sym c) in
    ap (λ o. line_by p o l.operands) (sym f)
    ∙ (ap (λ o. or_wrong o (next_by e.role p e.kind l.operands)) n.0
    ∙ ap (λ x. Ok (next_by e.role p e.kind x)) n.1)
