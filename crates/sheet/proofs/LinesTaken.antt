-- The lines of a text, taken by a draft one after another, are the lines of the definition.
use Rattle.std.proofs.Common.{◌≡◌, ℕ, suc, ◌≤◌, true, false, List, [], ◌∷◌, length, Some, None, Ok, Option, sym, refl, ap, ◌∙◌, subst, arith}
use Rattle.heap.specs.declared.atoms.Atom.{Atom}
use Rattle.heap.specs.declared.faults.Problem.{Problem}
use Rattle.layout.specs.declared.lines.Six.{Six}
use Rattle.layout.specs.declared.lines.Numbers.{Numbers}
use Rattle.sheet.specs.declared.kinds.Kind.TheVariants.{Head}
use Rattle.sheet.specs.declared.kinds.Role.TheVariants as role
use Rattle.sheet.specs.declared.kinds.Entry.{Entry}
use Rattle.sheet.specs.declared.drafts.Stage.{Stage}
use Rattle.sheet.specs.declared.drafts.Stage.TheVariants.{Start, Headed, BeforeList, Rows}
use Rattle.sheet.specs.Routines.{Command, Routine}
use Rattle.sheet.specs.Kinds.{table, entry_for, fits, classes_of}
use Rattle.sheet.specs.Reading.{Progress, at_last, atom_in_rows, atom_into, due, overfull, scope_for, with_atom, wrong, next_by, or_wrong, line_by, line_more}
use Rattle.sheet.proofs.Rooms.{passed}
use Rattle.sheet.proofs.KindsKnown.{Known, is_head, rows_promised}

-- a line that is right passed its tests
pub record Right (p : Progress) (e : Entry) (v : Six ℕ) : Type 0 where
  pub is_due : due p e.role ≡ true
  pub fitting : fits (scope_for p e.role v) e.classes v ≡ true
  pub not_over : overfull p e.role ≡ false

pub right : (p : Progress) (e : Entry) (v : Six ℕ) → wrong p e v ≡ None → Right p e v
right p e v h = let t = passed (due p e.role) (fits (scope_for p e.role v) e.classes v) (overfull p e.role) h in record { is_due = t.0; fitting = t.1; not_over = t.2 }

-- how a line was right
pub record Taken (p : Progress) (l : Numbers) (q : Progress) : Type 0 where
  pub entry : Entry
  pub found : entry_for l.kind table ≡ Some entry
  pub fine : wrong p entry l.operands ≡ None
  pub next : q ≡ next_by entry.role p entry.kind l.operands

unless_ok : (o : Option Problem) (p q : Progress) → or_wrong o p ≡ Ok q → (o ≡ None) × (q ≡ p)
unless_ok None p q h = (refl, cc)
unless_ok (Some w) p q h = let z : ◌≡◌ {A = ℕ} 0 1 = cc in absurd (omega arith)

taken_from : (p q : Progress) (l : Numbers) (o : Option Entry) → entry_for l.kind table ≡ o → line_by p o l.operands ≡ Ok q → Taken p l q
taken_from p q l None f h = let z : ◌≡◌ {A = ℕ} 0 1 = cc in absurd (omega arith)
taken_from p q l (Some e) f h =
    let u = unless_ok (wrong p e l.operands) (next_by e.role p e.kind l.operands) q h in
    record { entry = e; found = f; fine = u.0; next = u.1 }

pub taken : (p q : Progress) (l : Numbers) → line_more p l ≡ Ok q → Taken p l q
taken p q l h = taken_from p q l (entry_for l.kind table) refl h

pub promise : (p : Progress) (n : ℕ) (e : Entry) (v : Six ℕ) → Known n e → Right p e v → e.role ≡ role.Head → v.fifth ≤ 40
promise p n e v k r h =
    let c : classes_of k.of_kind ≡ classes_of Head = ap classes_of (is_head k.of_kind (sym (ap (λ x. x.role) k.entry) ∙ h)) in
    rows_promised (scope_for p e.role v) v (subst (λ x. fits (scope_for p e.role v) x v ≡ true) (ap (λ x. x.classes) k.entry ∙ c) r.fitting)

-- an atom adds no row
length-at_last : (f : Command → Command) (rows : List Command) → length (at_last f rows) ≡ length rows
length-at_last f [] = refl
length-at_last f (c ∷ []) = refl
length-at_last f (c ∷ d ∷ cs) = ap suc (length-at_last f (d ∷ cs))

same_rows : (R : Routine) (a : Atom) (rows : List Command) → R.rows ≡ rows → length (atom_in_rows R a rows).rows ≡ length R.rows
same_rows R a [] e = refl
same_rows R a (c ∷ cs) e = length-at_last (with_atom a) (c ∷ cs) ∙ sym (ap (λ l. length l) e)

pub rows_kept : (s : Stage) (R : Routine) (a : Atom) → length (atom_into s R a).rows ≡ length R.rows
rows_kept Start R a = refl
rows_kept Headed R a = refl
rows_kept BeforeList R a = refl
rows_kept Rows R a = same_rows R a R.rows refl
