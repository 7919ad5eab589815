-- How many atoms a routine has, once an atom or a row is added.
use Rattle.std.proofs.Common.{◌≡◌, ℕ, ◌+◌, ◌<◌, true, false, List, [], ◌∷◌, ◌++◌, map, length, sym, refl, ap, ◌∙◌, arith}
use Rattle.std.proofs.lemmas.List.{length_push, map_push}
use Rattle.std.proofs.lemmas.Bool.{leb-false, false≢true}
use Rattle.heap.specs.declared.atoms.Atom.{Atom}
use Rattle.layout.specs.declared.lines.Six.{Six}
use Rattle.sheet.specs.declared.rows.Row.{Row}
use Rattle.sheet.specs.declared.kinds.Kind.{Kind}
use Rattle.sheet.specs.declared.kinds.Kind.TheVariants as kind
use Rattle.sheet.specs.Routines.{Command, assign, load, store, new, free, jump, branch, cut, call, done, Routine, list_of, atoms_behind}
use Rattle.sheet.specs.Laid.{command_in}
use Rattle.sheet.specs.Reading.{open_behind, open_last, last_of, with_atom, with_rows, is_open, full, command_for, atom_in_rows}
use Rattle.sheet.proofs.LastRows.{at_last_lem, last_command}

pub atoms_push : (front : List Command) (c : Command) → atoms_behind (front ++ c ∷ []) ≡ atoms_behind front + length (list_of c)
atoms_push [] c = omega arith
atoms_push (d ∷ f) c = let e = atoms_push f c in omega arith

-- a row whose list is open takes one atom more
pub one_atom : (v : ℕ) (a : Atom) (c : Command) → is_open (open_behind v c) ≡ true → length (list_of (with_atom a c)) ≡ length (list_of c) + 1
one_atom v a (assign x e) o = absurd (false≢true o)
one_atom v a (load x y) o = absurd (false≢true o)
one_atom v a (store x e) o = absurd (false≢true o)
one_atom v a (new x) o = absurd (false≢true o)
one_atom v a (free x) o = absurd (false≢true o)
one_atom v a (jump r) o = absurd (false≢true o)
one_atom v a (branch e f r) o = absurd (false≢true o)
one_atom v a (cut l) o = length_push l a
one_atom v a (call x q y z s t l) o = length_push l a
one_atom v a done o = absurd (false≢true o)

room_behind : (v : ℕ) (c : Command) → full (open_behind v c) ≡ false → length (list_of c) < 8
room_behind v (assign x e) o = omega arith
room_behind v (load x y) o = omega arith
room_behind v (store x e) o = omega arith
room_behind v (new x) o = omega arith
room_behind v (free x) o = omega arith
room_behind v (jump r) o = omega arith
room_behind v (branch e f r) o = omega arith
room_behind v (cut l) o = leb-false 8 (length l) o
room_behind v (call x q y z s t l) o = leb-false 8 (length l) o
room_behind v done o = omega arith

pub no_list_yet : (k : Kind) (v : Six ℕ) → list_of (command_for k v) ≡ []
no_list_yet kind.Head v = refl
no_list_yet kind.Before v = refl
no_list_yet kind.After v = refl
no_list_yet kind.Equal v = refl
no_list_yet kind.Unequal v = refl
no_list_yet kind.Cell v = refl
no_list_yet kind.Segment v = refl
no_list_yet kind.Set v = refl
no_list_yet kind.Load v = refl
no_list_yet kind.Store v = refl
no_list_yet kind.New v = refl
no_list_yet kind.Free v = refl
no_list_yet kind.Jump v = refl
no_list_yet kind.Branch v = refl
no_list_yet kind.Cut v = refl
no_list_yet kind.Call v = refl
no_list_yet kind.Done v = refl

-- a row of a line, its list still empty, adds no atom
pub row_counts : (rows : List Row) (r : Row) (k : Kind) (v : Six ℕ) → command_in r ≡ command_for k v → atoms_behind (map command_in (rows ++ r ∷ [])) ≡ atoms_behind (map command_in rows)
row_counts rows r k v e =
    let p = ap atoms_behind (map_push command_in rows r) in
    let q = atoms_push (map command_in rows) (command_in r) in
    let n = ap (λ c. length (list_of c)) e in
    let z = ap (λ l. length l) (no_list_yet k v) in
    omega arith

-- the list behind the last row is short, if the open list is not full
pub last_short : (R : Routine) (rows front : List Row) (r : Row) → rows ≡ front ++ r ∷ [] → full (open_last R (last_of (map command_in rows))) ≡ false → length (list_of (command_in r)) < 8
last_short R rows front r e f =
    room_behind R.variables (command_in r)
    (sym (ap (λ rs. full (open_last R (last_of (map command_in rs)))) e ∙ ap (λ o. full (open_last R o)) (last_command front r)) ∙ f)

into_rows : (R : Routine) (a : Atom) (front : List Command) (c : Command) → atom_in_rows R a (front ++ c ∷ []) ≡ with_rows R (front ++ with_atom a c ∷ [])
into_rows R a [] c = refl
into_rows R a (d ∷ f) c = ap (with_rows R) (at_last_lem (with_atom a) (d ∷ f) c)

-- where the last row is open, one atom more goes into its list
module _ (R : Routine) (rows front new : List Row) (r s : Row) (a : Atom) (was : rows ≡ front ++ r ∷ []) (is : new ≡ front ++ s ∷ []) (more : command_in s ≡ with_atom a (command_in r)) where
  rows_were : map command_in rows ≡ map command_in front ++ command_in r ∷ []
  rows_were = ap (map command_in) was ∙ map_push command_in front r

  rows_are : map command_in new ≡ map command_in front ++ with_atom a (command_in r) ∷ []
  rows_are = ap (map command_in) is ∙ (map_push command_in front s ∙ ap (λ c. map command_in front ++ c ∷ []) more)

  pub atom_in_last : with_rows R (map command_in new) ≡ atom_in_rows R a (map command_in rows)
  atom_in_last = ap (with_rows R) rows_are ∙ sym (ap (atom_in_rows R a) rows_were ∙ into_rows R a (map command_in front) (command_in r))

  pub one_more : is_open (open_last R (last_of (map command_in rows))) ≡ true → atoms_behind (map command_in new) ≡ atoms_behind (map command_in rows) + 1
  one_more o =
      let u = sym (ap (λ rs. is_open (open_last R (last_of (map command_in rs)))) was ∙ ap (λ x. is_open (open_last R x)) (last_command front r)) ∙ o in
      let n = one_atom R.variables a (command_in r) u in
      let x = ap atoms_behind rows_were ∙ atoms_push (map command_in front) (command_in r) in
      let y = ap atoms_behind rows_are ∙ atoms_push (map command_in front) (with_atom a (command_in r)) in
      omega arith
