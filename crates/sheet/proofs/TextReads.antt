-- The text of a well-formed routine reads as that routine.
use Rattle.std.proofs.Common.{◌≡◌, ℕ, ◌+◌, ◌<◌, ◌≤◌, min, true, false, ◌&&◌, ◌||◌, eqb, leb, List, [], ◌∷◌, ◌++◌, map, length, Ok, sym, refl, ap, ◌∙◌, subst, arith}
use Rattle.std.specs.List.{flat_map, AllByRecursion}
use Rattle.std.proofs.lemmas.List.{append_assoc, append-nil, length-append, length_push, length-map}
use Rattle.std.proofs.ByRecursion.{All-weaker, All-append, All-map}
use Rattle.std.proofs.lemmas.Bool.{or_from, cond-true, lt-leb, lt-ltb, eq-eqb}
use Rattle.std.proofs.lemmas.Bool.Decides.{nat_tests}
use Rattle.heap.specs.declared.atoms.Atom.{Atom}
use Rattle.heap.specs.declared.atoms.Atom.TheVariants.{Eq, Neq, Next, Lseg}
use Rattle.layout.specs.declared.lines.Six.{Six}
use Rattle.layout.specs.Lines.{Short}
use Rattle.layout.proofs.TextsWritten.{texts_read}
use Rattle.sheet.specs.declared.kinds.Kind.{Kind}
use Rattle.sheet.specs.declared.kinds.Kind.TheVariants.{Head, Before, After, Equal, Unequal, Cell, Segment, Set, Load, Store, New, Free, Jump, Branch, Cut, Call, Done}
use Rattle.sheet.specs.declared.kinds.Role.TheVariants as role
use Rattle.sheet.specs.declared.kinds.Scope.{Scope}
use Rattle.sheet.specs.declared.drafts.Stage.TheVariants.{Headed, BeforeList, Rows}
use Rattle.sheet.specs.Kinds.{role_of, classes_of, fits}
use Rattle.sheet.specs.Routines.{Command, assign, load, store, new, free, jump, branch, cut, call, done, Routine, list_of, atoms_behind, total}
use Rattle.sheet.specs.Written.{six, line_as, atom_kind, atom_columns, atom_line, command_kind, command_columns, command_lines, head_columns, head_line, list_line, lines_for, text_of}
use Rattle.sheet.specs.Formed.{scope_of, ListFormed, RowFormed, WellFormed, excepted}
use Rattle.sheet.specs.Laws.{TextReads}
use Rattle.sheet.specs.Reading.{Progress, start, open_as, open_in, open_behind, open_last, is_open, full, scope_in, scope_open, scope_for, due, overfull, with_atom, with_rows, with_before, with_after, atom_in_rows, atom_into, command_for, moved, next_by, line_more, all_lines, onward, heavy_piece, refused_at, rows_tested, finished, reading}
use Rattle.sheet.proofs.FormedSoFar.{AtomFits, RowFits, scope_with, at}
use Rattle.sheet.proofs.LastRows.{last_of_lem, at_last_lem}
use Rattle.sheet.proofs.AtomCounts.{atoms_push}
use Rattle.sheet.proofs.LineFaults.{same_ok}
use Rattle.sheet.proofs.LineRuns.{Runs, runs_append, run_lines, line_taken}
use Rattle.sheet.proofs.LinesKept.{line_short}
use Rattle.sheet.proofs.RowPlaces.{none_misplaced}
use Rattle.sheet.proofs.WeightsExact.{none_heavy}

-- an atom, where the list l is open
module _ (p : Progress) where
  abbrev atom_next : Atom → Progress
  atom_next a = moved p p.stage (atom_into p.stage p.routine a)

  by_kind : (a : Atom) → is_open (open_in p) ≡ true → AtomFits (scope_open p (open_in p)) a → (full (open_in p) || leb 80 (total p.routine)) ≡ false → line_more p (atom_line a) ≡ Ok (atom_next a)
  by_kind (Eq e f) o h n = line_taken p Equal (six e f 0 0 0 0) o h n
  by_kind (Neq e f) o h n = line_taken p Unequal (six e f 0 0 0 0) o h n
  by_kind (Next e f) o h n = line_taken p Cell (six e f 0 0 0 0) o h n
  by_kind (Lseg e f) o h n = line_taken p Segment (six e f 0 0 0 0) o h n

  atom_taken : (a : Atom) (named except : ℕ) (l : List Atom) → open_in p ≡ open_as named except l → length l < 8 → total p.routine < 80 → AtomFits (scope_in p named except) a → line_more p (atom_line a) ≡ Ok (atom_next a)
  atom_taken a named except l e few all h =
      by_kind a (ap is_open e) (subst (λ o. AtomFits (scope_open p o) a) (sym e) h)
      (or_from (full (open_in p)) (leb 80 (total p.routine)) (ap full e ∙ lt-leb 8 (length l) few) (lt-leb 80 (total p.routine) all))

-- the atoms of a list, where `to l` is the progress whose open list is l
module _ (to : List Atom → Progress) (Fits : Atom → Type 0) (n : ℕ) (one : (l : List Atom) (a : Atom) → length l < n → Fits a → line_more (to l) (atom_line a) ≡ Ok (to (l ++ a ∷ []))) where
  atoms_run : (l m : List Atom) → length l + length m ≤ n → AllByRecursion Fits m → Runs (to l) (map atom_line m) (to (l ++ m))
  atoms_run l [] h f = ap to (sym (append-nil l))
  atoms_run l (a ∷ m) h f =
      let e = length_push l a in
      (to (l ++ a ∷ []), one l a (omega arith) f.0, subst (λ x. Runs (to (l ++ a ∷ [])) (map atom_line m) (to x)) (append_assoc l (a ∷ []) m) (atoms_run (l ++ a ∷ []) m (omega arith) f.1))

-- the before list and the after list
before_run : (n : ℕ) (R : Routine) → ListFormed (scope_in (at BeforeList n R) R.arguments 0) R.before → total R ≤ 80
    → Runs (at BeforeList n (with_before R [])) (map atom_line R.before) (at BeforeList n R)
before_run n R f t =
    atoms_run (λ l. at BeforeList n (with_before R l)) (AtomFits (scope_in (at BeforeList n R) R.arguments 0)) (length R.before)
    (λ l a h g. atom_taken (at BeforeList n (with_before R l)) a R.arguments 0 l refl (let k = f.few in omega arith) (omega arith) g)
    [] R.before (omega arith) f.names

after_run : (n : ℕ) (R : Routine) → ListFormed (scope_in (at Rows n R) 1 0) R.after → total (with_rows R []) ≤ 80
    → Runs (at Rows n (with_rows (with_after R []) [])) (map atom_line R.after) (at Rows n (with_rows R []))
after_run n R f t =
    atoms_run (λ l. at Rows n (with_rows (with_after R l) [])) (AtomFits (scope_in (at Rows n R) 1 0)) (length R.after)
    (λ l a h g. atom_taken (at Rows n (with_rows (with_after R l) [])) a 1 0 l refl (let k = f.few in omega arith) (omega arith) g)
    [] R.after (omega arith) f.names

-- the list behind the last row, which is `make l` where the list is l
behind_last : (R : Routine) (a : Atom) (front : List Command) (c : Command) → atom_in_rows (with_rows R (front ++ c ∷ [])) a (front ++ c ∷ []) ≡ with_rows R (front ++ with_atom a c ∷ [])
behind_last R a [] c = refl
behind_last R a (d ∷ front) c = ap (with_rows R) (at_last_lem (with_atom a) (d ∷ front) c)

module _ (n : ℕ) (R : Routine) (front : List Command) where
  abbrev rows_and : Command → Progress
  rows_and c = at Rows n (with_rows R (front ++ c ∷ []))

  module _ (make : List Atom → Command) (x : ℕ) (opened : (l : List Atom) → open_behind R.variables (make l) ≡ open_as R.variables x l) (more : (l : List Atom) (a : Atom) → with_atom a (make l) ≡ make (l ++ a ∷ [])) (has : (l : List Atom) → list_of (make l) ≡ l) where
    atom_behind : (l : List Atom) (a : Atom) → length l < 8 → total (with_rows R (front ++ make l ∷ [])) < 80 → AtomFits (scope_with R.variables R.ghosts n R.variables x) a → line_more (rows_and (make l)) (atom_line a) ≡ Ok (rows_and (make (l ++ a ∷ [])))
    atom_behind l a h t g =
        atom_taken (rows_and (make l)) a R.variables x l (ap (open_last (with_rows R (front ++ make l ∷ []))) (last_of_lem front (make l)) ∙ opened l) h t g
        ∙ ap (λ S. Ok (at Rows n S)) (behind_last R a front (make l) ∙ ap (λ c. with_rows R (front ++ c ∷ [])) (more l a))

    list_run : (m : List Atom) → ListFormed (scope_with R.variables R.ghosts n R.variables x) m → total (with_rows R (front ++ make m ∷ [])) ≤ 80 → Runs (rows_and (make [])) (map atom_line m) (rows_and (make m))
    list_run m f t =
        let q = atoms_push front (make m) in
        let r = ap length (has m) in
        let w = f.few in
        atoms_run (λ l. rows_and (make l)) (AtomFits (scope_with R.variables R.ghosts n R.variables x)) (length m)
        (λ l a h g. atom_behind l a (omega arith) (let y = atoms_push front (make l) in let z = ap length (has l) in omega arith) g)
        [] m (omega arith) f.names

  row_taken : (k : Kind) (v : Six ℕ) → role_of k ≡ role.Row → length front < n → fits (scope_with R.variables R.ghosts n R.variables v.first) (classes_of k) v ≡ true → line_more (at Rows n (with_rows R front)) (line_as k v) ≡ Ok (rows_and (command_for k v))
  row_taken k v e h f =
      let p = at Rows n (with_rows R front) in
      line_taken p k v (ap (due p) e ∙ lt-ltb (length front) n h) (subst (λ r. fits (scope_for p r v) (classes_of k) v ≡ true) (sym e) f) (ap (overfull p) e)
      ∙ ap (λ r. Ok (next_by r p k v)) e

  row_run : (c : Command) → RowFits R.variables R.ghosts n c → length front < n → total (with_rows R (front ++ c ∷ [])) ≤ 80 → Runs (at Rows n (with_rows R front)) (command_lines c) (rows_and c)
  row_run (assign x e) f h t = (rows_and (assign x e), row_taken Set (six x e 0 0 0 0) refl h f.columns, refl)
  row_run (load x y) f h t = (rows_and (load x y), row_taken Load (six x y 0 0 0 0) refl h f.columns, refl)
  row_run (store x e) f h t = (rows_and (store x e), row_taken Store (six x e 0 0 0 0) refl h f.columns, refl)
  row_run (new x) f h t = (rows_and (new x), row_taken New (six x 0 0 0 0 0) refl h f.columns, refl)
  row_run (free x) f h t = (rows_and (free x), row_taken Free (six x 0 0 0 0 0) refl h f.columns, refl)
  row_run (jump r) f h t = (rows_and (jump r), row_taken Jump (six r 0 0 0 0 0) refl h f.columns, refl)
  row_run (branch e g r) f h t = (rows_and (branch e g r), row_taken Branch (six e g r 0 0 0) refl h f.columns, refl)
  row_run (cut l) f h t = (rows_and (cut []), row_taken Cut (six 0 0 0 0 0 0) refl h f.columns, list_run cut 0 (λ m. refl) (λ m a. refl) (λ m. refl) l f.list t)
  row_run (call x q y z s u l) f h t = (rows_and (call x q y z s u []), row_taken Call (six x q y z s u) refl h f.columns, list_run (call x q y z s u) x (λ m. refl) (λ m a. refl) (λ m. refl) l f.list t)
  row_run done f h t = (rows_and done, row_taken Done (six 0 0 0 0 0 0) refl h f.columns, refl)

rows_run : (n : ℕ) (R : Routine) (front rest : List Command) → AllByRecursion (RowFits R.variables R.ghosts n) rest → length front + length rest ≤ n → total (with_rows R front) + atoms_behind rest ≤ 80
    → Runs (at Rows n (with_rows R front)) (flat_map command_lines rest) (at Rows n (with_rows R (front ++ rest)))
rows_run n R front [] f h t = ap (λ l. at Rows n (with_rows R l)) (sym (append-nil front))
rows_run n R front (c ∷ rest) f h t =
    let e = length_push front c in
    let a = atoms_push front c in
    subst (λ l. Runs (at Rows n (with_rows R front)) (command_lines c ++ flat_map command_lines rest) (at Rows n (with_rows R l))) (append_assoc front (c ∷ []) rest)
    (runs_append (at Rows n (with_rows R front)) (at Rows n (with_rows R (front ++ c ∷ []))) (at Rows n (with_rows R ((front ++ c ∷ []) ++ rest))) (command_lines c) (flat_map command_lines rest)
    (row_run n R front c f.0 (omega arith) (omega arith))
    (rows_run n R (front ++ c ∷ []) rest f.1 (omega arith) (omega arith)))

-- all lines of a well-formed routine
head_fits : (own v a g n : ℕ) → own ≤ 15 → 1 ≤ v → v ≤ 6 → a ≤ 2 → a ≤ v → g ≤ 2 → 1 ≤ n → n ≤ 40
    → (leb own 15 && ((leb 1 v && leb v 6) && ((leb a 2 && leb a (min v 6)) && (leb g 2 && ((leb 1 n && leb n 40) && eqb 0 0))))) ≡ true
head_fits own v a g n p q r s t u w x = grind (arith, nat_tests)

abbrev row_count : Routine → ℕ
row_count R = length R.rows

fitting_rows : (R : Routine) → WellFormed R → AllByRecursion (RowFits R.variables R.ghosts (row_count R)) R.rows
fitting_rows R w = All-weaker (RowFormed R) (RowFits R.variables R.ghosts (row_count R)) (λ c f. record { columns = f.columns; list = f.list }) R.rows w.row_columns

all_run : (R : Routine) → WellFormed R → Runs start (lines_for R) (at Rows (row_count R) R)
all_run R w =
    let n = row_count R in
    let none = with_rows (with_after (with_before R []) []) [] in
    let first = with_rows (with_after R []) [] in
    let both = with_rows R [] in
    let t = w.few_atoms in
    let rows = flat_map command_lines R.rows in (
      at Headed n none,
      line_taken start Head (head_columns R n) refl (head_fits R.own R.variables R.arguments R.ghosts n w.own_number w.some_variable w.few_variables w.few_arguments w.arguments_within w.few_ghosts w.some_row w.few_rows) refl,
      (
        at BeforeList n none,
        line_taken (at Headed n none) Before (six 0 0 0 0 0 0) refl refl refl,
        runs_append (at BeforeList n none) (at BeforeList n first) (at Rows n R) (map atom_line R.before) (list_line After ∷ (map atom_line R.after ++ rows))
            (before_run n first w.before_list (omega arith)) (
              at Rows n first,
              line_taken (at BeforeList n first) After (six 0 0 0 0 0 0) refl refl refl,
              runs_append (at Rows n first) (at Rows n both) (at Rows n R) (map atom_line R.after) rows
                  (after_run n R w.after_list (omega arith))
                  (rows_run n R [] R.rows (fitting_rows R w) (omega arith) (omega arith)),
            ),
      ),
    )

-- they are short, and at most 123
module _ (s : Scope) (few : s.variables ≤ 6) (rows : s.rows ≤ 40) (names : s.named ≤ 6) where
  short_list : (l : List Atom) → ListFormed s l → AllByRecursion Short (map atom_line l)
  short_list l f = All-map Short atom_line l (All-weaker (AtomFits s) (λ a. Short (atom_line a)) (λ a g. line_short s few rows names (atom_kind a) (classes_of (atom_kind a)) (atom_columns a) g) l f.names)

short_rows : (v g n : ℕ) (cs : List Command) → v ≤ 6 → n ≤ 40 → AllByRecursion (RowFits v g n) cs → AllByRecursion Short (flat_map command_lines cs)
short_rows v g n [] h k f = tt
short_rows v g n (c ∷ cs) h k f =
    let r = f.0 in
    All-append Short (command_lines c) (flat_map command_lines cs)
    (line_short (scope_with v g n v (command_columns c).first) h k h (command_kind c) (classes_of (command_kind c)) (command_columns c) r.columns, short_list (scope_with v g n v (excepted c)) h k h (list_of c) r.list)
    (short_rows v g n cs h k f.1)

short_lines : (R : Routine) → WellFormed R → AllByRecursion Short (lines_for R)
short_lines R w =
    let n = row_count R in
    let v = w.few_variables in
    let m = w.few_rows in
    let a = w.few_arguments in
    let empty = scope_with 0 0 0 0 0 in
    let headed : Short (head_line R n) = (let o = w.own_number in let b = w.few_ghosts in record { kind = omega arith; first = omega arith; second = omega arith; third = omega arith; fourth = omega arith; fifth = omega arith; sixth = omega arith }) in (
      headed,
      (
        line_short empty (omega arith) (omega arith) (omega arith) Before (classes_of Before) (six 0 0 0 0 0 0) refl,
        All-append Short (map atom_line R.before) _ (short_list (scope_of R R.arguments 0) v m (omega arith) R.before w.before_list) (
          line_short empty (omega arith) (omega arith) (omega arith) After (classes_of After) (six 0 0 0 0 0 0) refl,
          All-append Short (map atom_line R.after) _ (short_list (scope_of R 1 0) v m (omega arith) R.after w.after_list)
              (short_rows R.variables R.ghosts n R.rows v m (fitting_rows R w)),
        ),
      ),
    )

row_lines : (cs : List Command) → length (flat_map command_lines cs) ≡ length cs + atoms_behind cs
row_lines [] = refl
row_lines (c ∷ cs) =
    let a = length-append (command_lines c) (flat_map command_lines cs) in
    let b = length-map (list_of c) atom_line in
    let e = row_lines cs in
    omega arith

line_count : (R : Routine) → length (lines_for R) ≡ 3 + length R.rows + total R
line_count R =
    let a = length-append (map atom_line R.before) (list_line After ∷ (map atom_line R.after ++ flat_map command_lines R.rows)) in
    let b = length-append (map atom_line R.after) (flat_map command_lines R.rows) in
    let c = length-map R.before atom_line in
    let d = length-map R.after atom_line in
    let e = row_lines R.rows in
    omega arith

-- behind the last line
rows_pass : (R : Routine) → WellFormed R → rows_tested R ≡ Ok R
rows_pass R w =
    ap (λ o. refused_at 114 o (refused_at 115 (heavy_piece R.rows) (Ok R))) (none_misplaced R.rows w.in_place)
    ∙ ap (λ o. refused_at 115 o (Ok R)) (none_heavy R.rows w.in_place w.light)

all_finished : (k : ℕ) (R : Routine) → WellFormed R → finished k (at Rows (row_count R) R) ≡ Ok R
all_finished k R w =
    let n = row_count R in
    cond-true (eqb n n) (rows_tested R) _ (eq-eqb n n refl) ∙ rows_pass R w

pub text_reads : TextReads
unfolding reading text_of
text_reads R w =
    let ls = lines_for R in
    let n = line_count R in
    let a = w.few_rows in
    let b = w.few_atoms in
    ap (λ o. onward o (λ ms. onward (all_lines start 1 ms) (λ p. finished (length ms) p))) (texts_read ls (short_lines R w) (omega arith) (omega arith))
    ∙ (ap (λ o. onward o (λ p. finished (length ls) p)) (run_lines start (at Rows (row_count R) R) 1 ls (all_run R w))
    ∙ all_finished (length ls) R w)

-- so a text reads as no other routine than the one that it is the text of
pub reads_exactly : (t : List ℕ) (R S : Routine) → reading t ≡ Ok R → WellFormed S → t ≡ text_of S → R ≡ S
reads_exactly t R S r w e = same_ok r (ap reading e ∙ text_reads S w)
