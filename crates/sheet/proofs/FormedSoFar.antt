-- What is known of a routine while its lines are read, and that each line that is taken adds itself to what the routine is written as.
use Rattle.std.proofs.Common.{◌≡◌, ℕ, ◌<◌, ◌≤◌, true, false, ◌&&◌, ◌||◌, ltb, leb, List, [], ◌∷◌, ◌++◌, map, length, Option, sym, refl, ap, ◌∙◌, subst, arith}
use Rattle.std.specs.List.{flat_map, AllByRecursion}
use Rattle.std.proofs.lemmas.List.{append_assoc, append-nil, length_push, map_push, flat_map_more}
use Rattle.std.proofs.ByRecursion.{All-push}
use Rattle.std.proofs.lemmas.Bool.{false≢true, or_parts, ltb-true, leb-false}
use Rattle.heap.specs.declared.atoms.Atom.{Atom}
use Rattle.layout.specs.declared.lines.Six.{Six}
use Rattle.layout.specs.declared.lines.Numbers.{Numbers}
use Rattle.sheet.specs.declared.kinds.Kind.{Kind}
use Rattle.sheet.specs.declared.kinds.Kind.TheVariants.{Head, Before, After, Equal, Unequal, Cell, Segment, Set, Load, Store, New, Free, Jump, Branch, Cut, Call, Done}
use Rattle.sheet.specs.declared.kinds.Scope.{Scope}
use Rattle.sheet.specs.declared.drafts.Stage.{Stage}
use Rattle.sheet.specs.declared.drafts.Stage.TheVariants.{Start, Headed, BeforeList, Rows}
use Rattle.sheet.specs.Kinds.{role_of, classes_of, fits}
use Rattle.sheet.specs.Routines.{Command, assign, load, store, new, free, jump, branch, cut, call, done, Routine, list_of, total}
use Rattle.sheet.specs.Written.{six, line_as, atom_kind, atom_columns, atom_line, command_kind, command_columns, command_lines, head_columns, head_line, list_line}
use Rattle.sheet.specs.Formed.{ListFormed, excepted}
use Rattle.sheet.specs.declared.drafts.Open.{Open}
use Rattle.sheet.specs.Reading.{Progress, scope_in, open_behind, open_last, open_at, is_open, full, last_of, scope_open, scope_for, due, overfull, head_scope, at_start, at_headed, at_before, at_rows, with_atom, at_last, with_rows, with_after, with_head, atom_in_rows, atom_into, atom_for, command_for, next_by}
use Rattle.sheet.proofs.LastRows.{ends_in, last_of_lem, at_last_lem}
use Rattle.sheet.proofs.AtomCounts.{atoms_push, one_atom}
use Rattle.sheet.proofs.LinesKept.{columns_kept, kept_by}

abbrev pub scope_with : ℕ → ℕ → ℕ → ℕ → ℕ → Scope
scope_with v g n named except = record { variables = v; ghosts = g; rows = n; named = named; except = except }

-- an atom over names that may stand there
abbrev pub AtomFits : Scope → Atom → Type 0
AtomFits s a = fits s (classes_of (atom_kind a)) (atom_columns a) ≡ true

-- a row among v variables, g ghosts and n rows
pub record RowFits (v g n : ℕ) (c : Command) : Type 0 where
  pub columns : fits (scope_with v g n v (command_columns c).first) (classes_of (command_kind c)) (command_columns c) ≡ true
  pub list : ListFormed (scope_with v g n v (excepted c)) (list_of c)

abbrev pub HeadFits : Routine → ℕ → Type 0
HeadFits R n = fits (head_scope R.variables) (classes_of Head) (head_columns R n) ≡ true

-- what has been read at a stage: the head, which promises n rows, and which lists have begun
abbrev pub Begun : Stage → Routine → ℕ → Type 0
Begun Start R n = (R.before ≡ []) × (R.after ≡ []) × (R.rows ≡ [])
Begun Headed R n = HeadFits R n × (R.before ≡ []) × (R.after ≡ []) × (R.rows ≡ [])
Begun BeforeList R n = HeadFits R n × (R.after ≡ []) × (R.rows ≡ [])
Begun Rows R n = HeadFits R n × (length R.rows ≤ n)

pub record Sound (s : Stage) (n : ℕ) (R : Routine) : Type 0 where
  pub begun : Begun s R n
  pub before_list : ListFormed (scope_with R.variables R.ghosts n R.arguments 0) R.before
  pub after_list : ListFormed (scope_with R.variables R.ghosts n 1 0) R.after
  pub row_columns : AllByRecursion (RowFits R.variables R.ghosts n) R.rows
  pub few_atoms : total R ≤ 80

abbrev pub at : Stage → ℕ → Routine → Progress
at s n R = record { stage = s; promised = n; routine = R }

-- the lines that have been read
abbrev pub lines_at : Stage → ℕ → Routine → List Numbers
lines_at Start n R = []
lines_at Headed n R = head_line R n ∷ []
lines_at BeforeList n R = head_line R n ∷ list_line Before ∷ map atom_line R.before
lines_at Rows n R = head_line R n ∷ list_line Before ∷ (map atom_line R.before ++ (list_line After ∷ (map atom_line R.after ++ flat_map command_lines R.rows)))

-- one line more
pub record Grown (ls : List Numbers) (l : Numbers) (s : Stage) (n : ℕ) (R : Routine) : Type 0 where
  pub sound : Sound s n R
  pub lines : lines_at s n R ≡ ls ++ l ∷ []

list_more : (s : Scope) (l : List Atom) (a : Atom) → ListFormed s l → length l < 8 → AtomFits s a → ListFormed s (l ++ a ∷ [])
list_more s l a f h g = record { few = simp length_push (omega arith); names = All-push (AtomFits s) l a f.names g }

no_list : (s : Scope) (l : List Atom) → l ≡ [] → ListFormed s l
no_list s l e = subst (ListFormed s) (sym e) (record { few = omega arith; names = tt })

-- a row whose list is open takes one atom more
module _ (p : Progress) (a : Atom) where
  abbrev Fitting : Command → Type 0
  Fitting c = RowFits p.routine.variables p.routine.ghosts p.promised c

  abbrev list : Command → Option Open
  list c = open_behind p.routine.variables c

  row_more : (c : Command) → is_open (list c) ≡ true → full (list c) ≡ false → Fitting c → AtomFits (scope_open p (list c)) a
      → Fitting (with_atom a c) × (command_lines (with_atom a c) ≡ command_lines c ++ atom_line a ∷ [])
  row_more (assign x e) o f r h = absurd (false≢true o)
  row_more (load x y) o f r h = absurd (false≢true o)
  row_more (store x e) o f r h = absurd (false≢true o)
  row_more (new x) o f r h = absurd (false≢true o)
  row_more (free x) o f r h = absurd (false≢true o)
  row_more (jump x) o f r h = absurd (false≢true o)
  row_more (branch x y z) o f r h = absurd (false≢true o)
  row_more (cut l) o f r h = (
    record { columns = r.columns; list = list_more (scope_in p p.routine.variables 0) l a r.list (leb-false 8 (length l) f) h },
    ap (λ m. line_as Cut (six 0 0 0 0 0 0) ∷ m) (map_push atom_line l a),
  )
  row_more (call x q y z s t l) o f r h = (
    record { columns = r.columns; list = list_more (scope_in p p.routine.variables x) l a r.list (leb-false 8 (length l) f) h },
    ap (λ m. line_as Call (six x q y z s t) ∷ m) (map_push atom_line l a),
  )
  row_more done o f r h = absurd (false≢true o)

all_but_last : {A : Type 0} (P : A → Type 0) (xs : List A) (y : A) → AllByRecursion P (xs ++ y ∷ []) → AllByRecursion P xs × P y
all_but_last P [] y h = (tt, h.0)
all_but_last P (x ∷ xs) y h = let r = all_but_last P xs y h.1 in ((h.0, r.0), r.1)

-- a line behind the lines of the rows
behind_all : (A B X : List Numbers) (m l : Numbers) → A ++ (m ∷ (B ++ (X ++ l ∷ []))) ≡ (A ++ (m ∷ (B ++ X))) ++ l ∷ []
behind_all A B X m l = simp append_assoc

last_after : (A B : List Numbers) (m l : Numbers) → A ++ (m ∷ ((B ++ l ∷ []) ++ [])) ≡ (A ++ (m ∷ (B ++ []))) ++ l ∷ []
last_after A B m l = simp (append_assoc, append-nil)

rows_lines : (n : ℕ) (R : Routine) (rows more : List Command) (l : Numbers) → flat_map command_lines more ≡ flat_map command_lines rows ++ l ∷ [] → lines_at Rows n (with_rows R more) ≡ lines_at Rows n (with_rows R rows) ++ l ∷ []
rows_lines n R rows more l e =
    ap (λ m. head_line R n ∷ list_line Before ∷ m)
    (ap (λ m. map atom_line R.before ++ (list_line After ∷ (map atom_line R.after ++ m))) e
    ∙ behind_all (map atom_line R.before) (map atom_line R.after) (flat_map command_lines rows) (list_line After) l)

row_longer : (front : List Command) (c d : Command) (l : Numbers) → command_lines d ≡ command_lines c ++ l ∷ [] → flat_map command_lines (front ++ d ∷ []) ≡ flat_map command_lines (front ++ c ∷ []) ++ l ∷ []
row_longer front c d l e =
    sym (flat_map_more command_lines [] front d)
    ∙ (ap (λ m. flat_map command_lines front ++ m) e
    ∙ (sym (append_assoc (flat_map command_lines front) (command_lines c) (l ∷ []))
    ∙ ap (λ m. m ++ l ∷ []) (flat_map_more command_lines [] front c)))

-- an atom ahead of the rows
after_lines : (n : ℕ) (R : Routine) (a : Atom) → lines_at Rows n (with_after (with_rows R []) (R.after ++ a ∷ [])) ≡ lines_at Rows n (with_rows R []) ++ atom_line a ∷ []
after_lines n R a =
    ap (λ m. head_line R n ∷ list_line Before ∷ m)
    (ap (λ m. map atom_line R.before ++ (list_line After ∷ (m ++ []))) (map_push atom_line R.after a)
    ∙ last_after (map atom_line R.before) (map atom_line R.after) (list_line After) (atom_line a))

-- an atom behind the rows
module _ (n : ℕ) (R : Routine) (a : Atom) where
  -- the list that is open behind rows
  abbrev opened : List Command → Option Open
  opened rows = open_last (with_rows R rows) (last_of rows)

  abbrev AtomMore : List Command → Routine → Type 0
  AtomMore rows S =
      Sound Rows n (with_rows R rows) → is_open (opened rows) ≡ true → full (opened rows) ≡ false → total (with_rows R rows) < 80 → AtomFits (scope_open (at Rows n (with_rows R rows)) (opened rows)) a
      → Grown (lines_at Rows n (with_rows R rows)) (atom_line a) Rows n S

  at_end : (front : List Command) (c : Command) → AtomMore (front ++ c ∷ []) (with_rows R (at_last (with_atom a) (front ++ c ∷ [])))
  at_end front c s o f t h =
      let rows = front ++ c ∷ [] in
      let p = at Rows n (with_rows R rows) in
      let l = last_of_lem front c in
      let b = all_but_last (RowFits R.variables R.ghosts n) front c s.row_columns in
      let q = sym (ap (λ x. is_open (open_last (with_rows R rows) x)) l) ∙ o in
      let m = row_more p a c q (sym (ap (λ x. full (open_last (with_rows R rows) x)) l) ∙ f) b.1 (subst (λ x. AtomFits (scope_open p (open_last (with_rows R rows) x)) a) l h) in
      let x = atoms_push front c in
      let y = atoms_push front (with_atom a c) in
      let z = one_atom R.variables a c q in
      let u = length_push front c in
      let w = length_push front (with_atom a c) in
      let k = s.begun.1 in
      subst (λ more. Grown (lines_at Rows n (with_rows R rows)) (atom_line a) Rows n (with_rows R more)) (sym (at_last_lem (with_atom a) front c))
      (record {
        sound = record {
          begun = (s.begun.0, omega arith);
          before_list = s.before_list;
          after_list = s.after_list;
          row_columns = All-push (RowFits R.variables R.ghosts n) front (with_atom a c) b.0 m.0;
          few_atoms = omega arith;
        };
        lines = rows_lines n R rows (front ++ with_atom a c ∷ []) (atom_line a) (row_longer front c (with_atom a c) (atom_line a) m.1);
      })

  in_none : AtomMore [] (with_after (with_rows R []) (R.after ++ a ∷ []))
  in_none s o f t h =
      let e : length R.after < 8 = leb-false 8 (length R.after) f in
      let u = length_push R.after a in
      record {
        sound = record {
          begun = s.begun;
          before_list = s.before_list;
          after_list = list_more (scope_in (at Rows n (with_rows R [])) 1 0) R.after a s.after_list e h;
          row_columns = tt;
          few_atoms = omega arith;
        };
        lines = after_lines n R a;
      }

  in_rows : (rows : List Command) → AtomMore rows (atom_in_rows (with_rows R rows) a rows)
  in_rows [] = in_none
  in_rows (c ∷ cs) =
      let e = ends_in c cs in
      subst (λ rows. AtomMore rows (with_rows R (at_last (with_atom a) rows))) (sym e.whole) (at_end e.front e.last)

-- each kind of line, at the stage where it is due
head_line_lem : (s : Stage) (n : ℕ) (R : Routine) (v : Six ℕ) → Sound s n R → at_start s ≡ true → fits (head_scope v.second) (classes_of Head) v ≡ true → Grown (lines_at s n R) (line_as Head v) Headed v.fifth (with_head R v)
head_line_lem Start n R v x u h =
    let e = columns_kept (head_scope v.second) (classes_of Head) v h in
    let b = x.begun in
    record {
      sound = record {
        begun = (subst (λ w. fits (head_scope v.second) (classes_of Head) w ≡ true) e h, b.0, b.1, b.2);
        before_list = no_list _ R.before b.0;
        after_list = no_list _ R.after b.1;
        row_columns = subst (AllByRecursion (RowFits v.second v.fourth v.fifth)) (sym b.2) tt;
        few_atoms = x.few_atoms;
      };
      lines = ap (λ w. line_as Head w ∷ []) (sym e);
    }
head_line_lem Headed n R v x u h = absurd (false≢true u)
head_line_lem BeforeList n R v x u h = absurd (false≢true u)
head_line_lem Rows n R v x u h = absurd (false≢true u)

before_line : (s : Stage) (n : ℕ) (R : Routine) (v : Six ℕ) → Sound s n R → at_headed s ≡ true → fits (scope_in (at s n R) 0 0) (classes_of Before) v ≡ true → Grown (lines_at s n R) (line_as Before v) BeforeList n R
before_line Start n R v x u h = absurd (false≢true u)
before_line Headed n R v x u h =
    let e = columns_kept (scope_in (at Headed n R) 0 0) (classes_of Before) v h in
    let b = x.begun in
    record {
      sound = record { begun = (b.0, b.2, b.3); before_list = x.before_list; after_list = x.after_list; row_columns = x.row_columns; few_atoms = x.few_atoms };
      lines = ap (λ l. head_line R n ∷ list_line Before ∷ map atom_line l) b.1 ∙ ap (λ w. head_line R n ∷ line_as Before w ∷ []) (sym e);
    }
before_line BeforeList n R v x u h = absurd (false≢true u)
before_line Rows n R v x u h = absurd (false≢true u)

after_line : (s : Stage) (n : ℕ) (R : Routine) (v : Six ℕ) → Sound s n R → at_before s ≡ true → fits (scope_in (at s n R) 0 0) (classes_of After) v ≡ true → Grown (lines_at s n R) (line_as After v) Rows n R
after_line Start n R v x u h = absurd (false≢true u)
after_line Headed n R v x u h = absurd (false≢true u)
after_line BeforeList n R v x u h =
    let e = columns_kept (scope_in (at BeforeList n R) 0 0) (classes_of After) v h in
    let b = x.begun in
    let z = ap length b.2 in
    record {
      sound = record { begun = (b.0, omega arith); before_list = x.before_list; after_list = x.after_list; row_columns = x.row_columns; few_atoms = x.few_atoms };
      lines =
          ap (λ l. head_line R n ∷ list_line Before ∷ (map atom_line R.before ++ (list_line After ∷ (map atom_line l ++ flat_map command_lines R.rows)))) b.1
          ∙ (ap (λ l. head_line R n ∷ list_line Before ∷ (map atom_line R.before ++ (list_line After ∷ flat_map command_lines l))) b.2
          ∙ ap (λ w. head_line R n ∷ list_line Before ∷ (map atom_line R.before ++ (line_as After w ∷ []))) (sym e));
    }
after_line Rows n R v x u h = absurd (false≢true u)

atom_at : (s : Stage) (n : ℕ) (R : Routine) (a : Atom) → Sound s n R → is_open (open_at s R) ≡ true → AtomFits (scope_open (at s n R) (open_at s R)) a → full (open_at s R) ≡ false → total R < 80 → Grown (lines_at s n R) (atom_line a) s n (atom_into s R a)
atom_at Start n R a x u h f t = absurd (false≢true u)
atom_at Headed n R a x u h f t = absurd (false≢true u)
atom_at BeforeList n R a x u h f t =
    let e : length R.before < 8 = leb-false 8 (length R.before) f in
    let z = length_push R.before a in
    record {
      sound = record { begun = x.begun; before_list = list_more (scope_in (at BeforeList n R) R.arguments 0) R.before a x.before_list e h; after_list = x.after_list; row_columns = x.row_columns; few_atoms = omega arith };
      lines = ap (λ l. head_line R n ∷ list_line Before ∷ l) (map_push atom_line R.before a);
    }
atom_at Rows n R a x u h f t = in_rows n R a R.rows x u f t h

atom_line_lem : (s : Stage) (n : ℕ) (R : Routine) (a : Atom) (v : Six ℕ) → v ≡ atom_columns a → Sound s n R → is_open (open_at s R) ≡ true → fits (scope_open (at s n R) (open_at s R)) (classes_of (atom_kind a)) v ≡ true
    → (full (open_at s R) || leb 80 (total R)) ≡ false → Grown (lines_at s n R) (line_as (atom_kind a) v) s n (atom_into s R a)
atom_line_lem s n R a v e x u h o =
    let f = or_parts (full (open_at s R)) (leb 80 (total R)) o in
    subst (λ w. Grown (lines_at s n R) (line_as (atom_kind a) w) s n (atom_into s R a)) (sym e)
    (atom_at s n R a x u (subst (λ w. fits (scope_open (at s n R) (open_at s R)) (classes_of (atom_kind a)) w ≡ true) e h) f.0 (leb-false 80 (total R) f.1))

row_at : (s : Stage) (n : ℕ) (R : Routine) (c : Command) → list_of c ≡ [] → Sound s n R → (at_rows s && ltb (length R.rows) n) ≡ true → fits (scope_in (at s n R) R.variables (command_columns c).first) (classes_of (command_kind c)) (command_columns c) ≡ true
    → Grown (lines_at s n R) (line_as (command_kind c) (command_columns c)) s n (with_rows R (R.rows ++ c ∷ []))
row_at Start n R c e x u h = absurd (false≢true u)
row_at Headed n R c e x u h = absurd (false≢true u)
row_at BeforeList n R c e x u h = absurd (false≢true u)
row_at Rows n R c e x u h =
    let l = ltb-true (length R.rows) n u in
    let y = length_push R.rows c in
    let z = atoms_push R.rows c in
    let w = ap length e in
    let t = x.few_atoms in
    record {
      sound = record {
        begun = (x.begun.0, omega arith);
        before_list = x.before_list;
        after_list = x.after_list;
        row_columns = All-push (RowFits R.variables R.ghosts n) R.rows c x.row_columns (record { columns = h; list = no_list _ (list_of c) e });
        few_atoms = omega arith;
      };
      lines = rows_lines n R R.rows (R.rows ++ c ∷ []) (line_as (command_kind c) (command_columns c))
          (sym (flat_map_more command_lines [] R.rows c) ∙ ap (λ m. flat_map command_lines R.rows ++ (line_as (command_kind c) (command_columns c) ∷ map atom_line m)) e);
    }

row_line : (s : Stage) (n : ℕ) (R : Routine) (c : Command) (v : Six ℕ) → v ≡ command_columns c → list_of c ≡ [] → Sound s n R → (at_rows s && ltb (length R.rows) n) ≡ true → fits (scope_in (at s n R) R.variables v.first) (classes_of (command_kind c)) v ≡ true
    → Grown (lines_at s n R) (line_as (command_kind c) v) s n (with_rows R (R.rows ++ c ∷ []))
row_line s n R c v e l x u h =
    subst (λ w. Grown (lines_at s n R) (line_as (command_kind c) w) s n (with_rows R (R.rows ++ c ∷ []))) (sym e)
    (row_at s n R c l x u (subst (λ w. fits (scope_in (at s n R) R.variables w.first) (classes_of (command_kind c)) w ≡ true) e h))

-- a line that is right
module _ (s : Stage) (n : ℕ) (R : Routine) (v : Six ℕ) (x : Sound s n R) where
  abbrev pub Adds : Kind → Progress → Type 0
  Adds k q = Grown (lines_at s n R) (line_as k v) q.stage q.promised q.routine

  kept : (k : Kind) → fits (scope_for (at s n R) (role_of k) v) (classes_of k) v ≡ true → v ≡ kept_by (classes_of k) v
  kept k h = columns_kept (scope_for (at s n R) (role_of k) v) (classes_of k) v h

  pub adds : (k : Kind) → due (at s n R) (role_of k) ≡ true → fits (scope_for (at s n R) (role_of k) v) (classes_of k) v ≡ true → overfull (at s n R) (role_of k) ≡ false → Adds k (next_by (role_of k) (at s n R) k v)
  adds Head u h o = head_line_lem s n R v x u h
  adds Before u h o = before_line s n R v x u h
  adds After u h o = after_line s n R v x u h
  adds Equal u h o = atom_line_lem s n R (atom_for Equal v) v (kept Equal h) x u h o
  adds Unequal u h o = atom_line_lem s n R (atom_for Unequal v) v (kept Unequal h) x u h o
  adds Cell u h o = atom_line_lem s n R (atom_for Cell v) v (kept Cell h) x u h o
  adds Segment u h o = atom_line_lem s n R (atom_for Segment v) v (kept Segment h) x u h o
  adds Set u h o = row_line s n R (command_for Set v) v (kept Set h) refl x u h
  adds Load u h o = row_line s n R (command_for Load v) v (kept Load h) refl x u h
  adds Store u h o = row_line s n R (command_for Store v) v (kept Store h) refl x u h
  adds New u h o = row_line s n R (command_for New v) v (kept New h) refl x u h
  adds Free u h o = row_line s n R (command_for Free v) v (kept Free h) refl x u h
  adds Jump u h o = row_line s n R (command_for Jump v) v (kept Jump h) refl x u h
  adds Branch u h o = row_line s n R (command_for Branch v) v (kept Branch h) refl x u h
  adds Cut u h o = row_line s n R (command_for Cut v) v (kept Cut h) refl x u h
  adds Call u h o = row_line s n R (command_for Call v) v (kept Call h) refl x u h
  adds Done u h o = row_line s n R (command_for Done v) v (kept Done h) refl x u h
