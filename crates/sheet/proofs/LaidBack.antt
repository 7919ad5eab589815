-- What lies in a sheet is the routine that was laid there, and back.
use Rattle.std.proofs.Common.{◌≡◌, ℕ, ◌+◌, ◌-◌, ◌<◌, suc, List, [], ◌∷◌, ◌++◌, map, length, replicate, set, sym, refl, ap, ◌∙◌, subst, arith, false}
use Rattle.std.proofs.lemmas.List.{take_at, set_at, append_assoc, length_push, map_push}
use Rattle.heap.specs.declared.atoms.Atom.{Atom}
use Rattle.heap.specs.declared.atoms.Atom.TheVariants.{Eq}
use Rattle.sheet.specs.declared.rows.AtomList.{AtomList}
use Rattle.sheet.specs.declared.rows.Row.{Row}
use Rattle.sheet.specs.declared.sheets.Body.{Body}
use Rattle.sheet.specs.Routines.{Command, assign, load, store, new, free, jump, branch, cut, call, done, Routine}
use Rattle.sheet.specs.Laid.{filled, laid_list, laid_row, laid, list_in, command_in, routine_in}
use Rattle.sheet.specs.Flow.{misplaced, InPlace}
use Rattle.sheet.specs.Formed.{WellFormed}
use Rattle.sheet.specs.Sheets.{new_routine}
use Rattle.sheet.proofs.WeightsExact.{heavy_none}

pub list_back : (l : List Atom) → list_in (laid_list l) ≡ l
list_back l = take_at l (replicate (8 - length l) (Eq 0 0)) (length l) refl

pub row_back : (c : Command) → command_in (laid_row c) ≡ c
row_back (assign x e) = refl
row_back (load x y) = refl
row_back (store x e) = refl
row_back (new x) = refl
row_back (free x) = refl
row_back (jump r) = refl
row_back (branch e f r) = refl
row_back (cut l) = ap cut (list_back l)
row_back (call x q y z s t l) = ap (call x q y z s t) (list_back l)
row_back done = refl

rows_back : (rows : List Command) → map command_in (map laid_row rows) ≡ rows
rows_back [] = refl
rows_back (c ∷ cs) = let a = row_back c in let b = rows_back cs in cc

rebuilt : (R : Routine) {b a : List Atom} {rs : List Command} → b ≡ R.before → a ≡ R.after → rs ≡ R.rows
    → ◌≡◌ {A = Routine} (record { own = R.own; variables = R.variables; arguments = R.arguments; ghosts = R.ghosts; before = b; after = a; rows = rs }) R
rebuilt R eb ea er = rw (eb, ea, er)

pub routine_back : (R : Routine) → routine_in (laid R) ≡ R
routine_back R = rebuilt R (list_back R.before) (list_back R.after) (rows_back R.rows)

-- a body that is laid out is the body of its routine
pub laid_whole : (R : Routine) (b : Body) → b ≡ laid R → (routine_in b ≡ R) × (b ≡ laid (routine_in b))
laid_whole R b e =
    let s : routine_in b ≡ R = ap routine_in e ∙ routine_back R in
    (s, e ∙ ap laid (sym s))

-- what a sheet's type promises, of a body that is a well-formed routine laid out
pub sealed : (R : Routine) (b : Body) → WellFormed R → b ≡ laid R → WellFormed (routine_in b) × (b ≡ laid (routine_in b))
sealed R b w e = let s = laid_whole R b e in (subst WellFormed (sym s.0) w, s.1)

new_in_place : InPlace new_routine.rows
new_in_place i l h = let e : 1 ≡ i = omega arith in subst (λ k. misplaced new_routine.rows k ≡ false) e refl

pub new_formed : WellFormed new_routine
new_formed = record {
  own_number = omega arith;
  some_variable = omega arith;
  few_variables = omega arith;
  few_arguments = omega arith;
  arguments_within = omega arith;
  few_ghosts = omega arith;
  some_row = omega arith;
  few_rows = omega arith;
  before_list = record { few = omega arith; names = tt };
  after_list = record { few = omega arith; names = tt };
  row_columns = (record { columns = refl; list = record { few = omega arith; names = tt } }, tt);
  few_atoms = omega arith;
  in_place = new_in_place;
  light = heavy_none new_routine.rows new_in_place refl;
}

-- one more in a filled list
pub filled_more : {A : Type 0} (n : ℕ) (x : A) (xs : List A) (y : A) → length xs < n → set (filled n x xs) (length xs) y ≡ filled n x (xs ++ y ∷ [])
filled_more n x xs y h =
    let m = n - length (xs ++ y ∷ []) in
    let e : n - length xs ≡ suc m = (let l = length_push xs y in omega arith) in
    ap (λ k. set (xs ++ replicate k x) (length xs) y) e
    ∙ (set_at xs x (replicate m x) y (length xs) refl
    ∙ sym (append_assoc xs (y ∷ []) (replicate m x)))

-- a list that lies so gets one atom more where its count says
pub pushed_laid : (m : AtomList) (a : Atom) → m ≡ laid_list (list_in m) → length (list_in m) < 8 → ◌≡◌ {A = AtomList} (record { atoms = set m.atoms m.count a; count = m.count + 1 }) (laid_list (list_in m ++ a ∷ []))
pushed_laid m a e h =
    let l = list_in m in
    let p = filled_more 8 (Eq 0 0) l a h in
    let q = length_push l a in
    let n : m.count ≡ length l = ap (λ x. x.count) e in
    let s : set m.atoms m.count a ≡ filled 8 (Eq 0 0) (l ++ a ∷ []) = ap (λ x. set x.atoms x.count a) e ∙ p in
    let k : m.count + 1 ≡ length (l ++ a ∷ []) = omega arith in
    cc

-- how lists, rows and bodies lie, from where they were laid
pub list_lies : (m : AtomList) (l : List Atom) → m ≡ laid_list l → m ≡ laid_list (list_in m)
list_lies m l e = e ∙ sym (ap laid_list (ap list_in e ∙ list_back l))

pub row_lies : (r : Row) (c : Command) → r ≡ laid_row c → (command_in r ≡ c) × (r ≡ laid_row (command_in r))
row_lies r c e = let s : command_in r ≡ c = ap command_in e ∙ row_back c in (s, e ∙ ap laid_row (sym s))

-- rows that lie, and one more
pub rows_more : (rows : List Row) (r : Row) → rows ≡ map laid_row (map command_in rows) → r ≡ laid_row (command_in r) → rows ++ r ∷ [] ≡ map laid_row (map command_in (rows ++ r ∷ []))
rows_more rows r e h =
    let p = map_push command_in rows r in
    let q = map_push laid_row (map command_in rows) (command_in r) in
    sym (ap (map laid_row) p ∙ (q ∙ (ap (λ xs. xs ++ laid_row (command_in r) ∷ []) (sym e) ∙ ap (λ x. rows ++ x ∷ []) (sym h))))

-- of rows that lie, those ahead of the last and the last lie
pub rows_less : (front : List Row) (r : Row) → front ++ r ∷ [] ≡ map laid_row (map command_in (front ++ r ∷ [])) → (front ≡ map laid_row (map command_in front)) × (r ≡ laid_row (command_in r))
rows_less [] r e = (refl, cc)
rows_less (x ∷ xs) r e = let b = rows_less xs r cc in (cc, b.1)

-- a body lies where its lists and its rows do
pub body_lies : (b : Body) → b.before ≡ laid_list (list_in b.before) → b.after ≡ laid_list (list_in b.after) → b.rows.items ≡ map laid_row (map command_in b.rows.items) → b ≡ laid (routine_in b)
body_lies b e f g = rw (sym e, sym f, sym g) refl

-- the rows that lie in a sheet are its routine's, laid
pub rows_laid : (b : Body) → b ≡ laid (routine_in b) → b.rows.items ≡ map laid_row (routine_in b).rows
rows_laid b e = ap (λ x. x.rows.items) e
