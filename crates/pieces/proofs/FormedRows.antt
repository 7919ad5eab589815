-- Proofs: what the rows of a well-formed routine are: they lead forward, name names, and weigh at most 8 a piece.
use Rattle.std.proofs.Common.{◌≡◌, ℕ, zero, suc, ◌+◌, ◌-◌, ◌<◌, ◌≤◌, true, false, not, ◌&&◌, ◌||◌, eqb, ltb, leb, ◌⊎◌, List, [], ◌∷◌, ◌++◌, length, get_or, Some, sym, refl, ap, subst, inl, inr, arith}
use Rattle.std.specs.List.{AllByRecursion}
use Rattle.std.proofs.lemmas.Bool.Decides.{nat_tests}
use Rattle.std.proofs.lemmas.List.{get_or_past}
use Rattle.std.proofs.lemmas.Bool.{cases_eq, cases_Bool, cases_lt, and_parts, or_parts}
use Rattle.heap.specs.declared.atoms.Atom.{Atom}
use Rattle.heap.specs.declared.atoms.Atom.TheVariants.{Eq, Neq, Next, Lseg}
use Rattle.sheet.specs.declared.kinds.Scope.{Scope}
use Rattle.sheet.specs.declared.kinds.Class.TheVariants.{RoutineNumber, Variable, Value, Target, Named}
use Rattle.sheet.specs.Kinds.{allowed, nameable, fits, classes_of, weight_of}
use Rattle.sheet.specs.Routines.{Command, assign, load, store, new, free, jump, branch, cut, call, done, Routine, list_of}
use Rattle.sheet.specs.Written.{command_kind, command_columns, atom_kind, atom_columns}
use Rattle.sheet.specs.Formed.{WellFormed, RowFormed, scope_of, excepted}
use Rattle.sheet.specs.Flow.{row_at, is_cut, closes, ends, strays, bad_target, Leads, step, opens, Opens}
use Rattle.sheet.proofs.WeightsExact.{most, weights_bounded, way_bounded, way_there}
use Rattle.heap.specs.Lists.{renamed}
use Rattle.pieces.specs.Pieces.{given, Contract, Opening, opening, behind, from}
use Rattle.pieces.specs.ModelCases.{goes_well, Forward}
use Rattle.pieces.specs.ModelBounds.{Small, AtomSmall, weight_from, WeighsAt}

-- an entry of a list of which something holds throughout
pub all_at : {A : Type 0} (P : A → Type 0) (xs : List A) (d : A) (i : ℕ) → AllByRecursion P xs → i < length xs → P (get_or xs i d)
all_at P [] d i a q = absurd (omega arith)
all_at P (x ∷ xs) d zero a q = a.0
all_at P (x ∷ xs) d (suc i) a q = all_at P xs d i a.1 (omega arith)

-- what a column may hold is small
module _ (s : Scope) (few : s.variables ≤ 6) (known : s.named ≤ 6) where
  variable_small : (n : ℕ) → allowed s Variable n ≡ true → n < 9
  variable_small n t = let p = and_parts (leb 1 n) (leb n s.variables) t in let q = p.1 in grind (arith, nat_tests)

  value_small : (n : ℕ) → allowed s Value n ≡ true → n < 9
  value_small n t = grind (arith, nat_tests)

  name_small : (n : ℕ) → nameable s n ≡ true → n < 9
  name_small n t = elim (cases_lt n 9) [
    | inl q ↦ q
    | inr q ↦
        let a : eqb n 0 ≡ false = grind (arith, nat_tests) in let b : leb n s.named ≡ false = grind (arith, nat_tests) in
        let c : eqb n 7 ≡ false = grind (arith, nat_tests) in let d : eqb n 8 ≡ false = grind (arith, nat_tests) in
        let z : nameable s n ≡ false = rw (a, b, c, d) in absurd (grind (arith, nat_tests))
  ]

  target_row : (n : ℕ) → allowed s Target n ≡ true → (1 ≤ n) × (n ≤ s.rows)
  target_row n t = let p = and_parts (leb 1 n) (leb n s.rows) t in let a = p.0 in let b = p.1 in (grind (arith, nat_tests), grind (arith, nat_tests))

-- the columns of a row, one by one
module _ (s : Scope) (few : s.variables ≤ 6) (known : s.named ≤ 6) where
  by_columns : (c : Command) → fits s (classes_of (command_kind c)) (command_columns c) ≡ true → Small s.rows c
  by_columns (assign x e) t =
      let p = and_parts (allowed s Variable x) _ t in let q = and_parts (allowed s Value e) _ p.1 in
      (variable_small s few known x p.0, value_small s few known e q.0)
  by_columns (load x y) t =
      let p = and_parts (allowed s Variable x) _ t in let q = and_parts (allowed s Variable y) _ p.1 in
      (variable_small s few known x p.0, variable_small s few known y q.0)
  by_columns (store x e) t =
      let p = and_parts (allowed s Variable x) _ t in let q = and_parts (allowed s Value e) _ p.1 in
      (variable_small s few known x p.0, value_small s few known e q.0)
  by_columns (new x) t = let p = and_parts (allowed s Variable x) _ t in variable_small s few known x p.0
  by_columns (free x) t = let p = and_parts (allowed s Variable x) _ t in variable_small s few known x p.0
  by_columns (jump r) t = let p = and_parts (allowed s Target r) _ t in target_row s few known r p.0
  by_columns (branch e f r) t =
      let p = and_parts (allowed s Value e) _ t in let q = and_parts (allowed s Value f) _ p.1 in let o = and_parts (allowed s Target r) _ q.1 in
      let u = target_row s few known r o.0 in
      (value_small s few known e p.0, value_small s few known f q.0, u.0, u.1)
  by_columns (cut l) t = tt
  by_columns (call x c y z i j l) t =
      let p = and_parts (allowed s Variable x) _ t in let q = and_parts (allowed s RoutineNumber c) _ p.1 in
      let o = and_parts (allowed s Value y) _ q.1 in let u = and_parts (allowed s Value z) _ o.1 in let v = and_parts (allowed s Named i) (allowed s Named j) u.1 in
      (let b = q.0 in grind (arith, nat_tests), variable_small s few known x p.0, value_small s few known y o.0, value_small s few known z u.0, name_small s few known i v.0, name_small s few known j v.1)
  by_columns done t = tt

  atom_names : (a : Atom) → fits s (classes_of (atom_kind a)) (atom_columns a) ≡ true → AtomSmall a
  atom_names (Eq x y) t = let p = and_parts (allowed s Named x) _ t in let q = and_parts (allowed s Named y) _ p.1 in (name_small s few known x p.0, name_small s few known y q.0)
  atom_names (Neq x y) t = let p = and_parts (allowed s Named x) _ t in let q = and_parts (allowed s Named y) _ p.1 in (name_small s few known x p.0, name_small s few known y q.0)
  atom_names (Next x y) t = let p = and_parts (allowed s Named x) _ t in let q = and_parts (allowed s Named y) _ p.1 in (name_small s few known x p.0, name_small s few known y q.0)
  atom_names (Lseg x y) t = let p = and_parts (allowed s Named x) _ t in let q = and_parts (allowed s Named y) _ p.1 in (name_small s few known x p.0, name_small s few known y q.0)

  pub list_names : (l : List Atom) → AllByRecursion (λ a. fits s (classes_of (atom_kind a)) (atom_columns a) ≡ true) l → AllByRecursion AtomSmall l
  list_names [] a = tt
  list_names (x ∷ l) a = (atom_names x a.0, list_names l a.1)

module _ (R : Routine) (F : WellFormed R) where
  abbrev rows : List Command
  rows = R.rows

  row_formed : (i : ℕ) → i < length rows → RowFormed R (get_or rows i done)
  row_formed i q = all_at (RowFormed R) rows done i F.row_columns q

  pub rows_small : (r : ℕ) → Small (length rows) (row_at rows r)
  rows_small r = elim (cases_lt (r - 1) (length rows)) [
    | inl q ↦ by_columns (scope_of R R.variables (command_columns (row_at rows r)).first) F.few_variables F.few_variables (row_at rows r) (row_formed (r - 1) q).columns
    | inr q ↦ subst (Small (length rows)) (sym (get_or_past rows (r - 1) done q)) tt
  ]

  -- the list of a row
  pub row_list : (i : ℕ) → (length (list_of (get_or rows i done)) ≤ 8) × AllByRecursion AtomSmall (list_of (get_or rows i done))
  row_list i = elim (cases_lt i (length rows)) [
    | inl q ↦ let f = (row_formed i q).list in (f.few, list_names (scope_of R R.variables (excepted (get_or rows i done))) F.few_variables F.few_variables (list_of (get_or rows i done)) f.names)
    | inr q ↦ let e = get_or_past rows i done q in subst (λ c. (length (list_of c) ≤ 8) × AllByRecursion AtomSmall (list_of c)) (sym e) (omega arith, tt)
  ]

  pub before_names : AllByRecursion AtomSmall R.before
  before_names = list_names (scope_of R R.arguments 0) F.few_variables (let a = F.few_arguments in omega arith) R.before F.before_list.names

  pub after_names : AllByRecursion AtomSmall R.after
  after_names = list_names (scope_of R 1 0) F.few_variables (omega arith) R.after F.after_list.names

  -- rows lead forward
  in_place_at : (i : ℕ) → bad_target rows i (row_at rows i) ≡ false ⊎ (i ≡ 0)
  in_place_at i = elim (cases_eq i 0) [
    | inl z ↦ inr z
    | inr n ↦ elim (cases_lt (length rows) i) [
      | inl g ↦ inl (subst (λ c. bad_target rows i c ≡ false) (sym (get_or_past rows (i - 1) done (omega arith))) refl)
      | inr g ↦ inl (or_parts (bad_target rows i (row_at rows i)) (eqb i (length rows) && not (ends (row_at rows i))) (F.in_place i (omega arith) g)).0
    ]
  ]

  cut_closes : (c : Command) → is_cut c ≡ true → closes c ≡ true
  cut_closes (assign x e) h = h
  cut_closes (load x y) h = h
  cut_closes (store x e) h = h
  cut_closes (new x) h = h
  cut_closes (free x) h = h
  cut_closes (jump r) h = h
  cut_closes (branch e f r) h = h
  cut_closes (cut l) h = refl
  cut_closes (call x q y z i j l) h = refl
  cut_closes done h = refl

  lands : (i t : ℕ) → 1 ≤ t → strays rows i t ≡ false ⊎ (i ≡ 0) → (ltb i t || closes (row_at rows t)) ≡ true
  lands i t p (inr z) = let a : ltb i t ≡ true = grind (arith, nat_tests) in rw a
  lands i t p (inl e) = elim (cases_Bool (ltb i t)) [
    | inl a ↦ rw a
    | inr a ↦ let b : is_cut (row_at rows t) ≡ true = (let g : not (is_cut (row_at rows t)) ≡ false = rw a at e in grind (arith, nat_tests)) in let c = cut_closes (row_at rows t) b in rw (a, c)
  ]

  well : (c : Command) (i : ℕ) → Small (length rows) c → bad_target rows i c ≡ false ⊎ (i ≡ 0) → goes_well rows i c ≡ true
  well (assign x e) i m b = refl
  well (load x y) i m b = refl
  well (store x e) i m b = refl
  well (new x) i m b = refl
  well (free x) i m b = refl
  well (jump t) i m b = lands i t m.0 b
  well (branch e f t) i m b = lands i t m.2 b
  well (cut l) i m b = refl
  well (call x q y z s t l) i m b = refl
  well done i m b = refl

  pub forward : Forward rows
  forward i = well (row_at rows i) i (rows_small i) (in_place_at i)

  -- weights
  WIn : (r : ℕ) → 1 ≤ r → weight_from rows r ≡ most rows r
  WIn r q = let e : eqb r 0 ≡ false = grind (arith, nat_tests) in rw e

  WNext : (r : ℕ) → 1 ≤ r → weight_from rows r ≤ 40
  WNext r q = let e = WIn r q in let b = weights_bounded 1 rows (r - 1) in let f = F.few_rows in omega arith

  lead : (r j : ℕ) → 1 ≤ j → Leads (row_at rows r) r j → (r ≡ 0) ⊎ (weight_of (command_kind (row_at rows r)) + weight_from rows j ≤ weight_from rows r)
  lead r j q l = elim (cases_eq r 0) [
    | inl z ↦ inl z
    | inr n ↦
        let a = WIn r (omega arith) in let b = WIn j q in
        let w = way_bounded rows F.in_place (omega arith) (step {i = r} l (way_there rows F.in_place j q)) in inr (omega arith)
  ]

  eased : (c : Command) (r j : ℕ) → c ≡ row_at rows r → 1 ≤ j → Leads c r j → weight_of (command_kind c) ≤ 1 → weight_of (command_kind c) + weight_from rows j ≤ weight_from rows r
  eased c r j q p l s = elim (lead r j p (subst (λ c. Leads c r j) q l)) [
    | inr b ↦ subst (λ c. weight_of (command_kind c) + weight_from rows j ≤ weight_from rows r) (sym q) b
    | inl z ↦ let a = WNext j p in let e : weight_from rows r ≡ 41 = (let e : eqb r 0 ≡ true = grind (arith, nat_tests) in rw e) in omega arith
  ]

  weighs_by : (c : Command) (r : ℕ) → Small (length rows) c → c ≡ row_at rows r → WeighsAt (weight_from rows) r c
  weighs_by (assign x e) r m q = let l = eased (assign x e) r (suc r) q (omega arith) refl (omega arith) in omega arith
  weighs_by (load x y) r m q = let l = eased (load x y) r (suc r) q (omega arith) refl (omega arith) in omega arith
  weighs_by (store x e) r m q = let l = eased (store x e) r (suc r) q (omega arith) refl (omega arith) in omega arith
  weighs_by (new x) r m q = let l = eased (new x) r (suc r) q (omega arith) refl (omega arith) in omega arith
  weighs_by (free x) r m q = let l = eased (free x) r (suc r) q (omega arith) refl (omega arith) in omega arith
  weighs_by (jump t) r m q = let l = eased (jump t) r t q m.0 refl (omega arith) in omega arith
  weighs_by (branch e f t) r m q =
      let l = eased (branch e f t) r t q m.2 (inl refl) (omega arith) in let k = eased (branch e f t) r (suc r) q (omega arith) (inr refl) (omega arith) in
      (omega arith, omega arith)
  weighs_by (cut l) r m q = tt
  weighs_by (call x c y z i j l) r m q = tt
  weighs_by done r m q = tt

  pub weighs : (r : ℕ) → WeighsAt (weight_from rows) r (row_at rows r)
  weighs r = weighs_by (row_at rows r) r (rows_small r) refl

  -- a piece weighs at most 8
  light_at : (p : ℕ) → Opens rows p → weight_from rows (suc p) ≤ 8
  light_at p o = elim (cases_lt 8 (weight_from rows (suc p))) [
    | inr q ↦ q
    | inl q ↦ let e = WIn (suc p) (omega arith) in absurd (F.light p (record { opening = o; weight = most rows (suc p); over = omega arith; way = way_there rows F.in_place (suc p) (omega arith) }))
  ]

  opens_some : (callee : ℕ → Contract) (names : List ℕ) (r : ℕ) (c : Command) (o : Opening) → behind callee names r c ≡ Some o → (opens c ≡ true) × (o.row ≡ r) × (o.names ≡ names)
  opens_some callee names r (assign x e) o q = absurd (grind (arith, nat_tests))
  opens_some callee names r (load x y) o q = absurd (grind (arith, nat_tests))
  opens_some callee names r (store x e) o q = absurd (grind (arith, nat_tests))
  opens_some callee names r (new x) o q = absurd (grind (arith, nat_tests))
  opens_some callee names r (free x) o q = absurd (grind (arith, nat_tests))
  opens_some callee names r (jump t) o q = absurd (grind (arith, nat_tests))
  opens_some callee names r (branch e f t) o q = absurd (grind (arith, nat_tests))
  opens_some callee names r (cut l) o q = let z : record { names = names; list = l; row = r } ≡ o = cc in (refl, sym (ap (λ v. v.row) z), sym (ap (λ v. v.names) z))
  opens_some callee names r (call x c y z i j l) o q = let w : record { names = names; list = renamed (given x 2 i j) (callee c).after ++ l; row = r } ≡ o = cc in (refl, sym (ap (λ v. v.row) w), sym (ap (λ v. v.names) w))
  opens_some callee names r done o q = absurd (grind (arith, nat_tests))

  -- what is known of a piece that opens
  pub record Opened (o : Opening) : Type 0 where
    pub light : weight_from rows o.row ≤ 8
    pub low : o.row ≤ 41
    pub some_row : 1 ≤ o.row
    pub few : (k : ℕ) × (k ≤ 6) × (o.names ≡ from 1 k ++ from 7 R.ghosts)

  pub opening_is : (callee : ℕ → Contract) (p : ℕ) (o : Opening) → opening callee R p ≡ Some o → Opened o
  opening_is callee zero o q =
      let z : record { names = from 1 R.arguments ++ from 7 R.ghosts; list = R.before; row = 1 } ≡ o = cc in
      let r : 1 ≡ o.row = ap (λ v. v.row) z in let l = light_at 0 (inl refl) in
      record { light = subst (λ n. weight_from rows n ≤ 8) r l; low = omega arith; some_row = omega arith; few = (R.arguments, (let a = F.few_arguments in omega arith), sym (ap (λ v. v.names) z)) }
  opening_is callee (suc p) o q =
      let s = opens_some callee (from 1 R.variables ++ from 7 R.ghosts) (suc (suc p)) (get_or rows p done) o q in
      let within : p < length rows = (elim (cases_lt p (length rows)) [
        | inl l ↦ l
        | inr l ↦ let d = get_or_past rows p done l in let z : opens done ≡ true = subst (λ c. opens c ≡ true) d s.0 in absurd (grind (arith, nat_tests))
      ]) in
      let e : suc p - 1 ≡ p = omega arith in
      let l = light_at (suc p) (inr (omega arith, omega arith, subst (λ n. opens (get_or rows n done) ≡ true) (sym e) s.0)) in
      let f = F.few_rows in let r = s.1 in
      record { light = subst (λ n. weight_from rows n ≤ 8) (sym r) l; low = omega arith; some_row = omega arith; few = (R.variables, F.few_variables, s.2) }
