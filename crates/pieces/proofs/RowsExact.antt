-- Proofs: a row done in a state of a case leads to a state of a case behind it, and each such state comes from one of the case.
use Rattle.std.proofs.Common.{◌≡◌, ℕ, suc, ◌<◌, ◌≤◌, true, false, cond, not, ◌||◌, eqb, ◌≢◌, List, [], Some, None, Option, sym, refl, ap, ◌∙◌, inl, inr, arith}
use Rattle.std.specs.List.{AllByRecursion, flat_map}
use Rattle.std.proofs.lemmas.Bool.Decides.{nat_tests}
use Rattle.std.proofs.lemmas.Bool.{cases_eq, cases_Bool}
use Rattle.heap.specs.Heaps.{Heap, without}
use Rattle.pieces.specs.declared.shapes.Edge.{Edge}
use Rattle.pieces.specs.declared.shapes.Edge.TheVariants.{Dead, Cell, Segment}
use Rattle.pieces.specs.Pieces.{put}
use Rattle.pieces.specs.ModelShapes.{Shape, Fits, SoundShape, long, fresh_at, Allocates, set_edge, set_name, add_node}
use Rattle.pieces.specs.ModelCover.{is_dead}
use Rattle.pieces.specs.ModelChoices.{SomeOf}
use Rattle.sheet.specs.Routines.{Command, assign, load, store, new, free, jump, branch, cut, call, done}
use Rattle.pieces.specs.Pieces.{State, Does}
use Rattle.pieces.specs.ModelCases.{Case, cells, aim, at, nexts, Of}
use Rattle.pieces.proofs.ShapeModels.{cases_edge}
use Rattle.pieces.proofs.CoverExact.{sound_dead}
use Rattle.pieces.proofs.Choices.{some_gather, gather_some}
use Rattle.pieces.proofs.Choices.{some_flat, flat_some_all, some_with, all_flat, all_gather, some_pull}
use Rattle.pieces.proofs.ShapeSteps.{split_to, from_short, from_long, free_to, free_from, alloc_to, alloc_from_at, alloc_from_apart, copy_to, copy_from, load_to, load_from, store_to, store_from}

pub same_state : (u : State) (r : ℕ) (env : ℕ → ℕ) (h : Heap) → u.row ≡ r → u.env ≡ env → u.heap ≡ h → u ≡ record { row = r; env = env; heap = h }
same_state u r env h p q t = ap (λ k. make k u.env u.heap) p ∙ ap (λ e. make r e u.heap) q ∙ ap (λ g. make r env g) t
  where
    make : ℕ → (ℕ → ℕ) → Heap → State
    make k e g = record { row = k; env = e; heap = g }

-- shapes stay sound
pub sound_name : (s : Shape) (x k : ℕ) → SoundShape s → k < s.size → SoundShape (set_name s x k)
sound_name s x k w q = record {
  some_node = w.some_node;
  nil_dead = w.nil_dead;
  cells_in = w.cells_in;
  segs_in = w.segs_in;
  names_in = λ n. let a = w.names_in n in grind (arith, nat_tests);
}

pub sound_cell : (s : Shape) (i j : ℕ) → SoundShape s → i ≢ 0 → j < s.size → SoundShape (set_edge s i (Cell j))
sound_cell s i j w z q = record {
  some_node = w.some_node;
  nil_dead = let a = w.nil_dead in grind (arith, nat_tests);
  cells_in = λ k t p e. elim (cases_eq k i) [ inl b ↦ let tj : t ≡ j = grind (arith, nat_tests) in grind arith | inr b ↦ w.cells_in k t p (grind (arith, nat_tests)) ];
  segs_in = λ k t p e. w.segs_in k t p (grind (arith, nat_tests));
  names_in = w.names_in;
}

pub sound_apart : (s : Shape) (e : Edge) → SoundShape s → ((t : ℕ) → e ≡ Cell t → t < suc s.size) → ((t : ℕ) → e ≡ Segment t → t < s.size) → SoundShape (add_node s e)
sound_apart s e w c g = record {
  some_node = omega arith;
  nil_dead = let a = w.nil_dead in let b = w.some_node in grind (arith, nat_tests);
  cells_in = λ k t p f. elim (cases_eq k s.size) [ inl b ↦ c t (grind (arith, nat_tests)) | inr b ↦ let a = w.cells_in k t (omega arith) (grind (arith, nat_tests)) in omega arith ];
  segs_in = λ k t p f. elim (cases_eq k s.size) [ inl b ↦ let a = g t (grind (arith, nat_tests)) in (omega arith, omega arith) | inr b ↦ let a = w.segs_in k t (omega arith) (grind (arith, nat_tests)) in (omega arith, a.1) ];
  names_in = λ n. let a = w.names_in n in omega arith;
}

-- a node with an edge is not nil
pub off_nil : (s : Shape) (i : ℕ) → SoundShape s → s.edge i ≢ Dead → i ≢ 0
off_nil s i w n z = n (ap s.edge z ∙ w.nil_dead)

pub record Celled (s : Shape) (i : ℕ) (u : Shape) : Type 0 where
  pub sound : SoundShape u
  pub to : ℕ
  pub is : u.edge i ≡ Cell to
  pub to_in : to < u.size
  pub names : u.name ≡ s.name
  pub wide : s.size ≤ u.size

module _ (s : Shape) (w : SoundShape s) (i : ℕ) (q : i < s.size) where
  pub cells_are : AllByRecursion (Celled s i) (cells s i)
  cells_are = elim (cases_edge (s.edge i)) [
    | inl e ↦ rw e tt
    | inr (inl (t, e)) ↦ rw e (record { sound = w; to = t; is = e; to_in = w.cells_in i t q e; names = refl; wide = omega arith }, tt)
    | inr (inr (t, e)) ↦
        let a = w.segs_in i t q e in let z = off_nil s i w (λ d. grind (arith, nat_tests)) in
        rw e (
          record { sound = sound_cell s i t w z a.0; to = t; is = grind (arith, nat_tests); to_in = a.0; names = refl; wide = omega arith },
          (record { sound = long_sound t a.0 z; to = s.size; is = grind (arith, nat_tests); to_in = omega arith; names = refl; wide = omega arith }, tt),
        )
  ]
    where
      long_sound : (t : ℕ) → t < s.size → i ≢ 0 → SoundShape (long s i t)
      long_sound t l z = record {
        some_node = omega arith;
        nil_dead = let a = w.nil_dead in let b = w.some_node in grind (arith, nat_tests);
        cells_in = λ k u p f. elim (cases_eq k i) [ inl b ↦ let um : u ≡ s.size = grind (arith, nat_tests) in omega arith | inr b ↦ elim (cases_eq k s.size) [ inl c ↦ absurd (grind (arith, nat_tests)) | inr c ↦ let a = w.cells_in k u (omega arith) (grind (arith, nat_tests)) in omega arith ] ];
        segs_in = λ k u p f. elim (cases_eq k s.size) [ inl b ↦ let ut : u ≡ t = grind (arith, nat_tests) in (omega arith, omega arith) | inr b ↦ let a = w.segs_in k u (omega arith) (grind (arith, nat_tests)) in (omega arith, a.1) ];
        names_in = λ n. let a = w.names_in n in omega arith;
      }

  pub cells_to : (env : ℕ → ℕ) (h : Heap) → (F : Fits s env h) → h (F.val i) ≢ None → SomeOf (λ u. Fits u env h) (cells s i)
  cells_to env h F live = elim (cases_edge (s.edge i)) [
    | inl e ↦ absurd (live (F.model.dead i q e).0)
    | inr (inl (t, e)) ↦ rw e (inl F)
    | inr (inr (t, e)) ↦ rw e (elim (split_to s env h w i t q e F) [ inl a ↦ inl a | inr b ↦ inr (inl b) ])
  ]

  pub cells_from : (env : ℕ → ℕ) (h : Heap) → SomeOf (λ u. Fits u env h) (cells s i) → Fits s env h
  cells_from env h S = elim (cases_edge (s.edge i)) [
    | inl e ↦ absurd (rw e at S)
    | inr (inl (t, e)) ↦ elim (rw e at S) [ inl F ↦ F | inr b ↦ absurd b ]
    | inr (inr (t, e)) ↦ elim (rw e at S) [ inl F ↦ from_short s env h w i t q e F | inr (inl F) ↦ from_long s env h w i t q e F | inr (inr b) ↦ absurd b ]
  ]

-- a state before the row w, done to g
abbrev pub Before : Command → ℕ → State → Type 0
Before w r g = (st : State) × (st.row ≡ r) × Does w st g

module _ (s : Shape) (w : SoundShape s) (i : ℕ) (q : i < s.size) (r : ℕ) (f : Shape → Shape) where
  touch_to : (env : ℕ → ℕ) (h : Heap) (F : Fits s env h) (g : State) → h (F.val i) ≢ None → g.row ≡ suc r
      → ((u : Shape) → Celled s i u → Fits u env h → Fits (f u) g.env g.heap) → SomeOf (λ c. Of c g) (flat_map (λ u. at (suc r) (f u)) (cells s i))
  touch_to env h F g live e k = some_flat (λ c. Of c g) (λ u. Celled s i u × Fits u env h) (λ u. at (suc r) (f u)) (λ u b. inl (e, k u b.0 b.1)) (cells s i)
      (some_with (λ u. Fits u env h) (Celled s i) (cells s i) (cells_to s w i q env h F live) (cells_are s w i q))

  touch_from : (row : Command) (g : State)
      → ((u : Shape) → Celled s i u → g.row ≡ suc r → Fits (f u) g.env g.heap → (d : Before row r g) × Fits u d.0.env d.0.heap)
      → SomeOf (λ c. Of c g) (flat_map (λ u. at (suc r) (f u)) (cells s i)) → (d : Before row r g) × Fits s d.0.env d.0.heap
  touch_from row g k S =
      let x = some_pull (λ (d : Before row r g) u. Fits u d.0.env d.0.heap) (cells s i)
      (flat_some_all (λ c. Of c g) (Celled s i) (λ u. (d : Before row r g) × Fits u d.0.env d.0.heap) (λ u. at (suc r) (f u))
      (λ u b. elim [ inl (e, F) ↦ k u b e F | inr n ↦ absurd n ]) (cells s i) (cells_are s w i q) S) in
      (x.0, cells_from s w i q x.0.0.env x.0.0.heap x.1)

  touch_sound : ((u : Shape) → Celled s i u → SoundShape (f u)) → AllByRecursion (λ c. SoundShape c.shape) (flat_map (λ u. at (suc r) (f u)) (cells s i))
  touch_sound k = all_flat (λ c. SoundShape c.shape) (Celled s i) (λ u. at (suc r) (f u)) (λ u b. (k u b, tt)) (cells s i) (cells_are s w i q)

-- the edge at a name
named_cell : (s u : Shape) (x : ℕ) (C : Celled s (s.name x) u) → u.edge (u.name x) ≡ Cell C.to
named_cell s u x C = ap (λ f. u.edge (f x)) C.names ∙ C.is

live_at : (s : Shape) (env : ℕ → ℕ) (h : Heap) (x : ℕ) (F : Fits s env h) → h (env x) ≢ None → h (F.val (s.name x)) ≢ None
live_at s env h x F live d = live (ap h (F.named x) ∙ d)

not_none : {A : Type 0} (o : Option A) (v : A) → o ≡ Some v → o ≢ None
not_none o v e n = grind (arith, nat_tests)

cell_live : (s : Shape) (env : ℕ → ℕ) (h : Heap) (x t : ℕ) → SoundShape s → s.edge (s.name x) ≡ Cell t → Fits s env h → h (env x) ≢ None
cell_live s env h x t w e F = not_none (h (env x)) (F.val t) (ap h (F.named x) ∙ (F.model.cell (s.name x) t (w.names_in x) e).0)

abbrev To : Command → Type 0
To row = (s : Shape) (st g : State) → SoundShape s → Fits s st.env st.heap → Does row st g → SomeOf (λ c. Of c g) (nexts row st.row s)

abbrev From : Command → Type 0
From row = (s : Shape) (r : ℕ) (g : State) → SoundShape s → SomeOf (λ c. Of c g) (nexts row r s) → (d : Before row r g) × Fits s d.0.env d.0.heap

abbrev Keeps : Command → Type 0
Keeps row = (s : Shape) (r : ℕ) → SoundShape s → AllByRecursion (λ c. SoundShape c.shape) (nexts row r s)

set_to : (x e : ℕ) → To (assign x e)
set_to x e s st g w F d = rw d (inl (refl, copy_to s st.env st.heap x e F))

set_from : (x e : ℕ) → From (assign x e)
set_from x e s r g w (inr n) = absurd n
set_from x e s r g w (inl (k, F)) =
    let c = copy_from s g.env g.heap x e F in
    ((record { row = r; env = c.0; heap = g.heap }, refl, same_state g (suc r) (put c.0 x (c.0 e)) g.heap k c.2 refl), c.1)

load_to_case : (x y : ℕ) → To (load x y)
load_to_case x y s st g w F (v, l, d) = rw d (touch_to s w (s.name y) (w.names_in y) st.row (λ u. set_name u x (aim (u.edge (u.name y)))) st.env st.heap F
    (record { row = suc st.row; env = put st.env x v; heap = st.heap }) (live_at s st.env st.heap y F (not_none (st.heap (st.env y)) v l)) refl
    (λ u C G. let e = named_cell s u y C in rw e (load_to u st.env st.heap x y C.to v C.sound e G l)))

load_from_case : (x y : ℕ) → From (load x y)
load_from_case x y s r g w S = touch_from s w (s.name y) (w.names_in y) r (λ u. set_name u x (aim (u.edge (u.name y)))) (load x y) g
    (λ u C k G. let e = named_cell s u y C in let c = load_from u g.env g.heap x y C.to C.sound e (rw e at G) in
    ((record { row = r; env = c.0; heap = g.heap }, refl, (c.1, c.3, same_state g (suc r) (put c.0 x c.1) g.heap k c.4 refl)), c.2)) S

store_to_case : (x e : ℕ) → To (store x e)
store_to_case x e s st g w F (l, d) = rw d (touch_to s w (s.name x) (w.names_in x) st.row (λ u. set_edge u (u.name x) (Cell (u.name e))) st.env st.heap F
    (record { row = suc st.row; env = st.env; heap = put st.heap (st.env x) (Some (st.env e)) }) (live_at s st.env st.heap x F l) refl
    (λ u C G. store_to u st.env st.heap e x C.to C.sound (named_cell s u x C) G))

store_from_case : (x e : ℕ) → From (store x e)
store_from_case x e s r g w S = touch_from s w (s.name x) (w.names_in x) r (λ u. set_edge u (u.name x) (Cell (u.name e))) (store x e) g
    (λ u C k G. let c = store_from u g.env g.heap e x C.to C.sound (named_cell s u x C) G in
    ((record { row = r; env = g.env; heap = c.0 }, refl, (cell_live u g.env c.0 x C.to C.sound (named_cell s u x C) c.1, same_state g (suc r) g.env (put c.0 (g.env x) (Some (g.env e))) k refl c.2)), c.1)) S

free_to_case : (x : ℕ) → To (free x)
free_to_case x s st g w F (l, d) = rw d (touch_to s w (s.name x) (w.names_in x) st.row (λ u. set_edge u (u.name x) Dead) st.env st.heap F
    (record { row = suc st.row; env = st.env; heap = without st.heap (st.env x) }) (live_at s st.env st.heap x F l) refl
    (λ u C G. free_to u st.env st.heap x C.to C.sound (named_cell s u x C) G))

free_from_case : (x : ℕ) → From (free x)
free_from_case x s r g w S = touch_from s w (s.name x) (w.names_in x) r (λ u. set_edge u (u.name x) Dead) (free x) g
    (λ u C k G. let c = free_from u g.env g.heap x C.to C.sound (named_cell s u x C) G in
    ((record { row = r; env = g.env; heap = c.0 }, refl, (cell_live u g.env c.0 x C.to C.sound (named_cell s u x C) c.1, same_state g (suc r) g.env (without c.0 (g.env x)) k refl (sym c.2))), c.1)) S

abbrev at_dead : Shape → ℕ → ℕ → ℕ → List Case
at_dead s x r j = cond (eqb j 0 || not (is_dead (s.edge j))) [] (at (suc r) (fresh_at s x j))

new_to : (x : ℕ) → To (new x)
new_to x s st g w F (a, nz, vacant, d) =
    let A : Allocates x st.env st.heap g.env g.heap = record { place = a; off_nil = nz; vacant = vacant; env_is = ap (λ u. u.env) d; heap_is = ap (λ u. u.heap) d } in
    let k : g.row ≡ suc st.row = ap (λ u. u.row) d in
    elim (alloc_to s st.env st.heap x g.env g.heap w F A) [
      | inr G ↦ inl (k, G)
      | inl (j, q, n, e, G) ↦ inr (some_gather (λ c. Of c g) s.size (at_dead s x st.row) j q
          (let t : (eqb j 0 || not (is_dead (s.edge j))) ≡ false = (let z : eqb j 0 ≡ false = grind (arith, nat_tests) in rw (z, e)) in rw t (inl (k, G))))
    ]

allocated : (x r : ℕ) (s : Shape) (g : State) → g.row ≡ suc r → (env : ℕ → ℕ) × (h : Heap) × Fits s env h × Allocates x env h g.env g.heap → (d : Before (new x) r g) × Fits s d.0.env d.0.heap
allocated x r s g k (env, h, F, A) =
    ((record { row = r; env = env; heap = h }, refl, (A.place, A.off_nil, A.vacant, same_state g (suc r) (put env x A.place) (put h A.place (Some 0)) k A.env_is A.heap_is)), F)

new_from : (x : ℕ) → From (new x)
new_from x s r g w (inl (k, F)) = allocated x r s g k (alloc_from_apart s x g.env g.heap w F)
new_from x s r g w (inr S) =
    let y = gather_some (λ c. Of c g) s.size (at_dead s x r) S in
    elim (cases_Bool (eqb y.0 0 || not (is_dead (s.edge y.0)))) [
      | inl t ↦ absurd (rw t at y.2)
      | inr t ↦ elim (rw t at y.2) [
        | inr n ↦ absurd n
        | inl (k, F) ↦ allocated x r s g k (alloc_from_at s x y.0 g.env g.heap w y.1 (λ z. grind (arith, nat_tests)) (elim (cases_edge (s.edge y.0)) [ inl e ↦ e | inr e ↦ absurd (grind (arith, nat_tests)) ]) F)
      ]
    ]

branch_to : (e f t : ℕ) → To (branch e f t)
branch_to e f t s st g w F (inl (a, d)) =
    let n = F.model.inj (s.name e) (s.name f) (w.names_in e) (w.names_in f) (sym (F.named e) ∙ a ∙ F.named f) in
    let b : eqb (s.name e) (s.name f) ≡ true = grind (arith, nat_tests) in rw (b, d) (inl (refl, F))
branch_to e f t s st g w F (inr (a, d)) =
    let n : s.name e ≢ s.name f = (λ k. a (F.named e ∙ ap F.val k ∙ sym (F.named f))) in
    let b : eqb (s.name e) (s.name f) ≡ false = grind (arith, nat_tests) in rw (b, d) (inl (refl, F))

branch_from : (e f t : ℕ) → From (branch e f t)
branch_from e f t s r g w S = elim (cases_Bool (eqb (s.name e) (s.name f))) [
  | inl b ↦ elim (rw b at S) [
    | inr n ↦ absurd n
    | inl (k, F) ↦ let n : s.name e ≡ s.name f = grind (arith, nat_tests) in
        ((record { row = r; env = g.env; heap = g.heap }, refl, inl (F.named e ∙ ap F.val n ∙ sym (F.named f), same_state g t g.env g.heap k refl refl)), F)
  ]
  | inr b ↦ elim (rw b at S) [
    | inr n ↦ absurd n
    | inl (k, F) ↦
        ((record { row = r; env = g.env; heap = g.heap }, refl, inr ((λ a. let n = F.model.inj (s.name e) (s.name f) (w.names_in e) (w.names_in f) (sym (F.named e) ∙ a ∙ F.named f) in grind (arith, nat_tests)), same_state g (suc r) g.env g.heap k refl refl)), F)
  ]
]

jump_from : (t : ℕ) → From (jump t)
jump_from t s r g w (inr n) = absurd n
jump_from t s r g w (inl (k, F)) = ((record { row = r; env = g.env; heap = g.heap }, refl, same_state g t g.env g.heap k refl refl), F)

-- a row done in a state of the case leads to a state of a case behind it
pub step_to : (row : Command) → To row
step_to (assign x e) s st g w F d = set_to x e s st g w F d
step_to (load x y) s st g w F d = load_to_case x y s st g w F d
step_to (store x e) s st g w F d = store_to_case x e s st g w F d
step_to (new x) s st g w F d = new_to x s st g w F d
step_to (free x) s st g w F d = free_to_case x s st g w F d
step_to (jump t) s st g w F d = rw d (inl (refl, F))
step_to (branch e f t) s st g w F d = branch_to e f t s st g w F d
step_to (cut l) s st g w F d = elim d [ ]
step_to (call x q y z i j l) s st g w F d = elim d [ ]
step_to done s st g w F d = elim d [ ]

-- and a state of a case behind it is so reached
pub step_from : (row : Command) → From row
step_from (assign x e) s r g w S = set_from x e s r g w S
step_from (load x y) s r g w S = load_from_case x y s r g w S
step_from (store x e) s r g w S = store_from_case x e s r g w S
step_from (new x) s r g w S = new_from x s r g w S
step_from (free x) s r g w S = free_from_case x s r g w S
step_from (jump t) s r g w S = jump_from t s r g w S
step_from (branch e f t) s r g w S = branch_from e f t s r g w S
step_from (cut l) s r g w S = elim S [ ]
step_from (call x q y z i j l) s r g w S = elim S [ ]
step_from done s r g w S = elim S [ ]

target_in : (s u : Shape) (x : ℕ) (C : Celled s (s.name x) u) → aim (u.edge (u.name x)) < u.size
target_in s u x C = rw (named_cell s u x C) C.to_in

off_nil_at : (s u : Shape) (x : ℕ) (C : Celled s (s.name x) u) → u.name x ≢ 0
off_nil_at s u x C = let e = named_cell s u x C in off_nil u (u.name x) C.sound (λ d. grind (arith, nat_tests))

pub step_sound : (row : Command) → Keeps row
step_sound (assign x e) s r w = (sound_name s x (s.name e) w (w.names_in e), tt)
step_sound (load x y) s r w = touch_sound s w (s.name y) (w.names_in y) r (λ u. set_name u x (aim (u.edge (u.name y)))) (λ u C. sound_name u x (aim (u.edge (u.name y))) C.sound (target_in s u y C))
step_sound (store x e) s r w = touch_sound s w (s.name x) (w.names_in x) r (λ u. set_edge u (u.name x) (Cell (u.name e))) (λ u C. sound_cell u (u.name x) (u.name e) C.sound (off_nil_at s u x C) (C.sound.names_in e))
step_sound (new x) s r w = (
  sound_name (add_node s (Cell 0)) x s.size (sound_apart s (Cell 0) w (λ t e. grind (arith, nat_tests)) (λ t e. absurd (grind (arith, nat_tests)))) (omega arith),
  all_gather (λ c. SoundShape c.shape) s.size (at_dead s x r) (λ j q. elim (cases_Bool (eqb j 0 || not (is_dead (s.edge j)))) [
    | inl t ↦ rw t tt
    | inr t ↦ rw t (sound_name (set_edge s j (Cell 0)) x j (sound_cell s j 0 w (λ z. grind (arith, nat_tests)) w.some_node) q, tt)
  ]),
)
step_sound (free x) s r w = touch_sound s w (s.name x) (w.names_in x) r (λ u. set_edge u (u.name x) Dead) (λ u C. sound_dead u.size u.name u.edge (u.name x) C.sound)
step_sound (jump t) s r w = (w, tt)
step_sound (branch e f t) s r w = elim (cases_Bool (eqb (s.name e) (s.name f))) [ inl b ↦ rw b (w, tt) | inr b ↦ rw b (w, tt) ]
step_sound (cut l) s r w = tt
step_sound (call x q y z i j l) s r w = tt
step_sound done s r w = tt
