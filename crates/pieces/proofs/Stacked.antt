-- Proofs: the pile never runs out: what lies on it has room for all that comes of it.
use Rattle.std.proofs.Common.{◌≡◌, ℕ, zero, suc, ◌+◌, ◌<◌, ◌≤◌, false, cond, not, ◌||◌, eqb, ltb, List, [], ◌∷◌, ◌++◌, length, refl, inl, inr, arith, length-append}
use Rattle.std.specs.List.{AllByRecursion, flat_map}
use Rattle.std.proofs.lemmas.Bool.Decides.{nat_tests}
use Rattle.std.proofs.lemmas.Bool.{cases_Bool}
use Rattle.heap.specs.declared.atoms.Atom.{Atom}
use Rattle.heap.specs.declared.atoms.Atom.TheVariants.{Eq, Neq, Next, Lseg}
use Rattle.sheet.specs.Routines.{Command, assign, load, store, new, free, jump, branch, cut, call, done}
use Rattle.sheet.specs.Flow.{row_at, closes}
use Rattle.pieces.specs.declared.shapes.Edge.TheVariants.{Dead, Cell}
use Rattle.pieces.specs.ModelShapes.{Shape, set_edge, set_name, fresh_at}
use Rattle.pieces.specs.ModelCover.{is_dead}
use Rattle.pieces.specs.ModelOpening.{place, add, clash}
use Rattle.pieces.specs.ModelCases.{Case, onward, nexts, cells, aim, at}
use Rattle.pieces.specs.ModelStages.{Stage, placing, adding, linking, running, Item, item, placed, laid, afters, Kept, nexts_of}
use Rattle.pieces.specs.ModelBounds.{for_rows, spare, room, WeighsAt, Narrow, Small, Ready, Stacked}
use Rattle.pieces.proofs.Choices.{all_flat, all_gather, all_any, all_both}
use Rattle.pieces.proofs.ShapeModels.{cases_edge}
use Rattle.pieces.proofs.RowsForward.{past}
use Rattle.pieces.proofs.RoomBound.{room_holds}
use Rattle.pieces.proofs.ItemsLead.{keeps_items}

-- nodes stay few
module _ (W : ℕ → ℕ) (r : ℕ) (s : Shape) where
  abbrev FitsCase : Case → Type 0
  FitsCase c = c.shape.size + W c.row ≤ 17

  wider : (i : ℕ) → AllByRecursion (λ u. u.size ≤ suc s.size) (cells s i)
  wider i = elim (cases_edge (s.edge i)) [
    | inl e ↦ rw e tt
    | inr (inl (t, e)) ↦ rw e (omega arith, tt)
    | inr (inr (t, e)) ↦ rw e (omega arith, (omega arith, tt))
  ]

  by_touch : (i : ℕ) (f : Shape → Shape) → ((u : Shape) → (f u).size ≡ u.size) → W (suc r) < W r → s.size + W r ≤ 17 → AllByRecursion FitsCase (flat_map (λ u. at (suc r) (f u)) (cells s i))
  by_touch i f same l n = all_flat FitsCase (λ u. u.size ≤ suc s.size) (λ u. at (suc r) (f u)) (λ u q. (let e = same u in omega arith, tt)) (cells s i) (wider i)

  narrow_rows : (w : Command) → WeighsAt W r w → s.size + W r ≤ 17 → AllByRecursion FitsCase (nexts w r s)
  narrow_rows (assign x e) l n = (omega arith, tt)
  narrow_rows (load x y) l n = by_touch (s.name y) (λ u. set_name u x (aim (u.edge (u.name y)))) (λ u. refl) l n
  narrow_rows (store x e) l n = by_touch (s.name x) (λ u. set_edge u (u.name x) (Cell (u.name e))) (λ u. refl) l n
  narrow_rows (new x) l n = (
    omega arith,
    all_gather FitsCase s.size (λ j. cond (eqb j 0 || not (is_dead (s.edge j))) [] (at (suc r) (fresh_at s x j)))
        (λ j q. elim (cases_Bool (eqb j 0 || not (is_dead (s.edge j)))) [ inl t ↦ rw t tt | inr t ↦ rw t (omega arith, tt) ]),
  )
  narrow_rows (free x) l n = by_touch (s.name x) (λ u. set_edge u (u.name x) Dead) (λ u. refl) l n
  narrow_rows (jump t) l n = (omega arith, tt)
  narrow_rows (branch e f t) l n = elim (cases_Bool (eqb (s.name e) (s.name f))) [ inl b ↦ rw b (let a = l.0 in omega arith, tt) | inr b ↦ rw b (let a = l.1 in omega arith, tt) ]
  narrow_rows (cut m) l n = tt
  narrow_rows (call x q y z i j m) l n = tt
  narrow_rows done l n = tt

module _ (rows : List Command) (W : ℕ → ℕ) (weighs : (r : ℕ) → WeighsAt W r (row_at rows r)) (small : (r : ℕ) → Small (length rows) (row_at rows r)) (few : length rows ≤ 40) where
  abbrev Slim : Item → Type 0
  Slim it = Narrow W it.stage it.row it.shape

  adds_slim : (r : ℕ) (l : List Atom) (s : Shape) (us : List Shape) → s.size + W r ≤ 17 → AllByRecursion (λ u. u.size ≡ s.size) us → AllByRecursion Slim (flat_map (λ u. item (adding l) r u) us)
  adds_slim r l s us n a = all_flat Slim (λ u. u.size ≡ s.size) (λ u. item (adding l) r u) (λ u e. (omega arith, tt)) us a

  placed_slim : (cs : List ℕ) (l : List Atom) (r : ℕ) (u : Shape) → u.size + (length cs + W r) ≤ 17 → AllByRecursion Slim (placed cs l r u)
  placed_slim cs l r u q = elim (cases_Bool (clash cs u l)) [ inl t ↦ rw t tt | inr t ↦ rw t (q, tt) ]

  pub stays_slim : (t : Stage) (r : ℕ) (s : Shape) → Narrow W t r s → AllByRecursion Slim (afters rows t r s)
  stays_slim (placing [] l) r s n = (omega arith, tt)
  stays_slim (placing (c ∷ cs) l) r s n = all_flat Slim (λ u. u.size + (length cs + W r) ≤ 17) (placed cs l r) (placed_slim cs l r) (place c s)
      (omega arith, all_gather (λ u. u.size + (length cs + W r) ≤ 17) s.size (λ k. set_name s c k ∷ []) (λ k q. (omega arith, tt)))
  stays_slim (adding []) r s n = (n, tt)
  stays_slim (adding (Eq x y ∷ l)) r s n = adds_slim r l s (add (Eq x y) s) n (elim (cases_Bool (eqb (s.name x) (s.name y))) [ inl t ↦ rw t (refl, tt) | inr t ↦ rw t tt ])
  stays_slim (adding (Neq x y ∷ l)) r s n = adds_slim r l s (add (Neq x y) s) n (elim (cases_Bool (eqb (s.name x) (s.name y))) [ inl t ↦ rw t tt | inr t ↦ rw t (refl, tt) ])
  stays_slim (adding (Next x y ∷ l)) r s n = adds_slim r l s (add (Next x y) s) n (elim (cases_Bool (eqb (s.name x) 0)) [
    | inl t ↦ rw t tt
    | inr t ↦ elim (cases_Bool (is_dead (s.edge (s.name x)))) [ inl d ↦ rw (t, d) (refl, tt) | inr d ↦ rw (t, d) tt ]
  ])
  stays_slim (adding (Lseg x y ∷ l)) r s n = elim (cases_Bool (eqb (s.name x) (s.name y))) [ inl t ↦ rw t (n, tt) | inr t ↦ rw t (n, tt) ]
  stays_slim (linking i j l) r s n = elim (cases_Bool (eqb i 0 || not (is_dead (s.edge i)))) [
    | inl t ↦ rw t tt
    | inr t ↦ rw t (n, all_gather Slim s.size (laid s i j l r) (λ o q. elim (cases_Bool (eqb o i || (eqb o j || (eqb o 0 || not (is_dead (s.edge o)))))) [ inl u ↦ rw u tt | inr u ↦ rw u (n, tt) ]))
  ]
  stays_slim running r s n = all_flat Slim (FitsCase W r s) (λ c. item running c.row c.shape) (λ c x. (x, tt)) (onward rows (record { row = r; shape = s })) (narrow_rows W r s (row_at rows r) (weighs r) n)

  -- rows stay low
  abbrev Low : Case → Type 0
  Low c = c.row ≤ 41

  inside : (r : ℕ) → closes (row_at rows r) ≡ false → r ≤ length rows
  inside r e = elim (cases_Bool (ltb (length rows) r)) [
    | inl t ↦ let q : length rows < r = grind (arith, nat_tests) in let d = past rows r q in absurd (grind (arith, nat_tests))
    | inr t ↦ grind (arith, nat_tests)
  ]

  low_touch : (r : ℕ) (f : Shape → Shape) (us : List Shape) → suc r ≤ 41 → AllByRecursion Low (flat_map (λ u. at (suc r) (f u)) us)
  low_touch r f us q = all_flat Low (λ u. Unit {0}) (λ u. at (suc r) (f u)) (λ u b. (q, tt)) us (all_any (λ u. Unit {0}) (λ u. tt) us)

  low_rows : (w : Command) (r : ℕ) (s : Shape) → Small (length rows) w → (closes w ≡ false → suc r ≤ 41) → AllByRecursion Low (nexts w r s)
  low_rows (assign x e) r s m q = (q refl, tt)
  low_rows (load x y) r s m q = low_touch r (λ u. set_name u x (aim (u.edge (u.name y)))) (cells s (s.name y)) (q refl)
  low_rows (store x e) r s m q = low_touch r (λ u. set_edge u (u.name x) (Cell (u.name e))) (cells s (s.name x)) (q refl)
  low_rows (new x) r s m q = (
    q refl,
    all_gather Low s.size (λ j. cond (eqb j 0 || not (is_dead (s.edge j))) [] (at (suc r) (fresh_at s x j)))
        (λ j l. elim (cases_Bool (eqb j 0 || not (is_dead (s.edge j)))) [ inl t ↦ rw t tt | inr t ↦ rw t (q refl, tt) ]),
  )
  low_rows (free x) r s m q = low_touch r (λ u. set_edge u (u.name x) Dead) (cells s (s.name x)) (q refl)
  low_rows (jump t) r s m q = (let a = m.1 in omega arith, tt)
  low_rows (branch e f t) r s m q = let a = m.3 in elim (cases_Bool (eqb (s.name e) (s.name f))) [ inl b ↦ rw b (omega arith, tt) | inr b ↦ rw b (q refl, tt) ]
  low_rows (cut l) r s m q = tt
  low_rows (call x c y z i j l) r s m q = tt
  low_rows done r s m q = tt

  abbrev Lowly : Item → Type 0
  Lowly it = it.row ≤ 41

  adds_low : (l : List Atom) (r : ℕ) (us : List Shape) → r ≤ 41 → AllByRecursion Lowly (flat_map (λ u. item (adding l) r u) us)
  adds_low l r us q = all_flat Lowly (λ u. Unit {0}) (λ u. item (adding l) r u) (λ u b. (q, tt)) us (all_any (λ u. Unit {0}) (λ u. tt) us)

  placed_low : (cs : List ℕ) (l : List Atom) (r : ℕ) (u : Shape) → r ≤ 41 → AllByRecursion Lowly (placed cs l r u)
  placed_low cs l r u q = elim (cases_Bool (clash cs u l)) [ inl t ↦ rw t tt | inr t ↦ rw t (q, tt) ]

  stays_low : (t : Stage) (r : ℕ) (s : Shape) → r ≤ 41 → AllByRecursion Lowly (afters rows t r s)
  stays_low (placing [] l) r s q = (q, tt)
  stays_low (placing (c ∷ cs) l) r s q = all_flat Lowly (λ u. Unit {0}) (placed cs l r) (λ u b. placed_low cs l r u q) (place c s) (all_any (λ u. Unit {0}) (λ u. tt) (place c s))
  stays_low (adding []) r s q = (q, tt)
  stays_low (adding (Eq x y ∷ l)) r s q = adds_low l r (add (Eq x y) s) q
  stays_low (adding (Neq x y ∷ l)) r s q = adds_low l r (add (Neq x y) s) q
  stays_low (adding (Next x y ∷ l)) r s q = adds_low l r (add (Next x y) s) q
  stays_low (adding (Lseg x y ∷ l)) r s q = elim (cases_Bool (eqb (s.name x) (s.name y))) [ inl t ↦ rw t (q, tt) | inr t ↦ rw t (q, tt) ]
  stays_low (linking i j l) r s q = elim (cases_Bool (eqb i 0 || not (is_dead (s.edge i)))) [
    | inl t ↦ rw t tt
    | inr t ↦ rw t (q, all_gather Lowly s.size (laid s i j l r) (λ o p. elim (cases_Bool (eqb o i || (eqb o j || (eqb o 0 || not (is_dead (s.edge o)))))) [ inl u ↦ rw u tt | inr u ↦ rw u (q, tt) ]))
  ]
  stays_low running r s q = all_flat Lowly Low (λ c. item running c.row c.shape) (λ c x. (x, tt)) (onward rows (record { row = r; shape = s }))
      (low_rows (row_at rows r) r s (small r) (λ e. let i = inside r e in omega arith))

  -- what comes of a ready item is ready
  pub stays_ready : (it : Item) → Ready W it → AllByRecursion (Ready W) (nexts_of rows it)
  stays_ready it R = all_both Kept (λ a. Slim a × Lowly a) (Ready W) (λ a k b. record { proper = k; narrow = b.0; low = b.1 }) (nexts_of rows it)
      (keeps_items rows it.stage it.row it.shape R.proper)
      (all_both Slim Lowly (λ a. Slim a × Lowly a) (λ a x y. (x, y)) (nexts_of rows it) (stays_slim it.stage it.row it.shape R.narrow) (stays_low it.stage it.row it.shape R.low))

  abbrev room_of : Item → ℕ
  room_of it = room W it.stage it.row it.shape

  rows_some : (w d : ℕ) → 1 ≤ for_rows w d
  rows_some zero d = omega arith
  rows_some (suc w) d = omega arith

  room_some : (t : Stage) (r : ℕ) (s : Shape) → 1 ≤ room W t r s
  room_some (placing cs l) r s = let a = rows_some (W r) (s.size + length cs) in omega arith
  room_some (adding l) r s = let a = rows_some (W r) (spare s.size s.edge) in omega arith
  room_some (linking i j l) r s = let a = rows_some (W r) (spare s.size s.edge) in omega arith
  room_some running r s = rows_some (W r) (spare s.size s.edge)

  stack : (cap b n : ℕ) (rest l : List Item) → length l ≤ b → length rest + n ≤ cap → AllByRecursion (λ a. Ready W a × (b + room_of a ≤ suc n)) l → Stacked W cap rest → Stacked W cap (l ++ rest)
  stack cap b n rest [] q c a S = S
  stack cap b n rest (x ∷ l) q c a S =
      let e = length-append l rest in let r = a.0.1 in
      (a.0.0, omega arith, stack cap b n rest l (omega arith) c a.1 S)

  fits_each : (it : Item) → Ready W it → AllByRecursion (λ a. length (nexts_of rows it) + room_of a ≤ suc (room_of it)) (nexts_of rows it)
  fits_each it R = room_holds rows W weighs it.stage it.row it.shape R.proper

  -- the items behind the top one, in its place
  pub stacked_next : (cap : ℕ) (it : Item) (rest : List Item) → Stacked W cap (it ∷ rest) → Stacked W cap (nexts_of rows it ++ rest)
  stacked_next cap it rest (R, q, S) = stack cap (length (nexts_of rows it)) (room_of it) rest (nexts_of rows it) (omega arith) q
      (all_both (Ready W) (λ a. length (nexts_of rows it) + room_of a ≤ suc (room_of it)) (λ a. Ready W a × (length (nexts_of rows it) + room_of a ≤ suc (room_of it))) (λ a x y. (x, y)) (nexts_of rows it) (stays_ready it R) (fits_each it R)) S

  few_of : (n m : ℕ) (l : List Item) → AllByRecursion (λ a. n + room_of a ≤ suc m) l → length l ≤ n → 1 ≤ m → n ≡ length l → length l ≤ m
  few_of n m [] a q p e = omega arith
  few_of n m (x ∷ l) a q p e = let s = room_some x.stage x.row x.shape in let b = a.0 in omega arith

  -- there are places for them
  pub room_next : (cap : ℕ) (it : Item) (rest : List Item) → Stacked W cap (it ∷ rest) → length (nexts_of rows it) + length rest ≤ cap
  room_next cap it rest (R, q, S) =
      let n = few_of (length (nexts_of rows it)) (room_of it) (nexts_of rows it) (fits_each it R) (omega arith) (room_some it.stage it.row it.shape) refl in omega arith
