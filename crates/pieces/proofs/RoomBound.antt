-- Proofs: how many places the pile needs, and that it is worked off.
use Rattle.std.proofs.Common.{◌≡◌, ℕ, zero, suc, ◌+◌, ◌<◌, ◌≤◌, true, false, cond, not, ◌||◌, eqb, ltb, ◌≢◌, ◌⊎◌, List, [], ◌∷◌, length, sym, refl, ap, subst, inl, inr, arith, length-append}
use Rattle.std.specs.List.{AllByRecursion, flat_map}
use Rattle.std.proofs.lemmas.Bool.Decides.{nat_tests}
use Rattle.std.proofs.lemmas.Bool.{cases_eq, cases_Bool}
use Rattle.pieces.specs.declared.shapes.Edge.{Edge}
use Rattle.pieces.specs.declared.shapes.Edge.TheVariants.{Dead, Cell, Segment}
use Rattle.pieces.specs.Pieces.{put}
use Rattle.pieces.specs.ModelShapes.{Shape, set_edge, set_name, add_node, short, long, fresh_at, new_apart}
use Rattle.heap.specs.declared.atoms.Atom.{Atom}
use Rattle.heap.specs.declared.atoms.Atom.TheVariants.{Eq, Neq, Next, Lseg}
use Rattle.pieces.specs.ModelCover.{is_dead}
use Rattle.pieces.specs.ModelChoices.{gather}
use Rattle.pieces.specs.ModelOpening.{place, add, clash}
use Rattle.sheet.specs.Routines.{Command, assign, load, store, new, free, jump, branch, cut, call, done}
use Rattle.sheet.specs.Flow.{row_at, closes}
use Rattle.pieces.specs.ModelCases.{Case, onward, nexts, cells, cells_by, aim, at, Forward}
use Rattle.pieces.specs.ModelStages.{placing, adding, linking, running, Item, item, laid, afters}
use Rattle.pieces.specs.ModelStages.{placed}
use Rattle.pieces.specs.ModelBounds.{spare, tri, for_names, for_rows, WeighsAt, room, RoomHolds, depth, deep, DepthFalls}
use Rattle.pieces.proofs.ShapeModels.{cases_edge}
use Rattle.pieces.proofs.Choices.{all_flat, all_gather, all_map}
use Rattle.pieces.proofs.RowsForward.{goes_on, past, closed}

pub tri_up : (a b : ℕ) → a ≤ b → tri a ≤ tri b
tri_up zero b q = omega arith
tri_up (suc a) zero q = absurd (omega arith)
tri_up (suc a) (suc b) q = let ih = tri_up a b (omega arith) in omega arith

pub rows_up : (w v d e : ℕ) → w ≤ v → d ≤ e → for_rows w d ≤ for_rows v e
rows_up zero zero d e p q = omega arith
rows_up zero (suc v) d e p q = omega arith
rows_up (suc w) zero d e p q = absurd (omega arith)
rows_up (suc w) (suc v) d e p q = let ih = rows_up w v (suc d) (suc e) (omega arith) (omega arith) in omega arith

pub names_up : (p m n : ℕ) → m ≤ n → for_names p m ≤ for_names p n
names_up zero m n q = omega arith
names_up (suc p) m n q = let ih = names_up p (suc m) (suc n) (omega arith) in omega arith

-- one row that touches: at most one case more and one dead node more, or a case for each dead node
rows_touch : (w v d e b : ℕ) → w < v → e ≤ suc d → b ≤ suc (suc d) → b + for_rows w e ≤ suc (for_rows v d)
rows_touch w zero d e b p q s = absurd (omega arith)
rows_touch w (suc v) d e b p q s = let a = rows_up w v e (suc d) (omega arith) q in omega arith

pub spare_le : (m : ℕ) (edge : ℕ → Edge) → spare m edge ≤ m
spare_le zero edge = omega arith
spare_le (suc m) edge = let ih = spare_le m edge in elim (cases_Bool (eqb m 0 || not (is_dead (edge m)))) [ inl t ↦ rw t (omega arith) | inr t ↦ rw t (omega arith) ]

-- fewer dead nodes
spare_down : (m : ℕ) (f g : ℕ → Edge) → ((k : ℕ) → k < m → is_dead (f k) ≡ true → is_dead (g k) ≡ true) → spare m f ≤ spare m g
spare_down zero f g h = omega arith
spare_down (suc m) f g h =
    let ih = spare_down m f g (λ k q. h k (omega arith)) in let hm = h m (omega arith) in
    elim (cases_Bool (eqb m 0)) [
      | inl z ↦ rw z ih
      | inr z ↦ elim (cases_Bool (is_dead (f m))) [
        | inl a ↦ let b = hm a in rw (z, a, b) (omega arith)
        | inr a ↦ elim (cases_Bool (is_dead (g m))) [ inl b ↦ rw (z, a, b) (omega arith) | inr b ↦ rw (z, a, b) (omega arith) ]
      ]
    ]

-- one dead node more at most
spare_one : (m : ℕ) (f g : ℕ → Edge) (i : ℕ) → ((k : ℕ) → k < m → k ≢ i → is_dead (f k) ≡ true → is_dead (g k) ≡ true) → spare m f ≤ suc (spare m g)
spare_one zero f g i h = omega arith
spare_one (suc m) f g i h = elim (cases_eq m i) [
  | inl e ↦
      let a = spare_down m f g (λ k q. h k (omega arith) (omega arith)) in
      elim (cases_Bool (eqb m 0 || not (is_dead (f m)))) [
        | inl t ↦ elim (cases_Bool (eqb m 0 || not (is_dead (g m)))) [ inl u ↦ rw (t, u) (omega arith) | inr u ↦ rw (t, u) (omega arith) ]
        | inr t ↦ elim (cases_Bool (eqb m 0 || not (is_dead (g m)))) [ inl u ↦ rw (t, u) (omega arith) | inr u ↦ rw (t, u) (omega arith) ]
      ]
  | inr n ↦
      let ih = spare_one m f g i (λ k q. h k (omega arith)) in let hm = h m (omega arith) n in
      elim (cases_Bool (eqb m 0)) [
        | inl z ↦ rw z ih
        | inr z ↦ elim (cases_Bool (is_dead (f m))) [
          | inl a ↦ let b = hm a in rw (z, a, b) (omega arith)
          | inr a ↦ elim (cases_Bool (is_dead (g m))) [ inl b ↦ rw (z, a, b) (omega arith) | inr b ↦ rw (z, a, b) (omega arith) ]
        ]
      ]
]

-- one dead node less
spare_less : (m : ℕ) (edge : ℕ → Edge) (i : ℕ) (e : Edge) → i < m → i ≢ 0 → edge i ≡ Dead → is_dead e ≡ false → suc (spare m (put edge i e)) ≤ spare m edge
spare_less zero edge i e q z d n = absurd (omega arith)
spare_less (suc m) edge i e q z d n = elim (cases_eq m i) [
  | inl s ↦
      let a = spare_down m (put edge i e) edge (λ k l. let x : put edge i e k ≡ edge k = grind (arith, nat_tests) in rw x (λ y. y)) in
      let b : eqb m 0 ≡ false = grind (arith, nat_tests) in let c : edge m ≡ Dead = cc in let x : put edge i e m ≡ e = grind (arith, nat_tests) in
      rw (b, x, c, n) (omega arith)
  | inr s ↦
      let ih = spare_less m edge i e (omega arith) z d n in let x : put edge i e m ≡ edge m = grind (arith, nat_tests) in
      rw x (elim (cases_Bool (eqb m 0 || not (is_dead (edge m)))) [ inl t ↦ rw t (omega arith) | inr t ↦ rw t (omega arith) ])
]

-- a list with one entry for each dead node
gather_few : {A : Type 0} (m : ℕ) (edge : ℕ → Edge) (f : ℕ → List A) → ((k : ℕ) → k < m → (length (f k) ≡ 0) ⊎ ((length (f k) ≤ 1) × (k ≢ 0) × (is_dead (edge k) ≡ true))) → length (gather m f) ≤ spare m edge
gather_few zero edge f h = omega arith
gather_few (suc m) edge f h =
    let ih = gather_few m edge f (λ k q. h k (omega arith)) in let a = length-append (f m) (gather m f) in
    elim (h m (omega arith)) [
      | inl z ↦ elim (cases_Bool (eqb m 0 || not (is_dead (edge m)))) [ inl t ↦ rw t (omega arith) | inr t ↦ rw t (omega arith) ]
      | inr (o, n, d) ↦ let b : eqb m 0 ≡ false = grind (arith, nat_tests) in rw (b, d) (omega arith)
    ]

abbrev spare_of : Shape → ℕ
spare_of s = spare s.size s.edge

-- the shapes with a cell are as poor in dead nodes
long_spare : (s : Shape) (i t : ℕ) → spare_of (long s i t) ≤ spare_of s
long_spare s i t =
    let m = s.size in let a : put (put s.edge i (Cell m)) m (Segment t) m ≡ Segment t = grind (arith, nat_tests) in
    let b = spare_down m (put (put s.edge i (Cell m)) m (Segment t)) s.edge (λ k q d. elim (cases_eq k i) [ inl e ↦ absurd (grind (arith, nat_tests)) | inr e ↦ let x : put (put s.edge i (Cell m)) m (Segment t) k ≡ s.edge k = grind (arith, nat_tests) in rw x at d ]) in
    elim (cases_Bool (eqb m 0)) [ inl z ↦ rw z b | inr z ↦ rw (z, a) b ]

put_spare : (s : Shape) (i : ℕ) (e : Edge) → is_dead e ≡ false → spare_of (set_edge s i e) ≤ spare_of s
put_spare s i e n = spare_down s.size (put s.edge i e) s.edge (λ k q d. elim (cases_eq k i) [ inl f ↦ let x : put s.edge i e k ≡ e = grind (arith, nat_tests) in absurd (grind (arith, nat_tests)) | inr f ↦ let x : put s.edge i e k ≡ s.edge k = grind (arith, nat_tests) in rw x at d ])

free_spare : (s : Shape) (i : ℕ) → spare_of (set_edge s i Dead) ≤ suc (spare_of s)
free_spare s i = spare_one s.size (put s.edge i Dead) s.edge i (λ k q n d. let x : put s.edge i Dead k ≡ s.edge k = grind (arith, nat_tests) in rw x at d)

apart_spare : (s : Shape) (e : Edge) → is_dead e ≡ false → spare_of (add_node s e) ≤ spare_of s
apart_spare s e n =
    let m = s.size in let a : put s.edge m e m ≡ e = grind (arith, nat_tests) in
    let b = spare_down m (put s.edge m e) s.edge (λ k q d. let x : put s.edge m e k ≡ s.edge k = grind (arith, nat_tests) in rw x at d) in
    elim (cases_Bool (eqb m 0)) [ inl z ↦ rw z b | inr z ↦ rw (z, a, n) b ]

module _ (W : ℕ → ℕ) (r : ℕ) (s : Shape) where
  abbrev FitsRoom : ℕ → Case → Type 0
  FitsRoom b c = b + for_rows (W c.row) (spare_of c.shape) ≤ suc (for_rows (W r) (spare_of s))

  same_room : (t : ℕ) (u : Shape) → W t ≤ W r → spare_of u ≤ spare_of s → AllByRecursion (FitsRoom 1) (at t u)
  same_room t u p q = (let a = rows_up (W t) (W r) (spare_of u) (spare_of s) p q in omega arith, tt)

  by_touch : (i : ℕ) (f : Shape → Shape) → ((u : Shape) → spare_of (f u) ≤ suc (spare_of u)) → W (suc r) < W r
      → AllByRecursion (FitsRoom (length (flat_map (λ u. at (suc r) (f u)) (cells s i)))) (flat_map (λ u. at (suc r) (f u)) (cells s i))
  by_touch i f k p = go (s.edge i)
    where
      one : (u : Shape) (b : ℕ) → spare_of u ≤ spare_of s → b ≤ 2 → b + for_rows (W (suc r)) (spare_of (f u)) ≤ suc (for_rows (W r) (spare_of s))
      one u b q l = let a = k u in rows_touch (W (suc r)) (W r) (spare_of s) (spare_of (f u)) b p (omega arith) (omega arith)

      go : (e : Edge) → AllByRecursion (FitsRoom (length (flat_map (λ u. at (suc r) (f u)) (cells_by e s i)))) (flat_map (λ u. at (suc r) (f u)) (cells_by e s i))
      go Dead = tt
      go (Cell t) = (one s 1 (omega arith) (omega arith), tt)
      go (Segment t) = (one (short s i t) 2 (put_spare s i (Cell t) refl) (omega arith), (one (long s i t) 2 (long_spare s i t) (omega arith), tt))

  abbrev at_dead : ℕ → ℕ → List Case
  at_dead x j = cond (eqb j 0 || not (is_dead (s.edge j))) [] (at (suc r) (fresh_at s x j))

  few_new : (x : ℕ) → length (gather s.size (at_dead x)) ≤ spare_of s
  few_new x = gather_few s.size s.edge (at_dead x) (λ j q. elim (cases_Bool (eqb j 0 || not (is_dead (s.edge j)))) [
    | inl t ↦ inl (rw t refl)
    | inr t ↦ inr (rw t (omega arith), (λ z. grind (arith, nat_tests)), elim (cases_Bool (is_dead (s.edge j))) [ inl d ↦ d | inr d ↦ absurd (grind (arith, nat_tests)) ])
  ])

  new_room : (x b : ℕ) → b ≤ suc (spare_of s) → W (suc r) < W r → AllByRecursion (FitsRoom b) (nexts (new x) r s)
  new_room x b q p = (
    (let a = apart_spare s (Cell 0) refl in rows_touch (W (suc r)) (W r) (spare_of s) (spare_of (new_apart s x)) b p (omega arith) (omega arith)),
    all_gather (FitsRoom b) s.size (at_dead x) (λ j l. elim (cases_Bool (eqb j 0 || not (is_dead (s.edge j)))) [
      | inl t ↦ rw t tt
      | inr t ↦ rw t ((let a = put_spare s j (Cell 0) refl in rows_touch (W (suc r)) (W r) (spare_of s) (spare_of (fresh_at s x j)) b p (omega arith) (omega arith)), tt)
    ]),
  )

  cases_room : (row : Command) → WeighsAt W r row → AllByRecursion (FitsRoom (length (nexts row r s))) (nexts row r s)
  cases_room (assign x e) p = same_room (suc r) (set_name s x (s.name e)) p (omega arith)
  cases_room (load x y) p = by_touch (s.name y) (λ u. set_name u x (aim (u.edge (u.name y)))) (λ u. omega arith) p
  cases_room (store x e) p = by_touch (s.name x) (λ u. set_edge u (u.name x) (Cell (u.name e))) (λ u. let a = put_spare u (u.name x) (Cell (u.name e)) refl in omega arith) p
  cases_room (new x) p = let f = few_new x in new_room x (length (nexts (new x) r s)) (omega arith) p
  cases_room (free x) p = by_touch (s.name x) (λ u. set_edge u (u.name x) Dead) (λ u. free_spare u (u.name x)) p
  cases_room (jump t) p = same_room t s p (omega arith)
  cases_room (branch e f t) p = elim (cases_Bool (eqb (s.name e) (s.name f))) [ inl b ↦ rw b (same_room t s p.0 (omega arith)) | inr b ↦ rw b (same_room (suc r) s p.1 (omega arith)) ]
  cases_room (cut l) p = tt
  cases_room (call x q y z i j l) p = tt
  cases_room done p = tt

module _ (rows : List Command) (W : ℕ → ℕ) (weighs : (r : ℕ) → WeighsAt W r (row_at rows r)) (r : ℕ) where
  abbrev In : ℕ → ℕ → Item → Type 0
  In b n a = b + room W a.stage a.row a.shape ≤ suc n

  length-items : (l : List Case) → length (flat_map (λ c. item running c.row c.shape) l) ≡ length l
  length-items [] = refl
  length-items (c ∷ l) = ap suc (length-items l)

  run_room : (s : Shape) → AllByRecursion (In (length (afters rows running r s)) (room W running r s)) (afters rows running r s)
  run_room s =
      let l : List Case = onward rows (record { row = r; shape = s }) in
      rw (length-items l) (all_flat (In (length l) (room W running r s)) (FitsRoom W r s (length l)) (λ c. item running c.row c.shape) (λ c x. (x, tt)) l (cases_room W r s (row_at rows r) (weighs r)))

  -- atoms
  abbrev Few : Shape → List Shape → Type 0
  Few s l = (length l ≤ 1) × AllByRecursion (λ u. spare_of u ≤ spare_of s) l

  add_few : (a : Atom) (s : Shape) → Few s (add a s) ⊎ ((x : ℕ) × (y : ℕ) × (a ≡ Lseg x y))
  add_few (Eq x y) s = inl (elim (cases_Bool (eqb (s.name x) (s.name y))) [ inl t ↦ rw t (omega arith, (omega arith, tt)) | inr t ↦ rw t (omega arith, tt) ])
  add_few (Neq x y) s = inl (elim (cases_Bool (eqb (s.name x) (s.name y))) [ inl t ↦ rw t (omega arith, tt) | inr t ↦ rw t (omega arith, (omega arith, tt)) ])
  add_few (Next x y) s = inl (elim (cases_Bool (eqb (s.name x) 0)) [
    | inl t ↦ rw t (omega arith, tt)
    | inr t ↦ elim (cases_Bool (is_dead (s.edge (s.name x)))) [ inl d ↦ rw (t, d) (omega arith, (put_spare s (s.name x) (Cell (s.name y)) refl, tt)) | inr d ↦ rw (t, d) (omega arith, tt) ]
  ])
  add_few (Lseg x y) s = inr (x, y, refl)

  length-adds : (l : List Atom) (us : List Shape) → length (flat_map (λ u. item (adding l) r u) us) ≡ length us
  length-adds l [] = refl
  length-adds l (u ∷ us) = ap suc (length-adds l us)

  adds_room : (l : List Atom) (s : Shape) (us : List Shape) → Few s us → AllByRecursion (In (length (flat_map (λ u. item (adding l) r u) us)) (room W (adding l) r s)) (flat_map (λ u. item (adding l) r u) us)
  adds_room l s us (n, f) = rw (length-adds l us) (all_flat (In (length us) (room W (adding l) r s)) (λ u. spare_of u ≤ spare_of s) (λ u. item (adding l) r u)
      (λ u q. ((let a = tri_up (spare_of u) (spare_of s) q in let b = rows_up (W r) (W r) (spare_of u) (spare_of s) (omega arith) q in omega arith), tt)) us f)

  few_of : (a : Atom) (s : Shape) → ((x y : ℕ) → a ≢ Lseg x y) → Few s (add a s)
  few_of a s n = elim (add_few a s) [ inl f ↦ f | inr (x, y, e) ↦ absurd (n x y e) ]

  add_room : (l : List Atom) (s : Shape) → AllByRecursion (In (length (afters rows (adding l) r s)) (room W (adding l) r s)) (afters rows (adding l) r s)
  add_room [] s = (omega arith, tt)
  add_room (Eq x y ∷ l) s = adds_room l s (add (Eq x y) s) (few_of (Eq x y) s (λ a b e. grind (arith, nat_tests)))
  add_room (Neq x y ∷ l) s = adds_room l s (add (Neq x y) s) (few_of (Neq x y) s (λ a b e. grind (arith, nat_tests)))
  add_room (Next x y ∷ l) s = adds_room l s (add (Next x y) s) (few_of (Next x y) s (λ a b e. grind (arith, nat_tests)))
  add_room (Lseg x y ∷ l) s = elim (cases_Bool (eqb (s.name x) (s.name y))) [ inl t ↦ rw t (omega arith, tt) | inr t ↦ rw t (omega arith, tt) ]

  -- a segment laid
  link_room : (i j : ℕ) (l : List Atom) (s : Shape) → i < s.size → AllByRecursion (In (length (afters rows (linking i j l) r s)) (room W (linking i j l) r s)) (afters rows (linking i j l) r s)
  link_room i j l s p = elim (cases_Bool (eqb i 0 || not (is_dead (s.edge i)))) [
    | inl t ↦ rw t tt
    | inr t ↦
        let z : i ≢ 0 = (λ e. grind (arith, nat_tests)) in
        let e : s.edge i ≡ Dead = (elim (cases_edge (s.edge i)) [ inl e ↦ e | inr e ↦ absurd (grind (arith, nat_tests)) ]) in
        let g = few e z in
        rw t (
          child (suc (length (gather s.size (laid s i j l r)))) j e z (omega arith),
          all_gather (In (suc (length (gather s.size (laid s i j l r)))) (room W (linking i j l) r s)) s.size (laid s i j l r)
              (λ o q. elim (cases_Bool (eqb o i || (eqb o j || (eqb o 0 || not (is_dead (s.edge o)))))) [ inl u ↦ rw u tt | inr u ↦ rw u (child (suc (length (gather s.size (laid s i j l r)))) o e z (omega arith), tt) ]),
        )
  ]
    where
      few : s.edge i ≡ Dead → i ≢ 0 → suc (length (gather s.size (laid s i j l r))) ≤ spare_of s
      few e z =
          let a = gather_few s.size (put s.edge i (Segment j)) (laid s i j l r) (λ o q. elim (cases_Bool (eqb o i || (eqb o j || (eqb o 0 || not (is_dead (s.edge o)))))) [
            | inl u ↦ inl (rw u refl)
            | inr u ↦ inr (rw u (omega arith), (λ y. grind (arith, nat_tests)), (let x : put s.edge i (Segment j) o ≡ s.edge o = grind (arith, nat_tests) in rw x (elim (cases_Bool (is_dead (s.edge o))) [ inl d ↦ d | inr d ↦ absurd (grind (arith, nat_tests)) ])))
          ]) in
          let b = spare_less s.size s.edge i (Segment j) p z e refl in omega arith

      child : (b o : ℕ) → s.edge i ≡ Dead → i ≢ 0 → b ≤ spare_of s → b + (tri (spare_of (set_edge s i (Segment o))) + for_rows (W r) (spare_of (set_edge s i (Segment o)))) ≤ suc (tri (spare_of s) + for_rows (W r) (spare_of s))
      child b o e z q =
          let c = spare_less s.size s.edge i (Segment o) p z e refl in
          let d = rows_up (W r) (W r) (spare_of (set_edge s i (Segment o))) (spare_of s) (omega arith) (omega arith) in
          let t = tri_step (spare_of (set_edge s i (Segment o))) (spare_of s) c in omega arith
        where
          tri_step : (a b : ℕ) → suc a ≤ b → b + tri a ≤ suc (tri b)
          tri_step a zero q = absurd (omega arith)
          tri_step a (suc b) q = let x = tri_up a b (omega arith) in omega arith

  -- names placed
  few_placed : (cs : List ℕ) (l : List Atom) (u : Shape) → length (placed cs l r u) ≤ 1
  few_placed cs l u = elim (cases_Bool (clash cs u l)) [ inl t ↦ rw t (omega arith) | inr t ↦ rw t (omega arith) ]

  length_places : (cs : List ℕ) (l : List Atom) (us : List Shape) → length (flat_map (placed cs l r) us) ≤ length us
  length_places cs l [] = omega arith
  length_places cs l (u ∷ us) =
      let a = few_placed cs l u in let ih = length_places cs l us in let e = length-append (placed cs l r u) (flat_map (placed cs l r) us) in omega arith

  length-each : {A : Type 0} (f : ℕ → A) (m : ℕ) → length (gather m (λ k. f k ∷ [])) ≡ m
  length-each f zero = refl
  length-each f (suc m) = ap suc (length-each f m)

  placed_room : (cs : List ℕ) (l : List Atom) (b n : ℕ) (u : Shape) → b + room W (placing cs l) r u ≤ suc n → AllByRecursion (In b n) (placed cs l r u)
  placed_room cs l b n u q = elim (cases_Bool (clash cs u l)) [ inl t ↦ rw t tt | inr t ↦ rw t (q, tt) ]

  place_room : (c : ℕ) (cs : List ℕ) (l : List Atom) (s : Shape) → AllByRecursion (In (length (afters rows (placing (c ∷ cs) l) r s)) (room W (placing (c ∷ cs) l) r s)) (afters rows (placing (c ∷ cs) l) r s)
  place_room c cs l s =
      let m = s.size in let p = length cs in
      let n : length (place c s) ≡ suc m = ap suc (length-each (set_name s c) m) in
      let few = length_places cs l (place c s) in
      let sh : suc m + p ≡ m + suc p = omega arith in
      let a = names_up p m (suc m) (omega arith) in let b = tri_up (m + p) (m + suc p) (omega arith) in let d = rows_up (W r) (W r) (m + p) (m + suc p) (omega arith) (omega arith) in
      let e : tri (suc m + p) ≡ tri (m + suc p) = ap tri sh in let g : for_rows (W r) (suc m + p) ≡ for_rows (W r) (m + suc p) = ap (for_rows (W r)) sh in
      let whole = room W (placing (c ∷ cs) l) r s in
      all_map (In (suc m) whole) (In (length (afters rows (placing (c ∷ cs) l) r s)) whole) (λ it q. omega arith) (afters rows (placing (c ∷ cs) l) r s)
      (all_flat (In (suc m) whole) (λ u. suc m + room W (placing cs l) r u ≤ suc whole) (placed cs l r) (placed_room cs l (suc m) whole) (place c s)
      (omega arith, all_gather (λ u. suc m + room W (placing cs l) r u ≤ suc whole) m (λ k. set_name s c k ∷ []) (λ k q. (omega arith, tt))))

pub room_holds : RoomHolds
room_holds rows W weighs (placing [] l) r s g =
    let a = spare_le s.size s.edge in let z : s.size + 0 ≡ s.size = omega arith in
    let b = tri_up (spare_of s) s.size a in let c = rows_up (W r) (W r) (spare_of s) s.size (omega arith) a in
    (rw z (omega arith), tt)
room_holds rows W weighs (placing (c ∷ cs) l) r s g = place_room rows W weighs r c cs l s
room_holds rows W weighs (adding l) r s g = add_room rows W weighs r l s
room_holds rows W weighs (linking i j l) r s g = link_room rows W weighs r i j l s g.1
room_holds rows W weighs running r s g = run_room rows W weighs r s

-- eight names and a weight of eight: the pile of 192 places is enough
enough : for_names 8 1 + (tri (1 + 8) + for_rows 8 (1 + 8)) ≡ 181
enough = refl

-- and it closes
module _ (rows : List Command) (fwd : Forward rows) where
  abbrev Nearer : ℕ → Item → Type 0
  Nearer n a = deep rows a.stage a.row a.shape < n

  inside : (n : ℕ) → closes (row_at rows n) ≡ false → n ≤ length rows
  inside n e = elim (cases_Bool (ltb (length rows) n)) [
    | inl t ↦ let q : length rows < n = grind (arith, nat_tests) in let d = past rows n q in absurd (grind (arith, nat_tests))
    | inr t ↦ grind (arith, nat_tests)
  ]

  deeper : (c a : Case) → closes (row_at rows c.row) ≡ false → (c.row < a.row) ⊎ (closes (row_at rows a.row) ≡ true) → depth rows a < depth rows c
  deeper c a e o =
      let q = inside c.row e in
      rw e (elim (cases_Bool (closes (row_at rows a.row))) [
        | inl t ↦ rw t (omega arith)
        | inr t ↦ rw t (elim o [ inl l ↦ omega arith | inr u ↦ absurd (grind (arith, nat_tests)) ])
      ])

  depth_low : (c : Case) → depth rows c < suc (suc (length rows))
  depth_low c = elim (cases_Bool (closes (row_at rows c.row))) [ inl t ↦ rw t (omega arith) | inr t ↦ rw t (omega arith) ]

  run_falls : (r : ℕ) (s : Shape) → AllByRecursion (Nearer (deep rows running r s)) (afters rows running r s)
  run_falls r s =
      let c : Case = record { row = r; shape = s } in
      elim (cases_Bool (closes (row_at rows r))) [
        | inl t ↦ subst (λ l. AllByRecursion (Nearer (deep rows running r s)) (flat_map (λ a. item running a.row a.shape) l)) (sym (closed (row_at rows r) r s t)) tt
        | inr t ↦ all_flat (Nearer (deep rows running r s)) (λ a. (r < a.row) ⊎ (closes (row_at rows a.row) ≡ true)) (λ a. item running a.row a.shape) (λ a o. (deeper c a t o, tt)) (onward rows c) (goes_on rows (row_at rows r) r s (fwd r))
      ]

  adds_fall : (r : ℕ) (b : Atom) (l : List Atom) (s : Shape) (us : List Shape) → AllByRecursion (λ u. spare_of u ≤ spare_of s) us → AllByRecursion (Nearer (deep rows (adding (b ∷ l)) r s)) (flat_map (λ u. item (adding l) r u) us)
  adds_fall r b l s us f = all_flat (Nearer (deep rows (adding (b ∷ l)) r s)) (λ u. spare_of u ≤ spare_of s) (λ u. item (adding l) r u) (λ u q. (omega arith, tt)) us f

  add_falls : (r : ℕ) (l : List Atom) (s : Shape) → AllByRecursion (Nearer (deep rows (adding l) r s)) (afters rows (adding l) r s)
  add_falls r [] s = (let a = depth_low (record { row = r; shape = s }) in omega arith, tt)
  add_falls r (Eq x y ∷ l) s = adds_fall r (Eq x y) l s (add (Eq x y) s) (elim (cases_Bool (eqb (s.name x) (s.name y))) [ inl t ↦ rw t (omega arith, tt) | inr t ↦ rw t tt ])
  add_falls r (Neq x y ∷ l) s = adds_fall r (Neq x y) l s (add (Neq x y) s) (elim (cases_Bool (eqb (s.name x) (s.name y))) [ inl t ↦ rw t tt | inr t ↦ rw t (omega arith, tt) ])
  add_falls r (Next x y ∷ l) s = adds_fall r (Next x y) l s (add (Next x y) s) (elim (cases_Bool (eqb (s.name x) 0)) [
    | inl t ↦ rw t tt
    | inr t ↦ elim (cases_Bool (is_dead (s.edge (s.name x)))) [ inl d ↦ rw (t, d) (put_spare s (s.name x) (Cell (s.name y)) refl, tt) | inr d ↦ rw (t, d) tt ]
  ])
  add_falls r (Lseg x y ∷ l) s = elim (cases_Bool (eqb (s.name x) (s.name y))) [ inl t ↦ rw t (omega arith, tt) | inr t ↦ rw t (omega arith, tt) ]

  link_falls : (r i j : ℕ) (l : List Atom) (s : Shape) → i < s.size → AllByRecursion (Nearer (deep rows (linking i j l) r s)) (afters rows (linking i j l) r s)
  link_falls r i j l s p = elim (cases_Bool (eqb i 0 || not (is_dead (s.edge i)))) [
    | inl t ↦ rw t tt
    | inr t ↦
        let z : i ≢ 0 = (λ e. grind (arith, nat_tests)) in
        let e : s.edge i ≡ Dead = (elim (cases_edge (s.edge i)) [ inl e ↦ e | inr e ↦ absurd (grind (arith, nat_tests)) ]) in
        let a = spare_less s.size s.edge i (Segment j) p z e refl in
        rw t (
          omega arith,
          all_gather (Nearer (deep rows (linking i j l) r s)) s.size (laid s i j l r)
              (λ o q. elim (cases_Bool (eqb o i || (eqb o j || (eqb o 0 || not (is_dead (s.edge o)))))) [ inl u ↦ rw u tt | inr u ↦ let b = spare_less s.size s.edge i (Segment o) p z e refl in rw u (omega arith, tt) ]),
        )
  ]

  placed_falls : (r : ℕ) (cs : List ℕ) (l : List Atom) (n : ℕ) (u : Shape) → deep rows (placing cs l) r u < n → AllByRecursion (Nearer n) (placed cs l r u)
  placed_falls r cs l n u q = elim (cases_Bool (clash cs u l)) [ inl t ↦ rw t tt | inr t ↦ rw t (q, tt) ]

  place_falls : (r c : ℕ) (cs : List ℕ) (l : List Atom) (s : Shape) → AllByRecursion (Nearer (deep rows (placing (c ∷ cs) l) r s)) (afters rows (placing (c ∷ cs) l) r s)
  place_falls r c cs l s = all_flat (Nearer (deep rows (placing (c ∷ cs) l) r s)) (λ u. u.size ≤ suc s.size) (placed cs l r) (λ u q. placed_falls r cs l (deep rows (placing (c ∷ cs) l) r s) u (omega arith)) (place c s)
      (omega arith, all_gather (λ u. u.size ≤ suc s.size) s.size (λ k. set_name s c k ∷ []) (λ k q. (omega arith, tt)))

pub depth_falls : DepthFalls
depth_falls rows fwd (placing [] l) r s g = (let a = spare_le s.size s.edge in omega arith, tt)
depth_falls rows fwd (placing (c ∷ cs) l) r s g = place_falls rows fwd r c cs l s
depth_falls rows fwd (adding l) r s g = add_falls rows fwd r l s
depth_falls rows fwd (linking i j l) r s g = link_falls rows fwd r i j l s g.1
depth_falls rows fwd running r s g = run_falls rows fwd r s
