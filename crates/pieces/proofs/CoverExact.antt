use Rattle.std.proofs.Common.{◌≡◌, ℕ, zero, suc, ◌<◌, ◌≤◌, true, false, cond, not, eqb, ◌≢◌, List, [], ◌∷◌, ◌++◌, Some, None, Option, sym, refl, ap, ◌∙◌, subst, inl, inr, arith}
use mathlib.Core.Path.{fun_ext}
use Rattle.std.proofs.lemmas.Bool.Decides.{nat_tests}
use Rattle.std.proofs.lemmas.Bool.{cases_eq, and_parts}
use Rattle.heap.specs.Heaps.{Heap, Empty, without}
use Rattle.pieces.specs.ModelRuns.{minus, Run, stop, step}
use Rattle.pieces.specs.declared.shapes.Edge.{Edge}
use Rattle.pieces.specs.declared.shapes.Edge.TheVariants.{Dead, Cell, Segment}
use Rattle.pieces.specs.Pieces.{put}
use Rattle.pieces.specs.ModelShapes.{Sound, Model, Two}
use Rattle.heap.specs.declared.atoms.Atom.{Atom}
use Rattle.heap.specs.declared.atoms.Atom.TheVariants.{Eq, Neq, Next, Lseg}
use Rattle.heap.specs.Lists.{Holds}
use Rattle.pieces.specs.ModelCover.{Takes, is_dead, all_dead, walk, if_cell, covered}
use Rattle.pieces.proofs.SegmentRuns.{run_join, minus-++, lseg_run, run_lseg, minus-out, two_cells, run_unique}
use Rattle.pieces.proofs.ShapeSteps.{First, first, run_end, dead_node}
use Rattle.pieces.proofs.ShapeModels.{val_apart, cases_edge, apart, off, take, take_as}

-- the two readings of a list of atoms
pub holds_takes : (env : ℕ → ℕ) (r : List Atom) (h : Heap) → Holds env r h → Takes env r h
holds_takes env [] h H = H
holds_takes env (Eq x y ∷ r) h H = (H.0, holds_takes env r h H.1)
holds_takes env (Neq x y ∷ r) h H = (H.0, holds_takes env r h H.1)
holds_takes env (Next x y ∷ r) h (k, l, s, c, H) =
    let a = s (env x) in let b = c.links in (
      c.some_address,
      grind (arith, nat_tests),
      subst (λ g. Takes env r g) (fun_ext (λ b. let y = s b in let z = c.alone b in elim (cases_eq b (env x)) [ inl e ↦ grind (arith, nat_tests) | inr n ↦ let q = z n in grind (arith, nat_tests) ])) (holds_takes env r l H),
    )
holds_takes env (Lseg x y ∷ r) h (k, l, s, c, H) =
    let t = lseg_run h l s c in
    (t.cells, t.run, subst (λ g. Takes env r g) (fun_ext t.left) (holds_takes env r l H))

pub takes_holds : (env : ℕ → ℕ) (r : List Atom) (h : Heap) → Takes env r h → Holds env r h
takes_holds env [] h H = H
takes_holds env (Eq x y ∷ r) h H = (H.0, takes_holds env r h H.1)
takes_holds env (Neq x y ∷ r) h H = (H.0, takes_holds env r h H.1)
takes_holds env (Next x y ∷ r) h (nz, l, H) = (
  λ a. cond (eqb a (env x)) (Some (env y)) None,
  without h (env x),
  λ a. grind (arith, nat_tests),
  record { some_address = nz; links = grind (arith, nat_tests); alone = λ a n. grind (arith, nat_tests) },
  takes_holds env r (without h (env x)) H,
)
takes_holds env (Lseg x y ∷ r) h (xs, t, H) =
    let k = run_lseg t in (k.0, minus h xs, k.1, k.2, takes_holds env r (minus h xs) H)

-- what a walk leaves
record Walked (m : ℕ) (name : ℕ → ℕ) (val : ℕ → ℕ) (h : Heap) (i j : ℕ) (left : ℕ → Edge) : Type 0 where
  cells : List ℕ
  run : Run h (val i) (val j) cells
  model : Model m left val (minus h cells)
  sound : Sound m left name

pub sound_dead : (m : ℕ) (name : ℕ → ℕ) (edge : ℕ → Edge) (i : ℕ) → Sound m edge name → Sound m (put edge i Dead) name
sound_dead m name edge i w = record {
  some_node = w.some_node;
  nil_dead = let x = w.nil_dead in grind (arith, nat_tests);
  cells_in = λ k u q c. w.cells_in k u q (grind (arith, nat_tests));
  segs_in = λ k u q c. w.segs_in k u q (grind (arith, nat_tests));
  names_in = w.names_in;
}

pub off_zero : (m : ℕ) (name : ℕ → ℕ) (edge : ℕ → Edge) (val : ℕ → ℕ) (h : Heap) (i : ℕ) → i < m → Sound m edge name → Model m edge val h → edge i ≢ Dead → val i ≢ 0
off_zero m name edge val h i p w M live z = let a = M.inj i 0 p w.some_node (z ∙ sym M.nil) in let b = w.nil_dead in live (cc)

module _ (m : ℕ) (name : ℕ → ℕ) (val : ℕ → ℕ) where
  walk_here : (edge left : ℕ → Edge) (h : Heap) (i j : ℕ) → Sound m edge name → Model m edge val h → i ≡ j → edge ≡ left → Walked m name val h i j left
  walk_here edge left h i j w M e s = record { cells = []; run = subst (λ x. Run h (val i) (val x) []) e stop; model = subst (λ f. Model m f val h) s M; sound = subst (λ f. Sound m f name) s w }

  walk_sound : (n : ℕ) (edge left : ℕ → Edge) (h : Heap) (i j : ℕ) → Sound m edge name → Model m edge val h → i < m → j < m → walk n edge i j ≡ Some left → Walked m name val h i j left
  walk_sound zero edge left h i j w M p q e = elim (cases_eq i j) [
    | inl s ↦ walk_here edge left h i j w M s (grind (arith, nat_tests))
    | inr d ↦ absurd (grind (arith, nat_tests))
  ]
  walk_sound (suc n) edge left h i j w M p q e = elim (cases_eq i j) [
    | inl s ↦ walk_here edge left h i j w M s (grind (arith, nat_tests))
    | inr d ↦ elim (cases_edge (edge i)) [
      | inl e' ↦ absurd (grind (arith, nat_tests))
      | inr (inl (t, e')) ↦
          let c = M.cell i t p e' in
          let M' = take_as m edge val h M i p (val i ∷ []) c.1 (put edge i Dead) (grind (arith, nat_tests)) (λ k n. grind (arith, nat_tests)) in
          let x = walk_sound n (put edge i Dead) left (without h (val i)) t j (sound_dead m name edge i w) M' (w.cells_in i t p e') q (grind (arith, nat_tests)) in
          record {
            cells = val i ∷ x.cells;
            model = x.model;
            sound = x.sound;
            run = step {z = val t} {xs = x.cells} (off_zero m name edge val h i p w M (λ y. grind (arith, nat_tests))) (val_apart m edge val h M i j p q d) c.0 x.run;
          }
      | inr (inr (t, e')) ↦
          let g = M.seg i t p e' in
          let M' = take m edge val h M i p (put edge i Dead) (grind (arith, nat_tests)) (λ k n. grind (arith, nat_tests)) in
          let x = walk_sound n (put edge i Dead) left (minus h (M.run i)) t j (sound_dead m name edge i w) M' (w.segs_in i t p e').0 q (grind (arith, nat_tests)) in
          record {
            cells = M.run i ++ x.cells;
            sound = x.sound;
            model = rw (minus-++ (M.run i) x.cells h) x.model;
            run = run_join {ys = x.cells} g.1 x.run (apart m edge val h M j i q p (λ f. d (sym f)));
          }
    ]
  ]

  -- nothing is left where every node is dead
  pub dead_all : (n : ℕ) (edge : ℕ → Edge) → all_dead n edge ≡ true → (k : ℕ) → k < n → edge k ≡ Dead
  dead_all zero edge e k q = absurd (omega arith)
  dead_all (suc n) edge e k q = elim (cases_eq k n) [
    | inl s ↦ elim (cases_edge (edge n)) [ inl d ↦ ap edge s ∙ d | inr (inl (t, d)) ↦ grind (arith, nat_tests) | inr (inr (t, d)) ↦ grind (arith, nat_tests) ]
    | inr d ↦ dead_all n edge (and_parts (is_dead (edge n)) (all_dead n edge) e).1 k (omega arith)
  ]

  pub nothing : (edge : ℕ → Edge) (h : Heap) → Model m edge val h → all_dead m edge ≡ true → Empty h
  nothing edge h M e a = elim (M.all a) [
    | inl d ↦ d
    | inr (p, on) ↦ let d = M.dead (M.own a) p (dead_all m edge e (M.own a) p) in grind (arith, nat_tests)
  ]

  -- (7) what is covered holds of every model
  pub covered_sound : (r : List Atom) (edge : ℕ → Edge) (env : ℕ → ℕ) (h : Heap) → Sound m edge name → Model m edge val h → ((n : ℕ) → env n ≡ val (name n)) → covered m name r edge ≡ true → Takes env r h
  covered_sound [] edge env h w M v e = nothing edge h M e
  covered_sound (Eq x y ∷ r) edge env h w M v e =
      let p = and_parts (eqb (name x) (name y)) (covered m name r edge) e in
      let a = v x in let b = v y in let s : name x ≡ name y = grind (arith, nat_tests) in
      (cc, covered_sound r edge env h w M v p.1)
  covered_sound (Neq x y ∷ r) edge env h w M v e =
      let p = and_parts (not (eqb (name x) (name y))) (covered m name r edge) e in
      let a = v x in let b = v y in
      ((λ s. let n = M.inj (name x) (name y) (w.names_in x) (w.names_in y) (cc) in grind (arith, nat_tests)), covered_sound r edge env h w M v p.1)
  covered_sound (Next x y ∷ r) edge env h w M v e =
      let p = and_parts (if_cell (edge (name x)) (name y)) (covered m name r (put edge (name x) Dead)) e in
      let a = v x in let b = v y in let i = name x in let q = w.names_in x in
      elim (cases_edge (edge i)) [
        | inl d ↦ absurd (grind (arith, nat_tests))
        | inr (inr (t, d)) ↦ absurd (grind (arith, nat_tests))
        | inr (inl (t, d)) ↦ let c = M.cell i t q d in let s : t ≡ name y = grind (arith, nat_tests) in (
          (λ z. off_zero m name edge val h i q w M (λ f. grind (arith, nat_tests)) (sym a ∙ z)),
          cc,
          covered_sound r (put edge i Dead) env (without h (env x)) (sound_dead m name edge i w)
              (take_as m edge val h M i q (env x ∷ []) (cc) (put edge i Dead) (grind (arith, nat_tests)) (λ k n. grind (arith, nat_tests))) v p.1,
        )
      ]
  covered_sound (Lseg x y ∷ r) edge env h w M v e = go (walk m edge (name x) (name y)) refl e (covered_sound r)
    where
      go : (o : Option (ℕ → Edge)) → walk m edge (name x) (name y) ≡ o → (elim o [ None ↦ false | Some left ↦ covered m name r left ]) ≡ true
          → ((edge : ℕ → Edge) (env : ℕ → ℕ) (h : Heap) → Sound m edge name → Model m edge val h → ((n : ℕ) → env n ≡ val (name n)) → covered m name r edge ≡ true → Takes env r h)
          → Takes env (Lseg x y ∷ r) h
      go None s f ih = absurd (grind (arith, nat_tests))
      go (Some left) s f ih =
          let k = walk_sound m edge left h (name x) (name y) w M (w.names_in x) (w.names_in y) s in
          (k.cells, rw (v x, v y) k.run, ih left env (minus h k.cells) k.sound k.model v f)

-- how many edges are left
abbrev pub count : ℕ → (ℕ → Edge) → ℕ
count zero edge = 0
count (suc m) edge = cond (is_dead (edge m)) (count m edge) (suc (count m edge))

pub count_le : (m : ℕ) (edge : ℕ → Edge) → count m edge ≤ m
count_le zero edge = omega arith
count_le (suc m) edge = let ih = count_le m edge in grind (arith, nat_tests)

count_past : (m : ℕ) (edge : ℕ → Edge) (i : ℕ) → m ≤ i → count m (put edge i Dead) ≡ count m edge
count_past zero edge i q = refl
count_past (suc m) edge i q = let ih = count_past m edge i (omega arith) in let e : put edge i Dead m ≡ edge m = grind (arith, nat_tests) in cc

count-put : (m : ℕ) (edge : ℕ → Edge) (i : ℕ) → i < m → edge i ≢ Dead → count m edge ≡ suc (count m (put edge i Dead))
count-put zero edge i q n = absurd (omega arith)
count-put (suc m) edge i q n = elim (cases_eq i m) [
  | inl s ↦ let p = count_past m edge i (omega arith) in let e : put edge i Dead m ≡ Dead = grind (arith, nat_tests) in let f : is_dead (edge m) ≡ false = (elim (cases_edge (edge m)) [ inl d ↦ absurd (n (ap edge s ∙ d)) | inr d ↦ grind (arith, nat_tests) ]) in cc
  | inr d ↦ let ih = count-put m edge i (omega arith) n in let e : put edge i Dead m ≡ edge m = grind (arith, nat_tests) in rw e (grind (arith, nat_tests))
]

module _ (m : ℕ) (name : ℕ → ℕ) (val : ℕ → ℕ) where
  two_run : (edge : ℕ → Edge) (h : Heap) (w : Sound m edge name) (M : Model m edge val h) (T : Two m edge val h) (i t : ℕ) (p : i < m) (e : edge i ≡ Segment t) → M.run i ≡ val i ∷ (T i t p e).0 ∷ []
  two_run edge h w M T i t p e =
      let c = T i t p e in let g = M.seg i t p e in
      run_unique g.1 (two_cells h (val i) c.0 (val t) (off_zero m name edge val h i p w M (λ f. grind (arith, nat_tests))) g.0
      (λ z. c.3 0 w.some_node (M.nil ∙ sym z)) (λ z. c.3 t (w.segs_in i t p e).0 (sym z)) (λ z. c.3 i p (sym z)) c.1 c.2)

  two_take : (edge : ℕ → Edge) (h : Heap) (w : Sound m edge name) (M : Model m edge val h) (T : Two m edge val h) (i : ℕ) → i < m → Two m (put edge i Dead) val (minus h (M.run i))
  two_take edge h w M T i q k t p e =
      let n : k ≢ i = (λ f. grind (arith, nat_tests)) in
      let e' : edge k ≡ Segment t = grind (arith, nat_tests) in
      let c = T k t p e' in let r = two_run edge h w M T k t p e' in (
        c.0,
        minus-out (M.run i) h (val k) (apart m edge val h M k i p q n) ∙ c.1,
        minus-out (M.run i) h c.0 (off m edge val h M k i c.0 p q n (rw r (grind (arith, nat_tests)))) ∙ c.2,
        c.3,
      )

  record Found (n : ℕ) (edge : ℕ → Edge) (h : Heap) (i j : ℕ) : Type 0 where
    left : ℕ → Edge
    finds : walk n edge i j ≡ Some left
    model : Model m left val h
    sound : Sound m left name
    two : Two m left val h

  Complete : ℕ → Type 0
  Complete n = (edge : ℕ → Edge) (h : Heap) (i j : ℕ) (xs : List ℕ) → Sound m edge name → Model m edge val h → Two m edge val h
      → i < m → j < m → count m edge ≤ n → Run h (val i) (val j) xs → Found n edge (minus h xs) i j

  complete_here : (n : ℕ) (edge : ℕ → Edge) (h : Heap) (i j : ℕ) (xs : List ℕ) → Sound m edge name → Model m edge val h → Two m edge val h
      → i ≡ j → walk n edge i j ≡ Some edge → Run h (val i) (val j) xs → Found n edge (minus h xs) i j
  complete_here n edge h i j xs w M T s e r = rw (run_end r (ap val s)) (record { left = edge; finds = e; model = M; sound = w; two = T })

  module _ (n : ℕ) (edge : ℕ → Edge) (h : Heap) (i j : ℕ) (xs : List ℕ) (w : Sound m edge name) (M : Model m edge val h) (T : Two m edge val h)
      (p : i < m) (q : j < m) (d : i ≢ j) (c : count m edge ≤ suc n) (f : First h (val i) (val j) xs) (ih : Complete n) (t : ℕ) where
    complete_cell : edge i ≡ Cell t → Found (suc n) edge (minus h xs) i j
    unfolding Complete
    complete_cell e =
        let k = M.cell i t p e in let l = f.links in
        let nt : f.next ≡ val t = cc in
        let y = count-put m edge i p (λ z. grind (arith, nat_tests)) in
        let M' = take_as m edge val h M i p (val i ∷ []) k.1 (put edge i Dead) (grind (arith, nat_tests)) (λ k n. grind (arith, nat_tests)) in
        let T' : Two m (put edge i Dead) val (without h (val i)) = subst (λ l. Two m (put edge i Dead) val (minus h l)) k.1 (two_take edge h w M T i p) in
        let x = ih (put edge i Dead) (without h (val i)) t j f.rest (sound_dead m name edge i w) M' T' (w.cells_in i t p e) q (omega arith) (rw nt at f.goes_on) in
        let fx = x.finds in
        rw f.whole (record { left = x.left; finds = grind (arith, nat_tests); model = x.model; sound = x.sound; two = x.two })

    complete_seg : edge i ≡ Segment t → Found (suc n) edge (minus h xs) i j
    unfolding Complete
    complete_seg e =
        let k = T i t p e in let l = f.links in
        let z : ℕ = k.0 in
        let nz : f.next ≡ z = cc in
        let f2 = first (rw nz at f.goes_on) (λ b. k.3 j q (sym b)) in
        let l2 = f2.links in
        let nt : f2.next ≡ val t = (let a = k.2 in let b = k.3 i p in grind (arith, nat_tests)) in
        let y = count-put m edge i p (λ z. grind (arith, nat_tests)) in
        let r2 = two_run edge h w M T i t p e in
        let M' = take_as m edge val h M i p (val i ∷ z ∷ []) r2 (put edge i Dead) (grind (arith, nat_tests)) (λ k n. grind (arith, nat_tests)) in
        let T' : Two m (put edge i Dead) val (minus h (val i ∷ z ∷ [])) = subst (λ l. Two m (put edge i Dead) val (minus h l)) r2 (two_take edge h w M T i p) in
        let x = ih (put edge i Dead) (minus h (val i ∷ z ∷ [])) t j f2.rest (sound_dead m name edge i w) M' T' (w.segs_in i t p e).0 q (omega arith) (rw nt at f2.goes_on) in
        let fx = x.finds in
        let all : xs ≡ val i ∷ z ∷ f2.rest = (let a = f.whole in let b = f2.whole in cc) in
        rw all (record { left = x.left; finds = grind (arith, nat_tests); model = x.model; sound = x.sound; two = x.two })

  complete_step : (n : ℕ) → Complete n → Complete (suc n)
  unfolding Complete
  complete_step n ih edge h i j xs w M T p q c r = elim (cases_eq i j) [
    | inl s ↦ complete_here (suc n) edge h i j xs w M T s (grind (arith, nat_tests)) r
    | inr d ↦ let f = first r (val_apart m edge val h M i j p q d) in elim (cases_edge (edge i)) [
      | inl e ↦ let y = M.dead i p e in let l = f.links in absurd (grind (arith, nat_tests))
      | inr (inl (t, e)) ↦ complete_cell n edge h i j xs w M T p q d c f ih t e
      | inr (inr (t, e)) ↦ complete_seg n edge h i j xs w M T p q d c f ih t e
    ]
  ]

  complete_none : Complete zero
  unfolding Complete
  complete_none edge h i j xs w M T p q c r = elim (cases_eq i j) [
    | inl s ↦ complete_here zero edge h i j xs w M T s (grind (arith, nat_tests)) r
    | inr d ↦
        let f = first r (val_apart m edge val h M i j p q d) in let l = f.links in
        let live : edge i ≢ Dead = (λ z. let y = M.dead i p z in grind (arith, nat_tests)) in
        let y = count-put m edge i p live in absurd (omega arith)
  ]

  walk_complete : (n : ℕ) → Complete n
  walk_complete zero = complete_none
  walk_complete (suc n) = complete_step n (walk_complete n)

  pub all_dead_from : (n : ℕ) (edge : ℕ → Edge) → ((k : ℕ) → k < n → edge k ≡ Dead) → all_dead n edge ≡ true
  all_dead_from zero edge f = refl
  all_dead_from (suc n) edge f = let a = f n (omega arith) in let b = all_dead_from n edge (λ k q. f k (omega arith)) in cc

  -- (7) what holds of a model with two cells to each segment is covered
  pub covered-complete : (r : List Atom) (edge : ℕ → Edge) (env : ℕ → ℕ) (h : Heap) → Sound m edge name → Model m edge val h → Two m edge val h → ((n : ℕ) → env n ≡ val (name n)) → Takes env r h → covered m name r edge ≡ true
  unfolding Complete
  covered-complete [] edge env h w M T v H = all_dead_from m edge (λ k q. dead_node m edge val h M k q (H (val k)))
  covered-complete (Eq x y ∷ r) edge env h w M T v (e, H) =
      let a = v x in let b = v y in let s = M.inj (name x) (name y) (w.names_in x) (w.names_in y) (cc) in
      let ih = covered-complete r edge env h w M T v H in grind (arith, nat_tests)
  covered-complete (Neq x y ∷ r) edge env h w M T v (e, H) =
      let n : name x ≢ name y = (λ f. e (v x ∙ ap val f ∙ sym (v y))) in
      let ih = covered-complete r edge env h w M T v H in grind (arith, nat_tests)
  covered-complete (Next x y ∷ r) edge env h w M T v (nz, l, H) =
      let a = v x in let b = v y in let i = name x in let q = w.names_in x in
      elim (cases_edge (edge i)) [
        | inl d ↦ let c = M.dead i q d in absurd (grind (arith, nat_tests))
        | inr (inr (t, d)) ↦ let c = T i t q d in absurd (c.3 (name y) (w.names_in y) (cc))
        | inr (inl (t, d)) ↦
            let c = M.cell i t q d in
            let s = M.inj t (name y) (w.cells_in i t q d) (w.names_in y) (cc) in
            let r1 : M.run i ≡ env x ∷ [] = cc in
            let ih = covered-complete r (put edge i Dead) env (without h (env x)) (sound_dead m name edge i w)
            (take_as m edge val h M i q (env x ∷ []) r1 (put edge i Dead) (grind (arith, nat_tests)) (λ k n. grind (arith, nat_tests)))
            (subst (λ l. Two m (put edge i Dead) val (minus h l)) r1 (two_take edge h w M T i q)) v H in
            grind (arith, nat_tests)
      ]
  covered-complete (Lseg x y ∷ r) edge env h w M T v (xs, t, H) =
      let k = walk_complete m edge h (name x) (name y) xs w M T (w.names_in x) (w.names_in y) (count_le m edge) (rw (v x, v y) at t) in
      let ih = covered-complete r k.left env (minus h xs) k.sound k.model k.two v H in
      rw (k.finds, covered) ih
