use Rattle.std.proofs.Common.{◌≡◌, ℕ, zero, suc, ◌<◌, false, ◌≢◌, ◌⊎◌, List, [], ◌∷◌, Some, None, sym, refl, ap, ◌∙◌, inl, inr, arith}
use mathlib.Core.Path.{fun_ext}
use Rattle.std.proofs.lemmas.Bool.Decides.{nat_tests}
use Rattle.std.proofs.lemmas.Bool.{cases_eq, cases_Bool}
use Rattle.heap.specs.Heaps.{Heap, without}
use Rattle.pieces.specs.ModelRuns.{minus, Run, stop, step}
use Rattle.pieces.specs.Pieces.{mem}
use Rattle.pieces.specs.declared.shapes.Edge.{Edge}
use Rattle.pieces.specs.declared.shapes.Edge.TheVariants.{Dead, Cell, Segment}
use Rattle.pieces.specs.Pieces.{put}
use Rattle.pieces.specs.ModelShapes.{Sound, Model, Shape, Fits, SoundShape, short, long, fresh_at, new_apart, Allocates, set_edge, set_name}
use Rattle.pieces.proofs.SegmentRuns.{run_dead, minus-in, minus-out, run_agree, without-same}
use Rattle.pieces.proofs.ShapeModels.{run_first, val_apart, starts, run_live, cases_edge, apart, take, take_as, give, widen, narrow}

-- a run between two values, taken apart
pub record First (h : Heap) (a f : ℕ) (xs : List ℕ) : Type 0 where
  pub next : ℕ
  pub rest : List ℕ
  pub whole : xs ≡ a ∷ rest
  pub links : h a ≡ Some next
  pub off_nil : a ≢ 0
  pub goes_on : Run (without h a) next f rest

pub first : {h : Heap} {a f : ℕ} {xs : List ℕ} → Run h a f xs → a ≢ f → First h a f xs
first stop n = absurd (n refl)
first (step {z = z} {xs = xs} p q r t) n = record { next = z; rest = xs; whole = refl; links = r; off_nil = p; goes_on = t }

pub run_end : {h : Heap} {a f : ℕ} {xs : List ℕ} → Run h a f xs → a ≡ f → xs ≡ []
run_end stop e = refl
run_end (step p q r t) e = absurd (q e)

-- a model's edge at i replaced by another description of the same part
reedge : (m : ℕ) (edge edge' : ℕ → Edge) (val : ℕ → ℕ) (h : Heap) (M : Model m edge val h) (i : ℕ) → i < m
    → ((k : ℕ) → k ≢ i → edge' k ≡ edge k) → edge' i ≢ Dead
    → ((t : ℕ) → edge' i ≡ Cell t → (h (val i) ≡ Some (val t)) × (M.run i ≡ val i ∷ []))
    → ((t : ℕ) → edge' i ≡ Segment t → (val i ≢ val t) × Run h (val i) (val t) (M.run i))
    → Model m edge' val h
reedge m edge edge' val h M i p there is-d is_c is-s =
    give m (put edge i Dead) val (minus h xs) (take m edge val h M i p (put edge i Dead) (grind (arith, nat_tests)) (λ k n. grind (arith, nat_tests)))
    i p (grind (arith, nat_tests)) xs h edge' (λ a. minus-in xs h a) (λ a o. sym (minus-out xs h a o)) (λ k q n. apart m edge val h M k i q p n)
    (λ k n. let t = there k n in grind (arith, nat_tests)) is-d is_c is-s
  where
    xs : List ℕ
    xs = M.run i

-- (4) a segment is one cell, or a cell and a segment
module _ (m : ℕ) (edge : ℕ → Edge) (name : ℕ → ℕ) (val : ℕ → ℕ) (h : Heap) (w : Sound m edge name) (M : Model m edge val h) (i t : ℕ) (p : i < m) (e : edge i ≡ Segment t)
    (S : First h (val i) (val t) (M.run i)) (n : S.next ≢ val t) where
  z : ℕ
  z = S.next

  xs : List ℕ
  xs = S.rest

  off_rest : (k : ℕ) → k < m → mem (val k) xs ≡ false
  unfolding z xs
  off_rest k q = elim (cases_eq k i) [
    | inl same ↦ ap (λ x. mem (val x) xs) same ∙ run_dead S.goes_on (val i) (without-same h (val i))
    | inr d ↦ let a = apart m edge val h M k i q p d in let x = S.whole in let y : mem (val k) (val i ∷ xs) ≡ false = ap (λ l. mem (val k) l) (sym x) ∙ a in grind (arith, nat_tests)
  ]

  new_node : (k : ℕ) → k < m → val k ≢ z
  unfolding z xs
  new_node k q same = let a = off_rest k q in let b = run_first S.goes_on n in grind (arith, nat_tests)

  -- without the segment, with the newly node
  bare : Model (suc m) (put (put edge i Dead) m Dead) (put val m z) (minus h (M.run i))
  unfolding z xs
  bare = widen m (put edge i Dead) val (minus h (M.run i)) (take m edge val h M i p (put edge i Dead) (grind (arith, nat_tests)) (λ k n. grind (arith, nat_tests)))
      name (record {
        some_node = w.some_node;
        nil_dead = let x = w.nil_dead in grind (arith, nat_tests);
        cells_in = λ k u q c. w.cells_in k u q (grind (arith, nat_tests));
        segs_in = λ k u q c. w.segs_in k u q (grind (arith, nat_tests));
        names_in = w.names_in;
      })
      z (put val m z) (put (put edge i Dead) m Dead)
      (minus-in (M.run i) h z (let a = run_first S.goes_on n in rw S.whole (grind (arith, nat_tests)))) new_node
      (grind (arith, nat_tests)) (λ k q. grind (arith, nat_tests)) (grind (arith, nat_tests)) (λ k q. grind (arith, nat_tests))

  with_rest : Model (suc m) (put (put edge i Dead) m (Segment t)) (put val m z) (without h (val i))
  unfolding z xs
  with_rest = give (suc m) (put (put edge i Dead) m Dead) (put val m z) (minus h (M.run i)) bare m (omega arith) (grind (arith, nat_tests)) xs (without h (val i)) (put (put edge i Dead) m (Segment t))
      (λ a on. minus-in (M.run i) h a (rw S.whole (grind (arith, nat_tests))))
      (λ a o. rw S.whole (sym (minus-out xs (without h (val i)) a o)))
      (λ k q d. let r = off_rest k (omega arith) in grind (arith, nat_tests))
      (λ k d. grind (arith, nat_tests)) (λ d. grind (arith, nat_tests)) (λ u c. absurd (grind (arith, nat_tests)))
      (λ u c. let l = w.segs_in i t p e in let ut : u ≡ t = grind (arith, nat_tests) in
      let vm : put val m z m ≡ z = grind (arith, nat_tests) in let vu : put val m z u ≡ val t = grind (arith, nat_tests) in
      rw (vm, vu) (n, S.goes_on))

  long_model : Model (suc m) (put (put edge i (Cell m)) m (Segment t)) (put val m z) h
  unfolding z xs
  long_model = give (suc m) (put (put edge i Dead) m (Segment t)) (put val m z) (without h (val i)) with_rest i (omega arith) (grind (arith, nat_tests)) (val i ∷ []) h (put (put edge i (Cell m)) m (Segment t))
      (λ a on. grind (arith, nat_tests))
      (λ a o. grind (arith, nat_tests))
      (λ k q d. let b = new_node i p in elim (cases_eq k m) [
        | inl km ↦ grind (arith, nat_tests)
        | inr km ↦ let b = val_apart m edge val h M k i (omega arith) p d in grind (arith, nat_tests)
      ])
      (λ k d. grind (arith, nat_tests)) (λ d. grind (arith, nat_tests))
      (λ u c. let l = S.links in let um : u ≡ m = grind (arith, nat_tests) in
      let vi : put val m z i ≡ val i = grind (arith, nat_tests) in let vu : put val m z u ≡ z = grind (arith, nat_tests) in (cc, grind (arith, nat_tests))) (λ u c. absurd (grind (arith, nat_tests)))

module _ (s : Shape) (env : ℕ → ℕ) (h : Heap) (w : SoundShape s) (i t : ℕ) (p : i < s.size) (e : s.edge i ≡ Segment t) where
  pub split_to : Fits s env h → Fits (short s i t) env h ⊎ Fits (long s i t) env h
  unfolding z
  split_to F = elim (cases_eq S.next (val t)) [
    | inl last ↦ inl (record {
      val = val;
      named = F.named;
      model = reedge m s.edge (put s.edge i (Cell t)) val h M i p (λ k n. grind (arith, nat_tests)) (λ d. grind (arith, nat_tests))
          (λ u c. let r = run_end S.goes_on last in let x = S.whole in let y = S.links in let z : t ≡ u = grind (arith, nat_tests) in (cc, cc))
          (λ u c. absurd (grind (arith, nat_tests)));
    })
    | inr n ↦ inr (record {
      val = put val m S.next;
      named = λ x. let q = w.names_in x in F.named x ∙ grind (arith, nat_tests);
      model = long_model m s.edge s.name val h w M i t p e S n;
    })
  ]
    where
      m : ℕ
      m = s.size

      val : ℕ → ℕ
      val = F.val

      M : Model s.size s.edge val h
      M = F.model

      S : First h (val i) (val t) (M.run i)
      S = let g = M.seg i t p e in first g.1 g.0

-- a cell and a segment from the last node, which no other edge needs, are a segment
module _ (m : ℕ) (edge : ℕ → Edge) (val : ℕ → ℕ) (h : Heap) (i t : ℕ) (p : i < m) (e : edge i ≡ Segment t) (off_nil : val i ≢ 0) (q : t < m) (n : i ≢ t)
    (M : Model (suc m) (put (put edge i (Cell m)) m (Segment t)) val h) where
  with_cell : Model (suc m) (put (put edge i (Cell m)) m Dead) val (minus h (M.run m))
  with_cell = take (suc m) (put (put edge i (Cell m)) m (Segment t)) val h M m (omega arith) (put (put edge i (Cell m)) m Dead) (grind (arith, nat_tests)) (λ k n. grind (arith, nat_tests))

  with_none : Model m (put edge i Dead) val (without (minus h (M.run m)) (val i))
  with_none =
      let c = with_cell.cell i m (omega arith) (grind (arith, nat_tests)) in
      narrow m (put (put edge i Dead) m Dead) (put edge i Dead) val (without (minus h (M.run m)) (val i))
      (take_as (suc m) (put (put edge i (Cell m)) m Dead) val (minus h (M.run m)) with_cell i (omega arith) (val i ∷ []) c.1 (put (put edge i Dead) m Dead) (grind (arith, nat_tests)) (λ k n. grind (arith, nat_tests)))
      (grind (arith, nat_tests)) (λ k q. grind (arith, nat_tests))

  one_seg : Model m edge val h
  one_seg =
      let c = M.cell i m (omega arith) (grind (arith, nat_tests)) in
      let g = M.seg m t (omega arith) (grind (arith, nat_tests)) in
      let a = apart (suc m) (put (put edge i (Cell m)) m (Segment t)) val h M in
      let ne = val_apart (suc m) (put (put edge i (Cell m)) m (Segment t)) val h M in
      give m (put edge i Dead) val (without (minus h (M.run m)) (val i)) with_none i p (grind (arith, nat_tests)) (val i ∷ M.run m) h edge
      (λ x on. elim (cases_Bool (mem x (M.run m))) [
        | inl o ↦ let y = minus-in (M.run m) h x o in grind (arith, nat_tests)
        | inr o ↦ grind (arith, nat_tests)
      ])
      (λ x o. let y = minus-out (M.run m) h x (grind (arith, nat_tests)) in grind (arith, nat_tests))
      (λ k q d. let y = a k m (omega arith) (omega arith) (omega arith) in let v = ne k i (omega arith) (omega arith) d in grind (arith, nat_tests))
      (λ k n. grind (arith, nat_tests)) (λ d. grind (arith, nat_tests)) (λ u d. absurd (grind (arith, nat_tests)))
      (λ u d. let v = ne i t (omega arith) (omega arith) n in let same : t ≡ u = grind (arith, nat_tests) in rw (← same) (
        v,
        step {z = val m} off_nil v c.0 (run_agree (without h (val i)) g.1 (λ x on. let y = a i m (omega arith) (omega arith) (omega arith) in grind (arith, nat_tests))),
      ))

-- and the other way
module _ (s : Shape) (env : ℕ → ℕ) (h : Heap) (w : SoundShape s) (i t : ℕ) (p : i < s.size) (e : s.edge i ≡ Segment t) where
  off_zero : (val : ℕ → ℕ) → val 0 ≡ 0 → ((i j : ℕ) → i < s.size → j < s.size → val i ≡ val j → i ≡ j) → val i ≢ 0
  off_zero val nil inj z = let a = inj i 0 p w.some_node (z ∙ sym nil) in let b = w.nil_dead in grind (arith, nat_tests)

  pub from_short : Fits (short s i t) env h → Fits s env h
  from_short F =
      let M = F.model in
      let c = M.cell i t p (grind (arith, nat_tests)) in
      let w' = w.segs_in i t p e in
      let n : F.val i ≢ F.val t = (λ v. w'.1 (M.inj i t p w'.0 v)) in
      record {
        val = F.val;
        named = F.named;
        model = reedge s.size (put s.edge i (Cell t)) s.edge F.val h M i p
            (λ k n. grind (arith, nat_tests)) (λ d. grind (arith, nat_tests)) (λ u d. absurd (grind (arith, nat_tests)))
            (λ u d. let same : t ≡ u = grind (arith, nat_tests) in
            rw (c.1, ← same) (n, step {z = F.val t} (off_zero F.val M.nil M.inj) n c.0 stop));
      }

  pub from_long : Fits (long s i t) env h → Fits s env h
  from_long F =
      let M = F.model in
      let w' = w.segs_in i t p e in
      record {
        val = F.val;
        named = F.named;
        model = one_seg s.size s.edge F.val h i t p e
            (off_zero F.val M.nil (λ k j x y. M.inj k j (omega arith) (omega arith))) w'.0 w'.1 M;
      }

-- (5) vacant: the node of the name has the edge Cell u
pub free_to : (s : Shape) (env : ℕ → ℕ) (h : Heap) (x u : ℕ) → SoundShape s → s.edge (s.name x) ≡ Cell u → Fits s env h
    → Fits (set_edge s (s.name x) Dead) env (without h (env x))
free_to s env h x u w e F =
    let M = F.model in
    let i = s.name x in
    let q = w.names_in x in
    let c = M.cell i u q e in
    let v = F.named x in
    record {
      val = F.val;
      named = F.named;
      model = take_as s.size s.edge F.val h M i q (env x ∷ []) (cc) (put s.edge i Dead) (grind (arith, nat_tests)) (λ k n. grind (arith, nat_tests));
    }

pub free_from : (s : Shape) (env : ℕ → ℕ) (g : Heap) (x u : ℕ) → SoundShape s → s.edge (s.name x) ≡ Cell u
    → Fits (set_edge s (s.name x) Dead) env g → (h : Heap) × Fits s env h × (without h (env x) ≡ g)
free_from s env g x u w e F =
    let M = F.model in
    let i = s.name x in
    let q = w.names_in x in
    let v = F.named x in
    let d = M.dead i q (grind (arith, nat_tests)) in
    let h : Heap = put g (env x) (Some (F.val u)) in (
      h,
      record {
        val = F.val;
        named = F.named;
        model = give s.size (put s.edge i Dead) F.val g M i q (grind (arith, nat_tests)) (env x ∷ []) h s.edge
            (λ a on. grind (arith, nat_tests)) (λ a o. grind (arith, nat_tests))
            (λ k r n. let y = val_apart s.size (put s.edge i Dead) F.val g M k i r q n in grind (arith, nat_tests))
            (λ k n. grind (arith, nat_tests)) (λ d. grind (arith, nat_tests))
            (λ t c. let ut : t ≡ u = cc in (grind (arith, nat_tests), cc)) (λ t c. absurd (grind (arith, nat_tests)));
      },
      fun_ext (λ a. grind (arith, nat_tests)),
    )

-- (5) a newly cell
pub find_val : (val : ℕ → ℕ) (a m : ℕ) → ((k : ℕ) × (k < m) × (val k ≡ a)) ⊎ ((k : ℕ) → k < m → val k ≢ a)
find_val val a zero = inr (λ k q. absurd (omega arith))
find_val val a (suc m) = elim (cases_eq (val m) a) [
  | inl e ↦ inl (m, omega arith, e)
  | inr n ↦ elim (find_val val a m) [
    | inl (k, q, e) ↦ inl (k, omega arith, e)
    | inr f ↦ inr (λ k q e. elim (cases_eq k m) [ inl s ↦ n (ap val (sym s) ∙ e) | inr d ↦ f k (omega arith) e ])
  ]
]

-- a dead node gets a cell
fill : (m : ℕ) (edge : ℕ → Edge) (val : ℕ → ℕ) (h : Heap) (M : Model m edge val h) (i : ℕ) → i < m → edge i ≡ Dead → (a : ℕ) → val i ≡ a
    → (edge' : ℕ → Edge) → edge' i ≡ Cell 0 → ((k : ℕ) → k ≢ i → edge' k ≡ edge k) → Model m edge' val (put h a (Some 0))
fill m edge val h M i q e a v edge' here there =
    give m edge val h M i q e (a ∷ []) (put h a (Some 0)) edge'
    (λ b on. let d = M.dead i q e in grind (arith, nat_tests)) (λ b o. grind (arith, nat_tests))
    (λ k r n. let y = val_apart m edge val h M k i r q n in grind (arith, nat_tests))
    there (λ d. grind (arith, nat_tests))
    (λ t c. let z = M.nil in let t0 : t ≡ 0 = grind (arith, nat_tests) in (grind (arith, nat_tests), cc)) (λ t c. absurd (grind (arith, nat_tests)))

-- a value that is not live is a dead node's, if a node's
pub dead_node : (m : ℕ) (edge : ℕ → Edge) (val : ℕ → ℕ) (h : Heap) (M : Model m edge val h) (k : ℕ) → k < m → h (val k) ≡ None → edge k ≡ Dead
dead_node m edge val h M k q d = elim (cases_edge (edge k)) [
  | inl e ↦ e
  | inr e ↦ absurd (run_live m edge val h M k (val k) q (starts m edge val h M k q (λ x. grind (arith, nat_tests))) d)
]

pub alloc_to : (s : Shape) (env : ℕ → ℕ) (h : Heap) (x : ℕ) (env' : ℕ → ℕ) (h' : Heap) → SoundShape s → Fits s env h → Allocates x env h env' h'
    → ((j : ℕ) × (j < s.size) × (j ≢ 0) × (s.edge j ≡ Dead) × Fits (fresh_at s x j) env' h') ⊎ Fits (new_apart s x) env' h'
alloc_to s env h x env' h' w F A = elim (find_val F.val A.place s.size) [
  | inl (k, q, e) ↦
      let d = dead_node s.size s.edge F.val h F.model k q (ap h e ∙ A.vacant) in
      let nz = A.off_nil in let z = F.model.nil in
      inl (
        k,
        q,
        (λ k0. nz (sym e ∙ ap F.val k0 ∙ z)),
        d,
        record {
          val = F.val;
          named = λ n. let a = ap (λ f. f n) A.env_is in let b = F.named n in grind (arith, nat_tests);
          model = rw A.heap_is (fill s.size s.edge F.val h F.model k q d A.place e (put s.edge k (Cell 0)) (grind (arith, nat_tests)) (λ i n. grind (arith, nat_tests)));
        },
      )
  | inr f ↦ inr (record {
    val = put F.val s.size A.place;
    named = λ n. let a = ap (λ f. f n) A.env_is in let b = F.named n in let c = w.names_in n in grind (arith, nat_tests);
    model = let p = A.place in let m = s.size in let v : ℕ → ℕ = put F.val m p in let ed : ℕ → Edge = put s.edge m Dead in
        rw A.heap_is (fill (suc m) ed v h
        (widen m s.edge F.val h F.model s.name w p v ed A.vacant f (grind (arith, nat_tests)) (λ k q. grind (arith, nat_tests)) (grind (arith, nat_tests)) (λ k q. grind (arith, nat_tests)))
        m (omega arith) (grind (arith, nat_tests)) p (grind (arith, nat_tests)) (put s.edge m (Cell 0)) (grind (arith, nat_tests)) (λ i n. grind (arith, nat_tests)));
  })
]

-- a name set, taken back
back : (env : ℕ → ℕ) (x a v : ℕ) → env x ≡ a → env ≡ put (put env x v) x a
back env x a v e = fun_ext (λ n. grind (arith, nat_tests))

pub alloc_from_apart : (s : Shape) (x : ℕ) (env' : ℕ → ℕ) (h' : Heap) → SoundShape s → Fits (new_apart s x) env' h'
    → (env : ℕ → ℕ) × (h : Heap) × Fits s env h × Allocates x env h env' h'
alloc_from_apart s x env' h' w F =
    let M = F.model in let m = s.size in let a = F.val m in
    let c = M.cell m 0 (omega arith) (grind (arith, nat_tests)) in
    let ex : env' x ≡ a = (let b = F.named x in grind (arith, nat_tests)) in
    let z = M.nil in (
      put env' x (F.val (s.name x)),
      without h' a,
      record {
        val = F.val;
        named = λ n. let b = F.named n in grind (arith, nat_tests);
        model = narrow m (put s.edge m Dead) s.edge F.val (without h' a)
            (take_as (suc m) (put s.edge m (Cell 0)) F.val h' M m (omega arith) (a ∷ []) c.1 (put s.edge m Dead) (grind (arith, nat_tests)) (λ k n. grind (arith, nat_tests)))
            (grind (arith, nat_tests)) (λ k q. grind (arith, nat_tests));
      },
      record {
        place = a;
        off_nil = λ e. (let b = M.inj m 0 (omega arith) (omega arith) (e ∙ sym z) in let g = w.some_node in omega arith);
        vacant = grind (arith, nat_tests);
        env_is = back env' x a (F.val (s.name x)) ex;
        heap_is = fun_ext (λ b. grind (arith, nat_tests));
      },
    )

pub alloc_from_at : (s : Shape) (x j : ℕ) (env' : ℕ → ℕ) (h' : Heap) → SoundShape s → j < s.size → j ≢ 0 → s.edge j ≡ Dead → Fits (fresh_at s x j) env' h'
    → (env : ℕ → ℕ) × (h : Heap) × Fits s env h × Allocates x env h env' h'
alloc_from_at s x j env' h' w q nz d F =
    let M = F.model in let m = s.size in let a = F.val j in
    let c = M.cell j 0 q (grind (arith, nat_tests)) in
    let ex : env' x ≡ a = (let b = F.named x in grind (arith, nat_tests)) in
    let z = M.nil in (
      put env' x (F.val (s.name x)),
      without h' a,
      record {
        val = F.val;
        named = λ n. let b = F.named n in grind (arith, nat_tests);
        model = take_as m (put s.edge j (Cell 0)) F.val h' M j q (a ∷ []) c.1 s.edge d (λ k n. grind (arith, nat_tests));
      },
      record {
        place = a;
        off_nil = λ e. nz (M.inj j 0 q w.some_node (e ∙ sym z));
        vacant = grind (arith, nat_tests);
        env_is = back env' x a (F.val (s.name x)) ex;
        heap_is = fun_ext (λ b. grind (arith, nat_tests));
      },
    )

-- names: x is set to the value of the node k
rename_to : (s : Shape) (env env' : ℕ → ℕ) (h : Heap) (x k : ℕ) (F : Fits s env h) → env' ≡ put env x (F.val k) → Fits (set_name s x k) env' h
rename_to s env env' h x k F e = record { val = F.val; model = F.model; named = λ n. let a = ap (λ f. f n) e in let b = F.named n in grind (arith, nat_tests) }

rename_from : (s : Shape) (env' : ℕ → ℕ) (h : Heap) (x k : ℕ) (F : Fits (set_name s x k) env' h) → Fits s (put env' x (F.val (s.name x))) h × (env' ≡ put (put env' x (F.val (s.name x))) x (F.val k))
rename_from s env' h x k F = (
  record { val = F.val; model = F.model; named = λ n. let b = F.named n in grind (arith, nat_tests) },
  back env' x (F.val k) (F.val (s.name x)) (let b = F.named x in grind (arith, nat_tests)),
)

-- x = y
pub copy_to : (s : Shape) (env : ℕ → ℕ) (h : Heap) (x y : ℕ) → Fits s env h → Fits (set_name s x (s.name y)) (put env x (env y)) h
copy_to s env h x y F = rename_to s env (put env x (env y)) h x (s.name y) F (ap (put env x) (F.named y))

pub copy_from : (s : Shape) (env' : ℕ → ℕ) (h : Heap) (x y : ℕ) → Fits (set_name s x (s.name y)) env' h → (env : ℕ → ℕ) × Fits s env h × (env' ≡ put env x (env y))
unfolding rename_from
copy_from s env' h x y F =
    let r = rename_from s env' h x (s.name y) F in
    (put env' x (F.val (s.name x)), r.0, r.1 ∙ ap (put (put env' x (F.val (s.name x))) x) (sym (r.0.named y)))

-- x = y.next
pub load_to : (s : Shape) (env : ℕ → ℕ) (h : Heap) (x y t v : ℕ) → SoundShape s → s.edge (s.name y) ≡ Cell t → Fits s env h → h (env y) ≡ Some v → Fits (set_name s x t) (put env x v) h
load_to s env h x y t v w e F l =
    let c = F.model.cell (s.name y) t (w.names_in y) e in let n = F.named y in let k : v ≡ F.val t = cc in
    rename_to s env (put env x v) h x t F (ap (put env x) k)

pub load_from : (s : Shape) (env' : ℕ → ℕ) (h : Heap) (x y t : ℕ) → SoundShape s → s.edge (s.name y) ≡ Cell t → Fits (set_name s x t) env' h
    → (env : ℕ → ℕ) × (v : ℕ) × Fits s env h × (h (env y) ≡ Some v) × (env' ≡ put env x v)
unfolding rename_from
load_from s env' h x y t w e F =
    let r = rename_from s env' h x t F in let n = r.0.named y in let c = F.model.cell (s.name y) t (w.names_in y) e in
    (put env' x (F.val (s.name x)), F.val t, r.0, ap h n ∙ c.0, r.1)

-- the link of a cell is changed
relink : (m : ℕ) (edge : ℕ → Edge) (val : ℕ → ℕ) (h : Heap) (M : Model m edge val h) (i t u a v : ℕ) → i < m → edge i ≡ Cell t → val i ≡ a → val u ≡ v
    → (edge' : ℕ → Edge) → edge' i ≡ Cell u → ((k : ℕ) → k ≢ i → edge' k ≡ edge k) → Model m edge' val (put h a (Some v))
relink m edge val h M i t u a v p e va vu edge' here there =
    let c = M.cell i t p e in
    give m (put edge i Dead) val (without h a) (take_as m edge val h M i p (a ∷ []) (cc) (put edge i Dead) (grind (arith, nat_tests)) (λ k n. grind (arith, nat_tests)))
    i p (grind (arith, nat_tests)) (a ∷ []) (put h a (Some v)) edge'
    (λ b on. grind (arith, nat_tests)) (λ b o. grind (arith, nat_tests))
    (λ k q n. let y = val_apart m edge val h M k i q p n in grind (arith, nat_tests))
    (λ k n. let y = there k n in grind (arith, nat_tests)) (λ d. grind (arith, nat_tests))
    (λ w c. let uw : w ≡ u = grind (arith, nat_tests) in (grind (arith, nat_tests), cc)) (λ w c. absurd (grind (arith, nat_tests)))

-- y.next = x
pub store_to : (s : Shape) (env : ℕ → ℕ) (h : Heap) (x y t : ℕ) → SoundShape s → s.edge (s.name y) ≡ Cell t → Fits s env h
    → Fits (set_edge s (s.name y) (Cell (s.name x))) env (put h (env y) (Some (env x)))
store_to s env h x y t w e F = record {
  val = F.val;
  named = F.named;
  model = relink s.size s.edge F.val h F.model (s.name y) t (s.name x) (env y) (env x) (w.names_in y) e (sym (F.named y)) (sym (F.named x))
      (put s.edge (s.name y) (Cell (s.name x))) (grind (arith, nat_tests)) (λ k n. grind (arith, nat_tests));
}

pub store_from : (s : Shape) (env : ℕ → ℕ) (g : Heap) (x y t : ℕ) → SoundShape s → s.edge (s.name y) ≡ Cell t → Fits (set_edge s (s.name y) (Cell (s.name x))) env g
    → (h : Heap) × Fits s env h × (g ≡ put h (env y) (Some (env x)))
store_from s env g x y t w e F =
    let i = s.name y in let c = F.model.cell i (s.name x) (w.names_in y) (grind (arith, nat_tests)) in let ny = F.named y in let nx = F.named x in (
      put g (env y) (Some (F.val t)),
      record {
        val = F.val;
        named = F.named;
        model = relink s.size (put s.edge i (Cell (s.name x))) F.val g F.model i (s.name x) t (env y) (F.val t) (w.names_in y) (grind (arith, nat_tests)) (sym ny) refl
            s.edge e (λ k n. grind (arith, nat_tests));
      },
      fun_ext (λ a. grind (arith, nat_tests)),
    )
