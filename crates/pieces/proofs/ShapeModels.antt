use Rattle.std.proofs.Common.{◌≡◌, ℕ, suc, ◌<◌, true, false, cond, ◌≢◌, ◌⊎◌, List, [], ◌∷◌, Some, None, sym, refl, ap, ◌∙◌, subst, inl, inr, arith}
use Rattle.std.proofs.lemmas.Bool.Decides.{nat_tests}
use Rattle.std.proofs.lemmas.Bool.{cases_eq, cases_Bool}
use Rattle.heap.specs.Heaps.{Heap}
use Rattle.pieces.specs.ModelRuns.{minus, Run, stop, step}
use Rattle.pieces.specs.Pieces.{mem}
use Rattle.pieces.specs.declared.shapes.Edge.{Edge}
use Rattle.pieces.specs.declared.shapes.Edge.TheVariants.{Dead, Cell, Segment}
use Rattle.pieces.specs.Pieces.{put}
use Rattle.pieces.specs.ModelShapes.{Sound, Model}
use Rattle.pieces.proofs.SegmentRuns.{run_dead, minus-in, minus-out, minus-dead, run_agree}

pub cases_edge : (e : Edge) → (e ≡ Dead) ⊎ (((t : ℕ) × (e ≡ Cell t)) ⊎ ((t : ℕ) × (e ≡ Segment t)))
cases_edge Dead = inl refl
cases_edge (Cell t) = inr (inl (t, refl))
cases_edge (Segment t) = inr (inr (t, refl))

pub run_first : {h : Heap} {e f : ℕ} {xs : List ℕ} → Run h e f xs → e ≢ f → mem e xs ≡ true
run_first stop n = absurd (n refl)
run_first (step {e = e} {xs = xs} p q r t) n = grind (arith, nat_tests)

module _ (m : ℕ) (edge : ℕ → Edge) (val : ℕ → ℕ) (h : Heap) (M : Model m edge val h) where
  pub val_apart : (i j : ℕ) → i < m → j < m → i ≢ j → val i ≢ val j
  val_apart i j p q n e = n (M.inj i j p q e)

  -- a node with an edge is on its own run
  pub starts : (i : ℕ) → i < m → edge i ≢ Dead → mem (val i) (M.run i) ≡ true
  starts i p n = elim (cases_edge (edge i)) [
    | inl e ↦ absurd (n e)
    | inr (inl (t, e)) ↦ let c = M.cell i t p e in rw c.1 (grind (arith, nat_tests))
    | inr (inr (t, e)) ↦ let s = M.seg i t p e in run_first s.1 s.0
  ]

  -- what is on a run is live
  pub run_live : (i a : ℕ) → i < m → mem a (M.run i) ≡ true → h a ≢ None
  run_live i a p on d = elim (cases_edge (edge i)) [
    | inl e ↦ let c = M.dead i p e in grind (arith, nat_tests)
    | inr (inl (t, e)) ↦ let c = M.cell i t p e in grind (arith, nat_tests)
    | inr (inr (t, e)) ↦ let x = run_dead (M.seg i t p e).1 a d in absurd (grind (arith, nat_tests))
  ]

  -- no node but i is on the run of i
  pub apart : (k i : ℕ) → k < m → i < m → k ≢ i → mem (val k) (M.run i) ≡ false
  apart k i p q n = elim (cases_Bool (mem (val k) (M.run i))) [
    | inr f ↦ f
    | inl on ↦ elim (cases_edge (edge k)) [
      | inl e ↦ absurd (run_live i (val k) q on (M.dead k p e).0)
      | inr e ↦ absurd (n (sym (M.mine k (val k) p (starts k p (λ d. grind (arith, nat_tests)))) ∙ M.mine i (val k) q on))
    ]
  ]

  pub off : (k i a : ℕ) → k < m → i < m → k ≢ i → mem a (M.run k) ≡ true → mem a (M.run i) ≡ false
  off k i a p q n on = elim (cases_Bool (mem a (M.run i))) [
    | inr f ↦ f
    | inl on' ↦ absurd (n (sym (M.mine k a p on) ∙ M.mine i a q on'))
  ]

  gone : (i : ℕ) → i < m → minus h (M.run i) (val i) ≡ None
  gone i p = elim (cases_edge (edge i)) [
    | inl e ↦ minus-dead (M.run i) h (val i) (M.dead i p e).0
    | inr e ↦ minus-in (M.run i) h (val i) (starts i p (λ d. grind (arith, nat_tests)))
  ]

  -- the part of a node taken away
  pub take : (i : ℕ) → i < m → (edge' : ℕ → Edge) → edge' i ≡ Dead → ((k : ℕ) → k ≢ i → edge' k ≡ edge k) → Model m edge' val (minus h (M.run i))
  take i q edge' here there = record {
    own = M.own;
    run = put M.run i [];
    nil = M.nil;
    inj = M.inj;
    dead = λ k p e. elim (cases_eq k i) [
      | inl s ↦ (ap (λ x. minus h (M.run i) (val x)) s ∙ gone i q, grind (arith, nat_tests))
      | inr n ↦ let s = there k n in let d = M.dead k p (cc) in (minus-dead (M.run i) h (val k) d.0, grind (arith, nat_tests))
    ];
    cell = λ k t p e. elim (cases_eq k i) [
      | inl s ↦ absurd (grind (arith, nat_tests))
      | inr n ↦ let s = there k n in let d = M.cell k t p (cc) in (minus-out (M.run i) h (val k) (apart k i p q n) ∙ d.0, grind (arith, nat_tests))
    ];
    seg = λ k t p e. elim (cases_eq k i) [
      | inl s ↦ absurd (grind (arith, nat_tests))
      | inr n ↦ let s = there k n in let d = M.seg k t p (cc) in
          let r : put M.run i [] k ≡ M.run k = grind (arith, nat_tests) in
          (d.0, rw r (run_agree (minus h (M.run i)) d.1 (λ a on. minus-out (M.run i) h a (off k i a p q n on))))
    ];
    mine = λ k a p on. elim (cases_eq k i) [
      | inl s ↦ grind (arith, nat_tests)
      | inr n ↦ M.mine k a p (grind (arith, nat_tests))
    ];
    all = λ a. elim (M.all a) [
      | inl d ↦ inl (minus-dead (M.run i) h a d)
      | inr (p, on) ↦ elim (cases_eq (M.own a) i) [
        | inl s ↦ inl (minus-in (M.run i) h a (cc))
        | inr n ↦ inr (p, grind (arith, nat_tests))
      ]
    ];
  }

  pub take_as : (i : ℕ) → i < m → (xs : List ℕ) → M.run i ≡ xs → (edge' : ℕ → Edge) → edge' i ≡ Dead → ((k : ℕ) → k ≢ i → edge' k ≡ edge k) → Model m edge' val (minus h xs)
  take_as i p xs r edge' here there = subst (λ l. Model m edge' val (minus h l)) r (take i p edge' here there)

  -- a part given to a dead node
  pub give : (i : ℕ) → i < m → edge i ≡ Dead → (xs : List ℕ) (g : Heap) (edge' : ℕ → Edge)
      → ((a : ℕ) → mem a xs ≡ true → h a ≡ None) → ((a : ℕ) → mem a xs ≡ false → g a ≡ h a)
      → ((k : ℕ) → k < m → k ≢ i → mem (val k) xs ≡ false)
      → ((k : ℕ) → k ≢ i → edge' k ≡ edge k)
      → edge' i ≢ Dead
      → ((t : ℕ) → edge' i ≡ Cell t → (g (val i) ≡ Some (val t)) × (xs ≡ val i ∷ []))
      → ((t : ℕ) → edge' i ≡ Segment t → (val i ≢ val t) × Run g (val i) (val t) xs)
      → Model m edge' val g
  give i q was xs g edge' fresh same others there is-d is_c is-s = record {
    own = λ a. cond (mem a xs) i (M.own a);
    run = put M.run i xs;
    nil = M.nil;
    inj = M.inj;
    dead = λ k p e. elim (cases_eq k i) [
      | inl s ↦ absurd (is-d (cc))
      | inr n ↦ let s = there k n in let d = M.dead k p (cc) in (same (val k) (others k p n) ∙ d.0, grind (arith, nat_tests))
    ];
    cell = λ k t p e. elim (cases_eq k i) [
      | inl s ↦ let d = is_c t (cc) in (cc, grind (arith, nat_tests))
      | inr n ↦ let s = there k n in let d = M.cell k t p (cc) in (same (val k) (others k p n) ∙ d.0, grind (arith, nat_tests))
    ];
    seg = λ k t p e. elim (cases_eq k i) [
      | inl s ↦ let d = is-s t (cc) in
          let r : put M.run i xs k ≡ xs = grind (arith, nat_tests) in
          (subst (λ x. val x ≢ val t) (sym s) d.0, rw (r, s) d.1)
      | inr n ↦ let s = there k n in let d = M.seg k t p (cc) in
          let r : put M.run i xs k ≡ M.run k = grind (arith, nat_tests) in
          (d.0, rw r (run_agree g d.1 (λ a on. same a (newly k a p on))))
    ];
    mine = λ k a p on. elim (cases_eq k i) [
      | inl s ↦ grind (arith, nat_tests)
      | inr n ↦ let on' : mem a (M.run k) ≡ true = grind (arith, nat_tests) in let x = M.mine k a p on' in let y = newly k a p on' in grind (arith, nat_tests)
    ];
    all = λ a. elim (cases_Bool (mem a xs)) [
      | inl in-xs ↦ inr (grind (arith, nat_tests), grind (arith, nat_tests))
      | inr out ↦ let s = same a out in elim (M.all a) [
        | inl d ↦ inl (s ∙ d)
        | inr (p, on) ↦ elim (cases_eq (M.own a) i) [
          | inl j ↦ let d = M.dead i q was in absurd (grind (arith, nat_tests))
          | inr n ↦ inr (grind (arith, nat_tests), grind (arith, nat_tests))
        ]
      ]
    ];
  }
    where
      newly : (k a : ℕ) → k < m → mem a (M.run k) ≡ true → mem a xs ≡ false
      newly k a p on = elim (cases_Bool (mem a xs)) [
        | inr f ↦ f
        | inl in-xs ↦ absurd (run_live k a p on (fresh a in-xs))
      ]

  -- one more node, dead
  pub widen : (name : ℕ → ℕ) → Sound m edge name → (z : ℕ) (val' : ℕ → ℕ) (edge' : ℕ → Edge) → h z ≡ None → ((k : ℕ) → k < m → val k ≢ z)
      → val' m ≡ z → ((k : ℕ) → k < m → val' k ≡ val k) → edge' m ≡ Dead → ((k : ℕ) → k < m → edge' k ≡ edge k)
      → Model (suc m) edge' val' h
  widen name w z val' edge' not_live newly here there here-e there-e = record {
    own = M.own;
    run = put M.run m [];
    nil = there 0 w.some_node ∙ M.nil;
    inj = λ i j p q e. elim (below i p) [
      | inl a ↦ elim (below j q) [
        | inl b ↦ let x = there i a in let y = there j b in M.inj i j a b (cc)
        | inr b ↦ let x = there i a in absurd (newly i a (cc))
      ]
      | inr a ↦ elim (below j q) [
        | inl b ↦ let y = there j b in absurd (newly j b (cc))
        | inr b ↦ cc
      ]
    ];
    dead = λ k p e. elim (below k p) [
      | inl a ↦ let x = there k a in let d = M.dead k a (sym (there-e k a) ∙ e) in (cc, grind (arith, nat_tests))
      | inr a ↦ (cc, grind (arith, nat_tests))
    ];
    cell = λ k t p e. elim (below k p) [
      | inl a ↦ let e' : edge k ≡ Cell t = sym (there-e k a) ∙ e in let d = M.cell k t a e' in
          let x = there k a in let y = there t (w.cells_in k t a e') in (cc, grind (arith, nat_tests))
      | inr a ↦ absurd (grind (arith, nat_tests))
    ];
    seg = λ k t p e. elim (below k p) [
      | inl a ↦ let e' : edge k ≡ Segment t = sym (there-e k a) ∙ e in
          let r : put M.run m [] k ≡ M.run k = grind (arith, nat_tests) in
          rw (r, there k a, there t (w.segs_in k t a e').0) (M.seg k t a e')
      | inr a ↦ absurd (grind (arith, nat_tests))
    ];
    mine = λ k a p on. elim (below k p) [
      | inl b ↦ M.mine k a b (grind (arith, nat_tests))
      | inr b ↦ absurd (grind (arith, nat_tests))
    ];
    all = λ a. elim (M.all a) [
      | inl d ↦ inl d
      | inr (p, on) ↦ inr (omega arith, grind (arith, nat_tests))
    ];
  }
    where
      below : (k : ℕ) → k < suc m → (k < m) ⊎ (k ≡ m)
      below k p = grind arith

-- a dead last node forgotten
pub narrow : (m : ℕ) (edge edge' : ℕ → Edge) (val : ℕ → ℕ) (h : Heap) → Model (suc m) edge val h → edge m ≡ Dead
    → ((k : ℕ) → k < m → edge' k ≡ edge k) → Model m edge' val h
narrow m edge edge' val h M d same = record {
  own = M.own;
  run = M.run;
  nil = M.nil;
  inj = λ i j p q. M.inj i j (omega arith) (omega arith);
  dead = λ i p e. M.dead i (omega arith) (sym (same i p) ∙ e);
  cell = λ i t p e. M.cell i t (omega arith) (sym (same i p) ∙ e);
  seg = λ i t p e. M.seg i t (omega arith) (sym (same i p) ∙ e);
  mine = λ i a p. M.mine i a (omega arith);
  all = λ a. elim (M.all a) [
    | inl n ↦ inl n
    | inr (p, on) ↦ elim (cases_eq (M.own a) m) [
      | inl e ↦ let x = M.dead m (omega arith) d in absurd (grind (arith, nat_tests))
      | inr n ↦ inr (omega arith, on)
    ]
  ];
}
