use Rattle.std.proofs.Common.{◌≡◌, ℕ, ◌+◌, ◌-◌, ◌<◌, cond, ltb, ◌≢◌, List, [], ◌∷◌, Some, None, Option, refl, ap, ◌∙◌, inl, inr, arith}
use Rattle.std.proofs.lemmas.Bool.Decides.{nat_tests}
use Rattle.std.proofs.lemmas.Bool.{cases_lt}
use Rattle.heap.specs.Heaps.{Heap}
use Rattle.pieces.specs.declared.shapes.Edge.{Edge}
use Rattle.pieces.specs.declared.shapes.Edge.TheVariants.{Dead, Cell, Segment}
use Rattle.pieces.specs.ModelShapes.{Sound, Model, Two}
use Rattle.pieces.proofs.SegmentRuns.{two_cells}
use Rattle.pieces.proofs.ShapeModels.{cases_edge}

-- (6) the canonical model: the node i is at i, and the second cell of its segment at m + i
abbrev pub low : ℕ → ℕ → Edge → Option ℕ
low m a Dead = None
low m a (Cell t) = Some t
low m a (Segment t) = Some (m + a)

abbrev pub high : Edge → Option ℕ
high Dead = None
high (Cell t) = None
high (Segment t) = Some t

abbrev pub canon : ℕ → (ℕ → Edge) → Heap
canon m edge a = cond (ltb a m) (low m a (edge a)) (cond (ltb a (m + m)) (high (edge (a - m))) None)

abbrev runs : ℕ → ℕ → Edge → List ℕ
runs m i Dead = []
runs m i (Cell t) = i ∷ []
runs m i (Segment t) = i ∷ (m + i) ∷ []

abbrev pub same : ℕ → ℕ
same i = i

module _ (m : ℕ) (edge : ℕ → Edge) (name : ℕ → ℕ) (w : Sound m edge name) where
  at_low : (i : ℕ) → i < m → canon m edge i ≡ low m i (edge i)
  at_low i q = grind (arith, nat_tests)

  at_high : (i : ℕ) → i < m → canon m edge (m + i) ≡ high (edge i)
  at_high i q = let e : m + i - m ≡ i = omega arith in grind (arith, nat_tests)

  pub canon_model : Model m edge same (canon m edge)
  canon_model = record {
    own = λ a. cond (ltb a m) a (a - m);
    run = λ i. runs m i (edge i);
    nil = refl;
    inj = λ i j p q e. e;
    dead = λ i q e. let a = at_low i q in (grind (arith, nat_tests), grind (arith, nat_tests));
    cell = λ i t q e. let a = at_low i q in (grind (arith, nat_tests), grind (arith, nat_tests));
    seg = λ i t q e.
        let a = at_low i q in let b = at_high i q in let c = w.segs_in i t q e in let d = w.nil_dead in
        let nz : i ≢ 0 = (λ z. grind (arith, nat_tests)) in
        let r : runs m i (edge i) ≡ i ∷ (m + i) ∷ [] = ap (runs m i) e in
        (c.1, rw r (two_cells (canon m edge) i (m + i) t nz c.1 (omega arith) (omega arith) (omega arith) (a ∙ ap (low m i) e) (b ∙ ap high e)));
    mine = λ i a q on. elim (cases_edge (edge i)) [
      | inl e ↦ grind (arith, nat_tests)
      | inr (inl (t, e)) ↦ grind (arith, nat_tests)
      | inr (inr (t, e)) ↦ grind (arith, nat_tests)
    ];
    all = λ a. elim (cases_lt a m) [
      | inl q ↦ let d = at_low a q in let o : cond (ltb a m) a (a - m) ≡ a = grind (arith, nat_tests) in elim (cases_edge (edge a)) [
        | inl e ↦ inl (d ∙ ap (low m a) e)
        | inr (inl (t, e)) ↦ inr (grind (arith, nat_tests), rw (o, e) (grind (arith, nat_tests)))
        | inr (inr (t, e)) ↦ inr (grind (arith, nat_tests), rw (o, e) (grind (arith, nat_tests)))
      ]
      | inr q ↦ elim (cases_lt a (m + m)) [
        | inr r ↦ inl (grind (arith, nat_tests))
        | inl r ↦ let o : cond (ltb a m) a (a - m) ≡ a - m = grind (arith, nat_tests) in let b : m + (a - m) ≡ a = omega arith in let d = at_high (a - m) (omega arith) in
            elim (cases_edge (edge (a - m))) [
              | inl e ↦ inl (grind (arith, nat_tests))
              | inr (inl (t, e)) ↦ inl (grind (arith, nat_tests))
              | inr (inr (t, e)) ↦ inr (grind (arith, nat_tests), rw (o, e) (grind (arith, nat_tests)))
            ]
      ]
    ];
  }

  pub canon_two : Two m edge same (canon m edge)
  canon_two i t q e = let a = at_low i q in let b = at_high i q in (m + i, grind (arith, nat_tests), grind (arith, nat_tests), λ k r s. omega arith)
